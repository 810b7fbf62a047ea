-- A well-formed graph under names stands.
use Rattle.std.proofs.Common.{◌≡◌, ℕ, ◌/◌, ◌%◌, ◌<◌, Bool, true, false, cond, eqb, ◌||◌, ◌&&◌, List, [], ◌∷◌, map, Option, Some, None, inl, inr, refl, sym, ap, ap₂, ◌∙◌}
use Rattle.std.proofs.lemmas.Bool.{eqb-true, eq-eqb, false≢true}
use Rattle.std.specs.List.{AllByRecursion}
use Rattle.flume_value.proofs.EachLemmas.{Each-both}
use Rattle.exec_graph.specs.Meaning.{AllDiffer, HasOuts, IsThere, gives_at, has_out, node_at, place, reads}
use Rattle.exec_graph.specs.Readers.{among, any_node, is_read, same_place, uses}
use Rattle.exec_graph.specs.Wellformed.{IsGraphOk, IsNodeOk}
use Rattle.exec_graph.specs.Forests.{Forest}
use Rattle.exec_graph.specs.declared.graph.Entry.{Entry}
use Rattle.exec_graph.specs.declared.graph.Graph.{Graph}
use Rattle.exec_graph.specs.declared.graph.Node.{Node}
use Rattle.exec_graph.specs.declared.graph.Node.TheVariants.{Source, Flatten, Pdo, Gbk, Barrier}
use Rattle.exec_graph.specs.declared.graph.Place.{Place}
use Rattle.exec_graph.proofs.Bools.{or_cases, or_left, or_right}
use Rattle.exec_graph.proofs.Entries.{all_map}
use Rattle.exec_graph.proofs.Solving.{each_found}
use Rattle.exec_graph.proofs.Soundness.{IsSound-ok}
use Rattle.graph_laws.specs.Joining.{reread}
use Rattle.graph_laws.proofs.Renaming.{differ_named, had_out, has_named}
use Rattle.fuse_chain.specs.of_pardo_fuse.Fusing.{holds_out}
use Rattle.fuse_chain.specs.of_pardo_fuse.Parting.{part_number}
use Rattle.fuse_chain.specs.of_pardo_fuse.Readers.{is_pdo}
use Rattle.fuse_chain.proofs.of_pardo_fuse.Parting.{number_div}
use Rattle.graph_names.specs.Names.{named, named_entry, named_place, with_names}
use Rattle.graph_states.specs.States.{IsFine, Stands}
use Rattle.graph_states.proofs.Named.{holds_mod}

pub same_self : (d : Place) → same_place d d ≡ true
same_self d =
    ap₂ (λ (a b : Bool). a && b) (eq-eqb d.node d.node refl) (eq-eqb d.out d.out refl)

pub same_is : (c d : Place) → same_place c d ≡ true → c ≡ d
same_is c d h = by (eqb c.node d.node) (eqb c.out d.out) refl refl h
  where
    by : (a b : Bool) → eqb c.node d.node ≡ a → eqb c.out d.out ≡ b → (a && b) ≡ true → c ≡ d
    by true true i j k =
        ap₂ (λ (n o : ℕ). place n o) (eqb-true c.node d.node i) (eqb-true c.out d.out j)
    by true false i j k = absurd (false≢true k)
    by false b i j k = absurd (false≢true k)

-- ---- numbers, and which nodes are Pdos

module _ (es : List Entry) (m : ℕ) where
  abbrev under : Entry → Entry
  under = named_entry es m

  abbrev np : Place → Place
  np = named_place es m

  differ_under : (xs : List Entry) → AllDiffer xs → AllDiffer (map under xs)
  differ_under [] d = tt
  differ_under (e ∷ xs) d = (
    all_map under (λ x. x.number ≡ e.number → ⊥) (λ x. x.number ≡ e.number → ⊥) (λ x a. a) xs
        d.0,
    differ_under xs d.1,
  )

  pdo_node : (n : ℕ) (x : Node) → is_pdo (Some (reread np (with_names m n x))) ≡ is_pdo (Some x)
  pdo_node n (Source s) = refl
  pdo_node n (Flatten ins) = refl
  pdo_node n (Pdo c f) = refl
  pdo_node n (Gbk c o l k) = refl
  pdo_node n (Barrier ins o l a) = refl

  pdo_same : (xs : List Entry) (n : ℕ)
      → is_pdo (node_at (map under xs) n) ≡ is_pdo (node_at xs n)
  pdo_same [] n = refl
  pdo_same (e ∷ xs) n = by (eqb e.number n) (pdo_same xs n)
    where
      by : (b : Bool) → is_pdo (node_at (map under xs) n) ≡ is_pdo (node_at xs n)
          → is_pdo (cond b (Some (under e).node) (node_at (map under xs) n))
          ≡ is_pdo (cond b (Some e.node) (node_at xs n))
      by true h = pdo_node e.number e.node
      by false h = h

  outs_under : (n : ℕ) (x : Node) → n < m → HasOuts x → HasOuts (reread np (with_names m n x))
  outs_under n (Source s) lo h = tt
  outs_under n (Flatten ins) lo h = tt
  outs_under n (Pdo c f) lo h =
      differ_named (part_number m n) (λ (i : ℕ). i / m) (λ j. number_div m n j lo) f h
  outs_under n (Gbk c o l k) lo h = tt
  outs_under n (Barrier ins o l a) lo h = tt

  -- a name is held
  held : (xs : List Entry) (n j : ℕ) (d : Place) (f : Forest) → node_at xs n ≡ Some (Pdo d f)
      → has_out j f ≡ true → any_node (holds_out (part_number m n j)) (map under xs) ≡ true
  held [] n j d f at has = let bad : ⊥ = cc in absurd bad
  held (e ∷ xs) n j d f at has = by (eqb e.number n) refl at (λ i. held xs n j d f i has)
    where
      by : (b : Bool) → eqb e.number n ≡ b
          → cond b (Some e.node) (node_at xs n) ≡ Some (Pdo d f)
          → (node_at xs n ≡ Some (Pdo d f)
          → any_node (holds_out (part_number m n j)) (map under xs) ≡ true)
          → (holds_out (part_number m n j) (under e).node
          || any_node (holds_out (part_number m n j)) (map under xs)) ≡ true
      by true i h g =
          let same : e.node ≡ Pdo d f = cc in
          or_left (holds_out (part_number m n j) (under e).node)
          (any_node (holds_out (part_number m n j)) (map under xs))
          (ap₂ (λ (k : ℕ) (x : Node). holds_out (part_number m n j)
          (reread np (with_names m k x))) (eqb-true e.number n i) same
          ∙ has_named (part_number m n) f j has)
      by false i h g =
          or_right (holds_out (part_number m n j) (under e).node)
          (any_node (holds_out (part_number m n j)) (map under xs)) (g h)

  -- ---- what reads a collection reads its name

  among_under : (c : Place) (cs : List Place) → among c cs ≡ true
      → among (np c) (map np cs) ≡ true
  among_under c [] h = h
  among_under c (d ∷ ds) h = elim (or_cases (same_place c d) (among c ds) h) [
    | inl a ↦ or_left (same_place (np c) (np d)) (among (np c) (map np ds))
        (ap (λ (x : Place). same_place (np c) (np x)) (sym (same_is c d a)) ∙ same_self (np c))
    | inr b ↦ or_right (same_place (np c) (np d)) (among (np c) (map np ds))
        (among_under c ds b)
  ]

  one_under : (c d : Place) → same_place c d ≡ true → same_place (np c) (np d) ≡ true
  one_under c d a =
      ap (λ (x : Place). same_place (np c) (np x)) (sym (same_is c d a)) ∙ same_self (np c)

  uses_under : (c : Place) (n : ℕ) (x : Node) → uses c x ≡ true
      → uses (np c) (reread np (with_names m n x)) ≡ true
  uses_under c n (Source s) h = h
  uses_under c n (Flatten ins) h = among_under c ins h
  uses_under c n (Pdo d f) h = elim (or_cases (same_place c d) false h) [
    | inl a ↦ or_left (same_place (np c) (np d)) false (one_under c d a)
    | inr b ↦ absurd (false≢true b)
  ]
  uses_under c n (Gbk d o l k) h = one_under c d h
  uses_under c n (Barrier ins o l a) h = among_under c ins h

  any_under : (c : Place) (xs : List Entry) → any_node (uses c) xs ≡ true
      → any_node (uses (np c)) (map under xs) ≡ true
  any_under c [] h = h
  any_under c (e ∷ xs) h = elim (or_cases (uses c e.node) (any_node (uses c) xs) h) [
    | inl a ↦ or_left (uses (np c) (under e).node) (any_node (uses (np c)) (map under xs))
        (uses_under c e.number e.node a)
    | inr b ↦ or_right (uses (np c) (under e).node) (any_node (uses (np c)) (map under xs))
        (any_under c xs b)
  ]

-- ---- the graph

module _ (g : Graph) (ok : IsGraphOk g) where
  abbrev hs : List Entry
  hs = map (named_entry g.nodes g.next) g.nodes

  abbrev to : Place → Place
  to = named_place g.nodes g.next

  read_under : (c : Place) → is_read g c ≡ true → is_read (named g) (to c) ≡ true
  read_under c h = elim (or_cases (any_node (uses c) g.nodes) (among c g.outputs) h) [
    | inl a ↦ or_left (any_node (uses (to c)) hs) (among (to c) (map to g.outputs))
        (any_under g.nodes g.next c g.nodes a)
    | inr b ↦ or_right (any_node (uses (to c)) hs) (among (to c) (map to g.outputs))
        (among_under g.nodes g.next c g.outputs b)
  ]

  fine_place : (c : Place) → IsThere g.nodes c → IsFine hs (to c)
  fine_place c there = by (node_at g.nodes c.node) refl there
    where
      plain : (o : Option Node) → node_at g.nodes c.node ≡ o → is_pdo o ≡ false → c.out ≡ 0
          → IsFine hs c
      plain o at far zero = record {
        there = λ h. zero;
        other = λ h. pdo_same g.nodes g.next g.nodes c.node ∙ ap is_pdo at ∙ far;
      }

      by : (o : Option Node) → node_at g.nodes c.node ≡ o → gives_at o c.out ≡ true
          → IsFine hs (cond (is_pdo o) (place (part_number g.next c.node c.out) 0) c)
      by None at h = absurd (false≢true h)
      by (Some (Source s)) at h = plain (Some (Source s)) at refl (eqb-true c.out 0 h)
      by (Some (Flatten ins)) at h = plain (Some (Flatten ins)) at refl (eqb-true c.out 0 h)
      by (Some (Pdo d f)) at h = record {
        there = λ i. refl;
        other = λ i. absurd (false≢true (sym i
            ∙ held g.nodes g.next g.nodes c.node c.out d f at h));
      }
      by (Some (Gbk d o l k)) at h = plain (Some (Gbk d o l k)) at refl (eqb-true c.out 0 h)
      by (Some (Barrier ins o l a)) at h =
          plain (Some (Barrier ins o l a)) at refl (eqb-true c.out 0 h)

  reads_fine : (n : ℕ) (x : Node) → AllByRecursion (IsThere g.nodes) (reads x)
      → AllByRecursion (IsFine hs) (reads (reread to (with_names g.next n x)))
  reads_fine n (Source s) a = tt
  reads_fine n (Flatten ins) a = all_map to (IsThere g.nodes) (IsFine hs) fine_place ins a
  reads_fine n (Pdo c f) a = (fine_place c a.0, tt)
  reads_fine n (Gbk c o l k) a = (fine_place c a.0, tt)
  reads_fine n (Barrier ins o l k) a =
      all_map to (IsThere g.nodes) (IsFine hs) fine_place ins a

  -- each name is read
  name_read : (n : ℕ) (x : Node) → node_at g.nodes n ≡ Some x → IsNodeOk g n x → (i : ℕ)
      → holds_out i (reread to (with_names g.next n x)) ≡ true
      → is_read (named g) (place i 0) ≡ true
  name_read n (Source s) at o i h = absurd (false≢true h)
  name_read n (Flatten ins) at o i h = absurd (false≢true h)
  name_read n (Pdo c f) at o i h =
      let w = had_out (part_number g.next n) f i h in
      sym (ap (λ (y : Place). is_read (named g) y)
      (ap (λ (z : Option Node). cond (is_pdo z) (place (part_number g.next n w.old) 0)
      (place n w.old)) at ∙ ap (λ (k : ℕ). place k 0) w.is))
      ∙ read_under (place n w.old) (o.read w.old w.has)
  name_read n (Gbk c o l k) at p i h = absurd (false≢true h)
  name_read n (Barrier ins o l a) at p i h = absurd (false≢true h)

  pub named_stands : Stands (named g)
  named_stands = record {
    differ = differ_under g.nodes g.next g.nodes (IsSound-ok g ok).differ;
    apart = all_map (named_entry g.nodes g.next)
        (λ e. HasOuts (named_entry g.nodes g.next e).node) (λ e. HasOuts e.node) (λ e a. a)
        g.nodes (Each-both (λ (e : Entry). e.number < g.next) (λ (e : Entry). HasOuts e.node)
        (λ (e : Entry). HasOuts (named_entry g.nodes g.next e).node)
        (λ e a b. outs_under g.nodes g.next e.number e.node a b) g.nodes ok.founded.below
        (IsSound-ok g ok).outs);
    owner = λ i. i % g.next;
    owned = all_map (named_entry g.nodes g.next) (λ e. e.number < g.next)
        (λ e. (i : ℕ) → holds_out i e.node ≡ true → i % g.next ≡ e.number)
        (λ e a i h. sym (holds_mod g.nodes g.next i e.number e.node a h).0) g.nodes
        ok.founded.below;
    fine = all_map (named_entry g.nodes g.next)
        (λ e. AllByRecursion (IsThere g.nodes) (reads e.node))
        (λ e. AllByRecursion (IsFine hs) (reads e.node))
        (λ e a. reads_fine e.number e.node a) g.nodes ok.founded.there;
    told = all_map to (IsThere g.nodes) (IsFine hs) fine_place g.outputs ok.founded.told;
    read = all_map (named_entry g.nodes g.next)
        (λ e. (i : ℕ) → holds_out i (named_entry g.nodes g.next e).node ≡ true
        → is_read (named g) (place i 0) ≡ true)
        (λ e. (i : ℕ) → holds_out i e.node ≡ true → is_read (named g) (place i 0) ≡ true)
        (λ e a. a) g.nodes
        (Each-both (λ (e : Entry). node_at g.nodes e.number ≡ Some e.node)
        (λ (e : Entry). IsNodeOk g e.number e.node)
        (λ (e : Entry). (i : ℕ) → holds_out i (named_entry g.nodes g.next e).node ≡ true
        → is_read (named g) (place i 0) ≡ true)
        (λ e a b. name_read e.number e.node a b) g.nodes
        (each_found g.nodes (IsSound-ok g ok).differ) ok.nodes);
  }
