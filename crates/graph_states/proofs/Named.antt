-- What has a name is found by it.
use Rattle.std.proofs.Common.{◌≡◌, ℕ, ◌/◌, ◌%◌, ◌<◌, Bool, true, false, cond, eqb, ◌||◌, List, [], ◌∷◌, map, Option, Some, None, refl, sym, ap, ap₂, ◌∙◌}
use Rattle.std.proofs.lemmas.Bool.{eqb-true, eq-eqb, false≢true}
use Rattle.std.specs.List.{AllByRecursion}
use Rattle.flume_value.proofs.EachLemmas.{Each-weaker}
use Rattle.exec_graph.specs.Forests.{Forest, Bare, Grow, next_after, after_out, new_out, numbered}
use Rattle.exec_graph.specs.Meaning.{AllDiffer, IsThere, gives_at, has_out, is_out, node_at, place, reads}
use Rattle.exec_graph.specs.Wellformed.{IsGraphOk, IsNodeOk}
use Rattle.exec_graph.specs.declared.graph.Entry.{Entry}
use Rattle.exec_graph.specs.declared.graph.Graph.{Graph}
use Rattle.exec_graph.specs.declared.graph.Node.{Node}
use Rattle.exec_graph.specs.declared.graph.Node.TheVariants.{Source, Flatten, Pdo, Gbk, Barrier}
use Rattle.exec_graph.specs.declared.graph.Place.{Place}
use Rattle.exec_graph.proofs.Bools.{not_true}
use Rattle.exec_graph.proofs.Entries.{all_found, entry}
use Rattle.exec_graph.proofs.Soundness.{IsSound-ok}
use Rattle.graph_laws.specs.Joining.{reread}
use Rattle.graph_laws.specs.Kids.{named_by, number_after}
use Rattle.graph_laws.proofs.Renaming.{had_out}
use Rattle.graph_laws.proofs.Roots.{after_new, after_numbered}
use Rattle.fuse_chain.specs.of_pardo_fuse.Fusing.{finished_entry, holds_out, out_number}
use Rattle.fuse_chain.specs.of_pardo_fuse.Parting.{part_number}
use Rattle.fuse_chain.specs.of_pardo_fuse.Readers.{is_pdo}
use Rattle.fuse_chain.specs.of_pardo_fuse.SingleFusing.{new_place}
use Rattle.fuse_chain.proofs.of_pardo_fuse.Parting.{number_div, number_mod, small_mod}
use Rattle.fuse_chain.proofs.Names.{IsBack, has_is_named, number_named, numbered_named}
use Rattle.graph_names.specs.Names.{named, named_entry, named_place, unnamed, with_names}

-- ---- numbers of a forest that has them in order

new_is : (s j : ℕ) (o : Option ℕ) → is_out (new_out s o) j ≡ true → s ≡ j
new_is s j None h = absurd (false≢true h)
new_is s j (Some i) h = eqb-true s j h

number_kept : (s : ℕ) (f : Forest) (j : ℕ) → has_out j (numbered s f) ≡ true
    → number_after s (numbered s f) j ≡ j
number_kept s Bare j h = absurd (false≢true h)
number_kept s (Grow l kids rest) j h =
    by (is_out (new_out s l.out) j) (has_out j (numbered (after_out s l.out) kids)) refl refl h
    (number_kept (after_out s l.out) kids j)
    (number_kept (next_after (after_out s l.out) kids) rest j)
  where
    by : (a b : Bool) → is_out (new_out s l.out) j ≡ a
        → has_out j (numbered (after_out s l.out) kids) ≡ b
        → (a || (b || has_out j (numbered (next_after (after_out s l.out) kids) rest))) ≡ true
        → (has_out j (numbered (after_out s l.out) kids) ≡ true
        → number_after (after_out s l.out) (numbered (after_out s l.out) kids) j ≡ j)
        → (has_out j (numbered (next_after (after_out s l.out) kids) rest) ≡ true
        → number_after (next_after (after_out s l.out) kids)
        (numbered (next_after (after_out s l.out) kids) rest) j ≡ j)
        → cond a s (cond b
        (number_after (after_out s (new_out s l.out)) (numbered (after_out s l.out) kids) j)
        (number_after (next_after (after_out s (new_out s l.out))
        (numbered (after_out s l.out) kids))
        (numbered (next_after (after_out s l.out) kids) rest) j)) ≡ j
    by true b i k h f g = new_is s j l.out i
    by false true i k h f g =
        ap (λ (n : ℕ). number_after n (numbered (after_out s l.out) kids) j) (after_new s s l.out)
        ∙ f k
    by false false i k h f g =
        ap (λ (n : ℕ). number_after (next_after n (numbered (after_out s l.out) kids))
        (numbered (next_after (after_out s l.out) kids) rest) j) (after_new s s l.out)
        ∙ ap (λ (n : ℕ). number_after n (numbered (next_after (after_out s l.out) kids) rest) j)
        (after_numbered (after_out s l.out) (after_out s l.out) kids)
        ∙ g h

number_same : (f : Forest) (j : ℕ) → numbered 0 f ≡ f → has_out j f ≡ true
    → number_after 0 f j ≡ j
number_same f j order has =
    ap (λ (x : Forest). number_after 0 x j) (sym order)
    ∙ number_kept 0 f j (ap (λ (x : Forest). has_out j x) order ∙ has)

-- ---- nodes under names

-- another node of that number is none
not_pdo : (es : List Entry) (n : ℕ) → AllDiffer es → is_pdo (node_at es n) ≡ false
    → AllByRecursion (λ e. e.number ≡ n → is_pdo (Some e.node) ≡ false) es
not_pdo [] n d h = tt
not_pdo (e ∷ es) n d h = by (eqb e.number n) refl h (not_pdo es n d.1)
  where
    by : (b : Bool) → eqb e.number n ≡ b → is_pdo (cond b (Some e.node) (node_at es n)) ≡ false
        → (is_pdo (node_at es n) ≡ false
        → AllByRecursion (λ x. x.number ≡ n → is_pdo (Some x.node) ≡ false) es)
        → (e.number ≡ n → is_pdo (Some e.node) ≡ false)
        × AllByRecursion (λ x. x.number ≡ n → is_pdo (Some x.node) ≡ false) es
    by true i k f = (
      (λ s. k),
      Each-weaker (λ (x : Entry). x.number ≡ e.number → ⊥)
          (λ (x : Entry). x.number ≡ n → is_pdo (Some x.node) ≡ false)
          (λ x a s. absurd (a (s ∙ sym (eqb-true e.number n i)))) es d.0,
    )
    by false i k f = ((λ s. absurd (false≢true (sym i ∙ eq-eqb e.number n s))), f k)

module _ (es : List Entry) (m : ℕ) where
  abbrev under : Entry → Entry
  under = named_entry es m

  -- a name is of the Pdo of its remainder
  pub holds_mod : (name k : ℕ) (x : Node) → k < m
      → holds_out name (reread (named_place es m) (with_names m k x)) ≡ true
      → (k ≡ name % m) × (is_pdo (Some x) ≡ true)
  holds_mod name k (Source s) lo h = absurd (false≢true h)
  holds_mod name k (Flatten ins) lo h = absurd (false≢true h)
  holds_mod name k (Pdo c f) lo h =
      let w = had_out (part_number m k) f name h in
      (sym (number_mod m k w.old lo) ∙ ap (λ (x : ℕ). x % m) w.is, refl)
  holds_mod name k (Gbk c o l x) lo h = absurd (false≢true h)
  holds_mod name k (Barrier ins o l a) lo h = absurd (false≢true h)

  found_pdo : (xs : List Entry) (n j : ℕ) (d : Place) (f : Forest) → n < m
      → AllByRecursion (λ e. e.number < m) xs → node_at xs n ≡ Some (Pdo d f)
      → has_out j f ≡ true → numbered 0 f ≡ f
      → new_place (map under xs) (place (part_number m n j) 0) ≡ place n j
  found_pdo [] n j d f lo all at has order = let bad : ⊥ = cc in absurd bad
  found_pdo (e ∷ xs) n j d f lo all at has order =
      by (eqb e.number n) refl at (λ i. found_pdo xs n j d f lo all.1 i has order)
    where
      name : ℕ
      name = part_number m n j

      back : ℕ → ℕ
      back i = i / m

      by : (b : Bool) → eqb e.number n ≡ b
          → cond b (Some e.node) (node_at xs n) ≡ Some (Pdo d f)
          → (node_at xs n ≡ Some (Pdo d f)
          → new_place (map under xs) (place name 0) ≡ place n j)
          → cond (holds_out name (under e).node)
          (place e.number (out_number name (under e).node))
          (new_place (map under xs) (place name 0)) ≡ place n j
      by true i h g =
          let same : e.node ≡ Pdo d f = cc in
          let r : ℕ → ℕ = part_number m n in
          let told : IsBack back r f = λ x a. number_div m n x lo in
          ap₂ (λ (k : ℕ) (x : Node).
          cond (holds_out name (reread (named_place es m) (with_names m k x)))
          (place k (out_number name (reread (named_place es m) (with_names m k x))))
          (new_place (map under xs) (place name 0))) (eqb-true e.number n i) same
          ∙ ap (λ (b : Bool). cond b (place n (number_after 0 (named_by r f) name))
          (new_place (map under xs) (place name 0)))
          (has_is_named back r f j told (number_div m n j lo) ∙ has)
          ∙ ap (λ (k : ℕ). place n k)
          (number_named back r 0 f j told (number_div m n j lo) ∙ number_same f j order has)
      by false i h g =
          ap (λ (b : Bool). cond b (place e.number (out_number name (under e).node))
          (new_place (map under xs) (place name 0)))
          (not_true (holds_out name (under e).node) (λ y. false≢true (sym i ∙ eq-eqb e.number n
          ((holds_mod name e.number e.node all.0 y).0 ∙ number_mod m n j lo))))
          ∙ g h

  -- what is no output of a Pdo stays
  stays : (xs : List Entry) (c : Place) → c.node < m → AllByRecursion (λ e. e.number < m) xs
      → AllByRecursion (λ e. e.number ≡ c.node → is_pdo (Some e.node) ≡ false) xs
      → new_place (map under xs) c ≡ c
  stays [] c lo all other = refl
  stays (e ∷ xs) c lo all other =
      ap (λ (b : Bool). cond b (place e.number (out_number c.node (under e).node))
      (new_place (map under xs) c))
      (not_true (holds_out c.node (under e).node) (λ y.
      let h = holds_mod c.node e.number e.node all.0 y in
      false≢true (sym (other.0 (h.0 ∙ small_mod m c.node lo)) ∙ h.1)))
      ∙ stays xs c lo all.1 other.1

-- ---- graphs

module _ (g : Graph) (ok : IsGraphOk g) where
  abbrev hs : List Entry
  hs = map (named_entry g.nodes g.next) g.nodes

  found_again : (c : Place) → IsThere g.nodes c → new_place hs (named_place g.nodes g.next c) ≡ c
  found_again c there = by (node_at g.nodes c.node) refl there
    where
      below : (x : Node) → node_at g.nodes c.node ≡ Some x → c.node < g.next
      below x at =
          all_found (λ (e : Entry). e.number < g.next) g.nodes c.node x at ok.founded.below

      other : (x : Node) → node_at g.nodes c.node ≡ Some x → is_pdo (Some x) ≡ false
          → new_place hs c ≡ c
      other x at h =
          stays g.nodes g.next g.nodes c (below x at) ok.founded.below
          (not_pdo g.nodes c.node (IsSound-ok g ok).differ (ap is_pdo at ∙ h))

      by : (o : Option Node) → node_at g.nodes c.node ≡ o → gives_at o c.out ≡ true
          → new_place hs (cond (is_pdo o) (place (part_number g.next c.node c.out) 0) c) ≡ c
      by None at h = absurd (false≢true h)
      by (Some (Source s)) at h = other (Source s) at refl
      by (Some (Flatten ins)) at h = other (Flatten ins) at refl
      by (Some (Pdo d f)) at h =
          found_pdo g.nodes g.next g.nodes c.node c.out d f (below (Pdo d f) at)
          ok.founded.below at h
          (all_found (λ (e : Entry). IsNodeOk g e.number e.node) g.nodes c.node (Pdo d f) at
          ok.nodes).order
      by (Some (Gbk d o l k)) at h = other (Gbk d o l k) at refl
      by (Some (Barrier ins o l a)) at h = other (Barrier ins o l a) at refl

  places_again : (cs : List Place) → AllByRecursion (IsThere g.nodes) cs
      → map (new_place hs) (map (named_place g.nodes g.next) cs) ≡ cs
  places_again [] a = refl
  places_again (c ∷ cs) a =
      ap₂ (λ (d : Place) (ds : List Place). d ∷ ds) (found_again c a.0) (places_again cs a.1)

  node_again : (n : ℕ) (x : Node) → AllByRecursion (IsThere g.nodes) (reads x) → IsNodeOk g n x
      → (finished_entry (new_place hs) (named_entry g.nodes g.next (entry n x))).node ≡ x
  node_again n (Source s) a o = refl
  node_again n (Flatten ins) a o = ap (λ (ds : List Place). Flatten ds) (places_again ins a)
  node_again n (Pdo c f) a o =
      ap₂ (λ (d : Place) (h : Forest). Pdo d h) (found_again c a.0)
      (numbered_named 0 (part_number g.next n) f ∙ o.order)
  node_again n (Gbk c i l k) a o = ap (λ (d : Place). Gbk d i l k) (found_again c a.0)
  node_again n (Barrier ins i l k) a o =
      ap (λ (ds : List Place). Barrier ds i l k) (places_again ins a)

  nodes_again : (es : List Entry)
      → AllByRecursion (λ e. AllByRecursion (IsThere g.nodes) (reads e.node)) es
      → AllByRecursion (λ e. IsNodeOk g e.number e.node) es
      → map (finished_entry (new_place hs)) (map (named_entry g.nodes g.next) es) ≡ es
  nodes_again [] a o = refl
  nodes_again (e ∷ es) a o =
      ap₂ (λ (x : Node) (l : List Entry). entry e.number x ∷ l)
      (node_again e.number e.node a.0 o.0) (nodes_again es a.1 o.1)

pub graph_again : (g : Graph) → IsGraphOk g → unnamed (named g) ≡ g
graph_again g ok =
    ap₂ (λ (es : List Entry) (cs : List Place). let x : Graph = record {
      nodes = es;
      outputs = cs;
      next = g.next;
    } in x) (nodes_again g ok g.nodes ok.founded.there ok.nodes)
    (places_again g ok g.outputs ok.founded.told)
