-- What is said of a graph's outputs is said of their Pdos, where each output has one of its own.
use Rattle.std.proofs.Common.{◌≡◌, ℕ, ◌/◌, ◌%◌, ◌<◌, Bool, true, false, cond, ◌||◌, Option, Some, None, refl, sym, ap, ◌∙◌, subst, arith, suc}
use Rattle.std.proofs.lemmas.Bool.{eqb-true, false≢true}
use Rattle.std.specs.List.{AllByRecursion}
use Rattle.flume_value.proofs.EachLemmas.{Each-weaker, Each-both}
use Rattle.exec_graph.specs.Forests.{Label, Forest, Bare, Grow, new_out}
use Rattle.exec_graph.specs.Meaning.{node_at, reads, is_out, has_out, gives, gives_at, place, AllDiffer, HasOuts, IsThere, IsSound, IsRankedBy}
use Rattle.exec_graph.specs.Wellformed.{is_lifted}
use Rattle.exec_graph.specs.declared.graph.Place.{Place}
use Rattle.exec_graph.specs.declared.graph.Node.{Node}
use Rattle.exec_graph.specs.declared.graph.Node.TheVariants.{Source, Flatten, Pdo, Gbk, Barrier}
use Rattle.exec_graph.specs.declared.graph.Entry.{Entry}
use Rattle.exec_graph.specs.declared.graph.Graph.{Graph}
use Rattle.exec_graph.proofs.Entries.{all_found, all_map}
use Rattle.exec_graph.proofs.Numbered.{numbered_differ}
use Rattle.exec_graph.proofs.Solving.{each_found, ranked_at, there_found}
use Rattle.graph_laws.proofs.Numbering.{label_old}
use Rattle.graph_laws.specs.Joining.{reread}
use Rattle.graph_laws.specs.Single.{HasSteps, IsOneStep}
use Rattle.pardo_fuse.specs.Readers.{is_pdo}
use Rattle.pardo_fuse.specs.SingleFusing.{HasOneStep, IsLoneOutput}
use Rattle.pardo_fuse.specs.Parting.{part_number, sole_output, parts_of_node, at_of, part_at, part_place, parted_nodes, parted_graph}
use Rattle.pardo_fuse.proofs.Parting.{EachLabel, IsRow, ats_of, differ_parts, each_parts, from_parts, label_weaker, number_div, number_mod, out_at, outs_at, parts_each, parts_from, row_of, small_mod}

-- The nodes have one step each, and numbers below the next one.
pub record CanPart (g : Graph) : Type 0 where
  pub ok : IsSound g
  pub below : AllByRecursion (λ (e : Entry). e.number < g.next) g.nodes
  pub steps : AllByRecursion (λ (e : Entry). HasSteps IsOneStep e.node) g.nodes

-- ---- an output of a step
pub record IsAt (P : Label → Type 0) (f : Forest) (j : ℕ) : Type 0 where
  pub label : Label
  pub holds : P label
  pub out : label.out ≡ Some j
  pub at : at_of j f ≡ label.at

out_is : (o : Option ℕ) (j : ℕ) → is_out o j ≡ true → o ≡ Some j
out_is None j h = absurd (false≢true h)
out_is (Some i) j h = ap (λ (x : ℕ). Some x) (eqb-true i j h)

pub at_out : (P : Label → Type 0) (i j : ℕ) (f : Forest) → IsRow i f → EachLabel P f
    → has_out j f ≡ true → IsAt P f j
at_out P i j Bare r a h = absurd (false≢true h)
at_out P i j (Grow l kids rest) r a h = by (is_out l.out j) refl
    (subst (λ (k : Forest). (is_out l.out j || (has_out j k || has_out j rest)) ≡ true) r.1 h)
    (at_out P (suc i) j rest r.2 a.1)
  where
    by : (t : Bool) → is_out l.out j ≡ t → (t || has_out j rest) ≡ true
        → (has_out j rest ≡ true → IsAt P rest j) → IsAt P (Grow l kids rest) j
    by true q h f = record {
      label = l;
      holds = a.0;
      out = out_is l.out j q;
      at = ap (λ (t : Bool). cond t l.at (at_of j rest)) q;
    }
    by false q h f = let i = f h in record {
      label = i.label;
      holds = i.holds;
      out = i.out;
      at = ap (λ (t : Bool). cond t l.at (at_of j rest)) q ∙ i.at;
    }

-- ---- back to the former collection
abbrev pub back_at : ℕ → Place → Option Node → Place
back_at k c (Some (Pdo d f)) = place (c.node % k) (label_old (out_at (c.node / k) f))
back_at k c _ = c

abbrev pub back : Graph → Place → Place
back g c = back_at g.next c (node_at g.nodes (c.node % g.next))

pub low : (g : Graph) → CanPart g → (n : ℕ) (x : Node) → node_at g.nodes n ≡ Some x → n < g.next
low g can n x at = all_found (λ (e : Entry). e.number < g.next) g.nodes n x at can.below

pub step_at_node : (g : Graph) → CanPart g → (n : ℕ) (c : Place) (f : Forest)
    → node_at g.nodes n ≡ Some (Pdo c f) → IsOneStep f
step_at_node g can n c f at =
    all_found (λ (e : Entry). HasSteps IsOneStep e.node) g.nodes n (Pdo c f) at
    can.steps

-- What an output's Pdo is back.
back_pdo : (g : Graph) → CanPart g → (n i : ℕ) (c : Place) (f : Forest)
    → node_at g.nodes n ≡ Some (Pdo c f)
    → back g (place (part_number g.next n i) 0) ≡ place n (label_old (out_at i f))
back_pdo g can n i c f at =
    let k : ℕ = g.next in
    let q : ℕ = part_number k n i in
    let l = low g can n (Pdo c f) at in
    ap (back_at k (place q 0)) (ap (node_at g.nodes) (number_mod k n i l) ∙ at)
    ∙ ap (λ (x : ℕ). place x (label_old (out_at (q / k) f))) (number_mod k n i l)
    ∙ ap (λ (x : ℕ). place n (label_old (out_at x f))) (number_div k n i l)

pub back_label : (g : Graph) → CanPart g → (n : ℕ) (c : Place) (f : Forest)
    → node_at g.nodes n ≡ Some (Pdo c f)
    → EachLabel (λ l. back g (place (part_number g.next n l.at) 0) ≡ place n (label_old l.out)) f
back_label g can n c f at = label_weaker (λ l. out_at l.at f ≡ l.out)
    (λ l. back g (place (part_number g.next n l.at) 0) ≡ place n (label_old l.out))
    (λ l e. back_pdo g can n l.at c f at ∙ ap (λ (o : Option ℕ). place n (label_old o)) e) f
    (outs_at 0 f (row_of f (step_at_node g can n c f at)))

back_other : (k : ℕ) (c : Place) (x : Node) → is_pdo (Some x) ≡ false → back_at k c (Some x) ≡ c
back_other k c (Pdo d f) h = absurd (false≢true (sym h))
back_other k c _ h = refl

pub back_same : (g : Graph) → CanPart g → (n j : ℕ) (x : Node) → node_at g.nodes n ≡ Some x
    → is_pdo (Some x) ≡ false → back g (place n j) ≡ place n j
back_same g can n j x at h =
    ap (back_at g.next (place n j)) (ap (node_at g.nodes) (small_mod g.next n (low g can n x at))
    ∙ at)
    ∙ back_other g.next (place n j) x h

part_other : (k : ℕ) (c : Place) (x : Node) → is_pdo (Some x) ≡ false → part_at k c (Some x) ≡ c
part_other k c (Pdo d f) h = absurd (false≢true (sym h))
part_other k c _ h = refl

pub part_same : (g : Graph) → (c : Place) (x : Node) → node_at g.nodes c.node ≡ Some x
    → is_pdo (Some x) ≡ false → part_place g c ≡ c
part_same g c x at h = ap (part_at g.next c) at ∙ part_other g.next c x h

-- An output stands in its Pdo.
pub part_label : (g : Graph) → CanPart g → (n : ℕ) (c : Place) (f : Forest)
    → node_at g.nodes n ≡ Some (Pdo c f)
    → EachLabel (λ l. (j : ℕ) → l.out ≡ Some j
    → part_place g (place n j) ≡ place (part_number g.next n l.at) 0) f
part_label g can n c f at = label_weaker (λ l. (j : ℕ) → l.out ≡ Some j → at_of j f ≡ l.at)
    (λ l. (j : ℕ) → l.out ≡ Some j
    → part_place g (place n j) ≡ place (part_number g.next n l.at) 0)
    (λ l e j q. ap (part_at g.next (place n j)) at
    ∙ ap (λ (x : ℕ). place (part_number g.next n x) 0) (e j q)) f
    (ats_of f (all_found (λ (e : Entry). HasOuts e.node) g.nodes n (Pdo c f) at can.ok.outs))

-- ---- the parts that are there

pub parts_found : (g : Graph) → CanPart g
    → AllByRecursion (λ (h : Entry). node_at (parted_nodes g) h.number ≡ Some h.node)
    (parted_nodes g)
parts_found g can = each_found (parted_nodes g)
    (differ_parts g.next (part_place g) g.nodes can.ok.differ can.below can.steps)

node_parts : (P : Entry → Type 0) (g : Graph) (n : ℕ) (x : Node) → node_at g.nodes n ≡ Some x
    → AllByRecursion P (parted_nodes g)
    → AllByRecursion P (parts_of_node g.next n (reread (part_place g) x))
node_parts P g n x at a =
    all_found (λ (e : Entry). AllByRecursion P
    (parts_of_node g.next e.number (reread (part_place g) e.node)))
    g.nodes n x at (from_parts P g.next (part_place g) g.nodes a)

-- What holds of the parts of each node.
pub each_part : (P : Entry → Type 0) (g : Graph) → AllDiffer g.nodes
    → ((n : ℕ) (x : Node) → node_at g.nodes n ≡ Some x
    → AllByRecursion P (parts_of_node g.next n (reread (part_place g) x)))
    → AllByRecursion P (parted_nodes g)
each_part P g d f = parts_from P g.next (part_place g) g.nodes
    (Each-weaker (λ (e : Entry). node_at g.nodes e.number ≡ Some e.node)
    (λ (e : Entry). AllByRecursion P (parts_of_node g.next e.number (reread (part_place g) e.node)))
    (λ e at. f e.number e.node at) g.nodes (each_found g.nodes d))

pub label_found : (g : Graph) → CanPart g → (n : ℕ) (c : Place) (f : Forest)
    → node_at g.nodes n ≡ Some (Pdo c f)
    → EachLabel (λ l. node_at (parted_nodes g) (part_number g.next n l.at)
    ≡ Some (Pdo (part_place g c) (sole_output l))) f
label_found g can n c f at =
    each_parts (λ (h : Entry). node_at (parted_nodes g) h.number ≡ Some h.node) g.next n
    (part_place g c) f
    (node_parts (λ (h : Entry). node_at (parted_nodes g) h.number ≡ Some h.node) g n (Pdo c f) at
    (parts_found g can))

other_first : (P : Entry → Type 0) (k n : ℕ) (r : Place → Place) (x : Node)
    → is_pdo (Some x) ≡ false → AllByRecursion P (parts_of_node k n (reread r x))
    → P (record { number = n; node = reread r x })
other_first P k n r (Pdo c f) h a = absurd (false≢true (sym h))
other_first P k n r _ h a = a.0

pub other_found : (g : Graph) → CanPart g → (n : ℕ) (x : Node) → node_at g.nodes n ≡ Some x
    → is_pdo (Some x) ≡ false → node_at (parted_nodes g) n ≡ Some (reread (part_place g) x)
other_found g can n x at h =
    other_first (λ (d : Entry). node_at (parted_nodes g) d.number ≡ Some d.node) g.next n
    (part_place g) x
    h (node_parts (λ (d : Entry). node_at (parted_nodes g) d.number ≡ Some d.node) g n x at
    (parts_found g can))

-- ---- a collection that is there
pub record IsParted (g : Graph) (c : Place) : Type 0 where
  pub there : IsThere (parted_nodes g) (part_place g c)
  pub back : back g (part_place g c) ≡ c
  pub node : (part_place g c).node % g.next ≡ c.node

gives_same : (r : Place → Place) (x : Node) (j : ℕ) → is_pdo (Some x) ≡ false
    → gives (reread r x) j ≡ gives x j
gives_same r (Source s) j h = refl
gives_same r _ j h = refl

parted_pdo : (g : Graph) → CanPart g → (c d : Place) (f : Forest)
    → node_at g.nodes c.node ≡ Some (Pdo d f) → has_out c.out f ≡ true → IsParted g c
parted_pdo g can c d f at h =
    let k : ℕ = g.next in
    let row = row_of f (step_at_node g can c.node d f at) in
    let i = at_out (λ l. node_at (parted_nodes g) (part_number k c.node l.at)
    ≡ Some (Pdo (part_place g d) (sole_output l))) 0 c.out f row (label_found g can c.node d f
    at) h in
    let b = at_out (λ l. out_at l.at f ≡ l.out) 0 c.out f row (outs_at 0 f row) h in
    let q : ℕ = part_number k c.node (at_of c.out f) in
    let is : part_place g c ≡ place q 0 = ap (part_at k c) at in
    record {
      there = subst (IsThere (parted_nodes g)) (sym is)
          (ap (λ (x : ℕ). gives_at (node_at (parted_nodes g) (part_number k c.node x)) 0) i.at
          ∙ ap (λ (o : Option Node). gives_at o 0) i.holds
          ∙ ap (λ (o : Option ℕ). is_out (new_out 0 o) 0 || false) i.out);
      back = ap (back g) is ∙ back_pdo g can c.node (at_of c.out f) d f at
          ∙ ap (λ (o : Option ℕ). place c.node (label_old o))
          (ap (λ (x : ℕ). out_at x f) b.at ∙ b.holds ∙ b.out);
      node = ap (λ (x : Place). x.node % k) is
          ∙ number_mod k c.node (at_of c.out f) (low g can c.node (Pdo d f) at);
    }

parted_other : (g : Graph) → CanPart g → (c : Place) (x : Node) → node_at g.nodes c.node ≡ Some x
    → gives x c.out ≡ true → is_pdo (Some x) ≡ false → IsParted g c
parted_other g can c x at t h =
    let is : part_place g c ≡ c = part_same g c x at h in
    record {
      there = subst (IsThere (parted_nodes g)) (sym is)
          (ap (λ (o : Option Node). gives_at o c.out) (other_found g can c.node x at h)
          ∙ gives_same (part_place g) x c.out h ∙ t);
      back = ap (back g) is ∙ back_same g can c.node c.out x at h;
      node = ap (λ (d : Place). d.node % g.next) is
          ∙ small_mod g.next c.node (low g can c.node x at);
    }

parted_by : (g : Graph) → CanPart g → (c : Place) (x : Node) → node_at g.nodes c.node ≡ Some x
    → gives x c.out ≡ true → IsParted g c
parted_by g can c (Pdo d f) at t = parted_pdo g can c d f at t
parted_by g can c x at t = parted_other g can c x at t refl

pub is_parted : (g : Graph) → CanPart g → (c : Place) → IsThere g.nodes c → IsParted g c
is_parted g can c t = let x = there_found g.nodes c t in parted_by g can c x.0 x.1 x.2

-- ---- what kind a collection is of

pub lifted_reread : (r : Place → Place) (z : Node)
    → is_lifted (Some (reread r z)) ≡ is_lifted (Some z)
lifted_reread r (Gbk c o l None) = refl
lifted_reread r _ = refl

pub pdo_reread : (r : Place → Place) (z : Node) → is_pdo (Some (reread r z)) ≡ is_pdo (Some z)
pdo_reread r (Source s) = refl
pdo_reread r _ = refl

-- its part is of the same kind, where all Pdos are of one
pub kind_part : (t : Option Node → Bool)
    → ((r : Place → Place) (x : Node) → t (Some (reread r x)) ≡ t (Some x))
    → ((c d : Place) (f h : Forest) → t (Some (Pdo c f)) ≡ t (Some (Pdo d h)))
    → (g : Graph) → CanPart g → (c : Place) → IsThere g.nodes c
    → t (node_at (parted_nodes g) (part_place g c).node) ≡ t (node_at g.nodes c.node)
kind_part t same pdos g can c there =
    let x = there_found g.nodes c there in by x.0 x.1 x.2
  where
    by : (x : Node) → node_at g.nodes c.node ≡ Some x → gives x c.out ≡ true
        → t (node_at (parted_nodes g) (part_place g c).node) ≡ t (node_at g.nodes c.node)
    by (Pdo d f) at has =
        let i = at_out (λ l. node_at (parted_nodes g) (part_number g.next c.node l.at)
        ≡ Some (Pdo (part_place g d) (sole_output l))) 0 c.out f
        (row_of f (step_at_node g can c.node d f at)) (label_found g can c.node d f at) has in
        ap (λ (o : Option Node). t (node_at (parted_nodes g) (part_at g.next c o).node)) at
        ∙ ap (λ (n : ℕ). t (node_at (parted_nodes g) (part_number g.next c.node n))) i.at
        ∙ ap t i.holds ∙ pdos (part_place g d) d (sole_output i.label) f ∙ sym (ap t at)
    by x at has =
        ap (λ (d : Place). t (node_at (parted_nodes g) d.node)) (part_same g c x at refl)
        ∙ ap t (other_found g can c.node x at refl) ∙ same (part_place g) x ∙ sym (ap t at)

-- ---- the parts are sound

each_label : (P : Label → Type 0) → ((l : Label) → P l) → (f : Forest) → EachLabel P f
each_label P h Bare = tt
each_label P h (Grow l kids rest) = (h l, each_label P h rest)

reads_parted : (Q : Place → Type 0) (g : Graph) → CanPart g
    → ((c : Place) → IsParted g c → Q (part_place g c))
    → (x : Node) → AllByRecursion (IsThere g.nodes) (reads x)
    → AllByRecursion Q (reads (reread (part_place g) x))
reads_parted Q g can h (Source r) t = tt
reads_parted Q g can h (Flatten ins) t = all_map (part_place g) (IsThere g.nodes) Q
    (λ c a. h c (is_parted g can c a)) ins t
reads_parted Q g can h (Pdo c f) t = (h c (is_parted g can c t.0), tt)
reads_parted Q g can h (Gbk c o l m) t = (h c (is_parted g can c t.0), tt)
reads_parted Q g can h (Barrier ins o l d) t = all_map (part_place g) (IsThere g.nodes) Q
    (λ c a. h c (is_parted g can c a)) ins t

-- What holds of what a node reads holds of what its parts read.
parts_read : (Q : ℕ → Place → Type 0) (k n : ℕ) (x : Node) → n < k
    → ((m : ℕ) → m % k ≡ n → AllByRecursion (Q m) (reads x))
    → AllByRecursion (λ (h : Entry). AllByRecursion (Q h.number) (reads h.node))
    (parts_of_node k n x)
parts_read Q k n (Source r) h f = (tt, tt)
parts_read Q k n (Pdo c g) h f =
    parts_each (λ (d : Entry). AllByRecursion (Q d.number) (reads d.node)) k n c g
    (each_label (λ l. Q (part_number k n l.at) c × (Unit {0}))
    (λ l. ((f (part_number k n l.at) (number_mod k n l.at h)).0, tt)) g)
parts_read Q k n _ h f = (f n (small_mod k n h), tt)

there_node : (g : Graph) → CanPart g → (n : ℕ) (x : Node) → node_at g.nodes n ≡ Some x
    → AllByRecursion (IsThere g.nodes) (reads x)
there_node g can n x at = all_found (λ (e : Entry). AllByRecursion (IsThere g.nodes) (reads e.node))
    g.nodes n x at can.ok.there

parts_outs : (k n : ℕ) (x : Node) (r : Place → Place)
    → AllByRecursion (λ (h : Entry). HasOuts h.node) (parts_of_node k n (reread r x))
parts_outs k n (Pdo c f) r = parts_each (λ (h : Entry). HasOuts h.node) k n (r c) f
    (each_label (λ l. HasOuts (Pdo (r c) (sole_output l)))
    (λ l. numbered_differ 0 (Grow l Bare Bare)) f)
parts_outs k n _ r = (tt, tt)

-- A rank of the former nodes ranks their parts.
pub parts_ranked : (g : Graph) → CanPart g → (r : ℕ → ℕ) → IsRankedBy r g.nodes → (n : ℕ) (x : Node)
    → node_at g.nodes n ≡ Some x
    → AllByRecursion (λ (h : Entry). AllByRecursion
    (λ (c : Place). r (c.node % g.next) < r (h.number % g.next))
    (reads h.node)) (parts_of_node g.next n (reread (part_place g) x))
parts_ranked g can r ra n x at =
    let lower : AllByRecursion (λ (c : Place). r c.node < r n) (reads x) =
    ranked_at r g.nodes n x ra at in
    parts_read (λ m c. r (c.node % g.next) < r (m % g.next)) g.next n (reread (part_place g) x)
    (low g can n x at)
    (λ m e. by m e x (there_node g can n x at) lower)
  where
    move : (m : ℕ) → m % g.next ≡ n → (c : Place) → IsThere g.nodes c → r c.node < r n
        → r ((part_place g c).node % g.next) < r (m % g.next)
    move m e c t l =
        let a : r ((part_place g c).node % g.next) ≡ r c.node = ap r (is_parted g can c t).node in
        let b : r (m % g.next) ≡ r n = ap r e in
        omega arith

    by : (m : ℕ) → m % g.next ≡ n → (x : Node) → AllByRecursion (IsThere g.nodes) (reads x)
        → AllByRecursion (λ (c : Place). r c.node < r n) (reads x)
        → AllByRecursion (λ (c : Place). r (c.node % g.next) < r (m % g.next))
        (reads (reread (part_place g) x))
    by m e (Source s) t l = tt
    by m e (Flatten ins) t l =
        all_map (part_place g) (λ c. IsThere g.nodes c × (r c.node < r n))
        (λ (c : Place). r (c.node % g.next) < r (m % g.next)) (λ c a. move m e c a.0 a.1) ins
        (Each-both (IsThere g.nodes) (λ (c : Place). r c.node < r n)
        (λ c. IsThere g.nodes c × (r c.node < r n)) (λ c a b. (a, b)) ins t l)
    by m e (Pdo c f) t l = (move m e c t.0 l.0, tt)
    by m e (Gbk c o b k) t l = (move m e c t.0 l.0, tt)
    by m e (Barrier ins o y d) t l =
        all_map (part_place g) (λ c. IsThere g.nodes c × (r c.node < r n))
        (λ (c : Place). r (c.node % g.next) < r (m % g.next)) (λ c a. move m e c a.0 a.1) ins
        (Each-both (IsThere g.nodes) (λ (c : Place). r c.node < r n)
        (λ c. IsThere g.nodes c × (r c.node < r n)) (λ c a b. (a, b)) ins t l)

pub IsSound-parted : (g : Graph) → CanPart g → IsSound (parted_graph g)
IsSound-parted g can = record {
  differ = differ_parts g.next (part_place g) g.nodes can.ok.differ can.below can.steps;
  there = each_part (λ (h : Entry). AllByRecursion (IsThere (parted_nodes g))
      (reads h.node)) g can.ok.differ
      (λ n x at. parts_read (λ m c. IsThere (parted_nodes g) c) g.next n (reread (part_place g) x)
      (low g can n x at)
      (λ m e. reads_parted (IsThere (parted_nodes g)) g can (λ c p. p.there) x
      (there_node g can n x at)));
  told = all_map (part_place g) (IsThere g.nodes) (IsThere (parted_nodes g))
      (λ c t. (is_parted g can c t).there) g.outputs can.ok.told;
  outs = each_part (λ (h : Entry). HasOuts h.node) g can.ok.differ
      (λ n x at. parts_outs g.next n x (part_place g));
  ranked = (
    λ q. can.ok.ranked.0 (q % g.next),
    each_part (λ (h : Entry). AllByRecursion
        (λ (c : Place). can.ok.ranked.0 (c.node % g.next) < can.ok.ranked.0
        (h.number % g.next)) (reads h.node)) g can.ok.differ
        (λ n x at. parts_ranked g can can.ok.ranked.0 can.ok.ranked.1 n x at),
  );
}

-- Each has one step with one output.
first_is : (o : Option ℕ) → IsLoneOutput (new_out 0 o)
first_is None = tt
first_is (Some j) = refl

parts_single : (k n : ℕ) (x : Node) (r : Place → Place)
    → AllByRecursion (λ (h : Entry). HasOneStep h.node) (parts_of_node k n (reread r x))
parts_single k n (Pdo c f) r = parts_each (λ (h : Entry). HasOneStep h.node) k n (r c) f
    (each_label (λ l. HasOneStep (Pdo (r c) (sole_output l))) (λ l. first_is l.out) f)
parts_single k n _ r = (tt, tt)

pub HasOneStep-parted : (g : Graph) → AllDiffer g.nodes
    → AllByRecursion (λ (h : Entry). HasOneStep h.node) (parted_nodes g)
HasOneStep-parted g d = each_part (λ (h : Entry). HasOneStep h.node) g d
    (λ n x at. parts_single g.next n x (part_place g))
