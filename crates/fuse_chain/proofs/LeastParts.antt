-- The least number of a class is that of the parts of its Pdos.
use Rattle.std.proofs.Common.{◌≡◌, ℕ, ◌+◌, ◌≤◌, Bool, true, false, cond, List, [], ◌∷◌, ◌++◌, length, Option, Some, None, refl, sym, ap, ◌∙◌, subst, arith, zero, suc}
use Rattle.std.specs.List.{AllByRecursion as Each, flat_map}
use Rattle.exec_graph.specs.Forests.{Label, Forest, Bare, Grow}
use Rattle.exec_graph.specs.Meaning.{IsThere, node_at, place}
use Rattle.exec_graph.specs.Readers.{readers}
use Rattle.exec_graph.specs.declared.graph.Place.{Place}
use Rattle.exec_graph.specs.declared.graph.Node.{Node}
use Rattle.exec_graph.specs.declared.graph.Blocked.{Blocked}
use Rattle.exec_graph.specs.declared.graph.Graph.{Graph}
use Rattle.exec_graph.proofs.Solving.{each_found}
use Rattle.pardo_fuse.specs.Readers.{Cut, cut_of, is_inner}
use Rattle.pardo_fuse.specs.Fusing.{kids_on, least_number, lesser_number, members, members_over, over_outs, step_in}
use Rattle.pardo_fuse.specs.Parting.{part_number, part_place, parted}
use Rattle.pardo_fuse.specs.SingleFusing.{kids_of, planted, step_at, trees}
use Rattle.pardo_fuse.specs.Wellformed.{IsFusible}
use Rattle.pardo_fuse.proofs.Hanging.{can_mark, levels_same}
use Rattle.pardo_fuse.proofs.Leasts.{least_more}
use Rattle.pardo_fuse.proofs.Once.{all_of}
use Rattle.pardo_fuse.proofs.Parting.{EachLabel, first_number, row_of, IsRow, label_weaker}
use Rattle.pardo_fuse.proofs.Partition.{numbers}
use Rattle.pardo_fuse.proofs.SiteKids.{CanMark, IsPdoAt, filled, kids_part, readers_pdos}
use Rattle.pardo_fuse.proofs.Sites.{all_sites, outputs_of, readers_part}
use Rattle.pardo_fuse.proofs.Unparting.{step_at_node}
use Rattle.fuse_chain.proofs.Minima.{first_is, lesser_under}
use Rattle.pardo_fuse.proofs.Members.{least_low}

kids_pdos : (a : Blocked) → CanMark a → (n : ℕ) (o : Option ℕ)
    → Each (IsPdoAt a.graph) (kids_on (cut_of a) n o)
kids_pdos a m n None = tt
kids_pdos a m n (Some j) = by (is_inner (cut_of a) (place n j))
  where
    by : (b : Bool) → Each (IsPdoAt a.graph) (cond b (readers a.graph.nodes (place n j)) [])
    by true =
        readers_pdos a.graph (place n j) a.graph.nodes
        (each_found a.graph.nodes m.can.ok.differ)
    by false = tt

-- what stands over an output of Pdo n counts as the tree of the output's part
abbrev Counts : Cut → ℕ → (Option ℕ → List ℕ) → (ℕ → Forest) → ℕ → Label → Type 0
Counts b k over tree n l = (m : ℕ)
    → least_number m (over l.out) ≡ least_number m (numbers (tree (part_number k n l.at)))

-- the outputs of a step, where its Pdo's number has been counted
row_counts : (b : Cut) (k n m : ℕ) (over : Option ℕ → List ℕ) (tree : ℕ → Forest) (f : Forest)
    (ns : List ℕ) → m ≤ n → EachLabel (Counts b k over tree n) f
    → least_number (least_number m (over_outs over f)) (numbers (planted (step_at b) tree ns))
    ≡ least_number m (numbers (planted (step_at b) tree (outputs_of k n f ++ ns)))
row_counts b k n m over tree Bare ns low a = refl
row_counts b k n m over tree (Grow l kids more) ns low a =
    let part : ℕ = part_number k n l.at in
    let T : List ℕ = numbers (tree part) in
    let rest : List ℕ = numbers (planted (step_at b) tree (outputs_of k n more ++ ns)) in
    let above : n ≤ part = omega arith in
    let next : ℕ = least_number m (over l.out) in
    let down : next ≤ m = least_low m (over l.out) in
    let last : List ℕ = numbers (planted (step_at b) tree ns) in
    ap (λ (x : ℕ). least_number x last) (least_more m (over l.out) (over_outs over more))
    ∙ row_counts b k n next over tree more ns (omega arith) a.1
    ∙ ap (λ (x : ℕ). least_number x rest) (a.0 m)
    ∙ sym (least_more m T rest)
    ∙ sym (ap (λ (x : ℕ). least_number x (T ++ rest)) (first_is m part (omega arith)))

-- one Pdo with all its parts
pdo_counts : (b : Cut) (k n m : ℕ) (over : Option ℕ → List ℕ) (tree : ℕ → Forest) (f : Forest)
    (ns : List ℕ) → IsRow 0 f → (f ≡ Bare → ⊥) → EachLabel (Counts b k over tree n) f
    → least_number (least_number m (n ∷ over_outs over f)) (numbers (planted (step_at b) tree ns))
    ≡ least_number m (numbers (planted (step_at b) tree (outputs_of k n f ++ ns)))
pdo_counts b k n m over tree Bare ns r z a = absurd (z refl)
pdo_counts b k n m over tree (Grow l kids more) ns r z a =
    let part : ℕ = part_number k n l.at in
    let is : part ≡ n = ap (part_number k n) r.0 ∙ first_number k n in
    let now : ℕ = lesser_number m n in
    let low : now ≤ n = lesser_under m n in
    let behind : List ℕ = numbers (tree part)
    ++ numbers (planted (step_at b) tree (outputs_of k n more ++ ns)) in
    row_counts b k n now over tree (Grow l kids more) ns low a
    ∙ ap (λ (x : ℕ). least_number (lesser_number now x) behind) is
    ∙ ap (λ (x : ℕ). least_number x behind) (first_is now n low)
    ∙ sym (ap (λ (x : ℕ). least_number (lesser_number m x) behind) is)

-- Pdos one after another
all_counts : (b : Cut) (g : Graph) (over : ℕ → Option ℕ → List ℕ) (tree : ℕ → Forest)
    → ((n : ℕ) → IsPdoAt g n → (IsRow 0 (step_in (node_at g.nodes n)))
    × (step_in (node_at g.nodes n) ≡ Bare → ⊥)
    × EachLabel (Counts b g.next (over n) tree n) (step_in (node_at g.nodes n)))
    → (ns : List ℕ) (m : ℕ) → Each (IsPdoAt g) ns
    → least_number m (flat_map (λ n. n ∷ over_outs (over n) (step_in (node_at g.nodes n))) ns)
    ≡ least_number m (numbers (planted (step_at b) tree (all_sites g ns)))
all_counts b g over tree h [] m p = refl
all_counts b g over tree h (n ∷ ns) m p =
    let f : Forest = step_in (node_at g.nodes n) in
    let w = h n p.0 in
    let here : List ℕ = n ∷ over_outs (over n) f in
    least_more m here (flat_map (λ i. i ∷ over_outs (over i) (step_in (node_at g.nodes i))) ns)
    ∙ all_counts b g over tree h ns (least_number m here) p.1
    ∙ pdo_counts b g.next n m (over n) tree f (all_sites g ns) w.0 w.1 w.2

module _ (a : Blocked) (can : CanMark a) where
  abbrev g : Graph
  g = a.graph

  abbrev P : Cut
  P = cut_of (parted a)

  levels_count : (k : ℕ) (ns : List ℕ) (m : ℕ) → Each (IsPdoAt g) ns
      → least_number m (members (cut_of a) k ns)
      ≡ least_number m (numbers (trees P k (all_sites g ns)))
  unfolding members trees
  levels_count zero ns m p = refl
  levels_count (suc k) ns m p =
      let over : ℕ → Option ℕ → List ℕ = λ n o. members (cut_of a) k (kids_on (cut_of a) n o) in
      let tree : ℕ → Forest = λ s. trees P k (kids_of P s) in
      all_counts P g over tree
      (λ n (c, f, at).
      let one = step_at_node g can.can n c f at in
      let parts : EachLabel (Counts P g.next (over n) tree n) f =
      label_weaker (λ l. kids_of P (part_number g.next n l.at)
      ≡ all_sites g (kids_on (cut_of a) n l.out)) (Counts P g.next (over n) tree n)
      (λ l e i. levels_count k (kids_on (cut_of a) n l.out) i (kids_pdos a can n l.out)
      ∙ ap (λ (xs : List ℕ). least_number i (numbers (trees P k xs))) (sym e)) f
      (kids_part a can n c f at) in
      subst (λ (o : Option Node). IsRow 0 (step_in o) × (step_in o ≡ Bare → ⊥)
      × EachLabel (Counts P g.next (over n) tree n) (step_in o)) (sym at)
      (row_of f one, filled f one, parts)) ns m p

-- the class of a collection
pub class_counts : (a : Blocked) → IsFusible a → (c : Place) → IsThere a.graph.nodes c → (m : ℕ)
    → least_number m (members_over (cut_of a) c)
    ≡ least_number m (numbers (all_of (cut_of (parted a)) (part_place a.graph c)))
class_counts a fu c t m =
    let g : Graph = a.graph in
    let can : CanMark a = can_mark a fu in
    let P : Cut = cut_of (parted a) in
    levels_count a can (length g.nodes) (readers g.nodes c) m
    (readers_pdos g c g.nodes (each_found g.nodes can.can.ok.differ))
    ∙ ap (λ (xs : List ℕ). least_number m (numbers (trees P (length g.nodes) xs)))
    (sym (readers_part g can.can c t))
    ∙ ap (λ (f : Forest). least_number m (numbers f)) (levels_same a fu (part_place g c))
