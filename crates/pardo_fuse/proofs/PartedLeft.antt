-- Which nodes are left where the steps have their outputs apart, and how many outputs there are.
use Rattle.std.proofs.Common.{◌≡◌, ℕ, ◌+◌, ◌*◌, ◌/◌, ◌^◌, ◌<◌, ◌≤◌, Bool, true, false, cond, List, [], ◌∷◌, ◌++◌, map, length, length-append, refl, sym, ap, ◌∙◌, append-nil, arith, suc}
use Rattle.std.proofs.lemmas.Bool.{eqb-true, false≢true}
use Rattle.std.proofs.lemmas.List.Concat.{flat_map-append}
use Rattle.std.specs.List.{flat_map, AllByRecursion}
use Rattle.exec_graph.specs.Forests.{Forest, Bare, Grow, one_at, steps}
use Rattle.exec_graph.specs.Readers.{calls_on, readers, same_place, those}
use Rattle.exec_graph.specs.Wellformed.{Ascends, size, total_size}
use Rattle.exec_graph.specs.declared.graph.Place.{Place}
use Rattle.exec_graph.specs.declared.graph.Node.{Node}
use Rattle.exec_graph.specs.declared.graph.Node.TheVariants.{Source, Flatten, Pdo, Gbk, Barrier}
use Rattle.exec_graph.specs.declared.graph.Entry.{Entry}
use Rattle.exec_graph.specs.declared.graph.Graph.{Graph}
use Rattle.exec_graph.specs.declared.graph.Blocked.{Blocked}
use Rattle.exec_graph.proofs.Entries.{all_map}
use Rattle.graph_laws.specs.Joining.{reread, reread_entry}
use Rattle.graph_laws.specs.Single.{HasSteps, IsOneStep, most_outputs, width}
use Rattle.pardo_fuse.specs.Readers.{Cut, cut_of}
use Rattle.pardo_fuse.specs.Parting.{part_number, sole_output, parts, parts_of_node, part_place, parted_nodes, parted}
use Rattle.pardo_fuse.specs.Fusing.{is_first, leads}
use Rattle.pardo_fuse.specs.SingleFusing.{forest_reading, joined_nodes, entries_left}
use Rattle.pardo_fuse.specs.Wellformed.{IsFusible}
use Rattle.pardo_fuse.proofs.Lifting.{those-append}
use Rattle.pardo_fuse.proofs.Settling.{leads_first}
use Rattle.pardo_fuse.proofs.Parting.{IsRow, all_parts, first_number, number_div, row_of}
use Rattle.pardo_fuse.proofs.Unparting.{CanPart}
use Rattle.pardo_fuse.proofs.PartedNodes.{apart_calls}
use Rattle.exec_graph.proofs.Bools.{not_true}

-- ---- the nodes that are left

first_cases : (P : Type 0) (q : ℕ) (xs ys : List ℕ) → is_first q (xs ++ ys) ≡ true
    → (is_first q xs ≡ true → P) → (is_first q ys ≡ true → P) → P
first_cases P q [] ys h f g = g h
first_cases P q (x ∷ xs) ys h f g = f h

part_first : (k n q : ℕ) (c : Place) (x : Node) (r : Place → Place) → n < k
    → HasSteps IsOneStep x
    → is_first q (those (calls_on c) (parts_of_node k n (reread r x))) ≡ true → q < k
part_first k n q c (Pdo d f) r l a h = by f (row_of f a) (same_place c (r d)) refl h
  where
    by : (f : Forest) → IsRow 0 f → (b : Bool) → same_place c (r d) ≡ b
        → is_first q (those (calls_on c) (parts k n (r d) f)) ≡ true → q < k
    by Bare w b e h = absurd (false≢true h)
    by (Grow m kids rest) w true e h =
        let there : is_first q (part_number k n m.at ∷ those (calls_on c) (parts k n (r d) rest))
        ≡ true =
        sym (ap (λ (t : Bool). is_first q (cond t (part_number k n m.at ∷ those (calls_on c)
        (parts k n (r d) rest)) (those (calls_on c) (parts k n (r d) rest)))) e) ∙ h in
        let i : q ≡ n = eqb-true q (part_number k n m.at) there
        ∙ ap (part_number k n) w.0 ∙ first_number k n in
        omega arith
    by (Grow m kids rest) w false e h = absurd (false≢true
        (sym (ap (is_first q) (apart_calls c (r d) k n (Grow m kids rest) e)) ∙ h))
part_first k n q c _ r l a h = absurd (false≢true h)

-- A Pdo that leads is the first of the former Pdo's.
pub first_low : (k q : ℕ) (c : Place) (r : Place → Place) (es : List Entry)
    → AllByRecursion (λ (e : Entry). e.number < k) es
    → AllByRecursion (λ (e : Entry). HasSteps IsOneStep e.node) es
    → is_first q (readers (all_parts k r es) c) ≡ true → q < k
first_low k q c r [] a s h = absurd (false≢true h)
first_low k q c r (e ∷ es) a s h =
    first_cases (q < k) q (those (calls_on c) (parts_of_node k e.number (reread r e.node)))
    (readers (all_parts k r es) c)
    (ap (is_first q) (sym (those-append (calls_on c) (parts_of_node k e.number (reread r e.node))
    (all_parts k r es))) ∙ h)
    (part_first k e.number q c e.node r a.0 s.0)
    (first_low k q c r es a.1 s.1)

leads_low : (b : Cut) (k : ℕ) (r : Place → Place) (all : List Entry)
    → b.graph.nodes ≡ all_parts k r all → AllByRecursion (λ (e : Entry). e.number < k) all
    → AllByRecursion (λ (e : Entry). HasSteps IsOneStep e.node) all → (q : ℕ) (c : Place)
    → leads b q c ≡ true → q < k
leads_low b k r all e a s q c h = first_low k q c r all a s
    (ap (λ (es : List Entry). is_first q (readers es c)) (sym e) ∙ leads_first b q c h)

later_none : (b : Cut) (k n i : ℕ) (c : Place) (f : Forest) → n < k → IsRow (suc i) f
    → ((q : ℕ) → leads b q c ≡ true → q < k)
    → flat_map (λ (h : Entry). entries_left b h.number h.node) (parts k n c f) ≡ []
later_none b k n i c Bare l r h = refl
later_none b k n i c (Grow m kids rest) l r h =
    ap (λ (t : Bool). cond t ((record {
      number = part_number k n m.at;
      node = Pdo c (forest_reading b c);
    }) ∷ []) [] ++ flat_map (λ (h : Entry). entries_left b h.number h.node) (parts k n c rest))
    (not_true (leads b (part_number k n m.at) c) (λ t.
    let q : ℕ = part_number k n m.at in
    let low : q < k = h q t in
    let zero : q / k ≡ 0 = ap (λ (x : ℕ). x / k) (sym (first_number k q)) ∙ number_div k q 0 low in
    let some : q / k ≡ m.at = number_div k n m.at l in
    let at : m.at ≡ suc i = r.0 in
    omega arith))
    ∙ later_none b k n (suc i) c rest l r.2 h

left_parts : (b : Cut) (k n : ℕ) (x : Node) → n < k → HasSteps IsOneStep x
    → ((q : ℕ) (c : Place) → leads b q c ≡ true → q < k) → (r : Place → Place)
    → flat_map (λ (h : Entry). entries_left b h.number h.node) (parts_of_node k n (reread r x))
    ≡ entries_left b n (reread r x)
left_parts b k n (Source s) l a h r = refl
left_parts b k n (Flatten ins) l a h r = refl
left_parts b k n (Pdo c f) l a h r = by f (row_of f a) filled
  where
    filled : f ≡ Bare → ⊥
    filled e = let bad : ⊥ = let q = sym a.alone ∙ e in cc in bad

    by : (f : Forest) → IsRow 0 f → (f ≡ Bare → ⊥)
        → flat_map (λ (h : Entry). entries_left b h.number h.node) (parts k n (r c) f)
        ≡ entries_left b n (Pdo (r c) f)
    by Bare w z = absurd (z refl)
    by (Grow m kids rest) w z =
        ap (λ (xs : List Entry). entries_left b (part_number k n m.at) (Pdo (r c) (sole_output m))
        ++ xs)
        (later_none b k n 0 (r c) rest l w.2 (λ q t. h q (r c) t))
        ∙ append-nil (entries_left b (part_number k n m.at) (Pdo (r c) (sole_output m)))
        ∙ ap (λ (q : ℕ). entries_left b q (Pdo (r c) (sole_output m)))
        (ap (part_number k n) w.0 ∙ first_number k n)
left_parts b k n (Gbk c o t m) l a h r = refl
left_parts b k n (Barrier ins o y d) l a h r = refl

-- One node is left of each that leads, under its number.
left_all : (b : Cut) (k : ℕ) (r : Place → Place) (es : List Entry)
    → AllByRecursion (λ (e : Entry). e.number < k) es
    → AllByRecursion (λ (e : Entry). HasSteps IsOneStep e.node) es
    → ((q : ℕ) (c : Place) → leads b q c ≡ true → q < k)
    → flat_map (λ (h : Entry). entries_left b h.number h.node) (all_parts k r es)
    ≡ flat_map (λ (e : Entry). entries_left b e.number (reread r e.node)) es
left_all b k r [] a s h = refl
left_all b k r (e ∷ es) a s h =
    flat_map-append (λ (h : Entry). entries_left b h.number h.node)
    (parts_of_node k e.number (reread r e.node))
    (all_parts k r es)
    ∙ ap (λ (xs : List Entry). xs
    ++ flat_map (λ (h : Entry). entries_left b h.number h.node) (all_parts k r es))
    (left_parts b k e.number e.node a.0 s.0 h r)
    ∙ ap (λ (xs : List Entry). entries_left b e.number (reread r e.node) ++ xs)
    (left_all b k r es a.1 s.1 h)

pub joined_parted : (a : Blocked) → CanPart a.graph
    → joined_nodes (cut_of (parted a))
    ≡ flat_map (λ (e : Entry). entries_left (cut_of (parted a)) e.number
    (reread (part_place a.graph) e.node))
    a.graph.nodes
joined_parted a can =
    let g : Graph = a.graph in
    let b : Cut = cut_of (parted a) in
    left_all b g.next (part_place g) g.nodes can.below can.steps
    (λ q c t. leads_low b g.next (part_place g) g.nodes refl can.below can.steps q c t)

pub map_ascends : (r : Place → Place) (es : List Entry) → Ascends es
    → Ascends (map (reread_entry r) es)
map_ascends r [] u = tt
map_ascends r (e ∷ es) u = (
  all_map (reread_entry r) (λ (d : Entry). e.number < d.number) (λ (d : Entry). e.number < d.number)
      (λ d a. a) es u.0,
  map_ascends r es u.1,
)

-- ---- sizes

row_size : (k n : ℕ) (c : Place) (f : Forest) (i : ℕ) → IsRow i f → (hs : List Entry)
    → total_size (parts k n c f ++ hs) ≡ steps f + total_size hs
row_size k n c Bare i r hs = omega arith
row_size k n c (Grow l kids rest) i r hs =
    let e = row_size k n c rest (suc i) r.2 hs in
    let z : steps kids ≡ 0 = ap steps r.1 in
    omega arith

part_size : (k n : ℕ) (x : Node) (r : Place → Place) → HasSteps IsOneStep x → (hs : List Entry)
    → total_size (parts_of_node k n (reread r x) ++ hs) ≡ size x + total_size hs
part_size k n (Pdo c f) r a hs = row_size k n (r c) f 0 (row_of f a) hs
part_size k n _ r a hs = refl

pub all_size : (k : ℕ) (r : Place → Place) (es : List Entry)
    → AllByRecursion (λ (e : Entry). HasSteps IsOneStep e.node) es
    → total_size (all_parts k r es) ≡ total_size es
all_size k r [] a = refl
all_size k r (e ∷ es) a =
    let i = all_size k r es a.1 in
    let p = part_size k e.number e.node r a.0 (all_parts k r es) in
    omega arith

row_length : (k n : ℕ) (c : Place) (f : Forest) → length (parts k n c f) ≡ width f
row_length k n c Bare = refl
row_length k n c (Grow l kids rest) = let i = row_length k n c rest in omega arith

step_some : (f : Forest) → IsRow 0 f → (f ≡ Bare → ⊥) → 1 ≤ steps f
step_some Bare r z = absurd (z refl)
step_some (Grow l kids rest) r z =
    let e : one_at l.at ≡ 1 = ap one_at r.0 in omega arith

part_length : (k n : ℕ) (x : Node) (r : Place → Place) → HasSteps IsOneStep x
    → HasSteps (λ f. width f ≤ most_outputs) x
    → length (parts_of_node k n (reread r x)) ≤ 8 * size x
part_length k n (Pdo c f) r a w =
    let e = row_length k n (r c) f in
    let s = step_some f (row_of f a) filled in
    omega arith
  where
    filled : f ≡ Bare → ⊥
    filled e = let bad : ⊥ = let q = sym a.alone ∙ e in cc in bad
part_length k n _ r a w = omega arith

all_length : (k : ℕ) (r : Place → Place) (es : List Entry)
    → AllByRecursion (λ (e : Entry). HasSteps IsOneStep e.node) es
    → AllByRecursion (λ (e : Entry). HasSteps (λ f. width f ≤ most_outputs) e.node) es
    → length (all_parts k r es) ≤ 8 * total_size es
all_length k r [] a w = omega arith
all_length k r (e ∷ es) a w =
    let i = all_length k r es a.1 w.1 in
    let p = part_length k e.number e.node r a.0 w.0 in
    omega (arith, length-append (parts_of_node k e.number (reread r e.node)) (all_parts k r es))

pub few_parts : (b : Blocked) → IsFusible b → length (parted_nodes b.graph) < 2 ^ 32
few_parts b fu =
    let i = all_length b.graph.next (part_place b.graph) b.graph.nodes fu.unfused fu.narrow in
    let f = fu.ok.ok.few in
    omega arith
