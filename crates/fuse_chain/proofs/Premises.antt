-- What the kids begin with: outputs that stand in Pdos of their own.
use Rattle.std.proofs.Common.{◌≡◌, ℕ, ◌/◌, ◌%◌, ◌<◌, ◌≤◌, true, List, [], ◌∷◌, ◌++◌, sym, ap, ◌∙◌, subst, arith, suc}
use Rattle.std.specs.List.{AllByRecursion as Each}
use Rattle.flume_value.proofs.EachLemmas.{Each-weaker, Each-append}
use Rattle.exec_graph.specs.Forests.{Forest, Bare, Grow}
use Rattle.exec_graph.specs.Readers.{readers}
use Rattle.exec_graph.specs.Wellformed.{Ascends}
use Rattle.exec_graph.specs.declared.graph.Place.{Place}
use Rattle.exec_graph.specs.declared.graph.Node.{Node}
use Rattle.exec_graph.specs.declared.graph.Node.TheVariants.{Pdo, Gbk}
use Rattle.exec_graph.specs.declared.graph.Entry.{Entry}
use Rattle.exec_graph.specs.declared.graph.Graph.{Graph}
use Rattle.exec_graph.specs.declared.graph.Blocked.{Blocked}
use Rattle.graph_laws.specs.Joining.{reread}
use Rattle.graph_laws.specs.Single.{HasSteps, IsOneStep}
use Rattle.pardo_fuse.specs.Fusing.{is_first}
use Rattle.pardo_fuse.specs.Parting.{part_number, part_place, parted, parts, parts_of_node, sole_output}
use Rattle.pardo_fuse.specs.Readers.{cut_of}
use Rattle.pardo_fuse.specs.SingleFusing.{CanFuse}
use Rattle.pardo_fuse.specs.Wellformed.{IsFusible}
use Rattle.pardo_fuse.proofs.PartedNodes.{can_fuse}
use Rattle.pardo_fuse.proofs.PartedLeft.{first_low}
use Rattle.pardo_fuse.proofs.Parting.{IsRow, all_parts, first_number, label_weaker, number_div, parts_each, parts_mod, row_above, row_of, small_mod}

-- ---- the numbers below k ascend
abbrev pub AscendsLow : ℕ → List Entry → Type 0
AscendsLow k [] = Unit {0}
AscendsLow k (e ∷ es) =
    (e.number < k → Each (λ (d : Entry). d.number < k → e.number < d.number) es) × AscendsLow k es

pub low_last : (k : ℕ) (xs ys : List Entry) → AscendsLow k (xs ++ ys) → AscendsLow k ys
low_last k [] ys a = a
low_last k (x ∷ xs) ys a = low_last k xs ys a.1

zero_div : (k q : ℕ) → q < k → q / k ≡ 0
zero_div k q h = ap (λ (x : ℕ). x / k) (sym (first_number k q)) ∙ number_div k q 0 h

-- A later output has no number below k.
later_high : (k n at : ℕ) → n < k → 1 ≤ at → part_number k n at < k → ⊥
later_high k n at h l low =
    let z = zero_div k (part_number k n at) low in
    let s = number_div k n at h in
    omega arith

row_high : (k n i : ℕ) (c : Place) (f : Forest) → n < k → IsRow (suc i) f → (P : Entry → Type 0)
    → Each (λ (d : Entry). d.number < k → P d) (parts k n c f)
row_high k n i c f h r P = parts_each (λ (d : Entry). d.number < k → P d) k n c f
    (label_weaker (λ l. suc i ≤ l.at)
    (λ l. part_number k n l.at < k
    → P (record { number = part_number k n l.at; node = Pdo c (sole_output l) }))
    (λ l a low. absurd (later_high k n l.at h (omega arith) low)) f (row_above (suc i) f r))

row_low : (k n i : ℕ) (c : Place) (f : Forest) (tail : List Entry) → n < k → IsRow (suc i) f
    → AscendsLow k tail → AscendsLow k (parts k n c f ++ tail)
row_low k n i c Bare tail h r a = a
row_low k n i c (Grow l kids rest) tail h r a = (
  λ low. absurd (later_high k n l.at h (let e = r.0 in omega arith) low),
  row_low k n (suc i) c rest tail h r.2 a,
)

node_low : (k n : ℕ) (x : Node) (r : Place → Place) (tail : List Entry) → n < k
    → HasSteps IsOneStep x → Each (λ (d : Entry). d.number < k → n < d.number) tail
    → AscendsLow k tail → AscendsLow k (parts_of_node k n (reread r x) ++ tail)
node_low k n (Pdo c f) r tail h o t a = by f (row_of f o)
  where
    by : (f : Forest) → IsRow 0 f → AscendsLow k (parts k n (r c) f ++ tail)
    by Bare w = a
    by (Grow l kids rest) w = (
      λ _. subst (λ (q : ℕ). Each (λ (d : Entry). d.number < k → q < d.number)
          (parts k n (r c) rest ++ tail)) (sym (ap (part_number k n) w.0 ∙ first_number k n))
          (Each-append (λ (d : Entry). d.number < k → n < d.number) (parts k n (r c) rest) tail
          (row_high k n 0 (r c) rest h w.2 (λ d. n < d.number)) t),
      row_low k n 0 (r c) rest tail h w.2 a,
    )
node_low k n (Gbk c o l m) r tail h q t a = (λ _. t, a)
node_low k n _ r tail h o t a = (λ _. t, a)

above_parts : (k n : ℕ) (r : Place → Place) (es : List Entry)
    → Each (λ (e : Entry). e.number < k) es
    → Each (λ (e : Entry). n < e.number) es
    → Each (λ (d : Entry). d.number < k → n < d.number) (all_parts k r es)
above_parts k n r [] b a = tt
above_parts k n r (e ∷ es) b a =
    Each-append (λ (d : Entry). d.number < k → n < d.number)
    (parts_of_node k e.number (reread r e.node))
    (all_parts k r es)
    (Each-weaker (λ (d : Entry). d.number % k ≡ e.number) (λ (d : Entry). d.number < k
    → n < d.number)
    (λ d m low. let s = small_mod k d.number low in let l = a.0 in omega arith)
    (parts_of_node k e.number (reread r e.node)) (parts_mod k e.number (reread r e.node) b.0))
    (above_parts k n r es b.1 a.1)

all_low : (k : ℕ) (r : Place → Place) (es : List Entry) → Each (λ (e : Entry). e.number < k) es
    → Each (λ (e : Entry). HasSteps IsOneStep e.node) es → Ascends es
    → AscendsLow k (all_parts k r es)
all_low k r [] b s a = tt
all_low k r (e ∷ es) b s a =
    node_low k e.number e.node r (all_parts k r es) b.0 s.0
    (above_parts k e.number r es b.1 a.0) (all_low k r es b.1 s.1 a.1)

-- What the kids of a graph begin with.
pub record CanChain (b : Blocked) : Type 0 where
  pub can : CanFuse (cut_of b)
  pub low : AscendsLow b.graph.next b.graph.nodes
  pub first : (q : ℕ) (c : Place) → is_first q (readers b.graph.nodes c) ≡ true → q < b.graph.next

pub can_chain : (b : Blocked) → IsFusible b → CanChain (parted b)
can_chain b fu =
    let g : Graph = b.graph in
    record {
      can = can_fuse b fu;
      low = all_low g.next (part_place g) g.nodes fu.ok.ok.founded.below fu.unfused
          fu.ok.ok.founded.ascends;
      first = λ q c h. first_low g.next q c
          (part_place g) g.nodes fu.ok.ok.founded.below fu.unfused h;
    }
