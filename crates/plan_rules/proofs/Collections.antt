-- A graph has at most 8 collections for each node and step.
use Rattle.std.proofs.Common.{◌≡◌, ℕ, ◌+◌, ◌-◌, ◌*◌, ◌<◌, ◌≤◌, ◌⊎◌, List, [], ◌∷◌, map, length, Option, Some, None, zero, suc, ap, arith, inl, inr, length-append}
use Rattle.std.specs.List.{AllByRecursion, flat_map}
use Rattle.graph_laws.specs.of_exec_graph.Forests.{Forest, Bare, Grow, one_at, steps}
use Rattle.graph_laws.specs.of_exec_graph.Meaning.{place}
use Rattle.graph_laws.specs.of_exec_graph.Wellformed.{size, total_size}
use Rattle.graph_laws.specs.of_exec_graph.declared.graph.Place.{Place}
use Rattle.graph_laws.specs.of_exec_graph.declared.graph.Node.{Node}
use Rattle.graph_laws.specs.of_exec_graph.declared.graph.Node.TheVariants.{Source, Flatten, Pdo, Gbk, Barrier}
use Rattle.graph_laws.specs.of_exec_graph.declared.graph.Entry.{Entry}
use Rattle.plan_making.specs.of_exec_plan.Channels.{outs_of}
use Rattle.plan_making.specs.of_exec_plan.Wellformed.{outputs_told, out_count}
use Rattle.plan_rules.specs.Fitting.{HasFewOutputs, IsNarrow}
use Rattle.plan_rules.proofs.Widths.{length_map, outs_length}

-- the outputs of a node
abbrev pub node_outs : Node → List ℕ
node_outs (Source r) = 0 ∷ []
node_outs (Flatten ins) = 0 ∷ []
node_outs (Pdo c f) = outs_of f
node_outs (Gbk c o l k) = 0 ∷ []
node_outs (Barrier ins o l a) = 0 ∷ []

-- the collections of a graph
abbrev pub collections : List Entry → List Place
collections es = flat_map (λ e. map (place e.number) (node_outs e.node)) es

-- how many outputs the step that stands before may still have
abbrev left : ℕ → ℕ
left zero = 0
left (suc n) = 7 - n

one_out : (o : Option ℕ) → out_count o ≤ 1
one_out None = omega arith
one_out (Some j) = omega arith

first_counts : (n : ℕ) → n ≡ 0 → one_at n ≡ 1
first_counts n h = ap one_at h

few_by : (n a c k r : ℕ) → (a ≡ 0) ⊎ ((a ≡ n) × (n < 8)) → c ≤ 1 + left (a + 1) + (8 * k + 8 * r)
    → c ≤ 8 * (one_at a + (k + r)) + left n
few_by n a c k r (inl h) l =
    let o = first_counts a h in
    let e : left (a + 1) ≡ 7 = ap (λ (m : ℕ). left (m + 1)) h in omega arith
few_by zero a c k r (inr h) l =
    let z : a ≡ 0 = h.0 in
    let o = first_counts a z in
    let e : left (a + 1) ≡ 7 = ap (λ (m : ℕ). left (m + 1)) z in omega arith
few_by (suc n) a c k r (inr h) l =
    let s : a + 1 ≡ suc (suc n) = let z : a ≡ suc n = h.0 in omega arith in
    let e : left (a + 1) ≡ 7 - suc n = ap left s in
    let b : suc n < 8 = h.1 in omega arith

-- what a forest keeps is at most 8 for each step, and what the step before may have
few_kept : (n : ℕ) (f : Forest) → HasFewOutputs n f → outputs_told f ≤ 8 * steps f + left n
few_kept n Bare h = omega arith
few_kept n (Grow l kids rest) h =
    let o = one_out l.out in
    let a = few_kept 0 kids h.1 in
    let b = few_kept (l.at + 1) rest h.2 in
    few_by n l.at (outputs_told (Grow l kids rest)) (steps kids) (steps rest) h.0 (omega arith)

few_outs : (x : Node) → IsNarrow x → length (node_outs x) ≤ 8 * size x
few_outs (Source r) h = omega arith
few_outs (Flatten ins) h = omega arith
few_outs (Pdo c f) h =
    let a = few_kept 0 f h in
    let b = outs_length f in omega arith
few_outs (Gbk c o l k) h = omega arith
few_outs (Barrier ins o l a) h = omega arith

pub few_collections : (es : List Entry) → AllByRecursion (λ e. IsNarrow e.node) es
    → length (collections es) ≤ 8 * total_size es
few_collections [] a = omega arith
few_collections (e ∷ es) a =
    let i = few_collections es a.1 in
    let o = few_outs e.node a.0 in
    let m = length_map (place e.number) (node_outs e.node) in
    let s = length-append (map (place e.number) (node_outs e.node)) (collections es) in
    omega arith
