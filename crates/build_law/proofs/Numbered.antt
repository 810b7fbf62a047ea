-- The nodes of a graph are numbered one after another.
use Rattle.std.proofs.Common.{◌≡◌, ℕ, zero, suc, ◌+◌, ◌<◌, ◌≤◌, Bool, true, false, cond, List, [], ◌∷◌, ◌++◌, length, get_or, Option, Some, None, refl, subst, arith, add-zero, ◌*◌, length-append}
use Rattle.std.specs.Prelude.{◌==◌}
use Rattle.std.specs.List.{AllByRecursion}
use Rattle.std.proofs.lemmas.Bool.{eq-eqb, eqb-true}
use Rattle.flume_value.proofs.EachLemmas.{Each-both, Each-weaker}
use Rattle.exec_graph.specs.Meaning.{gives, gives_at, node_at}
use Rattle.exec_graph.specs.Wellformed.{Ascends, size, total_size}
use Rattle.exec_graph.specs.declared.graph.Entry.{Entry}
use Rattle.exec_graph.specs.declared.graph.Node.{Node}
use Rattle.exec_graph.specs.declared.graph.Place.{Place}
use Rattle.graph_build.specs.Built.{Built}
use Rattle.graph_build.specs.Graphs.{number_past, giving_from, last_node, next_source, nodes_at, nodes_from}
use Rattle.graph_build.specs.Nodes.{before_last, made_nodes}
use Rattle.graph_build.specs.of_script_program.declared.made.Made.{Made}
use Rattle.graph_build.specs.of_script_program.declared.made.Made.TheVariants as made
use Rattle.graph_build.specs.of_script_program.Script.{Script}

-- numbers one after another
abbrev pub Counts : ℕ → List Entry → Type 0
Counts n [] = Unit {0}
Counts n (e ∷ es) = (e.number ≡ n) × Counts (suc n) es

counts_append : (n : ℕ) (xs ys : List Entry) → Counts n xs → Counts (n + length xs) ys
    → Counts n (xs ++ ys)
counts_append n [] ys h k = subst (λ m. Counts m ys) (add-zero n) k
counts_append n (x ∷ xs) ys h k =
    let e : n + suc (length xs) ≡ suc n + length xs = omega arith in
    (h.0, counts_append (suc n) xs ys h.1 (subst (λ m. Counts m ys) e k))

above_counts : (n : ℕ) (es : List Entry) → Counts n es
    → AllByRecursion (λ d. n ≤ d.number) es
above_counts n [] h = tt
above_counts n (e ∷ es) h = (
  omega arith,
  Each-weaker (λ (d : Entry). suc n ≤ d.number) (λ d. n ≤ d.number) (λ d k. omega arith) es
      (above_counts (suc n) es h.1),
)

pub ascends_counts : (n : ℕ) (es : List Entry) → Counts n es → Ascends es
ascends_counts n [] h = tt
ascends_counts n (e ∷ es) h = (
  Each-weaker (λ (d : Entry). suc n ≤ d.number) (λ d. e.number < d.number)
      (λ d k. let same = h.0 in omega arith) es (above_counts (suc n) es h.1),
  ascends_counts (suc n) es h.1,
)

pub below_counts : (n : ℕ) (es : List Entry) → Counts n es
    → AllByRecursion (λ e. e.number < n + length es) es
below_counts n [] h = tt
below_counts n (e ∷ es) h = (
  (let same = h.0 in omega arith),
  Each-weaker (λ (d : Entry). d.number < suc n + length es)
      (λ d. d.number < n + suc (length es)) (λ d k. omega arith) es
      (below_counts (suc n) es h.1),
)

-- ---- what nodes give

-- a node is one step, and gives its first output
abbrev pub IsPlain : Entry → Type 0
IsPlain e = (gives e.node 0 ≡ true) × (size e.node ≡ 1)

found_at : (e : Entry) (es : List Entry) (k : ℕ) (b : Bool) → (e.number == k) ≡ b
    → (b ≡ true → gives e.node 0 ≡ true)
    → (b ≡ false → gives_at (node_at es k) 0 ≡ true)
    → gives_at (cond b (Some e.node) (node_at es k)) 0 ≡ true
found_at e es k true is here later = here refl
found_at e es k false is here later = later refl

pub there_counts : (n : ℕ) (es : List Entry) → Counts n es → AllByRecursion IsPlain es → (k : ℕ)
    → n ≤ k → k < n + length es → gives_at (node_at es k) 0 ≡ true
there_counts n [] h low k above below = absurd (omega arith)
there_counts n (e ∷ es) h low k above below =
    found_at e es k (e.number == k) refl (λ is. low.0.0)
    (λ is. there_counts (suc n) es h.1 low.1 k
    (let apart : e.number ≡ k → ⊥ = λ same. (let yes_ = eq-eqb e.number k same in cc) in
    let same = h.0 in omega arith)
    (omega arith))

-- each node is at its number
same_at : (e : Entry) (b : Bool) → (e.number == e.number) ≡ b → b ≡ true → (o : Option Node)
    → cond b (Some e.node) o ≡ Some e.node
same_at e true is h o = refl
same_at e false is h o = cc

other_at : (e d : Entry) (b : Bool) → (e.number == d.number) ≡ b → (e.number ≡ d.number → ⊥)
    → (o : Option Node) → o ≡ Some d.node → cond b (Some e.node) o ≡ Some d.node
other_at e d true is differ o h = absurd (differ (eqb-true e.number d.number is))
other_at e d false is differ o h = h

pub at_counts : (n : ℕ) (es : List Entry) → Counts n es
    → AllByRecursion (λ e. node_at es e.number ≡ Some e.node) es
at_counts n [] h = tt
at_counts n (e ∷ es) h = (
  same_at e (e.number == e.number) refl (eq-eqb e.number e.number refl) (node_at es e.number),
  Each-both (λ (d : Entry). suc n ≤ d.number) (λ d. node_at es d.number ≡ Some d.node)
      (λ d. node_at (e ∷ es) d.number ≡ Some d.node)
      (λ d above at. other_at e d (e.number == d.number) refl
      (λ same. let here = h.0 in absurd (omega arith)) (node_at es d.number) at)
      es (above_counts (suc n) es h.1) (at_counts (suc n) es h.1),
)

-- ---- the nodes of collections

block_length : (script : Script) (gives : ℕ → Place) (origin source n : ℕ) (made : Made)
    → length (made_nodes script gives origin source n made) ≡ before_last made + 1
block_length script gives origin source n (made.Input file columns) = refl
block_length script gives origin source n _ = refl

block_counts : (script : Script) (gives : ℕ → Place) (origin source n : ℕ) (made : Made)
    → Counts n (made_nodes script gives origin source n made)
block_counts script gives origin source n (made.Count input) =
    (refl, (omega arith, (omega arith, tt)))
block_counts script gives origin source n (made.Join left right) =
    (refl, (omega arith, (omega arith, (omega arith, (omega arith, tt)))))
block_counts script gives origin source n (made.Top many input) =
    (refl, (omega arith, (omega arith, (omega arith, tt))))
block_counts script gives origin source n (made.CombineAll input k) =
    (refl, (omega arith, (omega arith, (omega arith, tt))))
block_counts script gives origin source n _ = (refl, tt)

part_counts : (script : Script) (gives : ℕ → Place) (source n : ℕ) (w : Option Built)
    (ys : List Entry) → Counts (number_past n w) ys
    → Counts n (nodes_at script gives source n w ++ ys)
part_counts script gives source n None ys h = h
part_counts script gives source n (Some it) ys h =
    counts_append n (made_nodes script gives it.number source n it.made) ys
    (block_counts script gives it.number source n it.made)
    (subst (λ k. Counts k ys)
    (let e : n + before_last it.made + 1
    ≡ n + length (made_nodes script gives it.number source n it.made) =
    omega (arith, block_length script gives it.number source n it.made) in e) h)

pub all_counts : (script : Script) (gives : ℕ → Place) (source n : ℕ) (ws : List (Option Built))
    → Counts n (nodes_from script gives source n ws)
all_counts script gives source n [] = tt
all_counts script gives source n (w ∷ ws) =
    part_counts script gives source n w
    (nodes_from script gives (next_source source w) (number_past n w) ws)
    (all_counts script gives (next_source source w) (number_past n w) ws)

-- ---- how many

pub one_each : (es : List Entry) → AllByRecursion IsPlain es → total_size es ≡ length es
one_each [] h = refl
one_each (e ∷ es) h =
    let one = h.0.1 in let others = one_each es h.1 in
    (let all : total_size (e ∷ es) ≡ suc (length es) = omega arith in all)

few_before : (made : Made) → before_last made ≤ 4
few_before (made.Input file columns) = omega arith
few_before _ = omega arith

pub few_nodes : (script : Script) (gives : ℕ → Place) (source n : ℕ)
    (ws : List (Option Built)) → length (nodes_from script gives source n ws) ≤ 5 * length ws
few_nodes script gives source n [] = omega arith
few_nodes script gives source n (None ∷ ws) =
    let others = few_nodes script gives source n ws in omega arith
few_nodes script gives source n (Some it ∷ ws) =
    let rest =
    nodes_from script gives (next_source source (Some it)) (number_past n (Some it)) ws in
    let others : length rest ≤ 5 * length ws =
    few_nodes script gives (next_source source (Some it)) (number_past n (Some it)) ws in
    let both = length-append (made_nodes script gives it.number source n it.made) rest in
    let own = block_length script gives it.number source n it.made in
    let few = few_before it.made in
    omega arith

-- the number behind all nodes
abbrev pub end_of : ℕ → List (Option Built) → ℕ
end_of n [] = n
end_of n (w ∷ ws) = end_of (number_past n w) ws

end_up : (n : ℕ) (ws : List (Option Built)) → n ≤ end_of n ws
end_up n [] = omega arith
end_up n (None ∷ ws) = end_up n ws
end_up n (Some it ∷ ws) = let up = end_up (n + before_last it.made + 1) ws in omega arith

pub nodes_end : (script : Script) (gives : ℕ → Place) (source n : ℕ) (ws : List (Option Built))
    → n + length (nodes_from script gives source n ws) ≡ end_of n ws
nodes_end script gives source n [] = omega arith
nodes_end script gives source n (None ∷ ws) = nodes_end script gives source n ws
nodes_end script gives source n (Some it ∷ ws) =
    let next : ℕ = n + before_last it.made + 1 in
    let rest = nodes_from script gives (next_source source (Some it)) next ws in
    let others : next + length rest ≡ end_of next ws =
    nodes_end script gives (next_source source (Some it)) next ws in
    let both = length-append (made_nodes script gives it.number source n it.made) rest in
    let own = block_length script gives it.number source n it.made in
    omega arith

last_before : (n : ℕ) (w : Option Built) (it : Built) → w ≡ Some it
    → last_node n w < number_past n w
last_before n None it h = cc
last_before n (Some own) it h = omega arith

-- the last node of what is built has a number below the end
pub last_in : (n t : ℕ) (ws : List (Option Built)) (it : Built) → get_or ws t None ≡ Some it
    → get_or (giving_from n ws) t 0 < end_of n ws
last_in n t [] it h = cc
last_in n zero (w ∷ ws) it h =
    let low = last_before n w it h in let up = end_up (number_past n w) ws in omega arith
last_in n (suc t) (w ∷ ws) it h = last_in (number_past n w) t ws it h
