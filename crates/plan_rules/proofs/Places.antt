-- A collection that is there is among a graph's collections, and each number of a node among its
-- numbers.
use Rattle.std.proofs.Common.{◌≡◌, ℕ, ◌-◌, ◌<◌, ◌≤◌, Bool, true, false, cond, eqb, ◌||◌, List, [], ◌∷◌, ◌++◌, map, length, Option, Some, None, suc, refl, sym, ap, ◌∙◌, subst, arith, inl, inr, length-append}
use Rattle.std.proofs.lemmas.Bool.{eqb-true, false≢true}
use Rattle.std.specs.List.{AllByRecursion}
use Rattle.flume_value.proofs.EachLemmas.{Each-weaker}
use Rattle.graph_laws.specs.of_exec_graph.Forests.{Forest, Bare, Grow}
use Rattle.graph_laws.specs.of_exec_graph.Meaning.{IsThere, gives, has_out, is_out, node_at, place}
use Rattle.graph_laws.specs.of_exec_graph.Wellformed.{Ascends}
use Rattle.graph_laws.specs.of_exec_graph.declared.graph.Place.{Place}
use Rattle.graph_laws.specs.of_exec_graph.declared.graph.Node.{Node}
use Rattle.graph_laws.specs.of_exec_graph.declared.graph.Node.TheVariants.{Source, Flatten, Pdo, Gbk, Barrier}
use Rattle.graph_laws.specs.of_exec_graph.declared.graph.Entry.{Entry}
use Rattle.graph_laws.proofs.of_exec_graph.Bools.{or_else}
use Rattle.graph_laws.proofs.of_exec_graph.Solving.{there_found}
use Rattle.plan_making.specs.of_exec_plan.Channels.{kept_out, outs_of}
use Rattle.plan_rules.proofs.Collections.{collections, node_outs}
use Rattle.plan_rules.proofs.Members.{in_left, has_map, in_right, weight}
use Rattle.plan_rules.proofs.Widths.{length_map}
use Rattle.plan_laws.specs.Operations.{IsIn}

abbrev pub numbers : List Entry → List ℕ
numbers es = map (λ (e : Entry). e.number) es

-- ---- the number of a node that is there

number_by : (e : Entry) (es : List Entry) (n : ℕ) (x : Node) (b : Bool) → eqb e.number n ≡ b
    → cond b (Some e.node) (node_at es n) ≡ Some x
    → (node_at es n ≡ Some x → IsIn n (numbers es)) → IsIn n (numbers (e ∷ es))
number_by e es n x true i h f = inl (eqb-true e.number n i)
number_by e es n x false i h f = inr (f h)

pub number_has : (es : List Entry) (n : ℕ) (x : Node) → node_at es n ≡ Some x
    → IsIn n (numbers es)
number_has [] n x h = let bad : ⊥ = cc in absurd bad
number_has (e ∷ es) n x h =
    number_by e es n x (eqb e.number n) refl h (number_has es n x)

-- ascending numbers below a number are not more than it
ascends_short : (es : List Entry) (low high : ℕ) → Ascends es
    → AllByRecursion (λ e. low ≤ e.number) es → AllByRecursion (λ e. e.number < high) es
    → length es ≤ high - low
ascends_short [] low high a b c = omega arith
ascends_short (e ∷ es) low high a b c =
    let l : low ≤ e.number = b.0 in
    let h : e.number < high = c.0 in
    let i = ascends_short es (suc e.number) high a.1
    (Each-weaker (λ (d : Entry). e.number < d.number) (λ d. suc e.number ≤ d.number)
    (λ d q. omega arith) es a.0) c.1 in
    omega arith

all_nought : (es : List Entry) → AllByRecursion (λ e. 0 ≤ e.number) es
all_nought [] = tt
all_nought (e ∷ es) = (omega arith, all_nought es)

pub nodes_short : (es : List Entry) (high : ℕ) → Ascends es
    → AllByRecursion (λ e. e.number < high) es → length es ≤ high
nodes_short es high a b = let i = ascends_short es 0 high a (all_nought es) b in omega arith

-- ---- collections

kept_has : (j : ℕ) (o : Option ℕ) → is_out o j ≡ true → IsIn j (kept_out o)
kept_has j None h = absurd (false≢true h)
kept_has j (Some i) h = inl (eqb-true i j h)

out_has : (j : ℕ) (f : Forest) → has_out j f ≡ true → IsIn j (outs_of f)
out_has j Bare h = absurd (false≢true h)
out_has j (Grow l kids rest) h = by (out_has j kids) (out_has j rest)
  where
    by : (has_out j kids ≡ true → IsIn j (outs_of kids))
        → (has_out j rest ≡ true → IsIn j (outs_of rest))
        → IsIn j (kept_out l.out ++ (outs_of kids ++ outs_of rest))
    by f g =
        or_else (IsIn j (kept_out l.out ++ (outs_of kids ++ outs_of rest))) (is_out l.out j)
        (has_out j kids || has_out j rest) h
        (λ i. in_left j (kept_out l.out) (outs_of kids ++ outs_of rest) (kept_has j l.out i))
        (λ i. in_right j (kept_out l.out) (outs_of kids ++ outs_of rest)
        (or_else (IsIn j (outs_of kids ++ outs_of rest)) (has_out j kids) (has_out j rest) i
        (λ k. in_left j (outs_of kids) (outs_of rest) (f k))
        (λ k. in_right j (outs_of kids) (outs_of rest) (g k))))

nought : (j : ℕ) → eqb j 0 ≡ true → 0 ≡ j
nought j h = sym (eqb-true j 0 h)

pub given_has : (x : Node) (j : ℕ) → gives x j ≡ true → IsIn j (node_outs x)
given_has (Source r) j h = inl (nought j h)
given_has (Flatten ins) j h = inl (nought j h)
given_has (Pdo c f) j h = out_has j f h
given_has (Gbk c o l k) j h = inl (nought j h)
given_has (Barrier ins o l a) j h = inl (nought j h)

abbrev pub entry_places : Entry → List Place
entry_places e = map (place e.number) (node_outs e.node)

place_by : (e : Entry) (es : List Entry) (c : Place) (x : Node) (b : Bool)
    → eqb e.number c.node ≡ b → cond b (Some e.node) (node_at es c.node) ≡ Some x
    → gives x c.out ≡ true → (node_at es c.node ≡ Some x → IsIn c (collections es))
    → IsIn c (collections (e ∷ es))
place_by e es c x true i h g f =
    let n : e.number ≡ c.node = eqb-true e.number c.node i in
    let s : e.node ≡ x = cc in
    let t : gives e.node c.out ≡ true = ap (λ (y : Node). gives y c.out) s ∙ g in
    let p : IsIn (place e.number c.out) (entry_places e) =
    has_map (place e.number) c.out (node_outs e.node) (given_has e.node c.out t) in
    let q : place e.number c.out ≡ c = ap (λ (k : ℕ). place k c.out) n in
    in_left c (entry_places e) (collections es)
    (subst (λ (d : Place). IsIn d (entry_places e)) q p)
place_by e es c x false i h g f = in_right c (entry_places e) (collections es) (f h)

place_has : (es : List Entry) (c : Place) (x : Node) → node_at es c.node ≡ Some x
    → gives x c.out ≡ true → IsIn c (collections es)
place_has [] c x h g = let bad : ⊥ = cc in absurd bad
place_has (e ∷ es) c x h g =
    place_by e es c x (eqb e.number c.node) refl h g (λ i. place_has es c x i g)

pub there_has : (es : List Entry) (c : Place) → IsThere es c → IsIn c (collections es)
there_has es c h = let f = there_found es c h in place_has es c f.0 f.1 f.2

-- ---- how many outputs the node of a number has

abbrev pub outs_count : Option Node → ℕ
outs_count None = 0
outs_count (Some x) = length (node_outs x)

-- all outputs are the collections
pub numbers_weigh : (all es : List Entry)
    → AllByRecursion (λ e. node_at all e.number ≡ Some e.node) es
    → weight (λ n. outs_count (node_at all n)) (numbers es) ≡ length (collections es)
numbers_weigh all [] a = refl
numbers_weigh all (e ∷ es) a =
    let i = numbers_weigh all es a.1 in
    let h : outs_count (node_at all e.number) ≡ length (node_outs e.node) = ap outs_count a.0 in
    let m = length_map (place e.number) (node_outs e.node) in
    let s = length-append (entry_places e) (collections es) in
    omega arith
