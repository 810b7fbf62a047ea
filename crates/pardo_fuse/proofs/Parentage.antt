-- The parent of a step is the step whose output it read.
use Rattle.std.proofs.Common.{◌≡◌, ℕ, ◌+◌, ◌<◌, ◌≤◌, Bool, true, false, cond, List, [], ◌∷◌, length, Option, Some, None, refl, sym, ap, ◌∙◌, arith, zero, suc}
use Rattle.std.specs.List.{AllByRecursion}
use Rattle.flume_value.proofs.EachLemmas.{Each-weaker}
use Rattle.exec_graph.specs.Forests.{Forest, Bare}
use Rattle.exec_graph.specs.Meaning.{place, node_at, IsRankedBy, IsSound}
use Rattle.exec_graph.specs.declared.graph.Place.{Place}
use Rattle.exec_graph.specs.declared.graph.Entry.{Entry}
use Rattle.exec_graph.proofs.Solving.{place_of, lower_most, short_ranked}
use Rattle.pardo_fuse.specs.Readers.{Cut, is_inner, readers}
use Rattle.pardo_fuse.specs.Fusing.{forest_over, hanging, hung, trees_in_turn, kids_on, over_out, step_in, trees_over}
use Rattle.pardo_fuse.proofs.Levels.{readers_above}

turn_alike : (t u : ℕ → Forest → Forest) (ns : List ℕ)
    → AllByRecursion (λ n. (rest : Forest) → t n rest ≡ u n rest) ns
    → trees_in_turn t ns ≡ trees_in_turn u ns
turn_alike t u [] a = refl
turn_alike t u (n ∷ ns) a = ap (t n) (turn_alike t u ns a.1) ∙ a.0 (trees_in_turn u ns)

-- the trees of the Pdos ns, where over says what stands over their outputs
abbrev turns_with : Cut → (ℕ → Option ℕ → Forest) → List ℕ → Forest
turns_with b over ns =
    trees_in_turn (λ n rest. hung b n (over n) (step_in (node_at b.graph.nodes n)) rest) ns

hung_alike : (b : Cut) (n : ℕ) (over under : Option ℕ → Forest)
    → ((o : Option ℕ) → over o ≡ under o) → (f rest : Forest)
    → hung b n over f rest ≡ hung b n under f rest
hung_alike b n over under e f rest =
    let same : over ≡ under = λ i. λ o. e o i in
    ap (λ (t : Option ℕ → Forest). hung b n t f rest) same

turns_alike : (b : Cut) (over under : ℕ → Option ℕ → Forest) (ns : List ℕ)
    → AllByRecursion (λ n. (o : Option ℕ) → over n o ≡ under n o) ns
    → turns_with b over ns ≡ turns_with b under ns
turns_alike b over under ns a =
    turn_alike (λ n rest. hung b n (over n) (step_in (node_at b.graph.nodes n)) rest)
    (λ n rest. hung b n (under n) (step_in (node_at b.graph.nodes n)) rest) ns
    (Each-weaker (λ n. (o : Option ℕ) → over n o ≡ under n o)
    (λ n. (rest : Forest) → hung b n (over n) (step_in (node_at b.graph.nodes n)) rest
    ≡ hung b n (under n) (step_in (node_at b.graph.nodes n)) rest)
    (λ n e rest. hung_alike b n (over n) (under n) e (step_in (node_at b.graph.nodes n)) rest)
    ns a)

hanging_none : (b : Cut) (k : ℕ) → hanging b k [] ≡ Bare
unfolding hanging
hanging_none b zero = refl
hanging_none b (suc k) = refl

hanging_turn : (b : Cut) (k : ℕ) (ns : List ℕ)
    → hanging b (suc k) ns ≡ turns_with b (λ n o. hanging b k (kids_on b n o)) ns
unfolding hanging
hanging_turn b k ns = refl

-- ---- more levels change nothing

kids_high : (b : Cut) (r : ℕ → ℕ) (n : ℕ) (o : Option ℕ) → IsRankedBy r b.graph.nodes
    → AllByRecursion (λ m. r n < r m) (kids_on b n o)
kids_high b r n None a = tt
kids_high b r n (Some j) a = by (is_inner b (place n j))
  where
    by : (t : Bool)
        → AllByRecursion (λ m. r n < r m) (cond t (readers b.graph.nodes (place n j)) [])
    by true = readers_above r (place n j) b.graph.nodes a
    by false = tt

-- what is enough for kids is enough for those that they hang on
kids_enough : (b : Cut) (r : ℕ → ℕ) (top : ℕ) → IsRankedBy r b.graph.nodes → (k j : ℕ)
    → ((ns : List ℕ) → AllByRecursion (λ n. top < r n + k) ns
    → AllByRecursion (λ n. top < r n + j) ns → hanging b k ns ≡ hanging b j ns)
    → (ms : List ℕ) → AllByRecursion (λ n. top < r n + suc k) ms
    → AllByRecursion (λ n. top < r n + suc j) ms
    → AllByRecursion (λ n. (o : Option ℕ)
    → hanging b k (kids_on b n o) ≡ hanging b j (kids_on b n o)) ms
kids_enough b r top ra k j f [] x y = tt
kids_enough b r top ra k j f (m ∷ ms) x y = (
  λ o. f (kids_on b m o)
      (Each-weaker (λ q. r m < r q) (λ q. top < r q + k)
      (λ q l. let h = x.0 in omega arith) (kids_on b m o) (kids_high b r m o ra))
      (Each-weaker (λ q. r m < r q) (λ q. top < r q + j)
      (λ q l. let h = y.0 in omega arith) (kids_on b m o) (kids_high b r m o ra)),
  kids_enough b r top ra k j f ms x.1 y.1,
)

enough : (b : Cut) (r : ℕ → ℕ) (top : ℕ) → IsRankedBy r b.graph.nodes → ((n : ℕ) → r n ≤ top)
    → (k j : ℕ) (ns : List ℕ) → AllByRecursion (λ n. top < r n + k) ns
    → AllByRecursion (λ n. top < r n + j) ns → hanging b k ns ≡ hanging b j ns
enough b r top ra most k j [] a e = hanging_none b k ∙ sym (hanging_none b j)
enough b r top ra most zero j (n ∷ ns) a e =
    let m = most n in let h = a.0 in absurd (omega arith)
enough b r top ra most (suc k) zero (n ∷ ns) a e =
    let m = most n in let h = e.0 in absurd (omega arith)
enough b r top ra most (suc k) (suc j) (n ∷ ns) a e =
    let all : List ℕ = n ∷ ns in
    hanging_turn b k all
    ∙ turns_alike b (λ n o. hanging b k (kids_on b n o)) (λ n o. hanging b j (kids_on b n o)) all
    (kids_enough b r top ra k j (λ ms x y. enough b r top ra most k j ms x y) all a e)
    ∙ sym (hanging_turn b j all)

over_is : (b : Cut) (n : ℕ) (o : Option ℕ)
    → hanging b (length b.graph.nodes) (kids_on b n o) ≡ over_out b n o
over_is b n None = hanging_none b (length b.graph.nodes)
over_is b n (Some j) = by (is_inner b (place n j))
  where
    by : (t : Bool)
        → hanging b (length b.graph.nodes) (cond t (readers b.graph.nodes (place n j)) [])
        ≡ cond t (forest_over b (place n j)) Bare
    by true = refl
    by false = hanging_none b (length b.graph.nodes)

all_over : (b : Cut) (ns : List ℕ) → AllByRecursion (λ n. (o : Option ℕ)
    → hanging b (length b.graph.nodes) (kids_on b n o) ≡ over_out b n o) ns
all_over b [] = tt
all_over b (n ∷ ns) = (over_is b n, all_over b ns)

pub forest_is : (b : Cut) (c : Place) → IsSound b.graph → forest_over b c ≡ trees_over b c
forest_is b c ok =
    let es : List Entry = b.graph.nodes in
    let ns : List ℕ = readers es c in
    let r : ℕ → ℕ = place_of ok.ranked.0 es in
    let ra : IsRankedBy r es = short_ranked ok.ranked.0 es es ok.there ok.ranked.1 in
    let above : AllByRecursion (λ n. r c.node < r n) ns = readers_above r c es ra in
    enough b r (length es) ra (λ n. lower_most ok.ranked.0 es (ok.ranked.0 n)) (length es)
    (suc (length es)) ns
    (Each-weaker (λ n. r c.node < r n) (λ n. length es < r n + length es) (λ n h. omega arith) ns
    above)
    (Each-weaker (λ n. r c.node < r n) (λ n. length es < r n + suc (length es))
    (λ n h. omega arith) ns above)
    ∙ hanging_turn b (length es) ns
    ∙ turns_alike b (λ n o. hanging b (length es) (kids_on b n o)) (over_out b) ns (all_over b ns)
