-- As many levels as there are nodes are enough for every forest.
use Rattle.std.proofs.Common.{◌≡◌, ℕ, ◌+◌, ◌<◌, ◌≤◌, Bool, true, false, cond, List, [], ◌∷◌, length, refl, sym, subst, arith, zero, suc}
use Rattle.std.proofs.lemmas.Bool.{false≢true}
use Rattle.std.specs.List.{AllByRecursion}
use Rattle.exec_graph.specs.Forests.{Forest}
use Rattle.exec_graph.specs.declared.graph.Place.{Place}
use Rattle.exec_graph.specs.declared.graph.Node.{Node}
use Rattle.exec_graph.specs.declared.graph.Node.TheVariants.{Pdo}
use Rattle.exec_graph.specs.declared.graph.Entry.{Entry}
use Rattle.exec_graph.specs.Meaning.{place, reads, IsRankedBy}
use Rattle.flume_value.proofs.EachLemmas.{Each-weaker}
use Rattle.exec_graph.proofs.Solving.{place_of, lower_most, short_ranked}
use Rattle.pardo_fuse.specs.Readers.{Cut, calls_on, readers, is_inner}
use Rattle.pardo_fuse.specs.SingleFusing.{CanFuse, Grown, kids_of, planted, step_at, trees}
use Rattle.pardo_fuse.proofs.Places.{same_is}
use Rattle.pardo_fuse.proofs.Once.{AllGrown}

pub grown_planted : (b : Cut) (t : ℕ → Forest) (ns : List ℕ)
    → AllByRecursion (λ n. Grown b (kids_of b n) (t n)) ns → Grown b ns (planted (step_at b) t ns)
grown_planted b t [] a = tt
grown_planted b t (n ∷ ns) a = (refl, a.0, grown_planted b t ns a.1)

-- What reads c is above c.
above_by : (r : ℕ → ℕ) (c : Place) (n : ℕ) (x : Node)
    → AllByRecursion (λ (d : Place). r d.node < r n) (reads x) → calls_on c x ≡ true
    → r c.node < r n
above_by r c n (Pdo d f) a h = subst (λ (p : Place). r p.node < r n) (sym (same_is c d h)) a.0
above_by r c n _ a h = absurd (false≢true h)

pub readers_above : (r : ℕ → ℕ) (c : Place) (es : List Entry) → IsRankedBy r es
    → AllByRecursion (λ n. r c.node < r n) (readers es c)
readers_above r c [] a = tt
readers_above r c (e ∷ es) a = by (readers_above r c es a.1) (calls_on c e.node) refl
  where
    by : AllByRecursion (λ n. r c.node < r n) (readers es c) → (t : Bool) → calls_on c e.node ≡ t
        → AllByRecursion (λ n. r c.node < r n) (cond t (e.number ∷ readers es c) (readers es c))
    by i true h = (above_by r c e.number e.node a.0 h, i)
    by i false h = i

pub kids_above : (b : Cut) (r : ℕ → ℕ) (n : ℕ) → IsRankedBy r b.graph.nodes
    → AllByRecursion (λ m. r n < r m) (kids_of b n)
kids_above b r n a = by (is_inner b (place n 0))
  where
    by : (t : Bool) → AllByRecursion (λ m. r n < r m) (cond t (readers b.graph.nodes (place n 0))
        [])
    by true = readers_above r (place n 0) b.graph.nodes a
    by false = tt

pub grown_trees : (b : Cut) (r : ℕ → ℕ) (top : ℕ) → IsRankedBy r b.graph.nodes → ((n : ℕ)
    → r n ≤ top) → (k : ℕ) (ns : List ℕ) → AllByRecursion (λ n. top < r n + k) ns
    → Grown b ns (trees b k ns)
unfolding trees
grown_trees b r top ra most zero [] a = tt
grown_trees b r top ra most zero (n ∷ ns) a = let m = most n in let h = a.0 in absurd (omega arith)
grown_trees b r top ra most (suc k) ns a =
    grown_planted b (λ n. trees b k (kids_of b n)) ns (Each-weaker (λ n. top < r n + suc k) (λ n.
    Grown b (kids_of b n) (trees b k (kids_of b n))) (λ n h. grown_trees b r top ra most k
    (kids_of b n) (Each-weaker (λ m. r n < r m) (λ m. top < r m + k) (λ m i. omega arith)
    (kids_of b n) (kids_above b r n ra))) ns a)

pub all_grown : (b : Cut) → CanFuse b → AllGrown b
all_grown b can c =
    let es : List Entry = b.graph.nodes in
    let r : ℕ → ℕ = place_of can.ok.ranked.0 es in
    let ra : IsRankedBy r es = short_ranked can.ok.ranked.0 es es can.ok.there can.ok.ranked.1 in
    grown_trees b r (length es) ra (λ n. lower_most can.ok.ranked.0 es (can.ok.ranked.0 n)) (length
    es) (readers es c) (Each-weaker (λ n. r c.node < r n) (λ n. length es < r n + length es) (λ
    n h. omega arith) (readers es c) (readers_above r c es ra))
