-- What counts add to sizes, owner by owner.
use Rattle.std.proofs.Common.{◌≡◌, ◌⊎◌, ℕ, ◌+◌, ◌-◌, ◌<◌, ◌^◌, ◌==◌, Bool, true, false, cond, List, [], ◌∷◌, map, Option, Some, None, ◌&&◌, refl, sym, ap, ◌∙◌, ⊎_elim, arith, length, slice_index, sum}
use Rattle.std.proofs.lemmas.List.Sums.{sum_by-cons}
use Rattle.exec_graph.specs.World.{World}
use Rattle.flume_collection.specs.Collection.{Collection}
use Rattle.exec_graph.specs.Calls.{is_own}
use Rattle.exec_graph.specs.Forests.{Label}
use Rattle.task_lists.specs.Plans.{task_counts}
use Rattle.task_lists.specs.Runs.{kept_count, own_count}
use Rattle.step_counts.specs.Owners.{owner}
use Rattle.step_counts.specs.Sizes.{HaveGrown}
use Rattle.step_counts.specs.inner.Owned.{more_at, object_owner, owned}
use Rattle.step_counts.proofs.Growing.{grown_as}

no_counts : (i : ℕ) (os : List (Option ℕ)) → owned i os [] ≡ 0
no_counts i [] = refl
no_counts i (o ∷ os) = refl

pub none_left : (i : ℕ) (os : List (Option ℕ)) (ns : List ℕ) → (os ≡ []) ⊎ (ns ≡ [])
    → owned i os ns ≡ 0
none_left i os ns h =
    ⊎_elim (λ (e : os ≡ []). ap (λ l. owned i l ns) e)
    (λ (e : ns ≡ []). ap (owned i os) e ∙ no_counts i os) h

-- a count that stops at its last value adds as much to a size that stops there
kept_then : (size n m : ℕ)
    → kept_count (size + (kept_count n + m)) ≡ kept_count (size + (n + m))
kept_then size n m = omega arith

-- below the last value a number is what it is kept as
kept_is : (n i : ℕ) → i < 2 ^ 64 - 1 → (kept_count n == i) ≡ (n == i)
kept_is n i h = grind arith

more_is : (i n : ℕ) (l : Label) → i < 2 ^ 64 - 1
    → more_at i (owner l) n ≡ cond (is_own i l) n 0
more_is i n l h = by l.last where
  by : (b : Bool) → more_at i (cond b (Some (kept_count (l.origin + l.at))) None) n
      ≡ cond (b && (l.origin + l.at == i)) n 0
  by true = ap (λ t. cond t n 0) (kept_is (l.origin + l.at) i h)
  by false = refl

owned_is : (i size : ℕ) (ls : List Label) (ns : List ℕ) → i < 2 ^ 64 - 1
    → kept_count (size + owned i (map owner ls) (map kept_count ns))
    ≡ kept_count (size + own_count i ls ns)
owned_is i size [] ns h = refl
owned_is i size (l ∷ ls) [] h = refl
owned_is i size (l ∷ ls) (n ∷ ns) h =
    ap (λ m. kept_count (size + (m + owned i (map owner ls) (map kept_count ns))))
    (more_is i (kept_count n) l h)
    ∙ by (is_own i l) (λ s. owned_is i s ls ns h) where
      by : (b : Bool)
          → ((s : ℕ) → kept_count (s + owned i (map owner ls) (map kept_count ns))
          ≡ kept_count (s + own_count i ls ns))
          → kept_count (size + (cond b (kept_count n) 0
          + owned i (map owner ls) (map kept_count ns)))
          ≡ kept_count (size + (cond b n 0 + own_count i ls ns))
      by true rest =
          let left = rest (size + kept_count n) in
          let then = kept_then size n (own_count i ls ns) in omega arith
      by false rest = let left = rest size in omega arith

-- what a run keeps of what the steps of a task have counted makes their sizes
pub steps_grown : (olds news : List ℕ) (owners : List (Option ℕ)) (counts : List ℕ)
    (ls : List Label) (ns : List ℕ) → length olds < 2 ^ 64 → owners ≡ map owner ls
    → counts ≡ map kept_count ns → HaveGrown (λ i. owned i owners counts) olds news
    → HaveGrown (λ i. own_count i ls ns) olds news
steps_grown olds news owners counts ls ns few e f h = record {
  count = h.count;
  sizes = λ i below.
      h.sizes i below
      ∙ (λ j. kept_count (slice_index olds i + owned i (e j) (f j)))
      ∙ owned_is i (slice_index olds i) ls ns (omega arith);
}

-- ---- an object

one_sum : (n : ℕ) → sum (n ∷ []) ≡ n
one_sum n = let e = sum_by-cons (λ (x : ℕ). x) n [] in omega (arith, e)

object_more : (i o n : ℕ) (last : Bool)
    → more_at i (object_owner o last) n ≡ sum (cond (last && (o == i)) n 0 ∷ [])
object_more i o n true = sym (one_sum (cond (o == i) n 0))
object_more i o n false = sym (one_sum 0)

-- its members make the size of its script node
pub object_grown : (olds news : List ℕ) (origin : ℕ) (last : Bool) (members : ℕ) (w : World)
    (object : Collection) → members ≡ length object.bag
    → HaveGrown (λ i. more_at i (object_owner origin last) members) olds news
    → HaveGrown (λ i. sum ((task_counts w i).objects origin last object)) olds news
object_grown olds news origin last members w object many h =
    grown_as (λ i. more_at i (object_owner origin last) members)
    (λ i. sum ((task_counts w i).objects origin last object)) olds news
    (λ i. object_more i origin members last
    ∙ ap (λ n. sum (cond (last && (origin == i)) n 0 ∷ [])) many) h
