-- The new number of an output is its place among those that are kept.
use Rattle.std.proofs.Common.{◌≡◌, ℕ, suc, ◌+◌, Bool, true, false, cond, eqb, ◌||◌, List, [], ◌∷◌, ◌++◌, length, Option, Some, None, refl, sym, ap, ◌∙◌, arith}
use Rattle.std.proofs.lemmas.Bool.{false≢true}
use Rattle.std.specs.List.{list_any}
use Rattle.graph_laws.specs.of_exec_graph.Forests.{Forest, Bare, Grow, next_after, after_out}
use Rattle.graph_laws.specs.of_exec_graph.Meaning.{has_out, is_out}
use Rattle.graph_laws.specs.Kids.{number_after}
use Rattle.graph_walks.specs.Outs.{out_list, outs, place_of}
use Rattle.graph_walks.proofs.NumberLemmas.{after_count}

abbrev pub holds : List ℕ → ℕ → Bool
holds ks j = list_any (λ k. eqb k j) ks

-- a place among the first, or behind them
place_append : (xs ys : List ℕ) (j : ℕ)
    → place_of (xs ++ ys) j ≡ cond (holds xs j) (place_of xs j) (length xs + place_of ys j)
place_append [] ys j = omega arith
place_append (x ∷ xs) ys j =
    by (eqb x j) (holds xs j) (place_append xs ys j)
  where
    by : (b d : Bool)
        → place_of (xs ++ ys) j ≡ cond d (place_of xs j) (length xs + place_of ys j)
        → cond b 0 (suc (place_of (xs ++ ys) j))
        ≡ cond (b || d) (cond b 0 (suc (place_of xs j))) (suc (length xs) + place_of ys j)
    by true d e = refl
    by false true e = ap suc e
    by false false e = omega arith

pub holds_append : (xs ys : List ℕ) (j : ℕ) → holds (xs ++ ys) j ≡ (holds xs j || holds ys j)
holds_append [] ys j = refl
holds_append (x ∷ xs) ys j = by (eqb x j) (holds_append xs ys j)
  where
    by : (b : Bool) → holds (xs ++ ys) j ≡ (holds xs j || holds ys j)
        → (b || holds (xs ++ ys) j) ≡ ((b || holds xs j) || holds ys j)
    by true e = refl
    by false e = e

pub holds_out : (o : Option ℕ) (j : ℕ) → holds (out_list o) j ≡ is_out o j
holds_out None j = refl
holds_out (Some i) j = by (eqb i j)
  where
    by : (b : Bool) → (b || false) ≡ b
    by true = refl
    by false = refl

pub holds_outs : (f : Forest) (j : ℕ) → holds (outs f) j ≡ has_out j f
holds_outs Bare j = refl
holds_outs (Grow l kids rest) j =
    holds_append (out_list l.out) (outs kids ++ outs rest) j
    ∙ ap (λ b. b || holds (outs kids ++ outs rest) j) (holds_out l.out j)
    ∙ ap (λ b. is_out l.out j || b) (holds_append (outs kids) (outs rest) j
    ∙ ap (λ b. b || holds (outs rest) j) (holds_outs kids j)
    ∙ ap (λ b. has_out j kids || b) (holds_outs rest j))

place_out : (o : Option ℕ) (j : ℕ) → is_out o j ≡ true → place_of (out_list o) j ≡ 0
place_out None j h = absurd (false≢true h)
place_out (Some i) j h = rw h refl

pub number_place : (n : ℕ) (f : Forest) (j : ℕ) → number_after n f j ≡ n + place_of (outs f) j
number_place n Bare j = omega arith
number_place n (Grow l kids rest) j =
    by (is_out l.out j) (has_out j kids) refl (number_place (after_out n l.out) kids j)
    (number_place (next_after (after_out n l.out) kids) rest j)
    ∙ ap (λ m. n + m) (sym (place_append (out_list l.out) (outs kids ++ outs rest) j
    ∙ ap (λ b. cond b (place_of (out_list l.out) j)
    (length (out_list l.out) + place_of (outs kids ++ outs rest) j)) (holds_out l.out j)
    ∙ ap (λ m. cond (is_out l.out j) (place_of (out_list l.out) j) (length (out_list l.out) + m))
    (place_append (outs kids) (outs rest) j
    ∙ ap (λ b. cond b (place_of (outs kids) j) (length (outs kids) + place_of (outs rest) j))
    (holds_outs kids j))))
  where
    first : after_out n l.out ≡ n + length (out_list l.out)
    first = elim l.out as (λ o. after_out n o ≡ n + length (out_list o))
        [ None ↦ omega arith | Some i ↦ refl ]

    by : (a b : Bool) → is_out l.out j ≡ a
        → number_after (after_out n l.out) kids j ≡ after_out n l.out + place_of (outs kids) j
        → number_after (next_after (after_out n l.out) kids) rest j
        ≡ next_after (after_out n l.out) kids + place_of (outs rest) j
        → cond a n (cond b (number_after (after_out n l.out) kids j)
        (number_after (next_after (after_out n l.out) kids) rest j))
        ≡ n + cond a (place_of (out_list l.out) j) (length (out_list l.out)
        + cond b (place_of (outs kids) j) (length (outs kids) + place_of (outs rest) j))
    by true b i k r = let e = place_out l.out j i in omega arith
    by false true i k r = let e = first in omega arith
    by false false i k r =
        let e = first in let g = after_count (after_out n l.out) kids in omega arith
