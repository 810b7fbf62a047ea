-- For which collections the numbers of a repeat's body stand in a turn.
use Rattle.std.proofs.Common.{◌≡◌, ℕ, zero, suc, ◌+◌, ◌-◌, ◌<◌, ◌≤◌, Bool, true, false, nat_lt}
use Rattle.std.proofs.Common.{List, [], ◌∷◌, ◌++◌, length, Some, if◌then◌else◌, slice_get}
use Rattle.std.proofs.Common.{slice_index_or, refl, arith, ◌∙◌}
use Rattle.std.specs.List.{range_with_len}
use Rattle.std.proofs.lemmas.Bool.{lt-ltb, ltb-true}
use Rattle.std.proofs.lemmas.List.{get_or-append-add}
use Rattle.std.proofs.lemmas.List.FromFn.{get_or-range_with_len}
use Rattle.script_rules.specs.Repeats.{Repeat, seen, stands_for}

chosen-first : (b : Bool) (x y : ℕ) → b ≡ true → (if b then x else y) ≡ x
chosen-first true x y is = refl
chosen-first false x y is = cc

chosen-second : (b : Bool) (x y : ℕ) → b ≡ false → (if b then x else y) ≡ y
chosen-second true x y is = cc
chosen-second false x y is = refl

not-below : (a b : ℕ) (t : Bool) → nat_lt a b ≡ t → b ≤ a → t ≡ false
not-below a b true is above = let below = ltb-true a b is in absurd (omega arith)
not-below a b false is above = refl

module _ (outside : ℕ) (all : List ℕ) where
  pub stands_outside : (number : ℕ) → number < outside → stands_for outside all number ≡ number
  stands_outside number below =
      chosen-first (nat_lt number outside) number (slice_index_or all (number - outside) 0)
      (lt-ltb number outside below)

  pub stands_inside : (number : ℕ) → outside ≤ number
      → stands_for outside all number ≡ slice_index_or all (number - outside) 0
  stands_inside number above =
      chosen-second (nat_lt number outside) number (slice_index_or all (number - outside) 0)
      (not-below number outside (nat_lt number outside) refl above)

in-front : (entering more : List ℕ) (place : ℕ) → place < length entering
    → slice_get entering place ≡ Some (slice_index_or (entering ++ more) place 0)
in-front [] more place below = absurd (omega arith)
in-front (number ∷ numbers) more zero below = refl
in-front (number ∷ numbers) more (suc place) below = in-front numbers more place (omega arith)

module _ (repeat : Repeat) (entering : List ℕ) (start : ℕ) where
  -- behind those outside a turn sees what enters it
  pub seen_entering : (place : ℕ) → place < length entering
      → slice_get entering place ≡ Some (slice_index_or (seen repeat entering start) place 0)
  seen_entering place below =
      in-front entering (range_with_len start (length repeat.body)) place below

  -- and behind that its own lets
  pub seen_let : (place : ℕ) → place < length repeat.body
      → slice_index_or (seen repeat entering start) (length entering + place) 0 ≡ start + place
  seen_let place below =
      get_or-append-add entering (range_with_len start (length repeat.body)) place 0
      ∙ get_or-range_with_len start (length repeat.body) place 0 below
