-- An `emit` whose number is one of so many outputs' emits to that one, of however many there are.
use Rattle.std.proofs.Common.{◌≡◌, ℕ, ◌-◌, ◌≤◌, ◌<◌, ℤ, pos, Bool, true, false, ◌&&◌, nat_le}
use Rattle.std.proofs.Common.{Option, Some, None, option_and_then, List, [], ◌∷◌, ◌++◌, length}
use Rattle.std.proofs.Common.{slice_set, if◌then◌else◌, refl, sym, ap, arith}
use Rattle.std.specs.Option.{option_map}
use Rattle.std.proofs.lemmas.Bool.{leb-true}
use Rattle.std.proofs.lemmas.Bool.Decides.{nat_tests}
use Rattle.std.proofs.lemmas.Option.{slice_get_past}
use Rattle.flume_value.specs.declared.value.Value.{Value}
use Rattle.flume_value.proofs.BoolLemmas.{both_true}
use Rattle.int_text.specs.Ints.{int_of_text}
use Rattle.dofn_eval.specs.Outcome.{Outcome, Gives, Stuck, with_part}
use Rattle.dofn_eval.specs.Run.{Emissions, emitted_to}
use Rattle.expression_check.specs.Numbers.{within}
use Rattle.body_check.specs.Outputs.{output_written}
use Rattle.body_check.specs.Call.{emitted_behind}

-- counted from 0
abbrev from_zero : Option ℕ → Option ℕ
from_zero = option_map (λ n. n - 1)

module _ (v : Value) (out : Emissions) where
  abbrev at : Option ℕ → Outcome Emissions
  at o = with_part o (λ output. emitted_to output v out)

  past : (n : ℕ) → length out ≤ n → emitted_to n v out ≡ Stuck
  past n far =
      ap (λ o. with_part o (λ vs. Gives (slice_set out n (vs ++ v ∷ []))))
      (slice_get_past out n far)

  by_tests : (m n : ℕ) (b c : Bool) → (b ≡ true → 1 ≤ m) → (c ≡ false → 1 ≤ m → length out < m)
      → from_zero (if b then Some m else None) ≡ Some n
      → at (from_zero (if c then Some m else None)) ≡ emitted_to n v out
  by_tests m n true true low far is = ap at is
  by_tests m n true false low far is =
      let same : m - 1 ≡ n = cc in
      sym (past n (omega (arith, same, far refl (low refl))))
  by_tests m n false c low far is = cc

  at_least : (outputs m : ℕ) → (nat_le 1 m && nat_le m outputs) ≡ true → 1 ≤ m
  at_least outputs m test = leb-true 1 m (both_true (nat_le 1 m) (nat_le m outputs) test).0

  beyond : (m : ℕ) → (nat_le 1 m && nat_le m (length out)) ≡ false → 1 ≤ m → length out < m
  beyond m test low = grind (arith, nat_tests, test, low)

  by_int : (outputs n : ℕ) (o : Option ℤ)
      → from_zero (option_and_then (within 1 outputs) o) ≡ Some n
      → at (from_zero (option_and_then (within 1 (length out)) o)) ≡ emitted_to n v out
  by_int outputs n (Some (pos m)) is =
      by_tests m n (nat_le 1 m && nat_le m outputs) (nat_le 1 m && nat_le m (length out))
      (at_least outputs m) (beyond m) is
  by_int outputs n _ is = cc

  pub emitted_as : (outputs : ℕ) (to : Option (List ℕ)) (n : ℕ) → output_written outputs to ≡ Some n
      → emitted_behind to v out ≡ emitted_to n v out
  emitted_as outputs None n is = ap at is
  emitted_as outputs (Some digits) n is = by_int outputs n (int_of_text digits) is
