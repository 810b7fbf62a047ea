-- What is read at so many levels, by what is read at one less.
use Rattle.std.proofs.Common.{◌≡◌, ℕ, zero, suc, ◌-◌, ◌≤◌, List, None, refl, sym, ap, arith}
use Rattle.value_reading.specs.inner.Reading.{bind, behind, tag_at, value_at}

less_one : (n : ℕ) → suc n - 1 ≡ n
less_one n = omega arith

pub value_step : (n : ℕ) (bytes : List ℕ) → 1 ≤ n
    → value_at n bytes ≡ bind (tag_at bytes) (behind (value_at (n - 1)))
unfolding value_at
value_step zero bytes h = absurd (omega arith)
value_step (suc n) bytes h =
    ap (λ m. bind (tag_at bytes) (behind (value_at m))) (sym (less_one n))

pub value_none : (n : ℕ) (bytes : List ℕ) → n ≡ 0 → value_at n bytes ≡ None
unfolding value_at
value_none zero bytes h = refl
value_none (suc n) bytes h = absurd (omega arith)
