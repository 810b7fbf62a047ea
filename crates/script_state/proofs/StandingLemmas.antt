-- What the names of a let stand for behind its repeat, as they are written one place after another.
use Rattle.std.proofs.Common.{◌≡◌, ℕ, zero, suc, ◌+◌, ◌-◌, ◌<◌, ◌≤◌, List, [], ◌∷◌, ◌++◌, length}
use Rattle.std.proofs.Common.{take, drop, slice_get, refl, ap, subst, ◌∙◌, arith}
use Rattle.indexmap.specs.IndexMap.{set_value_at}
use Rattle.body_check.specs.of_written_types.Named.{Named}
use Rattle.script_program.specs.declared.made.Standing.{Standing}
use Rattle.script_program.specs.Script.{given}
use Rattle.script_state.specs.inner.Standings.{standing_at, standing_of}

first-left : (numbers : List ℕ) (k : ℕ) → slice_get numbers k ≡ slice_get (drop k numbers) 0
first-left numbers zero = refl
first-left [] (suc k) = refl
first-left (number ∷ numbers) (suc k) = first-left numbers k

one-less : (numbers : List ℕ) (k : ℕ) → drop (suc k) numbers ≡ drop 1 (drop k numbers)
one-less numbers zero = refl
one-less [] (suc k) = refl
one-less (number ∷ numbers) (suc k) = one-less numbers k

-- the name at that place stands for the first of these numbers, or for none
written : (entries : Named Standing) (place : ℕ) (numbers : List ℕ) → place < length entries
    → take (suc place) (set_value_at entries place (standing_at numbers 0))
    ++ given (drop 1 numbers) (drop (suc place)
    (set_value_at entries place (standing_at numbers 0)))
    ≡ take place entries ++ given numbers (drop place entries)
written [] place numbers below = absurd (omega arith)
written (entry ∷ entries) zero [] below = refl
written (entry ∷ entries) zero (number ∷ numbers) below = refl
written (entry ∷ entries) (suc place) numbers below =
    ap (λ rest. entry ∷ rest) (written entries place numbers (omega arith))

abbrev with : Named Standing → ℕ → List ℕ → Standing → Named Standing
with entries place left standing =
    take (suc place) (set_value_at entries place standing)
    ++ given left (drop (suc place) (set_value_at entries place standing))

-- one place more is written
one-given : (entries : Named Standing) (first place : ℕ) (numbers : List ℕ)
    (standing : Standing) → first ≤ place → place < length entries
    → standing ≡ standing_at numbers (place - first)
    → take (suc place) (set_value_at entries place standing)
    ++ given (drop (suc place - first) numbers)
    (drop (suc place) (set_value_at entries place standing))
    ≡ take place entries ++ given (drop (place - first) numbers) (drop place entries)
one-given entries first place numbers standing from below is =
    let left = drop (place - first) numbers in
    let next : suc place - first ≡ suc (place - first) = omega arith in
    ap (λ n. with entries place (drop n numbers) standing) next
    ∙ ap (λ l. with entries place l standing) (one-less numbers (place - first))
    ∙ ap (with entries place (drop 1 left))
    (is ∙ ap standing_of (first-left numbers (place - first)))
    ∙ written entries place left below

pub given-step : (entries : Named Standing) (first place : ℕ) (numbers : List ℕ)
    (standing : Standing) → first ≤ place → place < length entries
    → standing ≡ standing_at numbers (place - first)
    → take (place + 1) (set_value_at entries place standing)
    ++ given (drop (place + 1 - first) numbers)
    (drop (place + 1) (set_value_at entries place standing))
    ≡ take place entries ++ given (drop (place - first) numbers) (drop place entries)
given-step entries first place numbers standing from below is =
    let next : suc place ≡ place + 1 = omega arith in
    subst (λ n. take n (set_value_at entries place standing)
    ++ given (drop (n - first) numbers) (drop n (set_value_at entries place standing))
    ≡ take place entries ++ given (drop (place - first) numbers) (drop place entries)) next
    (one-given entries first place numbers standing from below is)

none-given : (numbers : List ℕ) → given numbers [] ≡ []
none-given [] = refl
none-given (number ∷ numbers) = refl

-- all places are written
pub given-end : (entries : Named Standing) (place : ℕ) (numbers : List ℕ)
    → length entries ≤ place → take place entries ++ given numbers (drop place entries) ≡ entries
given-end [] zero numbers past = none-given numbers
given-end [] (suc place) numbers past = none-given numbers
given-end (entry ∷ entries) zero numbers past = absurd (omega arith)
given-end (entry ∷ entries) (suc place) numbers past =
    ap (λ rest. entry ∷ rest) (given-end entries place numbers (omega arith))
