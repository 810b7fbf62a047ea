-- The numbers of a made input: how many there are, and how great they and their sum are.
use Rattle.std.proofs.Common.{◌≡◌, ◌∙◌, ◌≤◌, ◌<◌, ◌+◌, ◌*◌, ℕ, zero, suc, List, [], ◌∷◌, ◌++◌, append-nil, append_assoc, length, map, refl, sym, ap, arith}
use Rattle.std.specs.List.{flat_map, AllByRecursion as Each}
use Rattle.std.specs.Prelude.{sum_by}
use Rattle.std.proofs.lemmas.List.{map-append}
use Rattle.std.proofs.lemmas.List.Concat.{flat_map-append}
use Rattle.std.proofs.lemmas.List.Sums.{sum_by-append, sum_by-cons}
use Rattle.flume_value.specs.declared.value.Value.{Value}
use Rattle.made_rows.specs.Rows.{number_line, made_numbers, most_made, numbers_from, made_row, total_of_numbers}

-- ---- one more at the end

numbers-push : (first count : ℕ)
    → numbers_from first (suc count) ≡ numbers_from first count ++ (first + count) ∷ []
numbers-push first zero =
    let same : first ≡ first + 0 = omega arith in ap (λ n. n ∷ []) same
numbers-push first (suc count) =
    let same : suc first + count ≡ first + suc count = omega arith in
    ap (λ ns. first ∷ ns) (numbers-push (suc first) count
    ∙ ap (λ n. numbers_from (suc first) count ++ n ∷ []) same)

-- the same of rows, of lines and of the sum, behind so many turns
module _ (start turn number : ℕ) (is : number ≡ start + turn + 1) where
  next : numbers_from (suc start) (turn + 1) ≡ numbers_from (suc start) turn ++ number ∷ []
  next =
      let more : turn + 1 ≡ suc turn = omega arith in
      let same : suc start + turn ≡ number = omega (arith, is) in
      ap (numbers_from (suc start)) more ∙ (numbers-push (suc start) turn
      ∙ ap (λ n. numbers_from (suc start) turn ++ n ∷ []) same)

  pub row_more : (rows : List Value) → rows ≡ map made_row (numbers_from (suc start) turn)
      → rows ++ made_row number ∷ [] ≡ map made_row (numbers_from (suc start) (turn + 1))
  row_more rows so_far =
      ap (λ r. r ++ made_row number ∷ []) so_far
      ∙ sym (ap (map made_row) next ∙ map-append made_row (numbers_from (suc start) turn)
      (number ∷ []))

  pub line_more : (front text : List ℕ)
      → text ≡ front ++ flat_map number_line (numbers_from (suc start) turn)
      → text ++ number_line number
      ≡ front ++ flat_map number_line (numbers_from (suc start) (turn + 1))
  line_more front text so_far =
      let numbers = numbers_from (suc start) turn in
      let lines : flat_map number_line (numbers_from (suc start) (turn + 1))
      ≡ flat_map number_line numbers ++ number_line number
      = ap (flat_map number_line) next ∙ (flat_map-append number_line numbers (number ∷ [])
      ∙ ap (λ l. flat_map number_line numbers ++ l) (append-nil (number_line number))) in
      ap (λ t. t ++ number_line number) so_far
      ∙ (append_assoc front (flat_map number_line numbers) (number_line number)
      ∙ ap (λ l. front ++ l) (sym lines))

  pub sum_more : (total : ℕ) → total ≡ total_of_numbers (numbers_from (suc start) turn)
      → total + number ≡ total_of_numbers (numbers_from (suc start) (turn + 1))
  sum_more total so_far =
      let numbers = numbers_from (suc start) turn in
      let one : sum_by (λ x. x) (number ∷ []) ≡ number = omega arith in
      ap (λ t. t + number) so_far
      ∙ sym (ap total_of_numbers next ∙ (sum_by-append (λ x. x) numbers (number ∷ [])
      ∙ ap (λ n. total_of_numbers numbers + n) one))

-- ---- how great they are

-- each is above the first, and below the end
pub numbers_below : (bound first count : ℕ) → first + count ≤ bound
    → Each (λ n. n < bound) (numbers_from first count)
numbers_below bound first zero within = tt
numbers_below bound first (suc count) within =
    (omega arith, numbers_below bound (suc first) count (omega arith))

-- so many numbers below a million of millions come to little
pub total_below : (first count : ℕ) → first + count ≤ 2000001
    → total_of_numbers (numbers_from first count) ≤ count * 2000001
total_below first zero within = omega arith
total_below first (suc count) within =
    let rest = total_below (suc first) count (omega arith) in
    let cons = sum_by-cons (λ (x : ℕ). x) first (numbers_from (suc first) count) in
    omega (arith, rest, cons)
