-- The list of a source, by the order of the script and by its number.
use Rattle.std.proofs.Common.{◌≡◌, ℕ, zero, suc, ◌+◌, ◌<◌, ◌≤◌, Bool, true, false, List, [], ◌∷◌}
use Rattle.std.proofs.Common.{length, take, drop, get_or, refl, sym, ap, ◌∙◌, arith, Some}
use Rattle.std.proofs.Common.{slice_get, length-append}
use Rattle.std.proofs.Math.Seq.{drop-cons}
use Rattle.std.proofs.lemmas.List.{take-append-drop}
use Rattle.std.proofs.lemmas.Option.{get_or_from_slice_get, slice_get-get_or, slice_get_within}
use Rattle.script_program.specs.Script.{Script}
use Rattle.script_program.specs.Sources.{in_order, lists_in_turn, input_count, numbers_by_kind, source_kinds, source_numbers}

-- how many are kept ones
abbrev pub kept_count : List Bool → ℕ
kept_count [] = 0
kept_count (false ∷ kinds) = kept_count kinds
kept_count (true ∷ kinds) = suc (kept_count kinds)

pub counts : (kinds : List Bool) → input_count kinds + kept_count kinds ≡ length kinds
counts [] = refl
counts (false ∷ kinds) = let rest = counts kinds in omega (arith, rest)
counts (true ∷ kinds) = let rest = counts kinds in omega (arith, rest)

module _ {X : Type 0} (lists : List X) (d : X) where
  turn-at : (kinds : List Bool) (i s k : ℕ) → i + input_count kinds ≤ length lists
      → s + kept_count kinds ≤ length lists → k < length kinds
      → get_or (lists_in_turn kinds (take (input_count kinds) (drop i lists)) (drop s lists)) k d
      ≡ get_or lists (get_or (numbers_by_kind i s kinds) k 0) d
  turn-at [] i s k few more below = absurd (omega arith)
  turn-at (false ∷ kinds) i s zero few more below =
      ap (λ l. get_or (lists_in_turn (false ∷ kinds) (take (suc (input_count kinds)) l)
      (drop s lists)) 0
      d)
      (drop-cons lists i d (omega (arith, few)))
  turn-at (false ∷ kinds) i s (suc k) few more below =
      ap (λ l. get_or (lists_in_turn (false ∷ kinds) (take (suc (input_count kinds)) l)
      (drop s lists))
      (suc k) d)
      (drop-cons lists i d (omega (arith, few)))
      ∙ turn-at kinds (suc i) s k (omega (arith, few)) (omega (arith, more)) (omega (arith, below))
  turn-at (true ∷ kinds) i s zero few more below =
      ap (λ l. get_or (lists_in_turn (true ∷ kinds) (take (input_count kinds) (drop i lists)) l) 0
      d)
      (drop-cons lists s d (omega (arith, more)))
  turn-at (true ∷ kinds) i s (suc k) few more below =
      ap (λ l. get_or (lists_in_turn (true ∷ kinds) (take (input_count kinds) (drop i lists)) l)
      (suc k)
      d)
      (drop-cons lists s d (omega (arith, more)))
      ∙ turn-at kinds i (suc s) k (omega (arith, few)) (omega (arith, more)) (omega (arith, below))

  -- in order of the script, where there are as many lists as sources
  pub order-at : (script : Script) (k : ℕ) → length lists ≡ length (source_kinds script)
      → k < length (source_kinds script)
      → get_or (in_order script lists) k d ≡ get_or lists (get_or (source_numbers script) k 0) d
  order-at script k size below =
      let kinds = source_kinds script in
      let all = counts kinds in
      turn-at kinds 0 (input_count kinds) k (omega (arith, all, size)) (omega (arith, all, size))
      below

-- ---- the numbers are those below their count

number-from : (kinds : List Bool) (i s k : ℕ) → i + input_count kinds ≤ s → k < length kinds
    → get_or (numbers_by_kind i s kinds) k 0 < s + kept_count kinds
number-from [] i s k few below = absurd (omega arith)
number-from (false ∷ kinds) i s zero few below = omega (arith, few)
number-from (false ∷ kinds) i s (suc k) few below =
    number-from kinds (suc i) s k (omega (arith, few)) (omega (arith, below))
number-from (true ∷ kinds) i s zero few below = omega (arith, few)
number-from (true ∷ kinds) i s (suc k) few below =
    let rest = number-from kinds i (suc s) k (omega (arith, few)) (omega (arith, below)) in
    omega (arith, rest)

pub number-below : (script : Script) (k : ℕ) → k < length (source_kinds script)
    → get_or (source_numbers script) k 0 < length (source_kinds script)
number-below script k below =
    let kinds = source_kinds script in
    let all = counts kinds in
    let low = number-from kinds 0 (input_count kinds) k (omega arith) below in
    omega (arith, all, low)

-- ---- as many lists as sources

turn-long : {X : Type 0} (kinds : List Bool) (rows kept : List X)
    → length (lists_in_turn kinds rows kept) ≡ length rows + length kept
turn-long [] rows kept = length-append rows kept
turn-long (false ∷ kinds) [] kept = omega arith
turn-long (false ∷ kinds) (list ∷ rows) kept =
    let rest = turn-long kinds rows kept in
    omega (arith, rest)
turn-long (true ∷ kinds) rows [] = omega arith
turn-long (true ∷ kinds) rows (list ∷ kept) =
    let rest = turn-long kinds rows kept in
    omega (arith, rest)

-- in order of the script there are as many lists as before
pub order-long : {X : Type 0} (script : Script) (lists : List X)
    → length (in_order script lists) ≡ length lists
order-long script lists =
    let n = input_count (source_kinds script) in
    turn-long (source_kinds script) (take n lists) (drop n lists)
    ∙ sym (length-append (take n lists) (drop n lists))
    ∙ ap length (take-append-drop n lists)

-- a list in order of the script stands at its source's number
pub order-found : {X : Type 0} (script : Script) (lists : List X) (k : ℕ) (list : X)
    → length lists ≡ length (source_kinds script) → slice_get (in_order script lists) k ≡ Some list
    → slice_get lists (get_or (source_numbers script) k 0) ≡ Some list
order-found script lists k list many found =
    let long = order-long script lists in
    let inside = slice_get_within (in_order script lists) k list found in
    let below : k < length (source_kinds script) = omega (arith, long, inside, many) in
    let number = number-below script k below in
    slice_get-get_or lists (get_or (source_numbers script) k 0) list (omega (arith, number, many))
    ∙ ap Some
    (sym (order-at lists list script k many below)
    ∙ get_or_from_slice_get (in_order script lists) k list list found)
