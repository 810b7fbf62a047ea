-- What stands for bytes as text is UTF-8.
use Rattle.std.proofs.Common.{◌≡◌, ℕ, zero, suc, ◌+◌, ◌-◌, ◌<◌, ◌≤◌, Bool, true, false, cond, eqb, List, [], ◌∷◌, ◌++◌, length, take, drop, slice_index, nat_lt, unwrap_or, Option, Some, None, IsUtf8, refl, sym, ◌∙◌, subst, arith, length-drop, take_all}
use Rattle.std.proofs.lemmas.Bool.{eq-eqb, eqb-true, false≢true}
use Rattle.std.proofs.lemmas.Str.{IsUtf8-append, IsUtf8-from_is_utf8, IsUtf8-nil, utf8_valid_len_le}
use Rattle.std.specs.Int.{is_in_range}
use Rattle.std.specs.Str.Lossy.{after_first_chunk, error_len_after_one, error_len_after_two, error_len_of_some, replacement_bytes, second_byte_max, second_byte_min, utf8_error_len, utf8_invalid_len, utf8_lossy, utf8_lossy_within, utf8_valid_len, valid_len_up_to}
use Rattle.std.specs.Str.{chars, is_utf8}
use lib.Utf8.{encode}

-- the longest front that is UTF-8 is so
front_utf8 : (bs : List ℕ) (n : ℕ) → IsUtf8 (take (valid_len_up_to bs n) bs)
front_utf8 bs zero = IsUtf8-nil
front_utf8 bs (suc n) = by (is_utf8 (take (suc n) bs)) refl (front_utf8 bs n)
  where
    by : (b : Bool) → is_utf8 (take (suc n) bs) ≡ b → IsUtf8 (take (valid_len_up_to bs n) bs)
        → IsUtf8 (take (cond b (suc n) (valid_len_up_to bs n)) bs)
    by true i f = IsUtf8-from_is_utf8 (take (suc n) bs) i
    by false i f = f

front : (bs : List ℕ) → IsUtf8 (take (utf8_valid_len bs) bs)
unfolding utf8_valid_len
front bs = front_utf8 bs (length bs)

-- what is not UTF-8 has a byte
either : {A : Type 0} (P : A → Type 0) (b : Bool) (x y : A) → P x → P y → P (cond b x y)
either P true x y p q = p
either P false x y p q = q

invalid_some : (bs : List ℕ) → 0 < length bs → 0 < utf8_invalid_len bs
unfolding utf8_error_len
invalid_some bs some =
    let P : Option ℕ → Type 0 = λ o. 0 < unwrap_or o (length bs) in
    let one : P (Some 1) = omega arith in
    let two : P (Some 2) = omega arith in
    let three : P (Some 3) = omega arith in
    let x : ℕ = slice_index bs 0 in
    let third : Bool = is_in_range 0x80 0xBF (slice_index bs 2) in
    let after_two : P (error_len_after_two bs) =
    either P (nat_lt (length bs) 3) None
    (cond third (cond (nat_lt (length bs) 4) None (Some 3)) (Some 2)) some
    (either P third (cond (nat_lt (length bs) 4) None (Some 3)) (Some 2)
    (either P (nat_lt (length bs) 4) None (Some 3) some three) two) in
    let second : Bool =
    is_in_range (second_byte_min x) (second_byte_max x) (slice_index bs 1) in
    let after_one : P (error_len_after_one bs) =
    either P (nat_lt (length bs) 2) None (cond second (error_len_after_two bs) (Some 1)) some
    (either P second (error_len_after_two bs) (Some 1) after_two one) in
    either P (eqb (length bs) 0) None (error_len_of_some bs) some
    (either P (is_in_range 0xC2 0xF4 x) (error_len_after_one bs) (Some 1) after_one one)

shorter : (bs : List ℕ) → (utf8_valid_len bs ≡ length bs → ⊥)
    → length (after_first_chunk bs) < length bs
shorter bs faulty =
    let n : ℕ = utf8_valid_len bs in
    let low : n ≤ length bs = utf8_valid_len_le bs in
    let left : length (drop n bs) ≡ length bs - n = length-drop n bs in
    let some : 0 < utf8_invalid_len (drop n bs) = invalid_some (drop n bs) (omega arith) in
    let rest = length-drop (n + utf8_invalid_len (drop n bs)) bs in
    omega arith

-- the bytes of U+FFFD
replaced_known : is_utf8 replacement_bytes ≡ true
unfolding is_utf8 chars encode
replaced_known = refl

replaced : IsUtf8 replacement_bytes
replaced = IsUtf8-from_is_utf8 replacement_bytes replaced_known

within : (k : ℕ) (bs : List ℕ) → length bs ≤ k → IsUtf8 (utf8_lossy_within k bs)
within zero [] h = IsUtf8-nil
within zero (b ∷ bs) h = absurd (omega arith)
within (suc k) bs h =
    by (eqb (utf8_valid_len bs) (length bs)) refl (λ l. within k (after_first_chunk bs) l)
  where
    by : (b : Bool) → eqb (utf8_valid_len bs) (length bs) ≡ b
        → (length (after_first_chunk bs) ≤ k → IsUtf8 (utf8_lossy_within k (after_first_chunk bs)))
        → IsUtf8 (cond b bs (take (utf8_valid_len bs) bs
        ++ (replacement_bytes ++ utf8_lossy_within k (after_first_chunk bs))))
    by true i f =
        let whole : utf8_valid_len bs ≡ length bs = eqb-true (utf8_valid_len bs) (length bs) i in
        subst IsUtf8 (take_all (utf8_valid_len bs) bs (omega arith)) (front bs)
    by false i f =
        let less : length (after_first_chunk bs) < length bs =
        shorter bs (λ e. false≢true (sym i ∙ eq-eqb (utf8_valid_len bs) (length bs) e)) in
        IsUtf8-append (take (utf8_valid_len bs) bs)
        (replacement_bytes ++ utf8_lossy_within k (after_first_chunk bs)) (front bs)
        (IsUtf8-append replacement_bytes (utf8_lossy_within k (after_first_chunk bs)) replaced
        (f (omega arith)))

pub lossy_utf8 : (bs : List ℕ) → IsUtf8 (utf8_lossy bs)
unfolding utf8_lossy
lossy_utf8 bs = within (length bs) bs (omega arith)
