-- A script within the limit is refused where it is not UTF-8, and else cut.
use Rattle.std.proofs.Common.{◌≡◌, ℕ, ◌≤◌, List, Bool, true, false, not, nat_lt, length, Result, Err, if◌then◌else◌, refl, ap, ◌∙◌}
use Rattle.std.specs.Prelude.{IsUtf8}
use Rattle.std.specs.Str.{is_utf8}
use Rattle.std.specs.Str.Lossy.{utf8_valid_len}
use Rattle.std.proofs.lemmas.Bool.{le-ltb}
use Rattle.std.proofs.lemmas.Str.{IsUtf8-from_is_utf8, is_utf8-from_IsUtf8}
use Rattle.flume_tokens.specs.declared.fault.Refusal.TheVariants.{Utf8}
use Rattle.flume_tokens.specs.declared.fault.TokenFault.{TokenFault}
use Rattle.flume_tokens.specs.declared.fault.TokenFault.TheVariants.{Refused}
use Rattle.flume_tokens.specs.declared.token.TokenList.{TokenList}
use Rattle.flume_tokens.specs.Tokens.{line_at, token_list, tokens_of}

second : (b : Bool) (x y : Result TokenList TokenFault) → b ≡ false → (if b then x else y) ≡ y
second b x y e = ap (λ t. if t then x else y) e

first : (b : Bool) (x y : Result TokenList TokenFault) → b ≡ true → (if b then x else y) ≡ x
first b x y e = ap (λ t. if t then x else y) e

false_from : (b : Bool) → (b ≡ true → ⊥) → b ≡ false
false_from true h = absurd (h refl)
false_from false h = refl

pub refused : (bs : List ℕ) → length bs ≤ 65536 → (IsUtf8 bs → ⊥)
    → tokens_of bs ≡ Err (Refused (line_at bs (utf8_valid_len bs)) Utf8)
unfolding tokens_of
refused bs h g =
    second (nat_lt 65536 (length bs)) _ _ (le-ltb 65536 (length bs) h)
    ∙ first (not (is_utf8 bs)) _ _
    (ap not (false_from (is_utf8 bs) (λ e. g (IsUtf8-from_is_utf8 bs e))))

pub cut : (bs : List ℕ) → length bs ≤ 65536 → IsUtf8 bs → tokens_of bs ≡ token_list bs
unfolding tokens_of
cut bs h g =
    second (nat_lt 65536 (length bs)) _ _ (le-ltb 65536 (length bs) h)
    ∙ second (not (is_utf8 bs)) _ _ (ap not (is_utf8-from_IsUtf8 bs g))

pub ruleset cut_rules = (refused, cut)
