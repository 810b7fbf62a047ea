-- The keywords and the signs as they are written.
use Rattle.std.proofs.Common.{◌≡◌, ℕ, ◌≤◌, List, length, nat_lt, nat_le, Bool, true, false, not, ◌==◌, ◌&&◌, refl}
use Rattle.std.specs.Prelude.{slice_index}
use Rattle.std.specs.Char.{is_ascii_alphabetic}
use Rattle.std.specs.List.{All, list_all}
use Rattle.std.proofs.lemmas.Bool.{and_parts, leb-true, ltb-true}
use Rattle.std.proofs.lemmas.List.Elements.{All-weaker}
use Rattle.std.proofs.lemmas.List.Sums.{AllPass-from_list_all}
use Rattle.flume_tokens.specs.declared.keyword.Keyword.{Keyword}
use Rattle.flume_tokens.specs.declared.keyword.Keyword.TheVariants as keyword
use Rattle.flume_tokens.specs.declared.sign.Sign.{Sign}
use Rattle.flume_tokens.specs.declared.sign.Sign.TheVariants as sign
use Rattle.flume_tokens.specs.Keywords.{keyword_spelling}
use Rattle.flume_tokens.specs.Signs.{sign_spelling}
use Rattle.token_spelling.specs.Spellable.{IsWord}
use Rattle.token_spelling.proofs.Bytes.{is_word, IsPlain}

-- the test of a word
abbrev passes : List ℕ → Bool
passes w = is_ascii_alphabetic (slice_index w 0) && (list_all is_word w && nat_le (length w) 32)

keyword_passes : (k : Keyword) → passes (keyword_spelling k) ≡ true
keyword_passes keyword.Type = refl
keyword_passes _ = refl

word_from : (w : List ℕ) → passes w ≡ true → IsWord w
word_from w e =
    let p = and_parts _ _ e in
    let q = and_parts _ _ p.1 in
    record {
      letter = p.0;
      rest = AllPass-from_list_all is_word w q.0;
      short = leb-true _ _ q.1;
    }

-- a keyword is a word
pub keyword_word : (k : Keyword) → IsWord (keyword_spelling k)
keyword_word k = word_from (keyword_spelling k) (keyword_passes k)

-- the test of a byte of a sign
abbrev is_plain : ℕ → Bool
is_plain b = nat_lt b 128 && not (b == 10)

plain_from : (b : ℕ) → is_plain b ≡ true → IsPlain b
plain_from b e =
    let p = and_parts _ _ e in
    record { small = ltb-true _ _ p.0; inside = inside (b == 10) p.1 }
  where
    inside : (t : Bool) → not t ≡ true → t ≡ false
    inside true q = cc
    inside false q = refl

sign_passes : (s : Sign)
    → (nat_le 1 (length (sign_spelling s)) && list_all is_plain (sign_spelling s)) ≡ true
sign_passes sign.Equal = refl
sign_passes _ = refl

-- a sign ends no line
pub sign_plain : (s : Sign) → All IsPlain (sign_spelling s)
sign_plain s =
    All-weaker (λ b. is_plain b ≡ true) IsPlain plain_from (sign_spelling s)
    (AllPass-from_list_all is_plain (sign_spelling s) (and_parts _ _ (sign_passes s)).1)

pub sign_bytes : (s : Sign) → 1 ≤ length (sign_spelling s)
sign_bytes s = leb-true _ _ (and_parts _ _ (sign_passes s)).0
