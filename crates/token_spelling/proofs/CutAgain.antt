-- Tokens as they are written are cut into the same tokens.
use Rattle.std.proofs.Common.{◌≡◌, ℕ, zero, suc, ◌+◌, ◌-◌, ◌≤◌, ◌<◌, List, [], ◌∷◌, ◌++◌, true, false, ◌==◌, Some, Ok, length, length-append, refl, sym, ap, ◌∙◌, lit≤, arith}
use Rattle.std.specs.Prelude.{IsUtf8}
use Rattle.std.specs.Char.{is_ascii_digit}
use Rattle.std.specs.List.{All}
use Rattle.std.proofs.Math.Seq.{drop-append_seam}
use Rattle.std.proofs.lemmas.List.Elements.{All-nil, All-cons, All-head, All-tail, All-weaker}
use Rattle.std.proofs.lemmas.Str.{IsUtf8-append, IsUtf8-nil, IsUtf8-from_ascii}
use Rattle.std.proofs.lemmas.Str.Ascii.{IsAscii-cons, IsAscii-nil}
use Rattle.flume_tokens.specs.declared.keyword.Keyword.{Keyword}
use Rattle.flume_tokens.specs.declared.piece.Piece.TheVariants as piece
use Rattle.flume_tokens.specs.declared.token.Token.{Token}
use Rattle.flume_tokens.specs.declared.token.TokenKind.{TokenKind}
use Rattle.flume_tokens.specs.declared.token.TokenKind.TheVariants as kind
use Rattle.flume_tokens.specs.Keywords.{keyword_of, keyword_spelling}
use Rattle.flume_tokens.specs.Signs.{sign_spelling}
use Rattle.flume_tokens.specs.Pieces.{piece_of}
use Rattle.flume_tokens.specs.Tokens.{ahead, tokens_from}
use Rattle.flume_tokens.proofs.NextPieces.{next_LineEnd, next_Gap, next_Token}
use Rattle.token_spelling.specs.Spelled.{escaped, token_written, line_ends, spelled_from}
use Rattle.token_spelling.specs.Spellable.{IsWord, IsSpellable, AscendByLine}
use Rattle.token_spelling.proofs.Bytes.{IsPlain, is_word, word_plain, digit_plain, plain_utf8}
use Rattle.token_spelling.proofs.WrittenWords.{keyword_word, sign_plain, sign_bytes}
use Rattle.token_spelling.proofs.WrittenTexts.{utf8_text}
use Rattle.token_spelling.proofs.WrittenPieces.{written_piece}

line_end_piece : (bs : List ℕ) → piece.LineEnd ≡ piece_of (10 ∷ bs)
unfolding piece_of
line_end_piece bs = refl

blank_piece : (bs : List ℕ) → piece.Gap 1 ≡ piece_of (32 ∷ bs)
unfolding piece_of
blank_piece bs = refl

over_blank : (line : ℕ) (bs : List ℕ) → tokens_from 0 line (32 ∷ bs) ≡ tokens_from 0 line bs
over_blank line bs =
    next_Gap 1 line (32 ∷ bs) (omega arith) (omega arith) (blank_piece bs)

over_line_ends : (n line : ℕ) (bs : List ℕ)
    → tokens_from 0 line (line_ends n ++ bs) ≡ tokens_from 0 (line + n) bs
over_line_ends zero line bs = ap (λ m. tokens_from 0 m bs) (omega arith)
over_line_ends (suc n) line bs =
    next_LineEnd line (10 ∷ line_ends n ++ bs) (omega arith) (line_end_piece (line_ends n ++ bs))
    ∙ over_line_ends n (line + 1) bs
    ∙ ap (λ m. tokens_from 0 m bs) (omega arith)

-- a token is written with a byte at least
some_bytes : (k : TokenKind) → IsSpellable k → 1 ≤ length (token_written k)
some_bytes (kind.Name []) h = let e = h.word.letter in cc
some_bytes (kind.Name (c ∷ cs)) h = omega arith
some_bytes (kind.Number []) h = let e = h.digit in cc
some_bytes (kind.Number (c ∷ cs)) h = omega arith
some_bytes (kind.Text x) h = omega arith
some_bytes (kind.Keyword k) h = by (keyword_spelling k) (keyword_word k)
  where
    by : (w : List ℕ) → IsWord w → 1 ≤ length w
    by [] h = let e = h.letter in cc
    by (c ∷ cs) h = omega arith
some_bytes (kind.Sign s) h = sign_bytes s

module _ (read : (k : Keyword) → keyword_of (keyword_spelling k) ≡ Some k) where
  over_token : (k : TokenKind) (line : ℕ) (bs : List ℕ) → IsSpellable k
      → tokens_from 0 line (token_written k ++ 32 ∷ bs)
      ≡ ahead (record { kind = k; line = line } ∷ []) (tokens_from 0 line bs)
  over_token k line bs h =
      let some = some_bytes k h in
      next_Token k (length (token_written k)) line (token_written k ++ 32 ∷ bs)
      (omega (arith, length-append (token_written k) (32 ∷ bs))) some
      (sym (written_piece read k bs h))
      ∙ ap (λ xs. ahead (record { kind = k; line = line } ∷ []) (tokens_from 0 line xs))
      (drop-append_seam (token_written k) (32 ∷ bs))
      ∙ ap (ahead (record { kind = k; line = line } ∷ [])) (over_blank line bs)

  pub cut_from : (line : ℕ) (ts : List Token) → All (λ t. IsSpellable t.kind) ts
      → AscendByLine line ts → tokens_from 0 line (spelled_from line ts) ≡ Ok ts
  cut_from line [] each lines = refl
  cut_from line (t ∷ ts) each lines =
      let here = lines.0 in
      let bs = spelled_from t.line ts in
      let own = token_written t.kind ++ 32 ∷ bs in
      over_line_ends (t.line - line) line own
      ∙ ap (λ m. tokens_from 0 m own) (omega arith)
      ∙ over_token t.kind t.line bs (All-head (λ t. IsSpellable t.kind) t ts each)
      ∙ ap (ahead (t ∷ []))
      (cut_from t.line ts (All-tail (λ t. IsSpellable t.kind) t ts each) lines.1)

-- ---- what is written is UTF-8

pub word_plains : (w : List ℕ) → All (λ b. is_word b ≡ true) w → All IsPlain w
word_plains w h = All-weaker (λ b. is_word b ≡ true) IsPlain word_plain w h

pub digit_plains : (d : List ℕ) → All (λ b. is_ascii_digit b ≡ true) d → All IsPlain d
digit_plains d h = All-weaker (λ b. is_ascii_digit b ≡ true) IsPlain digit_plain d h

one_plain : (b : ℕ) → b < 128 → (b == 10) ≡ false → IsUtf8 (b ∷ [])
one_plain b h g =
    plain_utf8 (b ∷ []) (All-cons IsPlain b [] (record { small = h; inside = g }) (All-nil IsPlain))

quote_utf8 : IsUtf8 (34 ∷ [])
quote_utf8 = one_plain 34 (lit≤ tt) refl

blank_utf8 : IsUtf8 (32 ∷ [])
blank_utf8 = one_plain 32 (lit≤ tt) refl

written_utf8 : (k : TokenKind) → IsSpellable k → IsUtf8 (token_written k)
written_utf8 (kind.Name x) h = plain_utf8 x (word_plains x h.word.rest)
written_utf8 (kind.Keyword k) h =
    plain_utf8 (keyword_spelling k) (word_plains (keyword_spelling k) (keyword_word k).rest)
written_utf8 (kind.Number d) h = plain_utf8 d (digit_plains d h.rest)
written_utf8 (kind.Text x) h =
    IsUtf8-append (34 ∷ []) (escaped x ++ 34 ∷ []) quote_utf8
    (IsUtf8-append (escaped x) (34 ∷ []) (utf8_text x h) quote_utf8)
written_utf8 (kind.Sign s) h = plain_utf8 (sign_spelling s) (sign_plain s)

line_ends_utf8 : (n : ℕ) → IsUtf8 (line_ends n)
line_ends_utf8 zero = IsUtf8-nil
line_ends_utf8 (suc n) =
    IsUtf8-append (10 ∷ []) (line_ends n)
    (IsUtf8-from_ascii (10 ∷ []) (IsAscii-cons 10 [] (lit≤ tt) IsAscii-nil)) (line_ends_utf8 n)

pub spelled_utf8 : (line : ℕ) (ts : List Token) → All (λ t. IsSpellable t.kind) ts
    → IsUtf8 (spelled_from line ts)
spelled_utf8 line [] each = IsUtf8-nil
spelled_utf8 line (t ∷ ts) each =
    let bs = spelled_from t.line ts in
    IsUtf8-append (line_ends (t.line - line)) (token_written t.kind ++ 32 ∷ bs)
    (line_ends_utf8 (t.line - line))
    (IsUtf8-append (token_written t.kind) (32 ∷ bs)
    (written_utf8 t.kind (All-head (λ t. IsSpellable t.kind) t ts each))
    (IsUtf8-append (32 ∷ []) bs blank_utf8
    (spelled_utf8 t.line ts (All-tail (λ t. IsSpellable t.kind) t ts each))))
