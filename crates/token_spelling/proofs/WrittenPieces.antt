-- What a token as it is written, and a blank, are read as.
use Rattle.std.proofs.Common.{◌≡◌, ℕ, ◌+◌, List, [], ◌∷◌, ◌++◌, length, length-append, nat_lt, Bool, true, false, ◌==◌, Some, if◌then◌else◌, refl, ap, ◌∙◌, append_assoc, arith}
use Rattle.std.specs.Char.{is_ascii_digit, is_ascii_alphabetic}
use Rattle.std.proofs.lemmas.Bool.{le-ltb}
use Rattle.flume_tokens.specs.declared.fault.Refusal.TheVariants as refusal
use Rattle.flume_tokens.specs.declared.keyword.Keyword.{Keyword}
use Rattle.flume_tokens.specs.declared.piece.Piece.TheVariants as piece
use Rattle.flume_tokens.specs.declared.sign.Sign.{Sign}
use Rattle.flume_tokens.specs.declared.sign.Sign.TheVariants as sign
use Rattle.flume_tokens.specs.declared.token.TokenKind.{TokenKind}
use Rattle.flume_tokens.specs.declared.token.TokenKind.TheVariants as kind
use Rattle.flume_tokens.specs.Keywords.{keyword_of, keyword_spelling}
use Rattle.flume_tokens.specs.Signs.{sign_of, sign_spelling}
use Rattle.flume_tokens.specs.Texts.{closed_text}
use Rattle.flume_tokens.specs.Pieces.{piece_of, is_blank, word_kind, piece_of_word, digits_piece, quoted_piece, text_piece, sign as sign_read}
use Rattle.token_spelling.specs.Spelled.{escaped, token_written}
use Rattle.token_spelling.specs.Spellable.{IsWord, IsNumber, IsSpellable}
use Rattle.token_spelling.proofs.Branches.{first, second, apart}
use Rattle.token_spelling.proofs.Bytes.{is_word, digit_no_letter}
use Rattle.token_spelling.proofs.Runs.{run}
use Rattle.token_spelling.proofs.WrittenTexts.{closed}
use Rattle.token_spelling.proofs.WrittenWords.{keyword_word}

-- what begins with a byte that passes is no line end, no gap and no text
begins : (p : ℕ → Bool) (b : ℕ) (bs : List ℕ) → p b ≡ true → p 10 ≡ false → p 32 ≡ false
    → p 9 ≡ false → p 13 ≡ false → p 35 ≡ false → p 34 ≡ false
    → piece_of (b ∷ bs)
    ≡ (if is_ascii_alphabetic b then piece_of_word (b ∷ bs) else if is_ascii_digit b
    then digits_piece (b ∷ bs) else sign_read (b ∷ bs))
unfolding piece_of
begins p b bs h lf space tab cr comment quote =
    second (b == 10) _ _ (apart p b 10 h lf)
    ∙ second (is_blank b) _ _
    (rw (apart p b 32 h space, apart p b 9 h tab, apart p b 13 h cr))
    ∙ second (b == 35) _ _ (apart p b 35 h comment)
    ∙ second (b == 34) _ _ (apart p b 34 h quote)

word_read : (w bs : List ℕ) → IsWord w
    → piece_of_word (w ++ 32 ∷ bs) ≡ piece.Token (word_kind w (keyword_of w)) (length w)
word_read w bs h =
    ap (λ xs. if nat_lt 32 (length xs) then piece.Fault refusal.TooLong else
    piece.Token (word_kind xs (keyword_of xs)) (length xs)) (run is_word 32 w bs h.rest refl)
    ∙ second (nat_lt 32 (length w)) _ _ (le-ltb 32 (length w) h.short)

word_piece : (w bs : List ℕ) → IsWord w
    → piece_of (w ++ 32 ∷ bs) ≡ piece.Token (word_kind w (keyword_of w)) (length w)
word_piece [] bs h = let e = h.letter in cc
word_piece (c ∷ cs) bs h =
    begins is_ascii_alphabetic c (cs ++ 32 ∷ bs) h.letter refl refl refl refl refl refl
    ∙ first (is_ascii_alphabetic c) _ _ h.letter
    ∙ word_read (c ∷ cs) bs h

number_piece : (d bs : List ℕ) → IsNumber d
    → piece_of (d ++ 32 ∷ bs) ≡ piece.Token (kind.Number d) (length d)
number_piece [] bs h = let e = h.digit in cc
number_piece (c ∷ cs) bs h =
    begins is_ascii_digit c (cs ++ 32 ∷ bs) h.digit refl refl refl refl refl refl
    ∙ second (is_ascii_alphabetic c) _ _ (digit_no_letter c h.digit)
    ∙ first (is_ascii_digit c) _ _ h.digit
    ∙ ap (λ xs. piece.Token (kind.Number xs) (length xs))
    (run is_ascii_digit 32 (c ∷ cs) bs h.rest refl)

text_read : (content bs : List ℕ)
    → quoted_piece (token_written (kind.Text content) ++ 32 ∷ bs)
    ≡ piece.Token (kind.Text content) (length (escaped content) + 1 + 1)
text_read content bs =
    ap (λ xs. text_piece (closed_text false xs))
    (append_assoc (escaped content) (34 ∷ []) (32 ∷ bs))
    ∙ ap text_piece (closed content (32 ∷ bs))

text_begins : (bs : List ℕ) → piece_of (34 ∷ bs) ≡ quoted_piece (34 ∷ bs)
unfolding piece_of
text_begins bs = refl

text_piece_of : (content bs : List ℕ)
    → piece_of (token_written (kind.Text content) ++ 32 ∷ bs)
    ≡ piece.Token (kind.Text content) (length (token_written (kind.Text content)))
text_piece_of content bs =
    text_begins ((escaped content ++ 34 ∷ []) ++ 32 ∷ bs)
    ∙ text_read content bs
    ∙ ap (piece.Token (kind.Text content))
    (omega (arith, length-append (escaped content) (34 ∷ [])))

sign_piece_of : (s : Sign) (bs : List ℕ)
    → piece_of (sign_spelling s ++ 32 ∷ bs) ≡ piece.Token (kind.Sign s) (length (sign_spelling s))
unfolding piece_of sign_of
sign_piece_of sign.Equal bs = refl
sign_piece_of sign.NotEqual bs = refl
sign_piece_of sign.AtMost bs = refl
sign_piece_of sign.AtLeast bs = refl
sign_piece_of sign.Arrow bs = refl
sign_piece_of sign.OpenBrace bs = refl
sign_piece_of sign.CloseBrace bs = refl
sign_piece_of sign.Open bs = refl
sign_piece_of sign.Close bs = refl
sign_piece_of sign.OpenBracket bs = refl
sign_piece_of sign.CloseBracket bs = refl
sign_piece_of sign.Less bs = refl
sign_piece_of sign.Greater bs = refl
sign_piece_of sign.Comma bs = refl
sign_piece_of sign.Colon bs = refl
sign_piece_of sign.Dot bs = refl
sign_piece_of sign.Assign bs = refl
sign_piece_of sign.Plus bs = refl
sign_piece_of sign.Minus bs = refl
sign_piece_of sign.Times bs = refl
sign_piece_of sign.Divide bs = refl
sign_piece_of sign.Remainder bs = refl

module _ (read : (k : Keyword) → keyword_of (keyword_spelling k) ≡ Some k) where
  pub written_piece : (k : TokenKind) (bs : List ℕ) → IsSpellable k
      → piece_of (token_written k ++ 32 ∷ bs) ≡ piece.Token k (length (token_written k))
  written_piece (kind.Name x) bs h =
      word_piece x bs h.word
      ∙ ap (λ o. piece.Token (word_kind x o) (length x)) h.free
  written_piece (kind.Keyword k) bs h =
      word_piece (keyword_spelling k) bs (keyword_word k)
      ∙ ap (λ o. piece.Token (word_kind (keyword_spelling k) o)
      (length (keyword_spelling k))) (read k)
  written_piece (kind.Number d) bs h = number_piece d bs h
  written_piece (kind.Text x) bs h = text_piece_of x bs
  written_piece (kind.Sign s) bs h = sign_piece_of s bs
