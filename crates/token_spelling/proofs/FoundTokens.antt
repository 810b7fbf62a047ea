-- The tokens of a script can be spelled.
use Rattle.std.proofs.Common.{◌≡◌, ℕ, zero, suc, ◌+◌, ◌-◌, ◌≤◌, length, nat_lt, List, [], ◌∷◌, Bool, true, false, not, ◌==◌, Option, Some, None, Ok, Err, if◌then◌else◌, refl, ap, ◌∙◌, subst, arith}
use Rattle.std.specs.Prelude.{slice_index, take_while}
use Rattle.std.specs.Char.{is_ascii_digit, is_ascii_alphabetic}
use Rattle.std.specs.Str.{is_utf8}
use Rattle.std.specs.Str.Lossy.{utf8_valid_len}
use Rattle.std.specs.List.{All}
use Rattle.std.proofs.lemmas.Bool.{ltb-false}
use Rattle.std.proofs.lemmas.List.Elements.{All-nil, All-cons}
use Rattle.flume_tokens.specs.declared.fault.Refusal.TheVariants as refusal
use Rattle.flume_tokens.specs.declared.fault.TokenFault.TheVariants.{Refused}
use Rattle.flume_tokens.specs.declared.keyword.Keyword.{Keyword}
use Rattle.flume_tokens.specs.declared.piece.Piece.{Piece}
use Rattle.flume_tokens.specs.declared.piece.Piece.TheVariants as piece
use Rattle.flume_tokens.specs.declared.sign.Sign.{Sign}
use Rattle.flume_tokens.specs.declared.token.Token.{Token}
use Rattle.flume_tokens.specs.declared.token.TokenKind.{TokenKind}
use Rattle.flume_tokens.specs.declared.token.TokenKind.TheVariants as kind
use Rattle.flume_tokens.specs.declared.token.TokenList.{TokenList}
use Rattle.flume_tokens.specs.Keywords.{keyword_of}
use Rattle.flume_tokens.specs.Signs.{sign_of}
use Rattle.flume_tokens.specs.Texts.{Closed, closed_text}
use Rattle.flume_tokens.specs.Pieces.{piece_of, is_blank, word_kind, piece_of_word, digits_piece, quoted_piece, text_piece, sign as sign_read, sign_piece}
use Rattle.flume_tokens.specs.Tokens.{TokensOrFault, ahead, and_on, tokens_from, line_at, list_of, token_list, tokens_of}
use Rattle.flume_tokens.specs.Utf8.{IsUtf8Text}
use Rattle.flume_tokens.proofs.Utf8Texts.{texts}
use Rattle.token_spelling.specs.Spellable.{IsName, IsNumber, IsSpellable, AscendByLine, AreSpellable}
use Rattle.token_spelling.proofs.Bytes.{is_word, letter_word}
use Rattle.token_spelling.proofs.Runs.{passes, begins}

-- what can be spelled, but for the bytes of a text
abbrev IsFormed : TokenKind → Type 0
IsFormed (kind.Name name) = IsName name
IsFormed (kind.Number digits) = IsNumber digits
IsFormed _ = Unit {0}

-- a piece that is a token is such
abbrev IsFormedPiece : Piece → Type 0
IsFormedPiece (piece.Token k n) = IsFormed k
IsFormedPiece _ = Unit {0}

word_formed : (b : ℕ) (bs : List ℕ) → is_ascii_alphabetic b ≡ true
    → IsFormedPiece (piece_of_word (b ∷ bs))
word_formed b bs h = by (nat_lt 32 (length w)) refl (keyword_of w) refl
  where
    w : List ℕ
    w = take_while is_word (b ∷ bs)

    first_of : slice_index w 0 ≡ b
    first_of = ap (λ xs. slice_index xs 0) (begins is_word b bs (letter_word b h))

    by : (t : Bool) → nat_lt 32 (length w) ≡ t → (o : Option Keyword) → keyword_of w ≡ o
        → IsFormedPiece (if t then piece.Fault refusal.TooLong else
        piece.Token (word_kind w o) (length w))
    by true e o g = tt
    by false e (Some k) g = tt
    by false e None g = record {
      word = record {
        letter = ap is_ascii_alphabetic first_of ∙ h;
        rest = passes is_word (b ∷ bs);
        short = ltb-false 32 (length w) e;
      };
      free = g;
    }

number_formed : (b : ℕ) (bs : List ℕ) → is_ascii_digit b ≡ true
    → IsFormedPiece (digits_piece (b ∷ bs))
number_formed b bs h = record {
  digit =
      ap (λ xs. is_ascii_digit (slice_index xs 0)) (begins is_ascii_digit b bs h) ∙ h;
  rest = passes is_ascii_digit (b ∷ bs);
}

text_formed : (r : Closed) → IsFormedPiece (text_piece r)
text_formed None = tt
text_formed (Some (content, n)) = tt

sign_formed : (o : Option Sign) → IsFormedPiece (sign_piece o)
sign_formed None = tt
sign_formed (Some s) = tt

piece_formed : (b : ℕ) (bs : List ℕ) → IsFormedPiece (piece_of (b ∷ bs))
unfolding piece_of
piece_formed b bs =
    by (b == 10) (is_blank b) (b == 35) (b == 34) (is_ascii_alphabetic b) refl (is_ascii_digit b)
    refl
  where
    by : (lf blank comment quote a : Bool) → is_ascii_alphabetic b ≡ a → (d : Bool)
        → is_ascii_digit b ≡ d
        → IsFormedPiece (if lf then piece.LineEnd else if blank then piece.Gap 1 else if comment
        then piece.Gap (length (take_while (λ b. not (b == 10)) (b ∷ bs))) else if quote then
        quoted_piece (b ∷ bs) else if a then piece_of_word (b ∷ bs) else if d then digits_piece
        (b ∷ bs) else
        sign_read (b ∷ bs))
    by true blank comment quote a e d f = tt
    by false true comment quote a e d f = tt
    by false false true quote a e d f = tt
    by false false false true a e d f = text_formed (closed_text false bs)
    by false false false false true e d f = word_formed b bs e
    by false false false false false e true f = number_formed b bs f
    by false false false false false e false f = sign_formed (sign_of (b ∷ bs))

-- tokens that are formed, and whose lines ascend from this
record AreFormed (line : ℕ) (ts : List Token) : Type 0 where
  pub each : All (λ t. IsFormed t.kind) ts
  pub lines : AscendByLine line ts

sooner : (line next : ℕ) (ts : List Token) → line ≤ next → AscendByLine next ts
    → AscendByLine line ts
sooner line next [] h lines = tt
sooner line next (t ∷ ts) h lines = let here = lines.0 in (omega arith, lines.1)

put : (line : ℕ) (k : TokenKind) (r : TokensOrFault) (ts : List Token) → IsFormed k
    → ((us : List Token) → r ≡ Ok us → AreFormed line us)
    → ahead (record { kind = k; line = line } ∷ []) r ≡ Ok ts → AreFormed line ts
put line k (Err f) ts s h e = cc
put line k (Ok us) ts s h e =
    let t : Token = record { kind = k; line = line } in
    let same : t ∷ us ≡ ts = cc in
    let rest = h us refl in
    subst (λ (vs : List Token). AreFormed line vs) same
    (record {
      each = All-cons (λ t. IsFormed t.kind) t us s rest.each;
      lines = (omega arith, rest.lines);
    })

formed_from : (left line : ℕ) (bs : List ℕ) (ts : List Token) → tokens_from left line bs ≡ Ok ts
    → AreFormed line ts
formed_from left line [] ts e =
    let same : [] ≡ ts = cc in
    subst (λ (vs : List Token). AreFormed line vs) same
    (record { each = All-nil (λ t. IsFormed t.kind); lines = tt })
formed_from (suc left) line (b ∷ bs) ts e = formed_from left line bs ts e
formed_from zero line (b ∷ bs) ts e =
    by (piece_of (b ∷ bs)) (piece_formed b bs) (λ n m us q. formed_from n m bs us q) e
  where
    by : (p : Piece) → IsFormedPiece p
        → ((n m : ℕ) (us : List Token) → tokens_from n m bs ≡ Ok us → AreFormed m us)
        → and_on line (λ n m. tokens_from n m bs) p ≡ Ok ts → AreFormed line ts
    by piece.LineEnd p rest e =
        let r = rest 0 (line + 1) ts e in
        record { each = r.each; lines = sooner line (line + 1) ts (omega arith) r.lines }
    by (piece.Gap n) p rest e = rest (n - 1) line ts e
    by (piece.Fault f) p rest e = cc
    by (piece.Token k n) p rest e =
        put line k (tokens_from (n - 1) line bs) ts p (λ us q. rest (n - 1) line us q) e

both : (k : TokenKind) → IsFormed k → IsUtf8Text k → IsSpellable k
both (kind.Name x) f u = f
both (kind.Keyword k) f u = tt
both (kind.Number d) f u = f
both (kind.Text x) f u = u
both (kind.Sign s) f u = tt

formed : (bs : List ℕ) (list : TokenList) → tokens_of bs ≡ Ok list → AreFormed 1 list.items
unfolding tokens_of
formed bs list e = by (nat_lt 65536 (length bs)) (is_utf8 bs) e
  where
    of_list : (n : ℕ) (r : TokensOrFault) → ((us : List Token) → r ≡ Ok us → AreFormed 1 us)
        → list_of n r ≡ Ok list → AreFormed 1 list.items
    of_list n (Err f) h e = cc
    of_list n (Ok us) h e =
        let same : us ≡ list.items = cc in
        subst (λ (vs : List Token). AreFormed 1 vs) same (h us refl)

    by : (t u : Bool)
        → (if t then Err (Refused 0 refusal.TooLong) else if not u then Err
        (Refused (line_at bs (utf8_valid_len bs)) refusal.Utf8) else token_list bs) ≡ Ok list
        → AreFormed 1 list.items
    by true u e = cc
    by false false e = cc
    by false true e =
        of_list (line_at bs (length bs)) (tokens_from 0 1 bs)
        (λ us r. formed_from 0 1 bs us r) e

-- the tokens of any script can be spelled
pub spellable : (bs : List ℕ) (list : TokenList) → tokens_of bs ≡ Ok list
    → AreSpellable list.items
spellable bs list e =
    let f = formed bs list e in
    record {
      each = λ k d lt. both _ (f.each k d lt) (texts bs list e k d lt);
      lines = f.lines;
    }
