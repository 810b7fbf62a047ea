-- What a script begins with: a token, bytes that part tokens, or a fault.
use Rattle.std.specs.Prelude.{ℕ, ◌+◌, ◌≤◌, length, nat_lt, List, drop, Bool, not, ◌==◌, ◌||◌, if◌then◌else◌, slice_index, take_while, Option, Some, None}
use Rattle.std.specs.Prelude.{false}
use Rattle.std.specs.Char.{is_ascii_digit, is_ascii_alphabetic, is_ascii_alphanumeric}
use Rattle.flume_tokens.specs.declared.fault.Refusal.TheVariants as refusal
use Rattle.flume_tokens.specs.declared.keyword.Keyword.{Keyword}
use Rattle.flume_tokens.specs.declared.sign.Sign.{Sign}
use Rattle.flume_tokens.specs.declared.token.TokenKind.{TokenKind}
use Rattle.flume_tokens.specs.declared.token.TokenKind.TheVariants as kind
use Rattle.flume_tokens.specs.declared.piece.Class.{Class}
use Rattle.flume_tokens.specs.declared.piece.Class.TheVariants as class
use Rattle.flume_tokens.specs.declared.piece.Piece.{Piece}
use Rattle.flume_tokens.specs.declared.piece.Piece.TheVariants as piece
use Rattle.flume_tokens.specs.Keywords.{keyword_of}
use Rattle.flume_tokens.specs.Signs.{sign_of, sign_spelling}
use Rattle.flume_tokens.specs.Texts.{Closed, closed_text}

-- space, tab and CR
abbrev pub is_blank : ℕ → Bool
is_blank b = b == 32 || b == 9 || b == 13

-- a word has letters, digits and `_`; a comment goes up to the end of its line
abbrev pub is_of_class : Class → ℕ → Bool
is_of_class class.Word b = is_ascii_alphanumeric b || b == 95
is_of_class class.Digit b = is_ascii_digit b
is_of_class class.Comment b = not (b == 10)

-- a reserved word is a keyword, any other a name
abbrev pub word_kind : List ℕ → Option Keyword → TokenKind
word_kind sign_spelling (Some keyword) = kind.Keyword keyword
word_kind sign_spelling None = kind.Name sign_spelling

-- the longest word, of at most 32 bytes
abbrev pub piece_of_word : List ℕ → Piece
piece_of_word bs =
    let sign_spelling = take_while (is_of_class class.Word) bs in
    if nat_lt 32 (length sign_spelling) then piece.Fault refusal.TooLong else piece.Token
    (word_kind sign_spelling (keyword_of sign_spelling)) (length sign_spelling)

-- all digits that follow
abbrev pub digits_piece : List ℕ → Piece
digits_piece bs = let digits = take_while (is_of_class class.Digit) bs in
    piece.Token (kind.Number digits) (length digits)

abbrev pub text_piece : Closed → Piece
text_piece (Some (content, taken)) = piece.Token (kind.Text content) (taken + 1)
text_piece None = piece.Fault refusal.Token

-- a text that is closed on its line
abbrev pub quoted_piece : List ℕ → Piece
quoted_piece bs = text_piece (closed_text false (drop 1 bs))

abbrev pub sign_piece : Option Sign → Piece
sign_piece (Some s) = piece.Token (kind.Sign s) (length (sign_spelling s))
sign_piece None = piece.Fault refusal.Token

-- the longest sign
abbrev pub sign : List ℕ → Piece
sign bs = sign_piece (sign_of bs)

-- a piece takes at least a byte, and no more than there are
abbrev pub TakesWithin : Piece → ℕ → Type 0
TakesWithin piece.LineEnd n = Unit {0}
TakesWithin (piece.Gap k) n = (1 ≤ k) × (k ≤ n)
TakesWithin (piece.Token kind k) n = (1 ≤ k) × (k ≤ n)
TakesWithin (piece.Fault fault) n = Unit {0}

-- what bytes begin with, which are at least one
unfoldable pub piece_of : List ℕ → Piece
piece_of bs =
    let b = slice_index bs 0 in
    if b == 10 then piece.LineEnd
    else if is_blank b then piece.Gap 1
    else if b == 35 then piece.Gap (length (take_while (is_of_class class.Comment) bs))
    else if b == 34 then quoted_piece bs
    else if is_ascii_alphabetic b then piece_of_word bs
    else if is_ascii_digit b then digits_piece bs
    else sign bs
