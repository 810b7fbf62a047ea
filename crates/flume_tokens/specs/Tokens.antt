-- The tokens of a script.
use Rattle.std.specs.Prelude.{ℕ, zero, suc, ◌+◌, ◌-◌, length, take, nat_lt, List, [], ◌∷◌, ◌++◌, not, ◌==◌, if◌then◌else◌, count_by, Result, Ok, Err}
use Rattle.std.specs.Str.{is_utf8}
use Rattle.std.specs.Str.Lossy.{utf8_valid_len}
use Rattle.flume_tokens.specs.declared.fault.Refusal.TheVariants.{TooLong, Utf8}
use Rattle.flume_tokens.specs.declared.fault.TokenFault.{TokenFault}
use Rattle.flume_tokens.specs.declared.fault.TokenFault.TheVariants.{Refused}
use Rattle.flume_tokens.specs.declared.piece.Piece.{Piece}
use Rattle.flume_tokens.specs.declared.piece.Piece.TheVariants as piece
use Rattle.flume_tokens.specs.declared.token.Token.{Token}
use Rattle.flume_tokens.specs.declared.token.TokenList.{TokenList}
use Rattle.flume_tokens.specs.Pieces.{piece_of}

abbrev pub TokensOrFault : Type 0
TokensOrFault = Result (List Token) TokenFault

-- these tokens, and then those
abbrev pub ahead : List Token → TokensOrFault → TokensOrFault
ahead ts (Ok us) = Ok (ts ++ us)
ahead ts (Err e) = Err e

-- this piece, on this line, and what is left after it: a function of its bytes yet to pass, and of
-- the line
abbrev pub and_on : ℕ → (ℕ → ℕ → TokensOrFault) → Piece → TokensOrFault
and_on line rest piece.LineEnd = rest 0 (line + 1)
and_on line rest (piece.Gap n) = rest (n - 1) line
and_on line rest (piece.Token kind n) = ahead (record { kind = kind; line = line } ∷ [])
    (rest (n - 1) line)
and_on line rest (piece.Fault kind) = Err (Refused line kind)

-- The tokens from a line on, or the first fault. The first `left` bytes belong to the piece before.
abbrev pub tokens_from : ℕ → ℕ → List ℕ → TokensOrFault
tokens_from left line [] = Ok []
tokens_from (suc left) line (b ∷ bs) = tokens_from left line bs
tokens_from zero line (b ∷ bs) = and_on line (λ left n. tokens_from left n bs) (piece_of (b ∷ bs))

-- the number of the line of the byte at a place: 1 plus the number of LF before it
abbrev pub line_at : List ℕ → ℕ → ℕ
line_at bs at = 1 + count_by (λ b. b == 10) (take at bs)

abbrev pub list_of : ℕ → TokensOrFault → Result TokenList TokenFault
list_of last_line (Ok ts) = Ok (record { items = ts; last_line = last_line })
list_of last_line (Err e) = Err e

-- the tokens and the number of the last line: that of the end
abbrev pub token_list : List ℕ → Result TokenList TokenFault
token_list bs = list_of (line_at bs (length bs)) (tokens_from 0 1 bs)

-- The tokens of a script, or its first fault: TooLong, else Utf8 at the first byte that is not part
-- of UTF-8,
-- else the first place where no token can be read.
unfoldable pub tokens_of : List ℕ → Result TokenList TokenFault
tokens_of bs =
    if nat_lt 65536 (length bs) then Err (Refused 0 TooLong)
    else if not (is_utf8 bs) then Err (Refused (line_at bs (utf8_valid_len bs)) Utf8)
    else token_list bs
