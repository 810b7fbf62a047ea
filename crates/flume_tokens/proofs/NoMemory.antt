-- The tokens of a script are never out of memory.
use Rattle.std.proofs.Common.{◌≡◌, ℕ, zero, suc, ◌+◌, ◌-◌, length, nat_lt, List, [], ◌∷◌, Bool, true, false, not, Result, Ok, Err, if◌then◌else◌, ap}
use Rattle.std.specs.Str.{is_utf8}
use Rattle.std.specs.Str.Lossy.{utf8_valid_len}
use Rattle.flume_tokens.specs.declared.fault.Refusal.TheVariants.{TooLong, Utf8}
use Rattle.flume_tokens.specs.declared.fault.TokenFault.TheVariants.{Refused, Memory}
use Rattle.flume_tokens.specs.declared.token.Token.{Token}
use Rattle.flume_tokens.specs.declared.piece.Piece.{Piece}
use Rattle.flume_tokens.specs.declared.piece.Piece.TheVariants as piece
use Rattle.flume_tokens.specs.Pieces.{piece_of}
use Rattle.flume_tokens.specs.Tokens.{TokensOrFault, ahead, and_on, tokens_from, line_at, list_of, token_list, tokens_of}

abbrev Fails : TokensOrFault → Type 0
Fails r = r ≡ Err Memory

behind : (ts : List Token) (r : TokensOrFault) → Fails (ahead ts r) → Fails r
behind ts (Ok us) e = cc
behind ts (Err f) e = e

never : (left line : ℕ) (bs : List ℕ) → Fails (tokens_from left line bs) → ⊥
never left line [] e = cc
never (suc left) line (b ∷ bs) e = never left line bs e
never zero line (b ∷ bs) e = by (piece_of (b ∷ bs)) (λ n m q. never n m bs q) e
  where
    by : (p : Piece) → ((n m : ℕ) → Fails (tokens_from n m bs) → ⊥)
        → Fails (and_on line (λ n m. tokens_from n m bs) p) → ⊥
    by piece.LineEnd rest e = rest 0 (line + 1) e
    by (piece.Gap n) rest e = rest (n - 1) line e
    by (piece.Fault f) rest e = cc
    by (piece.Token k n) rest e =
        rest (n - 1) line
        (behind (record { kind = k; line = line } ∷ []) (tokens_from (n - 1) line bs) e)

never_listed : (n : ℕ) (r : TokensOrFault) → (Fails r → ⊥) → list_of n r ≡ Err Memory → ⊥
never_listed n (Ok us) h e = cc
never_listed n (Err f) h e = h (let q : f ≡ Memory = cc in ap Err q)

pub never_memory : (bs : List ℕ) → tokens_of bs ≡ Err Memory → ⊥
unfolding tokens_of
never_memory bs e = by (nat_lt 65536 (length bs)) (is_utf8 bs) e
  where
    by : (t u : Bool)
        → (if t then Err (Refused 0 TooLong)
        else if not u then Err (Refused (line_at bs (utf8_valid_len bs)) Utf8) else token_list bs)
        ≡ Err Memory
        → ⊥
    by true u e = cc
    by false false e = cc
    by false true e = never_listed (line_at bs (length bs)) (tokens_from 0 1 bs) (never 0 1 bs) e
