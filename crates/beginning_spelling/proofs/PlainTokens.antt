-- Tokens that stay as they are, and plain ones behind them.
use Rattle.std.proofs.Common.{◌≡◌, ℕ, zero, suc, ◌≤◌, ◌==◌, ◌||◌, List, [], ◌∷◌, ◌++◌, true, refl, ap, ◌∙◌, lit≤, arith}
use Rattle.std.specs.Char.{is_ascii_digit, is_ascii_alphanumeric}
use Rattle.std.specs.List.{All}
use Rattle.std.proofs.lemmas.List.Elements.{All-nil, All-cons, All-head, All-tail, All-append}
use Rattle.std.proofs.lemmas.Str.{IsUtf8-nil}
use Rattle.flume_tokens.specs.declared.token.Token.{Token}
use Rattle.flume_tokens.specs.declared.token.TokenKind.{TokenKind}
use Rattle.flume_tokens.specs.declared.token.TokenKind.TheVariants as kind
use Rattle.flume_tokens.specs.Keywords.{keyword_of}
use Rattle.token_spelling.specs.Spellable.{IsName, IsNumber, IsSpellable, AscendByLine, AreSpellable}
use Rattle.token_spelling.specs.Spelled.{line_from}
use Rattle.beginning_spelling.proofs.Fillings.{Filling, kind_with, token_with, filled}

-- ---- what stays

abbrev contents : TokenKind → List ℕ
contents (kind.Name x) = x
contents (kind.Keyword k) = []
contents (kind.Number d) = d
contents (kind.Text c) = c
contents (kind.Sign s) = []

-- a token's own contents
abbrev own : Token → Filling
own t = record {
  word = contents t.kind;
  digits = contents t.kind;
  content = contents t.kind;
  line = t.line;
}

-- the name `a`, the number 0, the empty text
abbrev pub plain : ℕ → Filling
plain line = record { word = 97 ∷ []; digits = 48 ∷ []; content = []; line = line }

-- these tokens' own contents, and plain ones on the line of the last
abbrev pub plan : ℕ → List Token → ℕ → Filling
plan line [] n = plain line
plan line (t ∷ ts) zero = own t
plan line (t ∷ ts) (suc n) = plan t.line ts n

same_kind : (k : TokenKind) (n : ℕ) → kind_with k (own (record { kind = k; line = n })) ≡ k
same_kind (kind.Name x) n = refl
same_kind (kind.Keyword k) n = refl
same_kind (kind.Number d) n = refl
same_kind (kind.Text c) n = refl
same_kind (kind.Sign s) n = refl

same : (t : Token) → token_with t (own t) ≡ t
same t = ap (λ z. record { kind = z; line = t.line }) (same_kind t.kind t.line)

-- what stands behind tokens that stay
abbrev pub behind : ℕ → List Token → List Token → List Token
behind line ts others = filled (λ n. plain (line_from line ts)) others

pub stay : (line : ℕ) (ts others : List Token)
    → filled (plan line ts) (ts ++ others) ≡ ts ++ behind line ts others
stay line [] others = refl
stay line (t ∷ ts) others =
    ap (λ z. z ∷ filled (plan t.line ts) (ts ++ others)) (same t)
    ∙ ap (λ us. t ∷ us) (stay t.line ts others)

-- ---- what can be spelled

plain_name : IsName (97 ∷ [])
unfolding keyword_of
plain_name = record {
  word = record {
    letter = refl;
    rest = All-cons (λ b. (is_ascii_alphanumeric b || b == 95) ≡ true) 97 [] refl
        (All-nil (λ b. (is_ascii_alphanumeric b || b == 95) ≡ true));
    short = lit≤ tt;
  };
  free = refl;
}

plain_number : IsNumber (48 ∷ [])
plain_number = record {
  digit = refl;
  rest = All-cons (λ b. is_ascii_digit b ≡ true) 48 [] refl
      (All-nil (λ b. is_ascii_digit b ≡ true));
}

plain_kind : (k : TokenKind) (line : ℕ) → IsSpellable (kind_with k (plain line))
plain_kind (kind.Name x) line = plain_name
plain_kind (kind.Keyword k) line = tt
plain_kind (kind.Number d) line = plain_number
plain_kind (kind.Text c) line = IsUtf8-nil
plain_kind (kind.Sign s) line = tt

abbrev Spelled : Token → Type 0
Spelled t = IsSpellable t.kind

plain_each : (line : ℕ) (ts : List Token) → All Spelled (filled (λ n. plain line) ts)
plain_each line [] = All-nil Spelled
plain_each line (t ∷ ts) =
    All-cons Spelled (token_with t (plain line)) (filled (λ n. plain line) ts)
    (plain_kind t.kind line) (plain_each line ts)

plain_lines : (from line : ℕ) (ts : List Token) → from ≤ line
    → AscendByLine from (filled (λ n. plain line) ts)
plain_lines from line [] h = tt
plain_lines from line (t ∷ ts) h = (h, plain_lines line line ts (omega arith))

lines_behind : (line : ℕ) (ts us : List Token) → AscendByLine line ts
    → AscendByLine (line_from line ts) us
    → AscendByLine line (ts ++ us)
lines_behind line [] us h k = k
lines_behind line (t ∷ ts) us h k = (h.0, lines_behind t.line ts us h.1 k)

-- tokens that can be spelled can be with plain ones behind them
pub spelled_behind : (ts others : List Token) → AreSpellable ts
    → AreSpellable (ts ++ behind 1 ts others)
spelled_behind ts others h = record {
  each = All-append Spelled ts (behind 1 ts others) h.each
      (plain_each (line_from 1 ts) others);
  lines = lines_behind 1 ts (behind 1 ts others) h.lines
      (plain_lines (line_from 1 ts) (line_from 1 ts) others (omega arith));
}

-- ---- what can be spelled, up to a place

front_each : (ts us : List Token) → All Spelled (ts ++ us) → All Spelled ts
front_each [] us h = All-nil Spelled
front_each (t ∷ ts) us h = All-cons Spelled t ts (All-head Spelled t (ts ++ us) h)
    (front_each ts us (All-tail Spelled t (ts ++ us) h))

front_lines : (line : ℕ) (ts us : List Token) → AscendByLine line (ts ++ us) → AscendByLine line ts
front_lines line [] us h = tt
front_lines line (t ∷ ts) us h = (h.0, front_lines t.line ts us h.1)

-- with which tokens those that can be spelled begin, can be spelled
pub front_spelled : (ts us : List Token) → AreSpellable (ts ++ us) → AreSpellable ts
front_spelled ts us h = record {
  each = front_each ts us h.each;
  lines = front_lines 1 ts us h.lines;
}
