-- Which tokens can be spelled.
use Rattle.std.specs.Prelude.{◌≡◌, ℕ, ◌≤◌, ◌==◌, ◌||◌, true, length, slice_index, List, [], ◌∷◌, None, IsUtf8}
use Rattle.std.specs.Char.{is_ascii_digit, is_ascii_alphabetic, is_ascii_alphanumeric}
use Rattle.std.specs.List.{All}
use Rattle.flume_tokens.specs.declared.token.Token.{Token}
use Rattle.flume_tokens.specs.declared.token.TokenKind.{TokenKind}
use Rattle.flume_tokens.specs.declared.token.TokenKind.TheVariants as kind
use Rattle.flume_tokens.specs.Keywords.{keyword_of}

-- a word: a letter, and then letters, digits and `_`, at most 32 in all
pub record IsWord (word : List ℕ) : Type 0 where
  pub letter : is_ascii_alphabetic (slice_index word 0) ≡ true
  pub rest : All (λ b. (is_ascii_alphanumeric b || b == 95) ≡ true) word
  pub short : length word ≤ 32

-- a word that is not reserved
pub record IsName (name : List ℕ) : Type 0 where
  pub word : IsWord name
  pub free : keyword_of name ≡ None

-- one or more digits
pub record IsNumber (digits : List ℕ) : Type 0 where
  pub digit : is_ascii_digit (slice_index digits 0) ≡ true
  pub rest : All (λ b. is_ascii_digit b ≡ true) digits

-- names, numbers, and texts of UTF-8; all keywords and signs
abbrev pub IsSpellable : TokenKind → Type 0
IsSpellable (kind.Name name) = IsName name
IsSpellable (kind.Keyword keyword) = Unit {0}
IsSpellable (kind.Number digits) = IsNumber digits
IsSpellable (kind.Text content) = IsUtf8 content
IsSpellable (kind.Sign sign) = Unit {0}

-- no token stands on a line before this, nor before that of an earlier one
abbrev pub AscendByLine : ℕ → List Token → Type 0
AscendByLine line [] = Unit {0}
AscendByLine line (t ∷ ts) = (line ≤ t.line) × AscendByLine t.line ts

-- each can be spelled, and their lines ascend from 1
pub record AreSpellable (ts : List Token) : Type 0 where
  pub each : All (λ t. IsSpellable t.kind) ts
  pub lines : AscendByLine 1 ts
