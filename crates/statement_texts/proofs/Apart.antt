-- Texts tell their tokens: each is as tokens of one line are spelled, but for the last space.
use Rattle.std.proofs.Common.{◌≡◌, ℕ, ◌-◌, ◌≤◌, List, [], ◌∷◌, ◌++◌, Ok, map, refl, sym, ap, ◌∙◌, append_assoc, arith}
use Rattle.std.specs.List.{All}
use Rattle.std.proofs.lemmas.List.Elements.{All-head, All-tail, All-nil, All-cons}
use Rattle.flume_tokens.specs.declared.token.Token.{Token}
use Rattle.flume_tokens.specs.declared.token.TokenKind.{TokenKind}
use Rattle.flume_tokens.specs.Tokens.{TokensOrFault, tokens_from}
use Rattle.token_spelling.specs.Spellable.{IsSpellable, AscendByLine, AreSpellable}
use Rattle.token_spelling.specs.Spelled.{token_written, spelled_from, spelled}
use Rattle.statement_texts.specs.Texts.{spaced_tokens, joined_behind, kinds_of}

-- these tokens, all on the first line
abbrev on_one : List TokenKind → List Token
on_one kinds = map (λ kind. record { kind = kind; line = 1 }) kinds

kinds_back : (kinds : List TokenKind) → kinds_of (on_one kinds) ≡ kinds
kinds_back [] = refl
kinds_back (kind ∷ kinds) = ap (λ ks. kind ∷ ks) (kinds_back kinds)

on_one-spellable : (kinds : List TokenKind) → All IsSpellable kinds
    → All (λ (t : Token). IsSpellable t.kind) (on_one kinds)
on_one-spellable [] all = All-nil (λ (t : Token). IsSpellable t.kind)
on_one-spellable (kind ∷ kinds) all =
    All-cons (λ (t : Token). IsSpellable t.kind) (record { kind = kind; line = 1 }) (on_one kinds)
    (All-head IsSpellable kind kinds all)
    (on_one-spellable kinds (All-tail IsSpellable kind kinds all))

on_one-ascends : (kinds : List TokenKind) → AscendByLine 1 (on_one kinds)
on_one-ascends [] = tt
on_one-ascends (kind ∷ kinds) = (omega arith, on_one-ascends kinds)

-- a space behind each is a space before each, and one behind all
turned : (kinds : List TokenKind)
    → 32 ∷ spelled_from 1 (on_one kinds) ≡ joined_behind kinds ++ 32 ∷ []
turned [] = refl
turned (kind ∷ kinds) =
    ap (λ bs. 32 ∷ (token_written kind ++ bs)) (turned kinds)
    ∙ sym (append_assoc (32 ∷ token_written kind) (joined_behind kinds) (32 ∷ []))

spelled_is : (kind : TokenKind) (kinds : List TokenKind)
    → spelled (on_one (kind ∷ kinds)) ≡ spaced_tokens (kind ∷ kinds) ++ 32 ∷ []
spelled_is kind kinds =
    ap (λ bs. token_written kind ++ bs) (turned kinds)
    ∙ sym (append_assoc (token_written kind) (joined_behind kinds) (32 ∷ []))

pub joined_apart : ((ts : List Token) → AreSpellable ts → tokens_from 0 1 (spelled ts) ≡ Ok ts)
    → (k j : TokenKind) (ks js : List TokenKind) → All IsSpellable (k ∷ ks)
    → All IsSpellable (j ∷ js) → spaced_tokens (k ∷ ks) ≡ spaced_tokens (j ∷ js) → k ∷ ks ≡ j ∷ js
joined_apart cut k j ks js p q e =
    let bytes : spelled (on_one (k ∷ ks)) ≡ spelled (on_one (j ∷ js))
    = spelled_is k ks ∙ ap (λ bs. bs ++ 32 ∷ []) e ∙ sym (spelled_is j js) in
    let both : one (on_one (k ∷ ks)) ≡ one (on_one (j ∷ js))
    = sym (cut (on_one (k ∷ ks)) (spellable (k ∷ ks) p))
    ∙ ap (tokens_from 0 1) bytes ∙ cut (on_one (j ∷ js)) (spellable (j ∷ js) q) in
    let same : on_one (k ∷ ks) ≡ on_one (j ∷ js) = cc in
    sym (kinds_back (k ∷ ks)) ∙ ap kinds_of same ∙ kinds_back (j ∷ js)
  where
    one : List Token → TokensOrFault
    one ts = Ok ts

    spellable : (kinds : List TokenKind) → All IsSpellable kinds → AreSpellable (on_one kinds)
    spellable kinds all =
        record { each = on_one-spellable kinds all; lines = on_one-ascends kinds }
