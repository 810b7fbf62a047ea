-- One token more of a text.
use Rattle.std.proofs.Common.{◌≡◌, ℕ, suc, ◌+◌, ◌<◌, ◌≤◌, true, false, List, [], ◌∷◌, ◌++◌, map, length, get_or, drop, refl, sym, ap, ◌∙◌, append_assoc, arith, drop-cons}
use Rattle.std.proofs.lemmas.List.{append-nil, drop_all}
use Rattle.flume_tokens.specs.declared.sign.Sign.TheVariants as sign
use Rattle.flume_tokens.specs.declared.token.Token.{Token}
use Rattle.flume_tokens.specs.declared.token.TokenKind.{TokenKind}
use Rattle.flume_tokens.specs.declared.token.TokenKind.TheVariants as kind
use Rattle.token_spelling.specs.Spelled.{token_written}
use Rattle.statement_texts.specs.Texts.{StatementParts, token_before, braces_behind, is_beginning, spaced_tokens, joined_behind, kinds_of, parts_from}
use Rattle.statement_texts.specs.inner.Passing.{finished}

pub begun : (texts : List (List ℕ)) (text : List ℕ) (token : TokenKind) (rest : StatementParts)
    → (texts ++ text ∷ []) ++ finished (token_written token) rest
    ≡ texts ++ finished text (token_before token true rest)
begun texts text token rest =
    append_assoc texts (text ∷ []) (finished (token_written token) rest)
    ∙ ap (λ t. texts ++ t ∷ finished (token_written token) rest) (sym (append-nil text))

pub goes_on : (texts : List (List ℕ)) (text : List ℕ) (token : TokenKind) (rest : StatementParts)
    → texts ++ finished ((text ++ 32 ∷ []) ++ token_written token) rest
    ≡ texts ++ finished text (token_before token false rest)
goes_on texts text token rest =
    ap (λ t. texts ++ t ∷ map spaced_tokens rest.1)
    (ap (λ t. t ++ joined_behind rest.0) (append_assoc text (32 ∷ []) (token_written token))
    ∙ append_assoc text (32 ∷ token_written token) (joined_behind rest.0))

-- the first of the tokens that are left, and those behind it
next_kinds : (tokens : List Token) (i : ℕ) (token : Token) → i < length tokens
    → token ≡ get_or tokens i token
    → kinds_of (drop i tokens) ≡ token.kind ∷ kinds_of (drop (i + 1) tokens)
next_kinds tokens i token below is =
    let more : suc i ≡ i + 1 = omega arith in
    ap kinds_of (drop-cons tokens i token below)
    ∙ ap (λ t. t.kind ∷ kinds_of (drop (suc i) tokens)) (sym is)
    ∙ ap (λ n. token.kind ∷ kinds_of (drop n tokens)) more

-- one token more
pub one_more : (texts more all : List (List ℕ)) (text next : List ℕ) (tokens : List Token)
    (i depth behind : ℕ) (token : Token) → i < length tokens → token ≡ get_or tokens i token
    → behind ≡ braces_behind depth token.kind
    → ((rest : StatementParts) → more ++ finished next rest
    ≡ texts ++ finished text (token_before token.kind (is_beginning depth token.kind) rest))
    → texts ++ finished text (parts_from depth (kinds_of (drop i tokens))) ≡ all
    → more ++ finished next (parts_from behind (kinds_of (drop (i + 1) tokens))) ≡ all
unfolding parts_from
one_more texts more all text next tokens i depth behind token below is opens step so_far =
    let left : List TokenKind = kinds_of (drop (i + 1) tokens) in
    step (parts_from behind left)
    ∙ ap (λ d. texts ++ finished text
    (token_before token.kind (is_beginning depth token.kind) (parts_from d left))) opens
    ∙ ap (λ ks. texts ++ finished text (parts_from depth ks))
    (sym (next_kinds tokens i token below is))
    ∙ so_far

-- no token more
pub no_more : (texts all : List (List ℕ)) (text : List ℕ) (tokens : List Token) (i depth : ℕ)
    → length tokens ≤ i
    → texts ++ finished text (parts_from depth (kinds_of (drop i tokens))) ≡ all
    → texts ++ text ∷ [] ≡ all
unfolding parts_from
no_more texts all text tokens i depth end so_far =
    ap (λ t. texts ++ t ∷ []) (sym (append-nil text))
    ∙ ap (λ ts. texts ++ finished text (parts_from depth (kinds_of ts)))
    (sym (drop_all i tokens end))
    ∙ so_far

-- a token opens at most one brace
pub few_more : (depth i : ℕ) (token : TokenKind) → depth ≤ i → braces_behind depth token ≤ i + 1
few_more depth i (kind.Sign sign.OpenBrace) h = omega (arith, h)
few_more depth i (kind.Sign sign.CloseBrace) h = omega (arith, h)
few_more depth i _ h = omega (arith, h)
