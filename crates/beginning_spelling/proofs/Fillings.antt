-- Tokens with other contents: other names, digits, texts and lines.
use Rattle.std.proofs.Common.{◌≡◌, ℕ, suc, length, length-append, List, [], ◌∷◌, ◌++◌, Some, refl, arith}
use Rattle.flume_tokens.specs.declared.token.Token.{Token}
use Rattle.flume_tokens.specs.declared.token.TokenKind.{TokenKind}
use Rattle.flume_tokens.specs.declared.token.TokenKind.TheVariants as kind
use Rattle.flume_tokens.specs.Keywords.{keyword_spelling}
use Rattle.flume_grammar.specs.declared.parts.Parts.{Parts}
use Rattle.flume_grammar.specs.declared.tree.Binary.{Binary}
use Rattle.flume_grammar.specs.Operators.{operator_of}
use Rattle.flume_grammar.specs.Terminals.{word_of}

-- a token's contents, whichever it has
pub record Filling : Type 0 where
  pub word : List ℕ
  pub digits : List ℕ
  pub content : List ℕ
  pub line : ℕ

-- contents for each place
abbrev pub Plan : Type 0
Plan = ℕ → Filling

-- those for the places behind the first
abbrev pub on : Plan → Plan
on p = λ n. p (suc n)

abbrev pub kind_with : TokenKind → Filling → TokenKind
kind_with (kind.Name x) f = kind.Name f.word
kind_with (kind.Keyword k) f = kind.Keyword k
kind_with (kind.Number d) f = kind.Number f.digits
kind_with (kind.Text c) f = kind.Text f.content
kind_with (kind.Sign s) f = kind.Sign s

abbrev pub token_with : Token → Filling → Token
token_with t f = record { kind = kind_with t.kind f; line = f.line }

-- tokens of the same kinds, with the plan's contents
abbrev pub filled : Plan → List Token → List Token
filled p [] = []
filled p (t ∷ ts) = token_with t (p 0) ∷ filled (on p) ts

-- what was between tokens is so between them with the plan's contents, up to what is read
abbrev pub Filled : {A : Type 0} → (List Token → List Token → A → Type 0) → Plan → List Token
    → List Token → Type 0
Filled {A} R p ts us = (q : Plan) × (x : A) × R (filled p ts) (filled q us) x

-- the same for the parts of a record, which are as many and as deep as before
abbrev pub FilledParts : {A : Type 0} → (List Token → List Token → Parts A → Type 0) → Plan
    → List Token → List Token → Parts A → Type 0
FilledParts {A} R p ts us s = (q : Plan) × (r : Parts A) × (r.depth ≡ s.depth)
    × (length r.names ≡ length s.names) × R (filled p ts) (filled q us) r

-- the same for lists, which are as long as before
abbrev pub FilledList : {A : Type 0} → (List Token → List Token → List A → Type 0) → Plan
    → List Token → List Token → List A → Type 0
FilledList {A} R p ts us xs = (q : Plan) × (ys : List A) × (length ys ≡ length xs)
    × R (filled p ts) (filled q us) ys

-- a word is one with other contents
pub word_filled : (k : TokenKind) (f : Filling) (x : List ℕ) → word_of k ≡ Some x
    → (y : List ℕ) × (word_of (kind_with k f) ≡ Some y)
word_filled (kind.Name x) f y e = (f.word, refl)
word_filled (kind.Keyword k) f y e = (keyword_spelling k, refl)
word_filled (kind.Number d) f y e = cc
word_filled (kind.Text c) f y e = cc
word_filled (kind.Sign s) f y e = cc

-- an operator has no contents
pub operator_filled : (k : TokenKind) (f : Filling) (o : Binary) → operator_of k ≡ Some o
    → operator_of (kind_with k f) ≡ Some o
operator_filled (kind.Name x) f o e = cc
operator_filled (kind.Keyword k) f o e = e
operator_filled (kind.Number d) f o e = cc
operator_filled (kind.Text c) f o e = cc
operator_filled (kind.Sign s) f o e = e

-- two lists of one length have one with one more
pub one_more : {A B : Type 0} (xs : List A) (ys : List B) (x : A) (y : B) → length ys ≡ length xs
    → length (ys ++ y ∷ []) ≡ length (xs ++ x ∷ [])
one_more xs ys x y e = let a = length-append xs (x ∷ []) in let b = length-append ys (y ∷ []) in
    omega (arith, e, a, b)

-- a list with one more part behind it stays one, where the list and the part stay what they are
pub more_filled : {A : Type 0} (R : List Token → List Token → List A → Type 0)
    (S : List Token → List Token → A → Type 0)
    → ((xs ys zs : List Token) (own : List A) (x : A) → R xs ys own → S ys zs x
    → R xs zs (own ++ x ∷ []))
    → (p : Plan) (ts us vs : List Token) → Filled R p ts us → ((q : Plan) → Filled S q us vs)
    → Filled R p ts vs
more_filled R S more p ts us vs (q, own, y) part =
    let (r, x, z) = part q in
    (r, own ++ x ∷ [], more (filled p ts) (filled q us) (filled r vs) own x y z)
