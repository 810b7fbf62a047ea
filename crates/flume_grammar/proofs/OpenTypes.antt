-- Parsers of types are open.
use Rattle.std.proofs.Common.{◌≡◌, ℕ, zero, suc, ◌+◌, ◌≤◌, length, nat_lt, List, Bool, true, false, Result, Ok, Err, if◌then◌else◌, refl, arith}
use Rattle.std.proofs.lemmas.Bool.{ltb-true}
use Rattle.flume_tokens.specs.declared.token.Token.{Token}
use Rattle.flume_tokens.specs.declared.token.TokenKind.{TokenKind}
use Rattle.flume_tokens.specs.declared.token.TokenKind.TheVariants as kind
use Rattle.flume_tokens.specs.declared.keyword.Keyword.{Keyword}
use Rattle.flume_tokens.specs.declared.keyword.Keyword.TheVariants as keyword
use Rattle.flume_tokens.specs.declared.sign.Sign.TheVariants as sign
use Rattle.flume_grammar.specs.declared.fault.ScriptKind.TheVariants.{Syntax, TooDeep}
use Rattle.flume_grammar.specs.declared.fault.Stop.{Stop}
use Rattle.flume_grammar.specs.declared.parts.Parts.{Parts}
use Rattle.flume_grammar.specs.declared.tree.Type.TheVariants as tree
use Rattle.flume_grammar.specs.declared.start.TypeStart.{TypeStart}
use Rattle.flume_grammar.specs.declared.start.TypeStart.TheVariants as start
use Rattle.flume_grammar.specs.inner.Out.{Out, give, bind, at, one, all_of}
use Rattle.flume_grammar.specs.inner.Reading.{sign_at, comma_at}
use Rattle.flume_grammar.specs.Parts.{Tree, none}
use Rattle.flume_grammar.specs.inner.Types.{Inner, HasRoom, deep_start, keyword_type, kind_type, type_start, list_type, pair_type, field_type, next_field_type, at_comma, record_type, after_start, type_layer, type_within, whole_type}
use Rattle.flume_grammar.proofs.Sound.{one_token}
use Rattle.flume_grammar.proofs.Open.{any, free, Gives, IsComplete}
use Rattle.flume_grammar.proofs.OpenSmallest.{Owns, given}
use Rattle.flume_grammar.proofs.OpenThen.{then_}
use Rattle.flume_grammar.proofs.OpenNarrow.{wider}
use Rattle.flume_grammar.proofs.Depths.{type_depth}
use Rattle.flume_grammar.specs.Limits.{Limits}
use Rattle.flume_grammar.proofs.Fair.{IsFair}
use Rattle.flume_grammar.proofs.OpenTokens.{then_shallow, owns_ok, owns_fault, owns_if, a_name, token, takes_token, sign_then, word_then, comma_then, commas, no_comma}

-- ---- types

module _ (limits : Limits) (fair : IsFair limits) where
  module _ (inner : Inner) (h : IsComplete any any inner) where
    c_list : IsComplete any any (list_type inner)
    c_list =
        sign_then any any sign.Less _ tt
        (λ _. then_ any any any inner _ h (λ x _. sign_then any any sign.Greater _ tt
        (λ _. given any any _ (free any))))

    c_pair : IsComplete any any (pair_type inner)
    c_pair =
        sign_then any any sign.Less _ tt
        (λ _. then_ any any any inner _ h (λ x _. sign_then any any sign.Comma _ tt
        (λ _. then_ any any any inner _ h (λ y _.
        sign_then any any sign.Greater _ tt (λ _. given any any _ (free any))))))

    c_field : (p : Parts Tree) → IsComplete any any (field_type inner p)
    c_field p =
        word_then any any _ tt
        (λ w. sign_then any any sign.Colon _ tt
        (λ _. then_ any any any inner _ h (λ x _. given any any _ (free any))))

    c_fields : (p : Parts Tree)
        → IsComplete no_comma no_comma (all_of at_comma (next_field_type limits inner) p)
    c_fields =
        commas no_comma any (next_field_type limits inner) (free no_comma) (λ k i. i)
        (λ p. takes_token any (comma_at (length p.names) limits.fields) _
        (λ _. (c_field p).open_)) (λ p. comma_then any (length p.names) limits.fields _
        (λ _. c_field p))

    abbrev pub fields_then : Parts Tree → List Token → Out (Tree × ℕ)
    fields_then p us = bind (all_of at_comma (next_field_type limits inner) p us)
        (λ q vs. bind (one (sign_at sign.CloseBrace) vs)
        (λ _ ws. give (tree.Record q.names q.parts, q.depth + 1) ws))

    pub c_fields_then : (p : Parts Tree) → IsComplete any any (fields_then p)
    c_fields_then p =
        wider no_comma any any _ (free no_comma)
        (then_ no_comma no_comma any (all_of at_comma (next_field_type limits inner) p) _
        (c_fields p) (λ q _. sign_then no_comma any sign.CloseBrace _ refl
        (λ _. given any any _ (free any))))

    c_record : IsComplete any any (record_type limits inner)
    c_record = then_ any any any (field_type inner none) _ (c_field none) (λ p _. c_fields_then p)

    c_after : (s : TypeStart) → IsComplete any any (after_start limits inner s)
    c_after (start.Leaf t) = given any any _ (free any)
    c_after start.List = c_list
    c_after start.Either =
        then_ any any any (pair_type inner) _ c_pair (λ x _. given any any _ (free any))
    c_after start.Table =
        then_ any any any (pair_type inner) _ c_pair (λ x _. given any any _ (free any))
    c_after start.Record = c_record

  -- ---- what begins deep has room

  deep_room : (limit : ℕ) (t : Token) (s r : TypeStart) → deep_start limit t s ≡ Ok r
      → 2 ≤ limit
  deep_room limit t s r e = by (nat_lt 1 limit) refl e
    where
      by : (b : Bool) → nat_lt 1 limit ≡ b → (if b then Ok s else Err (at t TooDeep)) ≡ Ok r
          → 2 ≤ limit
      by true q p = let l = ltb-true 1 limit q in omega (arith, l)
      by false q p = cc

  pub room : (limit : ℕ) (s : TypeStart) → 2 ≤ limit → HasRoom s limit
  room limit (start.Leaf t) h = tt
  room limit start.List h = h
  room limit start.Either h = h
  room limit start.Table h = h
  room limit start.Record h = h

  leaf_room : (limit : ℕ) (x : Tree) (s : TypeStart)
      → (let r : Result TypeStart Stop = Ok (start.Leaf x) in r) ≡ Ok s → HasRoom s limit
  leaf_room limit x (start.Leaf t) e = tt
  leaf_room limit x start.List e = cc
  leaf_room limit x start.Either e = cc
  leaf_room limit x start.Table e = cc
  leaf_room limit x start.Record e = cc

  keyword_room : (k : Keyword) (limit : ℕ) (t : Token) (s : TypeStart)
      → keyword_type k limit t ≡ Ok s → HasRoom s limit
  keyword_room keyword.Int limit t s e = leaf_room limit tree.Int s e
  keyword_room keyword.Bool limit t s e = leaf_room limit tree.Bool s e
  keyword_room keyword.Text limit t s e = leaf_room limit tree.Text s e
  keyword_room keyword.List limit t s e = room limit s (deep_room limit t start.List s e)
  keyword_room keyword.Either limit t s e = room limit s (deep_room limit t start.Either s e)
  keyword_room keyword.Table limit t s e = room limit s (deep_room limit t start.Table s e)
  keyword_room _ limit t s e = cc

  kind_room : (k : TokenKind) (limit : ℕ) (t : Token) (s : TypeStart)
      → kind_type k limit t ≡ Ok s → HasRoom s limit
  kind_room (kind.Name x) limit t s e = leaf_room limit (tree.Named x) s e
  kind_room (kind.Keyword k) limit t s e = keyword_room k limit t s e
  kind_room (kind.Sign sign.OpenBrace) limit t s e =
      room limit s (deep_room limit t start.Record s e)
  kind_room _ limit t s e = cc

  owns_deep : (limit : ℕ) (t : Token) (s : TypeStart) → Owns t (deep_start limit t s)
  owns_deep limit t s = owns_if t (nat_lt 1 limit) _ _ (owns_ok t _) (owns_fault t TooDeep)

  owns_keyword_type : (k : Keyword) (limit : ℕ) (t : Token) → Owns t (keyword_type k limit t)
  owns_keyword_type keyword.Int limit t = owns_ok t _
  owns_keyword_type keyword.Bool limit t = owns_ok t _
  owns_keyword_type keyword.Text limit t = owns_ok t _
  owns_keyword_type keyword.List limit t = owns_deep limit t start.List
  owns_keyword_type keyword.Either limit t = owns_deep limit t start.Either
  owns_keyword_type keyword.Table limit t = owns_deep limit t start.Table
  owns_keyword_type _ limit t = owns_fault t Syntax

  owns_kind_type : (k : TokenKind) (limit : ℕ) (t : Token) → Owns t (kind_type k limit t)
  owns_kind_type (kind.Name x) limit t = owns_ok t _
  owns_kind_type (kind.Keyword k) limit t = owns_keyword_type k limit t
  owns_kind_type (kind.Sign sign.OpenBrace) limit t = owns_deep limit t start.Record
  owns_kind_type _ limit t = owns_fault t Syntax

  pub c_room : (limit : ℕ) (inner : Inner) → (2 ≤ limit → IsComplete any any inner)
      → (s : TypeStart) → HasRoom s limit → IsComplete any any (after_start limits inner s)
  c_room limit inner h (start.Leaf t) i = given any any _ (free any)
  c_room limit inner h start.List i = c_after inner (h i) start.List
  c_room limit inner h start.Either i = c_after inner (h i) start.Either
  c_room limit inner h start.Table i = c_after inner (h i) start.Table
  c_room limit inner h start.Record i = c_after inner (h i) start.Record

  pub given_room : (limit : ℕ) (s : TypeStart) → Gives (one (type_start limit)) s → HasRoom s limit
  given_room limit s g = let x = one_token (type_start limit) g.source s g.left g.is in
      kind_room x.token.kind limit x.token s x.gives

  pub begins_type : (limit : ℕ) → IsComplete any any (one (type_start limit))
  begins_type limit = token any (type_start limit) (λ t. owns_kind_type t.kind limit t) a_name _
      refl tt

  c_layer : (limit : ℕ) (inner : Inner) → (2 ≤ limit → IsComplete any any inner)
      → IsComplete any any (type_layer limits limit inner)
  c_layer limit inner h = then_ any any any (one (type_start limit)) (after_start limits inner)
      (begins_type limit) (λ s g. c_room limit inner h s (given_room limit s g))

  pub complete_type : (n : ℕ) → 1 ≤ n → IsComplete any any (type_within limits n)
  unfolding type_within
  complete_type zero h = absurd (omega (arith, h))
  complete_type (suc n) h =
      c_layer (suc n) (type_within limits n) (λ i. complete_type n (omega (arith, i)))

  pub complete_whole : IsComplete any any (whole_type limits)
  complete_whole = then_shallow any limits.depth (type_within limits limits.depth)
      (complete_type limits.depth fair.depth) (type_depth limits fair limits.depth)
