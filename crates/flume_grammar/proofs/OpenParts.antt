-- Parsers of records, lists, calls and the like are open.
use Rattle.std.proofs.Common.{ℕ, ◌+◌, max, length, List, [], ◌∷◌, ◌++◌, refl}
use Rattle.flume_tokens.specs.declared.token.Token.{Token}
use Rattle.flume_tokens.specs.declared.token.TokenKind.TheVariants as kind
use Rattle.flume_tokens.specs.declared.sign.Sign.{Sign}
use Rattle.flume_tokens.specs.declared.sign.Sign.TheVariants as sign
use Rattle.flume_grammar.specs.declared.parts.Parts.{Parts}
use Rattle.flume_grammar.specs.declared.parts.SoFar.{SoFar}
use Rattle.flume_grammar.specs.declared.parts.Suffix.{Suffix}
use Rattle.flume_grammar.specs.declared.parts.Suffix.TheVariants as suffix
use Rattle.flume_grammar.specs.declared.tree.Unary.{Unary}
use Rattle.flume_grammar.specs.declared.tree.Side.{Side}
use Rattle.flume_grammar.specs.declared.tree.Expr.{Expr}
use Rattle.flume_grammar.specs.declared.tree.Expr.TheVariants as tree
use Rattle.flume_grammar.specs.inner.Out.{Out, give, bind, one, all_of}
use Rattle.flume_grammar.specs.inner.Reading.{sign_at, comma_at}
use Rattle.flume_grammar.specs.Parts.{none}
use Rattle.flume_grammar.specs.inner.Types.{at_comma, whole_type}
use Rattle.flume_grammar.specs.inner.Expressions.{so_far, Inner, extend, passing, extended, empty, field, next_field, record_, Members, next_member, list, argument, call, sided, concat, pick}
use Rattle.flume_grammar.specs.Operators.{rank}
use Rattle.flume_grammar.proofs.Open.{any, free, IsComplete}
use Rattle.flume_grammar.proofs.OpenSmallest.{given}
use Rattle.flume_grammar.proofs.OpenThen.{then_}
use Rattle.flume_grammar.proofs.OpenNarrow.{wider}
use Rattle.flume_grammar.proofs.OpenTokens.{owns_ok, a_name, token, takes_token, sign_then, comma_then, word_then, commas}
use Rattle.flume_grammar.proofs.OpenTypes.{complete_whole}
use Rattle.flume_grammar.specs.Limits.{Limits}
use Rattle.flume_grammar.proofs.Fair.{IsFair}
use Rattle.flume_grammar.proofs.Quiet.{quiet, ending, quieter, Quiet, Whole, quiet_given}

module _ (limits : Limits) (fair : IsFair limits) where
  -- ---- what has parts

  module _ (inner : Inner) (h : (r : ℕ) → Quiet (inner r)) where
    pub o_extend : (x : SoFar) (s : Suffix) → Quiet (extend inner x s)
    o_extend x suffix.Field = word_then any quiet _ tt (λ w. given any quiet _ (free quiet))
    o_extend x suffix.Index =
        then_ any quiet quiet (inner 1) _ (h 1) (λ y _. sign_then quiet quiet sign.CloseBracket _
        (λ own least. refl) (λ _. given any quiet _ (free quiet)))
    o_extend x (suffix.Operator o) = then_ any quiet quiet (inner (rank o + 1)) _ (h (rank o + 1))
        (λ y _. quiet_given _)

    pub o_extended : (x : SoFar) (s : Suffix) → Quiet (extended inner x s)
    o_extended x s =
        then_ any any quiet (one passing) _
        (token any passing (λ t. owns_ok t tt) a_name tt refl tt) (λ _ _. o_extend x s)

    o_field : (p : Parts Expr) → Quiet (field inner p)
    o_field p =
        word_then any quiet _ tt (λ w. sign_then any quiet sign.Colon _ tt
        (λ _. then_ any quiet quiet (inner 1) _ (h 1) (λ x _. quiet_given _)))

    o_fields : (p : Parts Expr)
        → IsComplete ending ending (all_of at_comma (next_field limits inner) p)
    o_fields =
        commas ending quiet (next_field limits inner) quieter (λ k i. i.1)
        (λ p. takes_token quiet (comma_at (length p.names) limits.fields) _
        (λ _. (o_field p).open_)) (λ p. comma_then quiet (length p.names) limits.fields _
        (λ _. o_field p))

    abbrev pub fields_then : Parts Expr → List Token → Out SoFar
    fields_then p us = bind (all_of at_comma (next_field limits inner) p us)
        (λ q vs. bind (one (sign_at sign.CloseBrace) vs)
        (λ _ ws. give (so_far 8 (tree.Record q.names q.parts) (q.depth + 1)) ws))

    pub at_quiet : (p : Parts Expr) → IsComplete quiet any (fields_then p)
    at_quiet p =
        wider ending quiet any _ quieter
        (then_ ending ending any (all_of at_comma (next_field limits inner) p) _ (o_fields p)
        (λ q _. sign_then ending any sign.CloseBrace _ (λ own least. refl, refl)
        (λ _. given any any _ (free any))))

    pub o_record : Whole (record_ limits inner)
    o_record = then_ any quiet any (field inner none) _ (o_field none) (λ p _. at_quiet p)

    o_member : (m : Members)
        → Quiet {A = Members}
        (λ ts. bind (inner 1 ts) (λ x vs. give (m.0 ++ x.0 ∷ [], max m.1 x.1) vs))
    o_member m = then_ any quiet quiet (inner 1) _ (h 1) (λ x _. quiet_given _)

    o_members : (m : Members)
        → IsComplete ending ending (all_of at_comma (next_member limits inner) m)
    o_members =
        commas ending quiet (next_member limits inner) quieter (λ k i. i.1)
        (λ m. takes_token quiet (comma_at (length m.0) limits.members) _
        (λ _. (o_member m).open_)) (λ m. comma_then quiet (length m.0) limits.members _
        (λ _. o_member m))

    pub o_list : Whole (list limits inner)
    o_list =
        then_ any quiet any (inner 1) _ (h 1) (λ x _. wider ending quiet any _ quieter
        (then_ ending ending any (all_of at_comma (next_member limits inner) (x.0 ∷ [], x.1))
        _ (o_members (x.0 ∷ [], x.1)) (λ m _.
        sign_then ending any sign.CloseBracket _ (λ own least. refl, refl)
        (λ _. given any any _ (free any)))))

    o_argument : (end : Sign) → quiet (kind.Sign end) → Whole (argument inner end)
    o_argument end i =
        then_ any quiet any (inner 1) _ (h 1)
        (λ x _. sign_then quiet any end _ i (λ _. given any any x (free any)))

    pub close : Whole (argument inner sign.Close)
    close = o_argument sign.Close (λ own least. refl)

    pub comma : Whole (argument inner sign.Comma)
    comma = o_argument sign.Comma (λ own least. refl)

    pub o_call : (u : Unary) → Whole (call inner u)
    o_call u =
        sign_then any any sign.Open _ tt (λ _. then_ any any any (argument inner sign.Close) _ close
        (λ x _. given any any _ (free any)))

    pub o_sided : (s : Side) → Whole (sided limits inner s)
    o_sided s =
        sign_then any any sign.Less _ tt (λ _. then_ any any any (whole_type limits) _
        (complete_whole limits fair) (λ o _. sign_then any any sign.Greater _ tt
        (λ _. sign_then any any sign.Open _ tt (λ _.
        then_ any any any (argument inner sign.Close) _ close
        (λ x _. given any any _ (free any))))))

    pub o_concat : Whole (concat inner)
    o_concat =
        sign_then any any sign.Open _ tt (λ _. then_ any any any (argument inner sign.Comma) _ comma
        (λ x _. then_ any any any (argument inner sign.Close) _ close
        (λ y _. given any any _ (free any))))

    pub o_pick : Whole (pick inner)
    o_pick =
        sign_then any any sign.Open _ tt (λ _. then_ any any any (argument inner sign.Comma) _ comma
        (λ x _. then_ any any any (argument inner sign.Comma) _ comma (λ y _.
        then_ any any any (argument inner sign.Close) _ close (λ z _. given any any _ (free any)))))

  pub o_empty : Whole (empty limits)
  o_empty =
      sign_then any any sign.Less _ tt (λ _. then_ any any any (whole_type limits) _
      (complete_whole limits fair) (λ x _. sign_then any any sign.Greater _ tt
      (λ _. given any any _ (free any))))
