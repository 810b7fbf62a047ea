-- Records, lists, calls and the like within limits and within higher ones.
use Rattle.std.proofs.Common.{◌≡◌, ℕ, suc, ◌+◌, ◌≤◌, max, length, length-append, List, [], ◌∷◌, ◌++◌, refl, arith}
use Rattle.flume_tokens.specs.declared.token.Token.{Token}
use Rattle.flume_tokens.specs.declared.token.TokenKind.TheVariants as kind
use Rattle.flume_tokens.specs.declared.sign.Sign.{Sign}
use Rattle.flume_tokens.specs.declared.sign.Sign.TheVariants as sign
use Rattle.flume_grammar.specs.declared.fault.ScriptKind.TheVariants.{Syntax}
use Rattle.flume_grammar.specs.declared.parts.Parts.{Parts}
use Rattle.flume_grammar.specs.declared.parts.SoFar.{SoFar}
use Rattle.flume_grammar.specs.declared.parts.Suffix.{Suffix}
use Rattle.flume_grammar.specs.declared.parts.Suffix.TheVariants as suffix
use Rattle.flume_grammar.specs.declared.tree.Unary.{Unary}
use Rattle.flume_grammar.specs.declared.tree.Side.{Side}
use Rattle.flume_grammar.specs.declared.tree.Expr.{Expr}
use Rattle.flume_grammar.specs.inner.Out.{Out, give, bind, one, all_of}
use Rattle.flume_grammar.specs.Parts.{none}
use Rattle.flume_grammar.specs.inner.Types.{at_comma, whole_type}
use Rattle.flume_grammar.specs.inner.Expressions.{Inner, extend, passing, extended, empty, field, next_field, record_, Members, next_member, list, prefix, prefix_rank, argument, call, sided, concat, pick}
use Rattle.flume_grammar.specs.Operators.{rank}
use Rattle.flume_grammar.specs.Limits.{Limits}
use Rattle.flume_grammar.proofs.Fair.{IsFair}
use Rattle.flume_grammar.proofs.Open.{any, free, IsComplete}
use Rattle.flume_grammar.proofs.OpenTokens.{owns_ok, a_name, token}
use Rattle.flume_grammar.proofs.OpenParts as o_parts
use Rattle.flume_grammar.proofs.Quiet.{quiet, ending, quieter}
use Rattle.flume_grammar.proofs.Depths.{Each, each_after, each_give}
use Rattle.flume_grammar.proofs.Pair.{Kinds}
use Rattle.flume_grammar.proofs.PairThen.{IsPair, pair_given, pair_wider, pair_then, pair_given_then}
use Rattle.flume_grammar.proofs.PairTokens.{Growth, plain_ok, pair_token, pair_word, pair_sign, pair_commas, part_added}
use Rattle.flume_grammar.proofs.PairTypes.{pair_whole}

module _ (K : Kinds) (limits more : Limits) (fair : IsFair limits) (fair_more : IsFair more)
    (growth : Growth K limits more) where
  pub no_syntax : K Syntax → ⊥
  no_syntax = growth.syntax_

  abbrev pub Two : {A : Type 0} → (List Token → Out A) → (List Token → Out A) → Type 0
  Two p q = IsPair K any quiet p q

  abbrev Pair : {A : Type 0} → (List Token → Out A) → (List Token → Out A) → Type 0
  Pair p q = IsPair K any any p q

  two_given : {A : Type 0} (a : A) → IsPair K quiet quiet (give a) (give a)
  two_given a = pair_given K quiet quiet a (λ ts i. i)

  pub whole_given : {A : Type 0} (a : A) → Pair (give a) (give a)
  whole_given a = pair_given K any any a (free any)

  -- ---- what has parts

  module _ (inner inner_more : Inner) (h : (r : ℕ) → Two (inner r) (inner_more r)) where
    low : (r : ℕ) → IsComplete any quiet (inner r)
    low r = (h r).low_

    high : (r : ℕ) → IsComplete any quiet (inner_more r)
    high r = (h r).high_

    r_extend : (x : SoFar) (s : Suffix) → Two (extend inner x s) (extend inner_more x s)
    r_extend x suffix.Field =
        pair_word K no_syntax any quiet _ _ tt (λ w. pair_given K any quiet _ (free quiet))
    r_extend x suffix.Index = pair_then K any quiet quiet (inner 1) (inner_more 1) _ _ (h 1)
        (λ y. pair_sign K no_syntax quiet quiet sign.CloseBracket _ _ (λ own least. refl)
        (λ _. pair_given K any quiet _ (free quiet)))
    r_extend x (suffix.Operator o) = pair_then K any quiet quiet (inner (rank o + 1))
        (inner_more (rank o + 1)) _ _ (h (rank o + 1)) (λ y. two_given _)

    pub r_extended : (x : SoFar) (s : Suffix) → Two (extended inner x s) (extended inner_more x s)
    r_extended x s =
        pair_then K any any quiet (one passing) (one passing) _ _
        (pair_token K no_syntax any passing
        (token any passing (λ t. owns_ok t tt) a_name tt refl tt) (λ t. plain_ok K t tt))
        (λ _. r_extend x s)

    r_field : (p : Parts Expr) → Two (field inner p) (field inner_more p)
    r_field p =
        pair_word K no_syntax any quiet _ _ tt
        (λ w. pair_sign K no_syntax any quiet sign.Colon _ _ tt
        (λ _. pair_then K any quiet quiet (inner 1) (inner_more 1) _ _ (h 1) (λ x. two_given _)))

    s_field : (p : Parts Expr) → Each (λ q. length q.names ≡ suc (length p.names)) (field inner p)
    s_field p =
        each_after _ (one _) _
        (λ w. each_after _ (one _) _
        (λ _. each_after _ (inner 1) _ (λ x. each_give _ _ (part_added p w x.0 x.1))))

    r_fields : (p : Parts Expr) → length p.names ≤ limits.fields
        → IsPair K ending ending (all_of at_comma (next_field limits inner) p)
        (all_of at_comma (next_field more inner_more) p)
    r_fields =
        pair_commas K no_syntax ending quiet quieter (λ k i. i.1)
        (λ (p : Parts Expr). length p.names) limits.fields more.fields growth.fields
        (λ p _ us. field inner p us) (λ p _ us. field inner_more p us) (λ p _. r_field p)
        (λ p _. s_field p)

    pub r_record : Pair (record_ limits inner) (record_ more inner_more)
    r_record =
        pair_given_then K any quiet any (field inner none) (field inner_more none) _ _
        (r_field none) (λ p _. o_parts.at_quiet limits fair inner low p)
        (λ p _. o_parts.at_quiet more fair_more inner_more high p)
        (λ p g. (rest p (let i = s_field none g.source p g.left g.is in let j = fair.fields in
        omega (arith, i, j))).raise)
      where
        rest : (p : Parts Expr) → length p.names ≤ limits.fields
            → IsPair K ending any (o_parts.fields_then limits fair inner low p)
            (o_parts.fields_then more fair_more inner_more high p)
        rest p i =
            pair_then K ending ending any (all_of at_comma (next_field limits inner) p)
            (all_of at_comma (next_field more inner_more) p) _ _ (r_fields p i) (λ q.
            pair_sign K no_syntax ending any sign.CloseBrace _ _ (λ own least. refl, refl)
            (λ _. whole_given _))

    r_members : (m : Members) → length m.0 ≤ limits.members
        → IsPair K ending ending (all_of at_comma (next_member limits inner) m)
        (all_of at_comma (next_member more inner_more) m)
    r_members =
        pair_commas K no_syntax ending quiet quieter (λ k i. i.1) (λ (m : Members). length m.0)
        limits.members more.members growth.members
        (λ m _ us. bind (inner 1 us) (λ x vs. give (m.0 ++ x.0 ∷ [], max m.1 x.1) vs))
        (λ m _ us. bind (inner_more 1 us) (λ x vs. give (m.0 ++ x.0 ∷ [], max m.1 x.1) vs))
        (λ m _. pair_then K any quiet quiet (inner 1) (inner_more 1) _ _ (h 1) (λ x. two_given _))
        (λ m _. each_after _ (inner 1) _
        (λ x. each_give _ _ (let i = length-append m.0 (x.0 ∷ []) in omega (arith, i))))

    pub r_list : Pair (list limits inner) (list more inner_more)
    r_list =
        pair_then K any quiet any (inner 1) (inner_more 1) _ _ (h 1)
        (λ x. pair_wider K ending quiet any _ _ quieter
        (pair_then K ending ending any (all_of at_comma (next_member limits inner)
        (x.0 ∷ [], x.1))
        (all_of at_comma (next_member more inner_more) (x.0 ∷ [], x.1)) _ _
        (r_members (x.0 ∷ [], x.1) fair.members) (λ m.
        pair_sign K no_syntax ending any sign.CloseBracket _ _ (λ own least. refl, refl)
        (λ _. whole_given _))))

    -- an argument, what ends it, and what follows
    r_argument : {B : Type 0} (end : Sign) → quiet (kind.Sign end)
        → (f g : Expr × ℕ → List Token → Out B) → ((x : Expr × ℕ) → Pair (f x) (g x))
        → Pair (λ ts. bind (argument inner end ts) f) (λ ts. bind (argument inner_more end ts) g)
    r_argument end i f g =
        pair_then K any any any (argument inner end) (argument inner_more end) f g
        (pair_then K any quiet any (inner 1) (inner_more 1) _ _ (h 1)
        (λ x. pair_sign K no_syntax quiet any end _ _ i (λ _. whole_given x)))

    pub r_call : (u : Unary) → Pair (call inner u) (call inner_more u)
    r_call u = pair_sign K no_syntax any any sign.Open _ _ tt
        (λ _. r_argument sign.Close (λ own least. refl) _ _ (λ x. whole_given _))

    pub r_sided : (s : Side) → Pair (sided limits inner s) (sided more inner_more s)
    r_sided s =
        pair_sign K no_syntax any any sign.Less _ _ tt
        (λ _. pair_then K any any any (whole_type limits) (whole_type more) _ _
        (pair_whole K limits more fair fair_more growth) (λ o.
        pair_sign K no_syntax any any sign.Greater _ _ tt
        (λ _. pair_sign K no_syntax any any sign.Open _ _ tt (λ _.
        r_argument sign.Close (λ own least. refl) _ _ (λ x. whole_given _)))))

    pub r_concat : Pair (concat inner) (concat inner_more)
    r_concat = pair_sign K no_syntax any any sign.Open _ _ tt
        (λ _. r_argument sign.Comma (λ own least. refl) _ _
        (λ x. r_argument sign.Close (λ own least. refl) _ _ (λ y. whole_given _)))

    pub r_pick : Pair (pick inner) (pick inner_more)
    r_pick = pair_sign K no_syntax any any sign.Open _ _ tt
        (λ _. r_argument sign.Comma (λ own least. refl) _ _
        (λ x. r_argument sign.Comma (λ own least. refl) _ _
        (λ y. r_argument sign.Close (λ own least. refl) _ _ (λ z. whole_given _))))

    pub r_prefix : (u : Unary) → Two (prefix inner u) (prefix inner_more u)
    r_prefix u = pair_then K any quiet quiet (inner (prefix_rank u)) (inner_more (prefix_rank u)) _
        _ (h (prefix_rank u)) (λ x. two_given _)

  pub r_empty : Pair (empty limits) (empty more)
  r_empty =
      pair_sign K no_syntax any any sign.Less _ _ tt
      (λ _. pair_then K any any any (whole_type limits) (whole_type more) _ _
      (pair_whole K limits more fair fair_more growth) (λ x.
      pair_sign K no_syntax any any sign.Greater _ _ tt (λ _. whole_given _)))
