-- Records, lists, calls and the like that are read are in the grammar.
use Rattle.std.proofs.Common.{◌≡◌, ℕ, ◌+◌, ◌≤◌, max, length, length-append, List, [], ◌∷◌, ◌++◌, Some, Ok, refl, sym, ap, ◌∙◌, subst, arith, lit≤}
use Rattle.flume_tokens.specs.declared.token.Token.{Token}
use Rattle.flume_tokens.specs.declared.keyword.Keyword.{Keyword}
use Rattle.flume_tokens.specs.declared.keyword.Keyword.TheVariants as keyword
use Rattle.flume_tokens.specs.declared.sign.Sign.{Sign}
use Rattle.flume_tokens.specs.declared.sign.Sign.TheVariants as sign
use Rattle.flume_grammar.specs.declared.parts.Parts.{Parts}
use Rattle.flume_grammar.specs.declared.parts.SoFar.{SoFar}
use Rattle.flume_grammar.specs.declared.tree.Unary.{Unary}
use Rattle.flume_grammar.specs.declared.tree.Side.{Side}
use Rattle.flume_grammar.specs.declared.tree.Expr.{Expr}
use Rattle.flume_grammar.specs.declared.tree.Expr.TheVariants as tree
use Rattle.flume_grammar.specs.inner.Out.{Out, bind, one, all_of}
use Rattle.flume_grammar.specs.inner.Reading.{comma_at}
use Rattle.flume_grammar.specs.Parts.{none, with_named_part}
use Rattle.flume_grammar.specs.inner.Types.{at_comma, whole_type}
use Rattle.flume_grammar.specs.inner.Expressions.{so_far, Inner, empty, field, next_field, record_, Members, next_member, list, argument, call, sided, concat, pick}
use Rattle.flume_grammar.specs.Grammar as g
use Rattle.flume_grammar.specs.Terminals.{keyword_token, mark}
use Rattle.flume_grammar.specs.Grammar.{IsWholeType, IsExpr, AreFields, AreMembers, unary_call, side_keyword}
use Rattle.flume_grammar.proofs.Sound.{bound, gave}
use Rattle.flume_grammar.proofs.SoundTokens.{past_sign, comma_read}
use Rattle.flume_grammar.proofs.SoundLoops.{field_read, kept_all}
use Rattle.flume_grammar.proofs.SoundTypes.{sound_whole}
use Rattle.flume_grammar.specs.Limits.{Limits}
use Rattle.flume_grammar.proofs.Fair.{IsFair}
use Rattle.flume_grammar.proofs.SoundSuffixes.{SoundE, IsSoFar, moved, so_moved}

module _ (limits : Limits) (fair : IsFair limits) where
  module _ (limit : ℕ) (inner : Inner) (h : SoundE limits fair inner) where
    -- one more field of a literal, and one more member of a list
    abbrev FieldsOf : List Token → Parts Expr → List Token → Type 0
    FieldsOf ts p us = AreFields limits ts us p × (length p.names ≤ limits.fields)

    one_inner : (ts : List Token) (x : Expr × ℕ) (us : List Token) → inner 1 ts ≡ Ok (x, us)
        → IsExpr limits 1 ts us x.0 x.1
    one_inner ts x us q = h 1 ts x us (lit≤ tt) q

    s_first : (ts : List Token) (p : Parts Expr) (us : List Token)
        → field inner none ts ≡ Ok (p, us) → FieldsOf ts p us
    s_first ts p us q =
        let f = field_read (IsExpr limits 1) (inner 1) one_inner none ts p us q in
        subst (λ z. FieldsOf ts z us) f.is
        (subst (λ z. FieldsOf z (with_named_part none f.name_ f.part f.depth) us) (sym f.start)
        (g.first f.is_word f.spelled, omega arith))

    s_more : (ts : List Token) (p : Parts Expr) (vs : List Token) (q : Parts Expr) (us : List Token)
        → FieldsOf ts p vs → next_field limits inner p vs ≡ Ok (q, us) → FieldsOf ts q us
    s_more ts p vs q us (x, l) e =
        let a = bound (one (comma_at (length p.names) limits.fields) vs) _ q us e in
        let m = comma_read (length p.names) limits.fields a.got vs a.rest a.part in
        let f = field_read (IsExpr limits 1) (inner 1) one_inner p a.rest q us a.after in
        let y : (AreFields limits) ts
        (mark sign.Comma m.line ∷ f.word ∷ mark sign.Colon f.line ∷ f.rest) p =
        subst (λ z. (AreFields limits) ts z p) (m.is
        ∙ ap (λ z. mark sign.Comma m.line ∷ z) f.start) x in
        let n = length-append p.names (f.name_ ∷ []) in
        subst (λ z. FieldsOf ts z us) f.is (g.next y f.is_word f.spelled, omega (arith, m.fewer, n))

    -- what the parser reads behind this token is in the grammar
    abbrev Shows : (ℕ → Token) → (List Token → Out SoFar) → Type 0
    Shows head p = (n : ℕ) (ts : List Token) (x : SoFar) (us : List Token) → p ts ≡ Ok (x, us)
        → IsSoFar limits fair 8 (head n ∷ ts) us x

    pub s_record : Shows (mark sign.OpenBrace) (record_ limits inner)
    s_record n ts x us q =
        let a = bound (field inner none ts) _ x us q in
        let b = bound (all_of at_comma (next_field limits inner) a.got a.rest) _ x us a.after in
        let f = kept_all at_comma (next_field limits inner) (λ p vs. FieldsOf ts p vs)
        (λ p vs r ws t k e. s_more ts p vs r ws k e) a.got a.rest b.got b.rest
        (s_first ts a.got a.rest a.part) b.part in
        let c = past_sign sign.CloseBrace b.rest _ x us b.after in
        let v = gave (so_far 8 (tree.Record b.got.names b.got.parts) (b.got.depth + 1)) x c.rest us
        c.after in
        let y : (AreFields limits) ts (mark sign.CloseBrace c.line ∷ c.rest) b.got = subst
        (λ z. (AreFields limits) ts z b.got) c.is f.0 in
        so_moved limits fair 8 _ _ c.rest us (so_far 8 (tree.Record b.got.names b.got.parts)
        (b.got.depth + 1))
        x refl v.1 v.0 (g.literal y f.1, lit≤ tt)

    abbrev MembersOf : List Token → Members → List Token → Type 0
    MembersOf ts m us = AreMembers limits ts us m.0 m.1 × (length m.0 ≤ limits.members)

    s_member : (ts : List Token) (m : Members) (vs : List Token) (q : Members) (us : List Token)
        → MembersOf ts m vs → next_member limits inner m vs ≡ Ok (q, us) → MembersOf ts q us
    s_member ts m vs q us (x, l) e =
        let a = bound (one (comma_at (length m.0) limits.members) vs) _ q us e in
        let c = comma_read (length m.0) limits.members a.got vs a.rest a.part in
        let b = bound (inner 1 a.rest) _ q us a.after in
        let v = gave (m.0 ++ b.got.0 ∷ [], max m.1 b.got.1) q b.rest us b.after in
        let y : (AreMembers limits) ts (mark sign.Comma c.line ∷ a.rest) m.0 m.1 = subst
        (λ z. (AreMembers limits) ts z m.0 m.1) c.is x in
        let n = length-append m.0 (b.got.0 ∷ []) in
        let w : MembersOf ts (m.0 ++ b.got.0 ∷ [], max m.1 b.got.1) b.rest = (
          g.more y
              (one_inner a.rest b.got b.rest b.part),
          omega (arith, c.fewer, n),
        ) in
        subst (λ z. MembersOf ts z us) v.0
        (subst (λ z. MembersOf ts (m.0 ++ b.got.0 ∷ [], max m.1 b.got.1) z) v.1 w)

    pub s_list : Shows (mark sign.OpenBracket) (list limits inner)
    s_list n ts x us q =
        let a = bound (inner 1 ts) _ x us q in
        let b = bound (all_of at_comma (next_member limits inner) (a.got.0 ∷ [], a.got.1) a.rest)
        _ x us a.after in
        let s : MembersOf ts (a.got.0 ∷ [], a.got.1)
        a.rest = (g.one (one_inner ts a.got a.rest a.part), fair.members) in
        let f = kept_all at_comma (next_member limits inner) (λ p vs. MembersOf ts p vs)
        (λ p vs r ws t k e. s_member ts p vs r ws k e) (a.got.0 ∷ [], a.got.1) a.rest b.got
        b.rest s b.part in
        let c = past_sign sign.CloseBracket b.rest _ x us b.after in
        let v = gave (so_far 8 (tree.List b.got.0) (b.got.1 + 1)) x c.rest us c.after in
        let y : (AreMembers limits) ts (mark sign.CloseBracket c.line ∷ c.rest) b.got.0
        b.got.1 = subst (λ z. (AreMembers limits) ts z b.got.0 b.got.1) c.is f.0 in
        so_moved limits fair 8 _ _ c.rest us (so_far 8 (tree.List b.got.0) (b.got.1 + 1)) x refl v.1
        v.0
        (g.members y f.1, lit≤ tt)

    -- an argument was read, with what ends it, and what follows goes on behind it
    record Argument {B : Type 0} (end : Sign) (f : Expr × ℕ → List Token → Out B)
        (ts : List Token) (y : B) (vs : List Token) : Type 0 where
      got : Expr × ℕ
      line : ℕ
      rest : List Token
      spelled : IsExpr limits 1 ts (mark end line ∷ rest) got.0 got.1
      after : f got rest ≡ Ok (y, vs)

    past_argument : {B : Type 0} (end : Sign) (ts : List Token)
        (f : Expr × ℕ → List Token → Out B) (y : B) (vs : List Token)
        → bind (argument inner end ts) f ≡ Ok (y, vs) → Argument end f ts y vs
    past_argument end ts f y vs q =
        let c = bound (argument inner end ts) f y vs q in
        let a = bound (inner 1 ts) _ c.got c.rest c.part in
        let b = past_sign end a.rest _ c.got c.rest a.after in
        let v = gave a.got c.got b.rest c.rest b.after in
        record {
          got = c.got;
          line = b.line;
          rest = c.rest;
          spelled = moved limits fair ts ts a.rest (mark end b.line ∷ c.rest) a.got c.got 1 refl
              (b.is ∙ ap (λ z. mark end b.line ∷ z) v.1) v.0 (one_inner ts a.got a.rest a.part);
          after = c.after;
        }

    pub s_empty : Shows (keyword_token keyword.Empty) (empty limits)
    s_empty n ts x us q =
        let a = past_sign sign.Less ts _ x us q in
        let b = bound (whole_type limits a.rest) _ x us a.after in
        let c = past_sign sign.Greater b.rest _ x us b.after in
        let v = gave (so_far 8 (tree.Empty b.got) 1) x c.rest us c.after in
        let w : (IsWholeType limits) a.rest (mark sign.Greater c.line ∷ c.rest) b.got = subst
        (λ z. (IsWholeType limits) a.rest z b.got) c.is
        ((sound_whole limits fair) a.rest b.got b.rest b.part) in
        so_moved limits fair 8 (keyword_token keyword.Empty n ∷ mark sign.Less a.line ∷ a.rest)
        (keyword_token keyword.Empty n ∷ ts)
        c.rest us (so_far 8 (tree.Empty b.got) 1) x (ap (λ z. keyword_token keyword.Empty n ∷ z)
        a.is) v.1
        v.0 (g.empty w, lit≤ tt)

    pub s_sided : (k : Keyword) (s : Side) → side_keyword k ≡ Some s
        → Shows (keyword_token k) (sided limits inner s)
    s_sided k s e n ts x us q =
        let a = past_sign sign.Less ts _ x us q in
        let b = bound (whole_type limits a.rest) _ x us a.after in
        let c = past_sign sign.Greater b.rest _ x us b.after in
        let d = past_sign sign.Open c.rest _ x us c.after in
        let f = past_argument sign.Close d.rest _ x us d.after in
        let v = gave (so_far 8 (tree.Side s b.got f.got.0) (f.got.1 + 1)) x f.rest us f.after in
        let w : (IsWholeType limits) a.rest
        (mark sign.Greater c.line ∷ mark sign.Open d.line ∷ d.rest) b.got =
        subst (λ z. (IsWholeType limits) a.rest z b.got) (c.is
        ∙ ap (λ z. mark sign.Greater c.line ∷ z) d.is)
        ((sound_whole limits fair) a.rest b.got b.rest b.part) in
        so_moved limits fair 8 (keyword_token k n ∷ mark sign.Less a.line ∷ a.rest)
        (keyword_token k n ∷ ts) f.rest us
        (so_far 8 (tree.Side s b.got f.got.0) (f.got.1 + 1)) x
        (ap (λ z. keyword_token k n ∷ z) a.is) v.1
        v.0 (g.sided e w f.spelled, lit≤ tt)

    pub s_call : (k : Keyword) (u : Unary) → unary_call k ≡ Some u
        → Shows (keyword_token k) (call inner u)
    s_call k u e n ts x us q =
        let a = past_sign sign.Open ts _ x us q in
        let b = past_argument sign.Close a.rest _ x us a.after in
        let v = gave (so_far 8 (tree.Unary u b.got.0) (b.got.1 + 1)) x b.rest us b.after in
        so_moved limits fair 8 (keyword_token k n ∷ mark sign.Open a.line ∷ a.rest)
        (keyword_token k n ∷ ts) b.rest us
        (so_far 8 (tree.Unary u b.got.0) (b.got.1 + 1)) x (ap (λ z. keyword_token k n ∷ z) a.is) v.1
        v.0
        (g.call e b.spelled, lit≤ tt)

    pub s_concat : Shows (keyword_token keyword.Concat) (concat inner)
    s_concat n ts x us q =
        let a = past_sign sign.Open ts _ x us q in
        let b = past_argument sign.Comma a.rest _ x us a.after in
        let c = past_argument sign.Close b.rest _ x us b.after in
        let v = gave (so_far 8 (tree.Concat b.got.0 c.got.0) (max b.got.1 c.got.1 + 1)) x c.rest us
        c.after in
        so_moved limits fair 8 (keyword_token keyword.Concat n ∷ mark sign.Open a.line ∷ a.rest)
        (keyword_token keyword.Concat n ∷ ts) c.rest us
        (so_far 8 (tree.Concat b.got.0 c.got.0) (max b.got.1 c.got.1 + 1)) x
        (ap (λ z. keyword_token keyword.Concat n ∷ z) a.is) v.1 v.0
        (g.concat b.spelled c.spelled, lit≤ tt)

    pub s_pick : Shows (keyword_token keyword.Pick) (pick inner)
    s_pick n ts x us q =
        let a = past_sign sign.Open ts _ x us q in
        let b = past_argument sign.Comma a.rest _ x us a.after in
        let c = past_argument sign.Comma b.rest _ x us b.after in
        let d = past_argument sign.Close c.rest _ x us c.after in
        let y = so_far 8 (tree.Pick b.got.0 c.got.0 d.got.0)
        (max (max b.got.1 c.got.1) d.got.1 + 1) in
        let v = gave y x d.rest us d.after in
        so_moved limits fair 8 (keyword_token keyword.Pick n ∷ mark sign.Open a.line ∷ a.rest)
        (keyword_token keyword.Pick n ∷ ts)
        d.rest us y x
        (ap (λ z. keyword_token keyword.Pick n ∷ z) a.is) v.1 v.0 (
          g.pick b.spelled c.spelled d.spelled,
          lit≤ tt,
        )
