-- Expressions, read without lines. They stand under a brace.
use Rattle.std.proofs.Common.{ℕ, suc, List, ◌∷◌, refl}
use Rattle.flume_tokens.specs.declared.sign.Sign.TheVariants as sign
use Rattle.flume_tokens.specs.declared.token.Token.{Token}
use Rattle.flume_grammar.specs.declared.parts.Parts.{Parts}
use Rattle.flume_grammar.specs.declared.tree.Expr.{Expr}
use Rattle.flume_grammar.specs.Grammar as g
use Rattle.flume_grammar.specs.Limits.{Limits}
use Rattle.flume_grammar.specs.Terminals.{mark}
use Rattle.statement_law.proofs.Moving.{Goes, goes, at_close, at_operator, at_word, join, plain, stop, under, unlined}
use Rattle.statement_law.proofs.Plain.{go_whole}

module _ (limits : Limits) where
  mutual
    pub go_expr : {r a : ℕ} {ts us : List Token} {e : Expr} → g.IsExpr limits r ts us e a → (d : ℕ)
        (vs : List Token) → Goes (suc d) ts us vs (λ ws. g.IsExpr limits r ws vs e a)
    go_expr (g.above x) d vs =
        let same = go_expr x d vs in
        goes same.moved (g.above same.is)
    go_expr (g.binary {t} q x y) d vs =
        let second = go_expr y d vs in
        let first = go_expr x d (unlined t ∷ second.without) in
        goes (join first.moved (at_operator q second.moved)) (g.binary q first.is second.is)
    go_expr (g.not_ x) d vs =
        let first = go_expr x d vs in
        goes (plain refl first.moved) (g.not_ first.is)
    go_expr (g.negate x) d vs =
        let first = go_expr x d vs in
        goes (plain refl first.moved) (g.negate first.is)
    go_expr (g.field {w} x q) d vs =
        let first = go_expr x d (mark sign.Dot 0 ∷ unlined w ∷ vs) in
        goes (join first.moved (plain refl (at_word q stop))) (g.field first.is q)
    go_expr (g.index x y) d vs =
        let second = go_expr y d (mark sign.CloseBracket 0 ∷ vs) in
        let first = go_expr x d (mark sign.OpenBracket 0 ∷ second.without) in
        goes (join first.moved (plain refl (join second.moved (plain refl stop))))
        (g.index first.is second.is)
    go_expr g.num d vs = goes (plain refl stop) g.num
    go_expr g.textlit d vs = goes (plain refl stop) g.textlit
    go_expr g.true_ d vs = goes (plain refl stop) g.true_
    go_expr g.false_ d vs = goes (plain refl stop) g.false_
    go_expr g.variable d vs = goes (plain refl stop) g.variable
    go_expr (g.paren x) d vs =
        let first = go_expr x d (mark sign.Close 0 ∷ vs) in
        goes (plain refl (join first.moved (plain refl stop))) (g.paren first.is)
    go_expr (g.literal f l) d vs =
        let fields = go_fields f (suc d) (mark sign.CloseBrace 0 ∷ vs) in
        goes (plain refl (join fields.moved (at_close stop))) (g.literal fields.is l)
    go_expr (g.members m l) d vs =
        let all = go_members m d (mark sign.CloseBracket 0 ∷ vs) in
        goes (plain refl (join all.moved (plain refl stop))) (g.members all.is l)
    go_expr (g.empty w) d vs =
        let type_ = go_whole limits w (suc d) (mark sign.Greater 0 ∷ vs) in
        goes (plain refl (plain refl (join type_.moved (plain refl stop)))) (g.empty type_.is)
    go_expr (g.sided q w x) d vs =
        let held = go_expr x d (mark sign.Close 0 ∷ vs) in
        let type_ = go_whole limits w (suc d)
        (mark sign.Greater 0 ∷ mark sign.Open 0 ∷ held.without) in
        goes (under (plain refl (join type_.moved (plain refl
        (plain refl (join held.moved (plain refl stop))))))) (g.sided q type_.is held.is)
    go_expr (g.call q x) d vs =
        let first = go_expr x d (mark sign.Close 0 ∷ vs) in
        goes (under (plain refl (join first.moved (plain refl stop)))) (g.call q first.is)
    go_expr (g.concat x y) d vs =
        let second = go_expr y d (mark sign.Close 0 ∷ vs) in
        let first = go_expr x d (mark sign.Comma 0 ∷ second.without) in
        goes (plain refl (plain refl (join first.moved (plain refl
        (join second.moved (plain refl stop)))))) (g.concat first.is second.is)
    go_expr (g.pick x y z) d vs =
        let third = go_expr z d (mark sign.Close 0 ∷ vs) in
        let second = go_expr y d (mark sign.Comma 0 ∷ third.without) in
        let first = go_expr x d (mark sign.Comma 0 ∷ second.without) in
        goes (plain refl (plain refl (join first.moved (plain refl
        (join second.moved (plain refl (join third.moved (plain refl stop))))))))
        (g.pick first.is second.is third.is)

    go_fields : {ts us : List Token} {p : Parts Expr} → g.AreFields limits ts us p → (d : ℕ)
        (vs : List Token) → Goes (suc d) ts us vs (λ ws. g.AreFields limits ws vs p)
    go_fields (g.first q x) d vs =
        let first = go_expr x d vs in
        goes (at_word q (plain refl first.moved)) (g.first q first.is)
    go_fields (g.next {w} f q x) d vs =
        let last = go_expr x d vs in
        let fields = go_fields f d
        (mark sign.Comma 0 ∷ unlined w ∷ mark sign.Colon 0 ∷ last.without) in
        goes (join fields.moved (plain refl (at_word q (plain refl last.moved))))
        (g.next fields.is q last.is)

    go_members : {ts us : List Token} {es : List Expr} {a : ℕ} → g.AreMembers limits ts us es a
        → (d : ℕ) (vs : List Token)
        → Goes (suc d) ts us vs (λ ws. g.AreMembers limits ws vs es a)
    go_members (g.one x) d vs =
        let first = go_expr x d vs in
        goes first.moved (g.one first.is)
    go_members (g.more m x) d vs =
        let last = go_expr x d vs in
        let others = go_members m d (mark sign.Comma 0 ∷ last.without) in
        goes (join others.moved (plain refl last.moved)) (g.more others.is last.is)
