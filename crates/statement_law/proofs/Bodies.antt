-- Bodies, read without lines.
use Rattle.std.proofs.Common.{◌≡◌, ℕ, suc, List, [], ◌∷◌, ◌++◌, map, Option, refl, sym, ap, ◌∙◌, subst}
use Rattle.flume_tokens.specs.declared.keyword.Keyword.TheVariants as keyword
use Rattle.flume_tokens.specs.declared.sign.Sign.TheVariants as sign
use Rattle.flume_tokens.specs.declared.token.Token.{Token}
use Rattle.flume_grammar.specs.declared.tree.Body.{Body, Body-F, fold_out-Body, map-Body, out-Body}
use Rattle.flume_grammar.specs.declared.tree.Body.TheVariants as body
use Rattle.flume_grammar.specs.declared.tree.Expr.{Expr}
use Rattle.flume_grammar.specs.Grammar as g
use Rattle.flume_grammar.specs.Limits.{Limits}
use Rattle.flume_grammar.specs.Terminals.{keyword_token, mark, name_token}
use Rattle.statement_law.proofs.Expressions.{go_expr}
use Rattle.statement_law.proofs.Moving.{Goes, goes, at_close, join, plain, stop, under}
use Rattle.statement_law.proofs.Plain.{go_numbered}
use Rattle.statement_law.specs.Lineless.{body_lineless, layer_lineless}

-- ---- the tree without lines, level by level

layer : (b : Body) (x : Body-F Body) → out-Body b ≡ x
    → body_lineless b ≡ layer_lineless (map-Body Body Body body_lineless x)
layer b x e =
    fold_out-Body Body layer_lineless b
    ∙ ap (λ y. layer_lineless (map-Body Body Body body_lineless y)) e

lineless_let : (n : ℕ) (x : List ℕ) (e : Expr) → body_lineless (body.Let n x e) ≡ body.Let 0 x e
lineless_let n x e = layer (body.Let n x e) (Body-F.Let n x e) (body.outs-Let n x e)

lineless_emit : (n : ℕ) (to : Option (List ℕ)) (e : Expr)
    → body_lineless (body.Emit n to e) ≡ body.Emit 0 to e
lineless_emit n to e = layer (body.Emit n to e) (Body-F.Emit n to e) (body.outs-Emit n to e)

lineless_if : (n : ℕ) (e : Expr) (ss rs : List Body) → body_lineless (body.If n e ss rs)
    ≡ body.If 0 e (map body_lineless ss) (map body_lineless rs)
lineless_if n e ss rs = layer (body.If n e ss rs) (Body-F.If n e ss rs) (body.outs-If n e ss rs)

lineless_for : (n : ℕ) (x : List ℕ) (e : Expr) (ss : List Body)
    → body_lineless (body.For n x e ss) ≡ body.For 0 x e (map body_lineless ss)
lineless_for n x e ss = layer (body.For n x e ss) (Body-F.For n x e ss) (body.outs-For n x e ss)

lineless_case : (n : ℕ) (e : Expr) (x : List ℕ) (ss : List Body) (y : List ℕ) (rs : List Body)
    → body_lineless (body.Case n e x ss y rs)
    ≡ body.Case 0 e x (map body_lineless ss) y (map body_lineless rs)
lineless_case n e x ss y rs =
    layer (body.Case n e x ss y rs) (Body-F.Case n e x ss y rs) (body.outs-Case n e x ss y rs)

pub map_more : {A B : Type 0} (f : A → B) (xs : List A) (x : A)
    → map f (xs ++ x ∷ []) ≡ map f xs ++ f x ∷ []
map_more f [] x = refl
map_more f (y ∷ ys) x = ap (λ zs. f y ∷ zs) (map_more f ys x)

-- ---- read

module _ (limits : Limits) where
  as_body : {b c : Body} {a : ℕ} {ws vs : List Token} → b ≡ c → g.IsBody limits ws vs c a
      → g.IsBody limits ws vs b a
  as_body {b} {c} {a} {ws} {vs} e h = subst (λ x. g.IsBody limits ws vs x a) (sym e) h

  as_bodies : {xs ys : List Body} {a : ℕ} {ws vs : List Token} → xs ≡ ys
      → g.AreBodies limits ws vs ys a → g.AreBodies limits ws vs xs a
  as_bodies {xs} {ys} {a} {ws} {vs} e h = subst (λ x. g.AreBodies limits ws vs x a) (sym e) h

  mutual
    go_body : {ts us : List Token} {s : Body} {a : ℕ} → g.IsBody limits ts us s a → (d : ℕ)
        (vs : List Token) → Goes (suc d) ts us vs (λ ws. g.IsBody limits ws vs (body_lineless s) a)
    go_body (g.let_ {x} {n} {e} y) d vs =
        let value = go_expr limits y d vs in
        goes (under (plain refl (plain refl value.moved)))
        (as_body (lineless_let n x e) (g.let_ value.is))
    go_body (g.emit {n} {to} {e} o y) d vs =
        let value = go_expr limits y d vs in
        let number = go_numbered {k = keyword.To} refl o (suc d) value.without in
        goes (plain refl (join number.moved value.moved))
        (as_body (lineless_emit n to e) (g.emit number.is value.is))
    go_body (g.if_ {n} {e} {ss} y block) d vs =
        let yes = go_block block (suc d) vs in
        let test = go_expr limits y d yes.without in
        goes (plain refl (join test.moved yes.moved))
        (as_body (lineless_if n e ss []) (g.if_ test.is yes.is))
    go_body (g.if_else {n} {e} {ss} {rs} y block other) d vs =
        let no = go_block other (suc d) vs in
        let yes = go_block block (suc d) (keyword_token keyword.Else 0 ∷ no.without) in
        let test = go_expr limits y d yes.without in
        goes (plain refl (join test.moved (join yes.moved (plain refl no.moved))))
        (as_body (lineless_if n e ss rs) (g.if_else test.is yes.is no.is))
    go_body (g.for_ {x} {n} {e} {ss} y block) d vs =
        let each = go_block block (suc d) vs in
        let list = go_expr limits y d each.without in
        goes (plain refl (plain refl (plain refl (join list.moved each.moved))))
        (as_body (lineless_for n x e ss) (g.for_ list.is each.is))
    go_body (g.case_ {x} {y} {n} {e} {ss} {rs} z block other) d vs =
        let second = go_block other (suc d) vs in
        let first =
        go_block block (suc d) (keyword_token keyword.Right 0 ∷ name_token y 0 ∷ second.without) in
        let test =
        go_expr limits z d (keyword_token keyword.Left 0 ∷ name_token x 0 ∷ first.without) in
        goes (plain refl (join test.moved (plain refl (plain refl
        (join first.moved (plain refl (plain refl second.moved)))))))
        (as_body (lineless_case n e x ss y rs) (g.case_ test.is first.is second.is))

    pub go_block : {ts us : List Token} {ss : List Body} {a : ℕ} → g.IsBlock limits ts us ss a
        → (d : ℕ) (vs : List Token)
        → Goes d ts us vs (λ ws. g.IsBlock limits ws vs (map body_lineless ss) a)
    go_block (g.braces b) d vs =
        let all = go_bodies b d (mark sign.CloseBrace 0 ∷ vs) in
        goes (plain refl (join all.moved (at_close stop))) (g.braces all.is)

    go_bodies : {ts us : List Token} {ss : List Body} {a : ℕ} → g.AreBodies limits ts us ss a
        → (d : ℕ) (vs : List Token)
        → Goes (suc d) ts us vs (λ ws. g.AreBodies limits ws vs (map body_lineless ss) a)
    go_bodies g.none_ d vs = goes stop g.none_
    go_bodies (g.some {s} {ss} m x) d vs =
        let last = go_body x d vs in
        let others = go_bodies m d last.without in
        goes (join others.moved last.moved) (as_bodies (map_more body_lineless ss s) (g.some
        others.is last.is))
