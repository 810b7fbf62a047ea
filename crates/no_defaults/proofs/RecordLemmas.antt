-- What the grammar reads has as many parts as names in each record.
use Rattle.std.proofs.Common.{◌≡◌, ℕ, List, [], ◌∷◌, ◌++◌, length, refl, arith, length-append}
use Rattle.std.specs.List.{All}
use Rattle.std.proofs.lemmas.List.Elements.{All-nil, All-cons, All-append}
use Rattle.flume_tokens.specs.declared.token.Token.{Token}
use Rattle.flume_grammar.specs.declared.parts.Parts.{Parts}
use Rattle.flume_grammar.specs.declared.tree.Ast.{Ast}
use Rattle.flume_grammar.specs.declared.tree.Body.{Body}
use Rattle.flume_grammar.specs.declared.tree.Expr.{Expr}
use Rattle.flume_grammar.specs.declared.tree.Statement.{Statement}
use Rattle.flume_grammar.specs.Answer.{Accepts}
use Rattle.flume_grammar.specs.Grammar as g
use Rattle.flume_grammar.specs.Limits.{Limits, the_limits}
use Rattle.flume_grammar.specs.Parts.{Tree}
use Rattle.no_defaults.specs.Records as r
use Rattle.no_defaults.specs.Records.{AreFullBodies, AreFullExprs, AreFullTypes, IsFullBody, IsFullExpr, IsFullForm, IsFullType}

one_more : {A B : Type 0} (xs : List A) (ys : List B) (x : A) (y : B) → length xs ≡ length ys
    → length (xs ++ x ∷ []) ≡ length (ys ++ y ∷ [])
one_more xs ys x y same =
    omega (arith, length-append xs (x ∷ []), length-append ys (y ∷ []))

module _ (limits : Limits) where
  -- ---- types

  types_paired : {ts us : List Token} {p : Parts Tree} → g.AreFieldTypes limits ts us p
      → length p.names ≡ length p.parts
  types_paired (g.first w x) = refl
  types_paired (g.next {x} {t} {p} f w y) = one_more p.names p.parts x t (types_paired f)

  mutual
    full_type : {ts us : List Token} {t : Tree} {a : ℕ} → g.IsType limits ts us t a → IsFullType t
    full_type g.int = r.int
    full_type g.bool = r.bool
    full_type g.text_ = r.text_
    full_type g.named = r.named
    full_type (g.list x) = r.list (full_type x)
    full_type (g.either x y) = r.either (full_type x) (full_type y)
    full_type (g.table x y) = r.table (full_type x) (full_type y)
    full_type (g.record_ f l) = r.record_ (types_paired f) (full_types f)

    full_types : {ts us : List Token} {p : Parts Tree} → g.AreFieldTypes limits ts us p
        → AreFullTypes p.parts
    full_types (g.first w x) = r.more r.none_ (full_type x)
    full_types (g.next f w x) = r.more (full_types f) (full_type x)

  full_more : {ts us : List Token} {types : List Tree} → g.AreMoreTypes limits ts us types
      → AreFullTypes types
  full_more g.none_ = r.none_
  full_more (g.some x w) = r.more (full_more x) (full_type w.spelled)

  -- ---- expressions

  fields_paired : {ts us : List Token} {p : Parts Expr} → g.AreFields limits ts us p
      → length p.names ≡ length p.parts
  fields_paired (g.first w x) = refl
  fields_paired (g.next {x} {e} {p} f w y) = one_more p.names p.parts x e (fields_paired f)

  mutual
    full_expr : {n a : ℕ} {ts us : List Token} {e : Expr} → g.IsExpr limits n ts us e a
        → IsFullExpr e
    full_expr (g.above x) = full_expr x
    full_expr (g.binary o x y) = r.binary (full_expr x) (full_expr y)
    full_expr (g.not_ x) = r.unary (full_expr x)
    full_expr (g.negate x) = r.unary (full_expr x)
    full_expr (g.field x w) = r.field (full_expr x)
    full_expr (g.index x y) = r.index (full_expr x) (full_expr y)
    full_expr g.num = r.number
    full_expr g.textlit = r.textlit
    full_expr g.true_ = r.truth
    full_expr g.false_ = r.truth
    full_expr g.variable = r.variable
    full_expr (g.paren x) = full_expr x
    full_expr (g.literal f l) = r.literal (fields_paired f) (full_fields f)
    full_expr (g.members m l) = r.members (full_members m)
    full_expr (g.empty w) = r.empty (full_type w.spelled)
    full_expr (g.sided k w x) = r.sided (full_type w.spelled) (full_expr x)
    full_expr (g.call k x) = r.unary (full_expr x)
    full_expr (g.concat x y) = r.concat (full_expr x) (full_expr y)
    full_expr (g.pick x y z) = r.pick (full_expr x) (full_expr y) (full_expr z)

    full_fields : {ts us : List Token} {p : Parts Expr} → g.AreFields limits ts us p
        → AreFullExprs p.parts
    full_fields (g.first w x) = r.more r.none_ (full_expr x)
    full_fields (g.next f w x) = r.more (full_fields f) (full_expr x)

    full_members : {ts us : List Token} {es : List Expr} {a : ℕ} → g.AreMembers limits ts us es a
        → AreFullExprs es
    full_members (g.one x) = r.more r.none_ (full_expr x)
    full_members (g.more m x) = r.more (full_members m) (full_expr x)

  -- ---- bodies

  mutual
    full_body : {ts us : List Token} {s : Body} {a : ℕ} → g.IsBody limits ts us s a
        → IsFullBody s
    full_body (g.let_ x) = r.let_ (full_expr x)
    full_body (g.emit o x) = r.emit (full_expr x)
    full_body (g.if_ x b) = r.if_ (full_expr x) (full_block b) r.none_
    full_body (g.if_else x b c) = r.if_ (full_expr x) (full_block b) (full_block c)
    full_body (g.for_ x b) = r.for_ (full_expr x) (full_block b)
    full_body (g.case_ x b c) = r.case_ (full_expr x) (full_block b) (full_block c)

    full_block : {ts us : List Token} {ss : List Body} {a : ℕ} → g.IsBlock limits ts us ss a
        → AreFullBodies ss
    full_block (g.braces b) = full_bodies b

    full_bodies : {ts us : List Token} {ss : List Body} {a : ℕ} → g.AreBodies limits ts us ss a
        → AreFullBodies ss
    full_bodies g.none_ = r.none_
    full_bodies (g.some b s) = r.more (full_bodies b) (full_body s)

  -- ---- scripts

  full_form : {ts us : List Token} {s : Statement} → g.IsStatement limits ts us s
      → IsFullForm s.form
  full_form (g.type_ w) = full_type w.spelled
  full_form (g.input w) = full_type w.spelled
  full_form (g.fn_ v w m l c b d) = record {
    argument = full_type v.spelled;
    output = full_type w.spelled;
    outputs = full_more m;
    statements = full_block b;
  }
  full_form (g.let_ x o) = tt
  full_form (g.repeat x y) = tt
  full_form g.output = tt

  abbrev IsFull : Statement → Type 0
  IsFull s = IsFullForm s.form

  full_forms : {ts us : List Token} {ss : List Statement} → g.AreStatements limits ts us ss
      → All IsFull ss
  full_forms g.none_ = All-nil IsFull
  full_forms (g.some {s} {ss} a x) =
      All-append IsFull ss (s ∷ []) (full_forms a)
      (All-cons IsFull s [] (full_form x) (All-nil IsFull))

pub full_script : (bytes : List ℕ) (ast : Ast) → Accepts bytes ast
    → All (λ (s : Statement). IsFullForm s.form) ast.statements
full_script bytes ast (list, e, h) = full_forms the_limits h
