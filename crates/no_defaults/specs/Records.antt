-- Trees in which each record has as many parts as names.
use Rattle.std.specs.Prelude.{◌≡◌, ℕ, Bool, List, [], ◌∷◌, ◌++◌, Option, length}
use Rattle.flume_grammar.specs.declared.tree.Binary.{Binary}
use Rattle.flume_grammar.specs.declared.tree.Body.{Body}
use Rattle.flume_grammar.specs.declared.tree.Body.TheVariants as body
use Rattle.flume_grammar.specs.declared.tree.Expr.{Expr}
use Rattle.flume_grammar.specs.declared.tree.Expr.TheVariants as tree
use Rattle.flume_grammar.specs.declared.tree.Form.{Form}
use Rattle.flume_grammar.specs.declared.tree.Form.TheVariants as form
use Rattle.flume_grammar.specs.declared.tree.Function.{Function}
use Rattle.flume_grammar.specs.declared.tree.Side.{Side}
use Rattle.flume_grammar.specs.declared.tree.Type.TheVariants as type_tree
use Rattle.flume_grammar.specs.declared.tree.Unary.{Unary}
use Rattle.flume_grammar.specs.Parts.{Tree}

mutual
  -- each record type in the type
  pub data IsFullType : Tree → Type 0 where
    int : IsFullType type_tree.Int
    bool : IsFullType type_tree.Bool
    text_ : IsFullType type_tree.Text
    named : {x : List ℕ} → IsFullType (type_tree.Named x)
    list : {t : Tree} → IsFullType t → IsFullType (type_tree.List t)
    either : {s t : Tree} → IsFullType s → IsFullType t → IsFullType (type_tree.Either s t)
    table : {s t : Tree} → IsFullType s → IsFullType t → IsFullType (type_tree.Table s t)
    record_ : {names : List (List ℕ)} {types : List Tree} → length names ≡ length types
        → AreFullTypes types → IsFullType (type_tree.Record names types)

  pub data AreFullTypes : List Tree → Type 0 where
    none_ : AreFullTypes []
    more : {types : List Tree} {t : Tree} → AreFullTypes types → IsFullType t
        → AreFullTypes (types ++ t ∷ [])

mutual
  -- each record literal and each record type in the expression
  pub data IsFullExpr : Expr → Type 0 where
    number : {digits : List ℕ} → IsFullExpr (tree.Number digits)
    textlit : {content : List ℕ} → IsFullExpr (tree.Text content)
    truth : {b : Bool} → IsFullExpr (tree.Bool b)
    variable : {x : List ℕ} → IsFullExpr (tree.Name x)
    empty : {t : Tree} → IsFullType t → IsFullExpr (tree.Empty t)
    unary : {u : Unary} {e : Expr} → IsFullExpr e → IsFullExpr (tree.Unary u e)
    binary : {o : Binary} {e f : Expr} → IsFullExpr e → IsFullExpr f
        → IsFullExpr (tree.Binary o e f)
    field : {e : Expr} {x : List ℕ} → IsFullExpr e → IsFullExpr (tree.Field e x)
    index : {e f : Expr} → IsFullExpr e → IsFullExpr f → IsFullExpr (tree.Index e f)
    literal : {names : List (List ℕ)} {parts : List Expr} → length names ≡ length parts
        → AreFullExprs parts → IsFullExpr (tree.Record names parts)
    members : {es : List Expr} → AreFullExprs es → IsFullExpr (tree.List es)
    sided : {s : Side} {t : Tree} {e : Expr} → IsFullType t → IsFullExpr e
        → IsFullExpr (tree.Side s t e)
    concat : {e f : Expr} → IsFullExpr e → IsFullExpr f → IsFullExpr (tree.Concat e f)
    pick : {e f g : Expr} → IsFullExpr e → IsFullExpr f → IsFullExpr g
        → IsFullExpr (tree.Pick e f g)

  pub data AreFullExprs : List Expr → Type 0 where
    none_ : AreFullExprs []
    more : {es : List Expr} {e : Expr} → AreFullExprs es → IsFullExpr e
        → AreFullExprs (es ++ e ∷ [])

mutual
  -- and each in the statement of a body
  pub data IsFullBody : Body → Type 0 where
    let_ : {n : ℕ} {x : List ℕ} {e : Expr} → IsFullExpr e → IsFullBody (body.Let n x e)
    emit : {n : ℕ} {to : Option (List ℕ)} {e : Expr} → IsFullExpr e
        → IsFullBody (body.Emit n to e)
    if_ : {n : ℕ} {e : Expr} {ss rs : List Body} → IsFullExpr e → AreFullBodies ss
        → AreFullBodies rs → IsFullBody (body.If n e ss rs)
    for_ : {n : ℕ} {x : List ℕ} {e : Expr} {ss : List Body} → IsFullExpr e → AreFullBodies ss
        → IsFullBody (body.For n x e ss)
    case_ : {n : ℕ} {e : Expr} {x y : List ℕ} {ss rs : List Body} → IsFullExpr e
        → AreFullBodies ss → AreFullBodies rs → IsFullBody (body.Case n e x ss y rs)

  pub data AreFullBodies : List Body → Type 0 where
    none_ : AreFullBodies []
    more : {ss : List Body} {s : Body} → AreFullBodies ss → IsFullBody s
        → AreFullBodies (ss ++ s ∷ [])

-- each in the types and in the body of a function
pub record IsFullFunction (f : Function) : Type 0 where
  pub argument : IsFullType f.takes
  pub output : IsFullType f.gives
  pub outputs : AreFullTypes f.more
  pub statements : AreFullBodies f.body

-- and in a statement of a script
abbrev pub IsFullForm : Form → Type 0
IsFullForm (form.Type name type) = IsFullType type
IsFullForm (form.Input name type file) = IsFullType type
IsFullForm (form.Function f) = IsFullFunction f
IsFullForm _ = Unit {0}
