-- The tree of a statement without the lines on which its parts stand: each is 0.
use Rattle.std.specs.Prelude.{map}
use Rattle.flume_grammar.specs.declared.tree.Body.{Body, Body-F, fold-Body}
use Rattle.flume_grammar.specs.declared.tree.Body.TheVariants as body
use Rattle.flume_grammar.specs.declared.tree.Form.{Form}
use Rattle.flume_grammar.specs.declared.tree.Form.TheVariants as form
use Rattle.flume_grammar.specs.declared.tree.Function.{Function}
use Rattle.flume_grammar.specs.declared.tree.Repeat.{Repeat}
use Rattle.flume_grammar.specs.declared.tree.Statement.{Statement}
use Rattle.flume_grammar.specs.declared.tree.TurnLet.{TurnLet}

-- one level of a body's statement, whose blocks have none
abbrev pub layer_lineless : Body-F Body → Body
layer_lineless (Body-F.Let line name e) = body.Let 0 name e
layer_lineless (Body-F.Emit line to e) = body.Emit 0 to e
layer_lineless (Body-F.If line e a b) = body.If 0 e a b
layer_lineless (Body-F.For line name e inner) = body.For 0 name e inner
layer_lineless (Body-F.Case line e left a right b) = body.Case 0 e left a right b

abbrev pub body_lineless : Body → Body
body_lineless = fold-Body Body layer_lineless

abbrev pub function_lineless : Function → Function
function_lineless f = record f { body = map body_lineless f.body }

abbrev pub let_lineless : TurnLet → TurnLet
let_lineless own = record own { line = 0 }

abbrev pub repeat_lineless : Repeat → Repeat
repeat_lineless r = record r { lets = map let_lineless r.lets }

abbrev pub form_lineless : Form → Form
form_lineless (form.Function f) = form.Function (function_lineless f)
form_lineless (form.Repeat names r) = form.Repeat names (repeat_lineless r)
form_lineless f = f

abbrev pub statement_lineless : Statement → Statement
statement_lineless s = record { line = 0; form = form_lineless s.form }
