-- The functions of a program may be shared by threads: all that a program holds may be. A type that
-- holds itself is shown by its parts as fields, which is what a type that holds it asks for.
use denote.Ref.{NamedLft}
use denote.Param.Send.{IsSync, sendable}
use Rattle.std.proofs.Crossing.{crosses}
use Rattle.flume_value.specs.contracts.value.Value as value
use Rattle.flume_value.proofs.value.Value.TheLaws.TheKnot as value_knot
use Rattle.flume_value.proofs.CrossLemmas.{Held-sync, Pile-sync, Str-sync}
use Rattle.flume_grammar.specs.contracts.tree.Type as type
use Rattle.flume_grammar.specs.contracts.tree.Expr as written
use Rattle.flume_grammar.specs.contracts.tree.Body as body
use Rattle.flume_grammar.proofs.tree.Type.TheLaws.TheKnot as type_knot
use Rattle.flume_grammar.proofs.tree.Expr.TheLaws.TheKnot as written_knot
use Rattle.flume_grammar.proofs.tree.Body.TheLaws.TheKnot as body_knot
use Rattle.dofn_eval.specs.contracts.expr.Expr as expr
use Rattle.dofn_eval.specs.contracts.stmt.Stmt as stmt
use Rattle.dofn_eval.specs.contracts.fun.Fun as fun
use Rattle.dofn_eval.proofs.expr.Expr.TheLaws.TheKnot as expr_knot
use Rattle.dofn_eval.proofs.stmt.Stmt.TheLaws.TheKnot as stmt_knot
use Rattle.written_types.specs.contracts.names.TypeNames as names
use Rattle.build_law.specs.of_script_program.contracts.made.Function as function
use Rattle.build_law.specs.of_script_program.contracts.made.Node as node
use Rattle.build_law.specs.of_script_program.contracts.made.Output as output
use Rattle.build_law.specs.of_script_program.contracts.program.Program as program
use Rattle.script_functions.specs.contracts.functions.ScriptFunctions as functions

ruleset parts = (Str-sync, Pile-sync, Held-sync)

-- ---- typed functions

Value-sync : IsSync (value.the_field).row
Value-sync = search (sendable, value_knot.crosses, parts) depth 60

Expr-sync : IsSync (expr.the_field).row
Expr-sync = search (sendable, expr_knot.crosses, parts, Value-sync) depth 60

Stmt-sync : IsSync (stmt.the_field).row
Stmt-sync = search (sendable, stmt_knot.crosses, parts, Expr-sync) depth 60

Fun-sync : IsSync fun.the_row
Fun-sync = search (sendable, parts, Stmt-sync) depth 60

-- ---- bodies as they are written

Type-sync : IsSync (type.the_field).row
Type-sync = search (sendable, type_knot.crosses, parts) depth 60

Written-sync : IsSync (written.the_field).row
Written-sync = search (sendable, written_knot.crosses, parts, Type-sync) depth 60

Body-sync : IsSync (body.the_field).row
Body-sync = search (sendable, crosses, body_knot.crosses, parts, Written-sync) depth 60

-- ---- programs

Function-sync : IsSync function.the_row
Function-sync = search (sendable, parts, Body-sync, Fun-sync) depth 60

Node-sync : IsSync node.the_row
Node-sync = search (sendable, crosses, parts) depth 60 fits 4000

Output-sync : IsSync output.the_row
Output-sync = search (sendable, crosses, parts) depth 60

TypeNames-sync : IsSync names.the_row
TypeNames-sync = search (sendable, crosses, parts) depth 60

Program-sync : IsSync program.the_row
Program-sync =
    search (sendable, crosses, parts, TypeNames-sync, Function-sync, Node-sync, Output-sync)
    depth 60

pub functions_sync : (a : NamedLft) → IsSync (functions.the_row a)
functions_sync a = search (sendable, Program-sync) depth 60
