-- What an accepted script keeps beside the rules of its statements.
use Rattle.std.specs.Prelude.{◌≡◌, ◌≤◌, List, length}
use Rattle.std.specs.List.{AllByRecursion}
use Rattle.exec_graph.specs.Wellformed.{most_nodes}
use Rattle.flume_grammar.specs.declared.tree.Form.{Form}
use Rattle.flume_grammar.specs.declared.tree.Form.TheVariants as form
use Rattle.flume_grammar.specs.declared.tree.Operation.{Operation}
use Rattle.flume_grammar.specs.declared.tree.Operation.TheVariants as operation
use Rattle.flume_grammar.specs.declared.tree.Statement.{Statement}
use Rattle.graph_build.specs.of_script_program.declared.made.Made.{Made}
use Rattle.graph_build.specs.of_script_program.declared.made.Made.TheVariants as made
use Rattle.graph_build.specs.of_script_program.Script.{Script}

-- no more collections are put together than a Flatten may have inputs
abbrev pub IsShort : Made → Type 0
IsShort (made.Flatten sources) = length sources ≤ most_nodes
IsShort _ = Unit {0}

abbrev pub HasShortFlattens : Script → Type 0
HasShortFlattens script = AllByRecursion (λ entry. IsShort entry.1.made) script.nodes

-- ---- scripts as they are written

-- and no more are named in one statement
abbrev pub IsShortOperation : Operation → Type 0
IsShortOperation (operation.Flatten sources) = length sources ≤ most_nodes
IsShortOperation _ = Unit {0}

abbrev pub IsShortForm : Form → Type 0
IsShortForm (form.Let names by) = IsShortOperation by
IsShortForm (form.Repeat names written) =
    AllByRecursion (λ it. IsShortOperation it.by) written.lets
IsShortForm _ = Unit {0}

abbrev pub AreShort : List Statement → Type 0
AreShort statements = AllByRecursion (λ statement. IsShortForm statement.form) statements
