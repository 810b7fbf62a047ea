-- The execution graph of an accepted script is well-formed.
use Rattle.std.proofs.Common.{ℕ, List}
use Rattle.script_loading.proofs.of_build_law.Accepting.{accepted_kept}
use Rattle.script_loading.proofs.of_build_law.Short.{accepted_short}
use Rattle.script_loading.proofs.of_build_law.WellFormed.{is_graph_ok}
use Rattle.exec_graph.specs.Wellformed.{IsGraphOk}
use Rattle.script_loading.specs.of_graph_build.Graphs.{graph_of}
use Rattle.script_program.specs.Script.{Script}
use Rattle.script_loading.proofs.of_script_laws.RuleLemmas.{well-formed}
use Rattle.script_loading.specs.Accepted.{Accepted}

pub accepted_graph : (bytes : List ℕ) (script : Script) → Accepted bytes script
    → IsGraphOk (graph_of script)
accepted_graph bytes script (ast, spells, is) =
    is_graph_ok script (well-formed ast.statements script is)
    (accepted_kept ast.statements script (accepted_short bytes ast spells) is).short
