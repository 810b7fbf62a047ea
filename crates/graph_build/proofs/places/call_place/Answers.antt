use Rattle.std.proofs.Common.{◌+◌, ◌∙◌, ap}
use Rattle.std.specs.Prelude.{slice_index}
use Rattle.exec_graph.specs.Meaning.{place}
use Rattle.graph_build.specs.Calls.{number_behind}
use Rattle.graph_build.proofs.BuiltLemmas.{all_kept}
use Rattle.graph_build.proofs.OutputLemmas.{so_many}
use Rattle.graph_build.proofs.places.call_place.Goals as goal

pub returns : goal.returns
returns c =
    let script = c.args.program.now.script in
    let first = c.args.first in
    let kept = all_kept script first c.args.function c.in_ok-others.others c.in_ok-kept.kept
    c.in_ok-others.ensures c.in_ok-kept.ensures in
    let node = c.last_node-node.ensures
    ∙ ap (λ k. slice_index c.args.giving.now (first + k)) kept in
    let out = c.in_ok-out.ensures
    ∙ ap (number_behind 0) (so_many script first c.args.output) in
    λ i. place (node i) (out i)
