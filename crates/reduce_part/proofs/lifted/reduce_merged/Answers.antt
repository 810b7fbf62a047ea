use Rattle.std.proofs.Common.{◌≡◌, Some, length, arith}
use Rattle.exec_graph.specs.Calls.{called}
use Rattle.exec_graph.specs.declared.step.Does.TheVariants as does
use Rattle.forest_steps.specs.Functions.{world_of}
use Rattle.lifted_root.specs.Lifted.{partial_answer}
use Rattle.lifted_root.proofs.Groups.{same_length}
use Rattle.reduce_part.proofs.Values.{value_anywhere}
use Rattle.reduce_part.proofs.lifted.reduce_merged.Goals as goal

pub returns-in_ok-reduced-in-Made-clause-value : goal.returns-in_ok-reduced-in-Made-clause-value
returns-in_ok-reduced-in-Made-clause-value g c groups answers =
    let w = world_of (g.F.Functions.called c.args.functions.now) in
    let comb = c.args.comb in
    let merged = c.args.merged.items in
    let many : c.len-groups.result ≡ length groups = omega (
      arith,
      c.len-groups.ensures,
      c.args.merged.ok.0,
      same_length (partial_answer comb) (called w (does.Combine comb)) merged groups answers,
    ) in
    let course = rw c.in-Made.is at c.in_ok-course.ensures.value in
    value_anywhere (g.F.Functions.called c.args.functions.now) (Some c.args.roots.now) groups
    c.in_ok-reduced-in-Made.field-0
    (c.in_ok-reduced-in-Made.ensures w (Some c.args.roots.now) groups many (course groups answers))
