use Rattle.std.proofs.Common.{◌≡◌, length, arith}
use Rattle.forest_steps.specs.Functions.{world_of}
use Rattle.reduce_part.proofs.Values.{value_anywhere}
use Rattle.reduce_part.proofs.reduce.reduce_groups.Goals as goal

pub returns-in_ok-reduced-in-Made-clause-value : goal.returns-in_ok-reduced-in-Made-clause-value
returns-in_ok-reduced-in-Made-clause-value g c =
    let w = world_of (g.F.Functions.called c.args.functions.now) in
    let does = c.args.does.now in
    let groups = c.args.groups.items in
    let many : c.len-count.result ≡ length groups = omega (
      arith,
      c.len-count.ensures,
      c.args.groups.ok.0,
    ) in
    let course = rw c.in-Made.is at c.in_ok-course.ensures.value in
    value_anywhere (g.F.Functions.called c.args.functions.now) does groups
    c.in_ok-reduced-in-Made.field-0
    (c.in_ok-reduced-in-Made.ensures w does groups many course)
