use Rattle.forest_steps.specs.Functions.{world_of}
use Rattle.forest_steps.proofs.answer.answer.Goals as goal

pub returns-in-Combine-clause-trap : goal.returns-in-Combine-clause-trap
returns-in-Combine-clause-trap g c =
    rw c.in-Combine.is
    (c.combine.ensures.trap (world_of (g.F.Functions.called c.args.functions.now)))
