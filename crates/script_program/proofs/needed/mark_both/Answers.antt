use Rattle.std.proofs.Common.{◌∷◌}
use Rattle.script_program.proofs.needed.mark_both.Goals as goal

pub returns-clause-marked : goal.returns-clause-marked
returns-clause-marked c = λ numbers are.
    c.mark-2.ensures.marked (c.args.second ∷ numbers) (c.mark.ensures.marked numbers are)
