use Rattle.std.proofs.Common.{[], ◌∷◌, length}
use Rattle.script_program.proofs.FlagLemmas.{none-marked}
use Rattle.script_program.proofs.needed.rested.Goals as goal

pub returns-clause-told : goal.returns-clause-told
returns-clause-told c =
    c.mark_needed.ensures.marked (c.args.asked ∷ [])
    (c.mark.ensures.marked []
    (none-marked c.in_ok-flags.flags.items (length c.args.nodes.now) c.in_ok-flags.ensures))
