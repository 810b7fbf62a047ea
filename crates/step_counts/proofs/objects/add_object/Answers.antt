use Rattle.step_counts.proofs.Adding.{object_grown}
use Rattle.step_counts.proofs.objects.add_object.Goals as goal

pub returns : goal.returns
returns c w object many =
    object_grown _ _ c.args.origin c.args.last c.args.members w object many
    (rw (← c.owner_of.ensures) c.add_to.ensures)
