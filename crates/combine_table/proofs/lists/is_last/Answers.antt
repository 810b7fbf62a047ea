use Rattle.combine_table.proofs.Repeats.{last_said}
use Rattle.combine_table.proofs.lists.is_last.Goals as goal

pub returns-in-Some : goal.returns-in-Some
returns-in-Some c =
    last_said c.args.values.now c.in-Some.last.now c.args.value.now c.equals.result
    c.in-Some.ensures.value c.equals.ensures
