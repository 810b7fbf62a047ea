use Rattle.plan_files.specs.Forms.{number_in_data}
use Rattle.plan_files.proofs.Lists.{IsRead}
use Rattle.plan_files.proofs.numbers.numbers_among.Given as goal

abbrev pub invariant-loop-value : goal.invariant-loop-value
invariant-loop-value l = IsRead number_in_data l.numbers.items l.value-index l.values
