use Rattle.csv_rows.proofs.Splitting.{nothing_marked, unmarked}
use Rattle.csv_rows.proofs.shared.may_have_mark.Goals as goal

pub returns-in-Some : goal.returns-in-Some
returns-in-Some c =
    λ e. unmarked c.args.bytes.now c.in-Some.byte.now c.in-Some.ensures.value e

pub returns-in-None : goal.returns-in-None
returns-in-None c = λ e. nothing_marked c.args.bytes.now c.in-None.ensures.value
