use Rattle.csv_rows.proofs.LawFacts.{rows_length}
use Rattle.csv_rows.proofs.TypeFacts.{rows_typed, under_typed}
use Rattle.csv_rows.proofs.laws.rows_law.Goals as goal

pub returns-clause-count : goal.returns-clause-count
returns-clause-count c = rows_length

pub returns-clause-typed : goal.returns-clause-typed
returns-clause-typed c bytes ty rows read = rows_typed ty bytes rows read

pub returns-clause-under : goal.returns-clause-under
returns-clause-under c columns ty records rows some read =
    under_typed ty columns records rows some read
