use Rattle.std.proofs.Common.{rules, ◌≡◌}
use Rattle.std.specs.Prelude.{IfOk, Ok}
use Rattle.csv_rows.specs.Records.{records_of}
use Rattle.csv_rows.specs.Rows.{rows_from}
use Rattle.csv_rows.specs.inner.Parts.{rows_behind}
use Rattle.csv_rows.proofs.JoinFacts.{both_appended}
use Rattle.csv_rows.proofs.shared.+parts.Goals as goal

pub read_both-returns : goal.read_both-returns
read_both-returns g t c =
    let columns = c.args.columns.now in
    let front = records_of c.args.front.now in
    let back = records_of c.args.back.now in
    let first : IfOk c.join-first.result.0 (λ rows. rows_behind c.args.head columns front ≡ Ok rows)
    = search rules in
    let rest : IfOk c.join-first.result.1 (λ rows. rows_from 1 columns back ≡ Ok rows) =
    search rules in
    both_appended c.args.head columns front back c.join-first.result.0 c.join-first.result.1
    c.appended.result first rest c.appended.ensures
