use Rattle.script_loading.proofs.AskLemmas.{rows_behind}
use Rattle.keyed_loading.proofs.FileLemmas.{file_behind}
use Rattle.keyed_loading.proofs.inputs.KeyedInputsIntake.take.Goals as goal

pub returns-clause-taken : goal.returns-clause-taken
returns-clause-taken c = λ told type fits loads done are. (
  rows_behind told c.args.it.now.file.now c.args.loaded type c.args.it.now.columns.now
      c.in_ok-own.own.0 c.args.self.now.rows c.push.new.self done fits loads
      c.in_ok-own.ensures.rows c.in_ok-push.ensures.ok are.0,
  file_behind told (record { file = c.args.it.now.file.now; type = type }) c.args.loaded
      c.in_ok-own.own.1 c.args.self.now.files c.push-2.new.self done loads
      c.in_ok-own.ensures.name c.in_ok-own.ensures.bytes c.in_ok-push-2.ensures.ok are.1,
)
