use Rattle.no_defaults.proofs.RecordLemmas.{full_script}
use Rattle.no_defaults.proofs.records.records_law.Goals as goal

pub returns : goal.returns
returns c = full_script
