use Rattle.script_laws.proofs.RuleLemmas.{unsaved, well-formed}
use Rattle.script_laws.proofs.laws.well_formed_law.Goals as goal

pub returns : goal.returns
returns c = record { well_formed = well-formed; unsaved = unsaved }
