use Rattle.script_keys.proofs.Choosing.{same_key, same_parts}
use Rattle.script_keys.proofs.law.key_law.Goals as goal

pub returns-clause-texts : goal.returns-clause-texts
returns-clause-texts c = same_parts

pub returns-clause-files : goal.returns-clause-files
returns-clause-files c = same_key
