use Rattle.plan_files.proofs.Back.{file_back}
use Rattle.plan_files.proofs.laws.form_law.Goals as goal

pub returns : goal.returns
returns c = file_back
