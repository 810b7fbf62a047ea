use Rattle.plan_file_law.proofs.Files.{file_read, line_read}
use Rattle.plan_file_law.proofs.laws.file_law.Goals as goal

pub returns-clause-text : goal.returns-clause-text
returns-clause-text c = file_read

pub returns-clause-line : goal.returns-clause-line
returns-clause-line c = line_read
