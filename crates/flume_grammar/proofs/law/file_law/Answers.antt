use Rattle.flume_grammar.proofs.FileNames.{files}
use Rattle.flume_grammar.proofs.law.file_law.Goals as goal

pub returns : goal.returns
returns c = files
