use Rattle.flume_tokens.proofs.Utf8Texts.{texts}
use Rattle.flume_tokens.proofs.law.text_law.Goals as goal

pub returns : goal.returns
returns c = texts
