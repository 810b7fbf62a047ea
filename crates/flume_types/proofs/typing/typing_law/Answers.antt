use Rattle.flume_types.proofs.TypingLemmas.{has_type-step}
use Rattle.flume_types.proofs.typing.typing_law.Goals as goal

pub returns : goal.returns
returns c = record { one_level = has_type-step }
