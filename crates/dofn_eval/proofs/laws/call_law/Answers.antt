use Rattle.dofn_eval.proofs.SoundCalls.{answered_call}
use Rattle.dofn_eval.proofs.laws.call_law.Goals as goal

pub returns : goal.returns
returns c = answered_call
