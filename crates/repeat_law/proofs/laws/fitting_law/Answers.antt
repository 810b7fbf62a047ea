use Rattle.script_laws.proofs.FittingLemmas.{unrolled-fits}
use Rattle.script_laws.proofs.RepeatLemmas.{has-turns}
use Rattle.repeat_law.proofs.SoundLemmas.{is_repeat}
use Rattle.repeat_law.proofs.laws.fitting_law.Goals as goal

pub returns : goal.returns
returns c = record {
  rules = λ line names written s it e. (has-turns line names written s it 0 e).fits;
  sound = is_repeat;
  unrolled = unrolled-fits;
}
