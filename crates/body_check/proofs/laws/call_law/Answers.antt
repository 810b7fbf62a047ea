use Rattle.body_check.proofs.FunctionLemmas.{answered}
use Rattle.body_check.proofs.laws.call_law.Goals as goal

pub returns : goal.returns
returns c known argument takes gives body x rules has =
    answered known argument takes gives body x rules has
