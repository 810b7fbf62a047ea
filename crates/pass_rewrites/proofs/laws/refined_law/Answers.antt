use Rattle.pass_rewrites.proofs.Refined.{refined_list}
use Rattle.pass_rewrites.proofs.laws.refined_law.Goals as goal

pub returns : goal.returns
returns c = refined_list
