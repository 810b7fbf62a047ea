use Rattle.task_safety.proofs.Safely.{task_safe}
use Rattle.task_safety.proofs.laws.safe_law.Goals as goal

pub returns : goal.returns
returns c s w task world typed = task_safe s w world task typed
