use Rattle.plan_laws.specs.Operations.{at_source}
use Rattle.plan_laws.proofs.Freedom.{all_stages}
use Rattle.plan_laws.proofs.laws.object_free_law.Goals as goal

pub returns : goal.returns
returns c sources g os free = all_stages g.nodes 1 (at_source g.nodes) os free
