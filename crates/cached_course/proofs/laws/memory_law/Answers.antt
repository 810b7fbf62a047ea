use Rattle.cached_course.proofs.PromiseLemmas.{of_memory}
use Rattle.cached_course.proofs.laws.memory_law.Goals as goal

pub returns : goal.returns
returns c = of_memory c.reuse_law.ensures.meant c.reuse_law.ensures.sound
