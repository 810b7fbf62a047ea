use Rattle.std.proofs.Common.{inl, refl}
use Rattle.run_course.proofs.showing.taken_shown.Goals as goal

pub returns-in-Err-clause-stop : goal.returns-in-Err-clause-stop
returns-in-Err-clause-stop c = inl refl
