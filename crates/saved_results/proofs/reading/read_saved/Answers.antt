use Rattle.saved_results.proofs.Kept.{none_kept, some_kept}
use Rattle.saved_results.proofs.reading.read_saved.Goals as goal

pub returns-in-Ok-clause-some : goal.returns-in-Ok-clause-some
returns-in-Ok-clause-some c =
    some_kept c.saved_in.result c.in-Ok.value c.args.bytes.now c.in-Ok.ensures.value
    c.saved_in.ensures

pub returns-in-Ok-clause-none : goal.returns-in-Ok-clause-none
returns-in-Ok-clause-none c =
    none_kept c.saved_in.result c.in-Ok.value c.args.bytes.now c.in-Ok.ensures.back
    c.saved_in.ensures
