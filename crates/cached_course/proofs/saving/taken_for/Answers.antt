use Rattle.std.proofs.Common.{◌∙◌, ℕ, List, ap}
use Rattle.kept_results.specs.Lists.{rows_given}
use Rattle.script_program.specs.Saved.{with_saved}
use Rattle.cached_course.proofs.GivenLemmas.{inputs_below}
use Rattle.cached_course.proofs.saving.taken_for.Goals as goal

pub given_lists-requires : goal.given_lists-requires
given_lists-requires c =
    rw c.as_program-held.ensures.is
    (inputs_below c.args.program.script c.with_saved-later.result.script
    c.as_slice-asked.result.now c.as_slice-kept.result.now
    (c.as_slice-asked.ensures.value ∙ c.requires) c.with_saved-later.ensures.script)

pub returns-in-Ok-clause-program : goal.returns-in-Ok-clause-program
returns-in-Ok-clause-program c =
    c.with_saved-later.ensures.script
    ∙ ap (λ (l : List ℕ). with_saved l c.args.program.script) c.as_slice-kept.ensures.value

pub returns-in-Ok-clause-lists : goal.returns-in-Ok-clause-lists
returns-in-Ok-clause-lists c =
    (rw c.as_program-held.ensures.is at c.in-Ok.ensures)
    ∙ ap
    (λ (l : List ℕ). rows_given c.with_saved-later.result.script l c.args.rows
    c.args.it.found.members.items)
    c.as_slice-asked.ensures.value
