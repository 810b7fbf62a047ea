use Rattle.std.proofs.Common.{◌∙◌, Bool, ap}
use Rattle.std.specs.List.{list_any}
use Rattle.exec_plan.specs.Meaning.{in_reads}
use Rattle.exec_plan.specs.declared.plan.PlanPlace.{PlanPlace}
use Rattle.stage_exec.specs.inner.Places.{is_same}
use Rattle.stage_exec.proofs.Unread.{any_inside}
use Rattle.stage_exec.proofs.dropping.reads.Goals as goal

pub returns-in-Mscr : goal.returns-in-Mscr
returns-in-Mscr c =
    let is : PlanPlace → Bool = λ q. is_same q c.args.place in
    rw c.in-Mscr.is
    (c.has_input.ensures
    ∙ ap (list_any (λ k. list_any is (in_reads k))) c.as_slice.ensures
    ∙ any_inside is in_reads c.in-Mscr.stage.inputs)
