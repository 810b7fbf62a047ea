use Rattle.std.proofs.Common.{◌∙◌, ◌||◌, Bool, ap, sym}
use Rattle.exec_plan.specs.declared.plan.PlanPlace.{PlanPlace}
use Rattle.std.specs.List.{list_any}
use Rattle.stage_exec.specs.inner.Places.{is_same}
use Rattle.exec_plan.specs.Meaning.{stage_reads}
use Rattle.stage_exec.proofs.Unread.{any_flat}
use Rattle.stage_exec.proofs.dropping.is_read.Goals as goal

pub returns-then-any_reads : goal.returns-then-any_reads
returns-then-any_reads c =
    let is : PlanPlace → Bool = λ q. is_same q c.args.place in
    c.if-any_reads.true
    ∙ ap (λ b. b || list_any is c.args.outputs.now)
    (sym c.if-any_reads.true ∙ c.any_reads.ensures)
    ∙ any_flat is stage_reads c.args.later.now c.args.outputs.now

pub returns-else-any_reads : goal.returns-else-any_reads
returns-else-any_reads c =
    let is : PlanPlace → Bool = λ q. is_same q c.args.place in
    c.is_among.ensures
    ∙ ap (λ b. b || list_any is c.args.outputs.now)
    (sym c.if-any_reads.false ∙ c.any_reads.ensures)
    ∙ any_flat is stage_reads c.args.later.now c.args.outputs.now
