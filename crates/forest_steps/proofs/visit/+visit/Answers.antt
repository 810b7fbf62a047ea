use Rattle.std.proofs.Common.{ℕ, ◌+◌, ◌≤◌, arith, ◌≡◌, ◌∷◌, [], List, drop, ap, refl, subst, sym, ◌∙◌}
use borrow.Author.Rules.{rules, lives}
use Rattle.std.specs.List.{AllByRecursion, slice_get}
use Rattle.std.proofs.lemmas.Result.{err_from_is_err_and}
use Rattle.flume_collection.specs.Calls.{or_none}
use Rattle.flume_value.specs.declared.value.Value.{Value}
use Rattle.exec_graph.specs.Calls.{called}
use denote.Param.Weighed.{at_most, most}
use Rattle.exec_graph.specs.Forests.{Branch, grown}
use Rattle.exec_graph.specs.declared.step.Output.{Output}
use Rattle.exec_graph.specs.declared.step.Step.TheDeep.{deep-Output}
use Rattle.exec_graph.specs.declared.step.Step.TheView.{size}
use Rattle.exec_graph.proofs.step.Step.TheLaws.TheFalls.{size_decreases}
use Rattle.forest_steps.specs.Functions.{world_of}
use Rattle.forest_steps.specs.Safety.{Safe}
use Rattle.forest_steps.specs.Running.{Run, IsRun, run, run_twigs}
use Rattle.forest_steps.specs.Answers.{lists_of}
use Rattle.forest_steps.proofs.Twigging.{limb_run, limb_safe, safe_member}
use Rattle.forest_steps.proofs.Visiting.{each_member, place_begun, place_on, safe_begun, safe_first, safe_here, safe_on, steps_end, steps_on, twigs_begun, twigs_end, twigs_on}
use Rattle.forest_steps.proofs.visit.+visit.Goals as goal

pub visit_output-visit_kids-requires : goal.visit_output-visit_kids-requires
visit_output-visit_kids-requires g t c κs within =
    let w = world_of (g.F.Functions.called c.args.functions.now) in
    let takes = g.F.Functions.can_call c.args.functions.now in
    let kids = grown c.args.output.now.kids.items in
    let items = c.as_slice-y-items.result.now in
    let all : AllByRecursion (Safe w takes kids) items =
    subst (AllByRecursion (Safe w takes kids)) (sym c.as_slice-y-items.ensures) c.requires in (
      search rules,
      (
        search (rules, lives, within) depth 24 fits 20000,
        each_member (Safe w takes kids) items c.loop-y.y-index c.y-item.result all
            c.loop-y-test.true c.y-item.is,
      ),
    )

pub visit_outputs-loop-output-init : goal.visit_outputs-loop-output-init
visit_outputs-loop-output-init g t c =
    let w = world_of (g.F.Functions.called c.args.functions.now) in
    let takes = g.F.Functions.can_call c.args.functions.now in
    let b = c.args.step.now in
    let o = c.step.inside.first in
    let os = c.step.inside.more.items in
    let first = sym (ap (λ (d : Branch). d.first) c.step.view_is) in
    let more = sym (ap (λ (d : Branch). d.more) c.step.view_is) in
    let same = c.deref-output-items.ensures.value in
    let all : c.into_iter-answers.result.rest.items ≡ c.args.answers.items = search rules in
    let given = c.next_list-emitted.ensures.next
    ∙ ap (λ (l : List (List Value)). or_none (slice_get l 0)) all in
    let left = c.next_list-emitted.ensures.rest
    ∙ ap (λ (l : List (List Value)). drop 1 l) all in record {
      ran = twigs_begun w c.args.sizes.now b o os c.deref-output-items.result.now c.args.at
          c.behind-next.result c.args.answers.items c.next_list-emitted.new.answers.rest.items
          c.next_list-emitted.result c.args.outputs.now c.visit_output.new.outputs first more same
          given left c.behind-next.ensures c.in_ok-visit_output.ensures;
      place = place_begun w c.args.sizes.now b o os c.deref-output-items.result.now c.args.at
          c.behind-next.result first more same c.behind-next.ensures;
      safe = safe_begun w c.args.sizes.now takes b os c.deref-output-items.result.now
          c.args.answers.items c.next_list-emitted.new.answers.rest.items more same left c.requires;
    }

pub visit_outputs-visit_output-requires : goal.visit_outputs-visit_output-requires
visit_outputs-visit_output-requires g t c κs within =
    let w = world_of (g.F.Functions.called c.args.functions.now) in
    let takes = g.F.Functions.can_call c.args.functions.now in
    let first = sym (ap (λ (d : Branch). d.first) c.step.view_is) in
    let all : c.into_iter-answers.result.rest.items ≡ c.args.answers.items = search rules in
    let given = c.next_list-emitted.ensures.next
    ∙ ap (λ (l : List (List Value)). or_none (slice_get l 0)) all in
    let whole = ap size c.step.view_is in (
      omega (arith, c.decreases, whole, size_decreases c.step.inside c.step.invariant),
      (
        search (rules, lives, within) depth 24 fits 20000,
        safe_first w c.args.sizes.now takes c.args.step.now c.step.inside.first c.args.answers.items
            c.next_list-emitted.result first given c.requires,
      ),
    )

pub visit_outputs-visit_output-requires-in-loop-output :
    goal.visit_outputs-visit_output-requires-in-loop-output
visit_outputs-visit_output-requires-in-loop-output g t c κs within =
    let w = world_of (g.F.Functions.called c.args.functions.now) in
    let takes = g.F.Functions.can_call c.args.functions.now in
    let items = c.deref-output-items.result.now in
    let more = ap (most deep-Output) c.deref-output-items.ensures.value in
    let below : deep-Output c.output-item.result ≤ most deep-Output items =
    subst (λ (o : Output). deep-Output o ≤ most deep-Output items) (sym c.output-item.is)
    (at_most deep-Output items c.loop-output.output-index c.output-item.result
    c.loop-output-test.true) in
    let whole = ap size c.step.view_is in (
      omega (arith, c.decreases, below, more, whole, size_decreases c.step.inside c.step.invariant),
      (
        search (rules, lives, within) depth 24 fits 20000,
        safe_here w c.args.sizes.now takes items c.loop-output.output-index c.output-item.result
            c.loop-output.answers.rest.items c.next_list-emitted-in-loop-output.result
            c.loop-output-test.true c.output-item.is
            c.next_list-emitted-in-loop-output.ensures.next c.loop-output.invariant.safe,
      ),
    )

pub visit_outputs-returns-in_err-visit_output-2-clause-ran :
    goal.visit_outputs-returns-in_err-visit_output-2-clause-ran
visit_outputs-returns-in_err-visit_output-2-clause-ran g t c =
    let w = world_of (g.F.Functions.called c.args.functions.now) in
    let b = c.args.step.now in
    let whole = run_twigs w c.args.sizes.now c.args.at c.args.answers.items (b.first ∷ b.more)
    c.args.outputs.now in
    let p = err_from_is_err_and c.from_residual-in_err-visit_output-2.result
    c.from_residual-in_err-visit_output-2.ensures.1 in
    rw (p.1, p.2)
    (twigs_end w c.args.sizes.now c.deref-output-items.result.now c.loop-output.output-index
    c.output-item.result c.loop-output.next c.loop-output.answers.rest.items
    c.next_list-emitted-in-loop-output.result c.loop-output.outputs whole
    c.in_err-visit_output-2.field-0.0 c.loop-output-test.true c.output-item.is
    c.next_list-emitted-in-loop-output.ensures.next c.loop-output.invariant.ran
    c.in_err-visit_output-2.ensures)

pub visit_outputs-loop-output-preserved : goal.visit_outputs-loop-output-preserved
visit_outputs-loop-output-preserved g t c =
    let w = world_of (g.F.Functions.called c.args.functions.now) in
    let takes = g.F.Functions.can_call c.args.functions.now in
    let b = c.args.step.now in
    let items = c.deref-output-items.result.now in
    let i = c.loop-output.output-index in
    let o = c.output-item.result in
    let answers = c.loop-output.answers.rest.items in
    let left = c.next_list-emitted-in-loop-output.new.answers.rest.items in
    let given = c.next_list-emitted-in-loop-output.ensures.next in
    let rest = c.next_list-emitted-in-loop-output.ensures.rest in
    let next = c.behind-next-in-loop-output.result in record {
      ran = twigs_on w c.args.sizes.now items i o c.loop-output.next next answers left
          c.next_list-emitted-in-loop-output.result c.loop-output.outputs
          c.visit_output-in-loop-output.new.outputs
          (run_twigs w c.args.sizes.now c.args.at c.args.answers.items (b.first ∷ b.more)
          c.args.outputs.now)
          c.loop-output-test.true c.output-item.is given rest
          c.behind-next-in-loop-output.ensures c.loop-output.invariant.ran
          c.in_ok-visit_output-2.ensures;
      place = place_on w c.args.sizes.now items i o c.loop-output.next next _
          c.loop-output-test.true c.output-item.is c.behind-next-in-loop-output.ensures
          c.loop-output.invariant.place;
      safe = safe_on w c.args.sizes.now takes items i o answers left c.loop-output-test.true
          c.output-item.is rest c.loop-output.invariant.safe;
    }

pub visit_step-visit_answer-requires : goal.visit_step-visit_answer-requires
visit_step-visit_answer-requires g t c κs within =
    let w = world_of (g.F.Functions.called c.args.functions.now) in
    let takes = g.F.Functions.can_call c.args.functions.now in
    let answers = lists_of c.in_ok-answered.answered in
    let given = sym (ap (λ (d : Branch). called w d.does c.args.x.now) c.step.view_is)
    ∙ c.in_ok-answered.ensures.given in (
      search rules,
      (
        search (rules, lives, within) depth 24 fits 20000,
        limb_safe w takes c.args.step.now c.args.x.now answers given c.requires,
      ),
    )

pub visit_step-returns-clause-ran : goal.visit_step-returns-clause-ran
visit_step-returns-clause-ran g t c =
    let w = world_of (g.F.Functions.called c.args.functions.now) in
    let given = sym (ap (λ (d : Branch). called w d.does c.args.x.now) c.step.view_is)
    ∙ c.in_ok-answered.ensures.given in
    subst (λ (r : Run). IsRun r c.visit_answer.new.outputs c.visit_answer.result)
    (sym (limb_run w c.args.sizes.now c.args.at c.args.step.now c.args.x.now
    (lists_of c.in_ok-answered.answered) c.args.outputs.now given))
    c.visit_answer.ensures.ran

pub visit_kids-visit_step-requires : goal.visit_kids-visit_step-requires
visit_kids-visit_step-requires g t c κs within =
    let w = world_of (g.F.Functions.called c.args.functions.now) in
    let takes = g.F.Functions.can_call c.args.functions.now in
    let items = c.deref-kid-items.result.now in
    let μ : Branch → ℕ = λ b. size b + 1 in
    let below : μ c.kid-item.result ≤ most μ items = subst (λ (b : Branch). μ b ≤ most μ items)
    (sym c.kid-item.is)
    (at_most μ items c.loop-kid.kid-index c.kid-item.result c.loop-kid-test.true) in
    let safe = subst (λ (bs : List Branch). Safe w takes (grown bs) c.args.y.now)
    (sym c.deref-kid-items.ensures.value) c.requires in (
      omega (arith, c.decreases, below, ap (most μ) c.deref-kid-items.ensures.value),
      (
        search (rules, lives, within) depth 24 fits 20000,
        safe_member w takes c.deref-kid-items.result.now c.args.y.now c.loop-kid.kid-index
            c.kid-item.result safe c.loop-kid-test.true c.kid-item.is,
      ),
    )

pub visit_kids-returns-in_err-next : goal.visit_kids-returns-in_err-next
visit_kids-returns-in_err-next g t c =
    let w = world_of (g.F.Functions.called c.args.functions.now) in
    let items = c.deref-kid-items.result.now in
    let whole = run w c.args.sizes.now c.args.at (grown c.args.output.now.kids.items) c.args.y.now
    c.args.outputs.now in
    let goes = c.loop-kid.invariant
    ∙ ap (λ (bs : List Branch). run w c.args.sizes.now c.args.at (grown bs) c.args.y.now
    c.args.outputs.now) c.deref-kid-items.ensures.value in
    let p = err_from_is_err_and c.from_residual.result c.from_residual.ensures.1 in
    rw (p.1, p.2)
    (steps_end w c.args.sizes.now items c.loop-kid.kid-index c.kid-item.result c.loop-kid.next
    c.args.y.now c.loop-kid.outputs whole c.in_err-next.field-0.0 c.loop-kid-test.true
    c.kid-item.is goes c.in_err-next.ensures.ran)

pub visit_kids-loop-kid-preserved : goal.visit_kids-loop-kid-preserved
visit_kids-loop-kid-preserved g t c =
    let w = world_of (g.F.Functions.called c.args.functions.now) in
    let items = c.deref-kid-items.result.now in
    let whole = run w c.args.sizes.now c.args.at (grown items) c.args.y.now c.args.outputs.now in
    steps_on w c.args.sizes.now items c.loop-kid.kid-index c.kid-item.result c.loop-kid.next
    c.in_ok-next.next c.args.y.now c.loop-kid.outputs c.visit_step.new.outputs whole
    c.loop-kid-test.true c.kid-item.is c.in_ok-next.ensures.place c.loop-kid.invariant
    c.in_ok-next.ensures.ran

pub visit_moved-visit_answer-requires : goal.visit_moved-visit_answer-requires
visit_moved-visit_answer-requires g t c κs within =
    let w = world_of (g.F.Functions.called c.args.functions.now) in
    let takes = g.F.Functions.can_call c.args.functions.now in
    let answers = lists_of c.in_ok-answered.answered in
    let given = sym (ap (λ (d : Branch). called w d.does c.args.x) c.step.view_is)
    ∙ c.in_ok-answered.ensures.given in (
      search rules,
      (
        search (rules, lives, within) depth 24 fits 20000,
        limb_safe w takes c.args.step.now c.args.x answers given c.requires,
      ),
    )

pub visit_moved-returns : goal.visit_moved-returns
visit_moved-returns g t c =
    let w = world_of (g.F.Functions.called c.args.functions.now) in
    let given = sym (ap (λ (d : Branch). called w d.does c.args.x) c.step.view_is)
    ∙ c.in_ok-answered.ensures.given in
    subst (λ (r : Run). IsRun r c.visit_answer.new.outputs c.visit_answer.result)
    (sym (limb_run w c.args.sizes.now c.args.at c.args.step.now c.args.x
    (lists_of c.in_ok-answered.answered) c.args.outputs.now given))
    c.visit_answer.ensures.ran

pub visit_one-visit_emission-requires : goal.visit_one-visit_emission-requires
visit_one-visit_emission-requires g t c κs within =
    let w = world_of (g.F.Functions.called c.args.functions.now) in
    let v = c.args.value in
    let first = sym (ap (λ (d : Branch). d.first) c.step.view_is) in
    let whole = ap size c.step.view_is in (
      omega (arith, c.decreases, whole, size_decreases c.step.inside c.step.invariant),
      (
        search (rules, lives, within) depth 24 fits 20000,
        (safe_first w c.args.sizes.now (g.F.Functions.can_call c.args.functions.now)
            c.args.step.now c.step.inside.first ((v ∷ []) ∷ []) (v ∷ []) first refl
            c.requires).0,
      ),
    )
