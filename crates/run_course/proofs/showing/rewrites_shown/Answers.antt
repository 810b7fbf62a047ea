use Rattle.std.proofs.Common.{ℕ, List, subst, sym}
use Rattle.std.specs.Prelude.{IfOk}
use Rattle.std.proofs.lemmas.Result.{IfOk-weaker}
use Rattle.command_words.specs.declared.words.PlanForm.TheVariants.{Rewrites}
use Rattle.outer_plans.specs.Plans.{IsTaken}
use Rattle.run_course.specs.Written.{ShowsPlan}
use Rattle.script_program.specs.Program.{Numbered}
use Rattle.run_course.proofs.showing.rewrites_shown.Goals as goal

pub returns : goal.returns
returns c =
    let held = c.as_program-held in
    let script = held.result.now.script in
    let plan = c.in_ok-traced.traced.plan in
    subst
    (λ (p : Numbered). IfOk c.traced_text-text.result
    (λ text. ShowsPlan Rewrites p.script text.items))
    held.ensures.is
    (IfOk-weaker c.traced_text-text.result _ _ (λ text shown. (
      plan,
      c.in_ok-traced.traced.rewrites,
      c.in_ok-traced.ensures.optimised,
      c.in_ok-traced.ensures.leads,
      c.in_ok-traced.ensures.order,
      subst (λ (bytes : List ℕ). IsTaken script bytes plan) (sym shown)
          (c.line_law.ensures script c.in_ok-traced.traced.rewrites plan
          c.in_ok-traced.ensures.small c.in_ok-traced.ensures.leads),
      shown,
    )) c.traced_text-text.ensures)
