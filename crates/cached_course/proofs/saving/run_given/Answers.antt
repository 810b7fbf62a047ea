use Rattle.std.proofs.Common.{inl, inr, refl, sym, ◌∙◌}
use Rattle.std.proofs.lemmas.Result.{IfErr-weaker}
use Rattle.run_course.proofs.of_build_law.SourceLists.{as_many_inputs}
use Rattle.cached_course.proofs.saving.run_given.Goals as goal

pub returns-in-Err-clause-stop : goal.returns-in-Err-clause-stop
returns-in-Err-clause-stop g c = inl refl

pub returns-in-Err-clause-asked : goal.returns-in-Err-clause-asked
returns-in-Err-clause-asked g c = inl refl

pub returns-in-Ok-clause-stop : goal.returns-in-Ok-clause-stop
returns-in-Ok-clause-stop g c =
    IfErr-weaker c.carried_out.result _ _
    (λ why stops. inr (c.in-Ok.shown.plan, c.in-Ok.ensures.optimised, stops))
    c.carried_out.ensures.stop

pub returns-in-Ok-clause-asked : goal.returns-in-Ok-clause-asked
returns-in-Ok-clause-asked g c =
    inr (
      c.in-Ok.shown.plan,
      c.in-Ok.ensures.optimised,
      c.in-Ok.ensures.of_script.sources
          ∙ sym (as_many_inputs c.args.given.program.script c.args.given.lists
          c.requires.inputs),
      c.carried_out.ensures.asked,
    )
