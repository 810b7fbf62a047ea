use Rattle.std.proofs.Common.{◌∙◌, List, Option, None, sym, subst}
use Rattle.std.specs.Prelude.{IfOk, Ok}
use Rattle.std.specs.List.{AllByRecursion}
use Rattle.flume_value.specs.declared.value.Value.{Value}
use Rattle.exec_graph.specs.Forests.{Forest}
use Rattle.exec_plan.specs.Wellformed.{IsNumbered}
use Rattle.forest_courses.specs.Courses.{IsCourse}
use Rattle.forest_courses.proofs.Coursing.{whole_course}
use Rattle.forest_steps.specs.Functions.{world_of}
use Rattle.forest_steps.specs.Safety.{SafeOf}
use Rattle.forest_run.proofs.parts.run_part.Goals as goal

pub returns-in_ok-whole-in-None : goal.returns-in_ok-whole-in-None
returns-in_ok-whole-in-None g c =
    let w = world_of (g.F.Functions.called c.args.functions.now) in
    let given = c.in_ok-whole-in-None.field-0 in
    subst (λ (d : Option Forest). IsCourse w d c.args.elements.now (Ok given)) (sym c.in-None.is)
    (subst (λ (l : List Value). IsCourse w None l (Ok given))
    (c.into_vec-copies.ensures ∙ c.in_ok-copy_all-in-None.ensures)
    (whole_course w c.into_vec-copies.result.items given c.in_ok-whole-in-None.ensures.lists
    c.in_ok-whole-in-None.ensures.counts))

pub run_steps-requires-clause-numbered : goal.run_steps-requires-clause-numbered
run_steps-requires-clause-numbered g c = subst IsNumbered c.in-Some.is c.requires.numbered

pub run_steps-requires-clause-safe : goal.run_steps-requires-clause-safe
run_steps-requires-clause-safe g c =
    let w = world_of (g.F.Functions.called c.args.functions.now) in
    let takes = g.F.Functions.can_call c.args.functions.now in
    subst (λ (d : Option Forest). AllByRecursion (SafeOf w takes d) c.args.elements.now)
    c.in-Some.is c.requires.safe

pub returns-in-Some : goal.returns-in-Some
returns-in-Some g c =
    let w = world_of (g.F.Functions.called c.args.functions.now) in
    subst (λ (d : Option Forest). IfOk c.run_steps.result (IsCourse w d c.args.elements.now))
    (sym c.in-Some.is) c.run_steps.ensures
