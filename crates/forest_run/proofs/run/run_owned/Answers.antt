use Rattle.std.proofs.Common.{◌≡◌, List, Option, length, Some, sym, ap, ◌∙◌, subst}
use borrow.Author.Rules.{rules}
use Rattle.std.specs.Prelude.{IfOk}
use Rattle.std.specs.List.{AllByRecursion}
use Rattle.std.proofs.lemmas.List.{length-map}
use Rattle.flume_value.specs.declared.value.Value.{Value}
use Rattle.crew.specs.Attempts.{MadeHas}
use Rattle.exec_graph.specs.Forests.{Forest, grown}
use Rattle.exec_plan.specs.Wellformed.{IsNumbered}
use Rattle.forest_courses.specs.Courses.{IsCourse}
use Rattle.forest_steps.specs.Functions.{world_of}
use Rattle.forest_steps.specs.Safety.{Safe, SafeOf}
use Rattle.forest_run.proofs.Asking.{asked_at}
use Rattle.forest_run.proofs.Ending.{walked_courses}
use Rattle.forest_run.proofs.run.run_owned.Goals as goal

pub returns-in-None-clause-value : goal.returns-in-None-clause-value
returns-in-None-clause-value g c =
    let w = world_of (g.F.Functions.called c.args.functions.now) in
    subst (λ (d : Option Forest). IfOk c.run_whole.result (MadeHas (IsCourse w d
    c.args.elements.items))) (sym c.in-None.is) (c.run_whole.ensures.value w)

pub walk-requires : goal.walk-requires
walk-requires g c =
    let w = world_of (g.F.Functions.called c.args.functions.now) in
    let takes = g.F.Functions.can_call c.args.functions.now in
    let all : c.into_iter.result.rest.items ≡ c.args.elements.items = search rules in
    let xs = c.args.elements.items in
    let safe = subst (λ (d : Option Forest). AllByRecursion (SafeOf w takes d) xs)
    c.in-Some.is c.requires.safe in
    subst (λ (l : List Value). AllByRecursion (Safe w takes (grown c.steps.result.now)) l) (sym all)
    (subst (λ (f : Forest). AllByRecursion (Safe w takes f) xs) (sym c.steps.ensures) safe)

pub returns-in_ok-sizes-in-Some-clause-value : goal.returns-in_ok-sizes-in-Some-clause-value
returns-in_ok-sizes-in-Some-clause-value g c =
    let w = world_of (g.F.Functions.called c.args.functions.now) in
    let begun = c.in_ok-sizes-in-Some in
    let all : c.into_iter.result.rest.items ≡ c.args.elements.items = search rules in
    let numbered = subst IsNumbered c.in-Some.is c.requires.numbered in
    let roots = c.in-Some.roots in
    let end = c.walk.result in
    subst (λ (d : Option Forest). IfOk end (MadeHas (IsCourse w d c.args.elements.items)))
    (sym c.in-Some.is)
    (subst (λ (l : List Value). IfOk end (MadeHas (IsCourse w (Some roots) l))) all
    (walked_courses w c.in-Some.roots c.steps.result.now c.deref.result.now begun.outputs
    c.steps.ensures numbered begun.ensures.few (c.deref.ensures.value ∙ begun.ensures.sizes)
    begun.ensures.fresh c.into_iter.result.rest.items c.walk.result c.walk.ensures.value))

pub returns-in_ok-sizes-in-Some-clause-asked : goal.returns-in_ok-sizes-in-Some-clause-asked
returns-in_ok-sizes-in-Some-clause-asked g c =
    let all : c.into_iter.result.rest.items ≡ c.args.elements.items = search rules in
    asked_at _ _ _ _ _ c.walk.result (length-map c.into_iter.result.rest.items _ ∙ ap length all)
    c.walk.ensures.asked
