use Rattle.std.proofs.Common.{◌≡◌, length, map, sym, ap, ◌∙◌, subst}
use borrow.Author.Rules.{rules}
use Rattle.std.specs.Prelude.{IfOk}
use Rattle.std.specs.List.{AllByRecursion}
use Rattle.std.proofs.lemmas.List.{length-map}
use Rattle.partial_tables.specs.Tables.{Pairs}
use Rattle.crew.specs.Attempts.{MadeHas}
use Rattle.forest_steps.specs.Functions.{world_of}
use Rattle.forest_steps.specs.Turns.{in_turn}
use Rattle.forest_run.proofs.Asking.{asked_at}
use Rattle.lifted_root.specs.Lifted.{run_partial, SafePartial}
use Rattle.reduce_part.proofs.Merging.{courses_merged, root_is, safe_merged}
use Rattle.reduce_part.proofs.lifted.run_merged.Goals as goal

pub walk-requires : goal.walk-requires
walk-requires g c =
    let w = world_of (g.F.Functions.called c.args.functions.now) in
    let takes = g.F.Functions.can_call c.args.functions.now in
    let b = c.index-steps-0.result in
    let root = root_is c.args.comb c.args.roots.now c.steps.result.now b c.requires.root
    c.steps.ensures c.index-steps-0.is in
    let all : c.into_iter.result.rest.items ≡ c.args.merged.items = search rules in
    subst (λ (l : Pairs). AllByRecursion (SafePartial w takes b c.args.comb) l) (sym all)
    (safe_merged w c.args.comb c.args.roots.now b root c.args.merged.items takes
    c.requires.ready c.requires.shape)

pub returns-clause-value : goal.returns-clause-value
returns-clause-value g c =
    let w = world_of (g.F.Functions.called c.args.functions.now) in
    let b = c.index-steps-0.result in
    let sizes = c.deref.result.now in
    let begun = c.in_ok-sizes in
    let root = root_is c.args.comb c.args.roots.now c.steps.result.now b c.requires.root
    c.steps.ensures c.index-steps-0.is in
    let all : c.into_iter.result.rest.items ≡ c.args.merged.items = search rules in
    courses_merged w c.args.comb c.args.roots.now b root c.args.merged.items sizes begun.outputs
    (c.deref.ensures.value ∙ begun.ensures.sizes) begun.ensures.fresh begun.ensures.few
    c.requires.numbered c.walk.result
    (subst (λ (l : Pairs). IfOk c.walk.result (MadeHas (λ end.
    in_turn (map (run_partial w sizes b c.args.comb) l) begun.outputs ≡ end))) all
    c.walk.ensures.value)

pub returns-clause-asked : goal.returns-clause-asked
returns-clause-asked g c =
    let all : c.into_iter.result.rest.items ≡ c.args.merged.items = search rules in
    asked_at _ _ _ _ _ c.walk.result (length-map c.into_iter.result.rest.items _ ∙ ap length all)
    c.walk.ensures.asked
