use Rattle.std.proofs.Common.{ap, arith, sym, ◌∙◌}
use Rattle.std.proofs.lemmas.Result.{IfOk-weaker}
use Rattle.exec_graph.specs.declared.graph.Act.TheVariants.{Singleton}
use Rattle.exec_plan.specs.declared.plan.PlanPlace.TheVariants.{Source}
use Rattle.stage_results.specs.of_map_shard.Tables.{table}
use Rattle.task_lists.specs.Lists.{object_made}
use Rattle.stage_exec.proofs.Acting.{alone, no_singleton}
use Rattle.stage_exec.proofs.objects.single.Goals as goal

pub returns-in_ok-singleton : goal.returns-in_ok-singleton
returns-in_ok-singleton g c w e =
    let t = table c.args.sources.now c.args.results.now in
    let takes = c.args.takes.now in
    let one = alone takes (Source 0) (omega (arith, c.if-takes-eq1.true)) in
    IfOk-weaker c.one.result _ _
    (λ made is.
    ap (object_made w t c.args.origin (Singleton c.args.by)) one
    ∙ (rw c.list_of-list.ensures at c.in_ok-singleton.ensures) w
    ∙ sym is)
    c.one.ensures

pub returns-else-takes-eq1 : goal.returns-else-takes-eq1
returns-else-takes-eq1 g c w e =
    let t = table c.args.sources.now c.args.results.now in
    rw c.new.ensures
    (no_singleton t w c.args.origin c.args.by c.args.takes.now
    (λ one. omega (arith, one, c.if-takes-eq1.false)))
