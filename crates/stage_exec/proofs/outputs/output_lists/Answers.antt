use Rattle.exec_plan.specs.declared.plan.PlanPlace.TheVariants.{Source}
use Rattle.stage_results.specs.of_map_shard.Tables.{table}
use Rattle.stage_results.proofs.of_map_shard.Later.{lists_more}
use Rattle.stage_exec.proofs.outputs.output_lists.Goals as goal

pub loop-k-preserved : goal.loop-k-preserved
loop-k-preserved c =
    lists_more (table c.loop-k.rows.items c.loop-k.results.items)
    (table c.output_list.new.sources.items c.output_list.new.results.items) c.args.outputs.now
    c.loop-k.k (Source 0) c.loop-k.lists.items c.push.new.self.items _ c.in_ok-list.list
    c.loop-k-test.true c.in_ok-list.ensures.list c.in_ok-push.ensures.items
    c.in_ok-list.ensures.others c.loop-k.invariant
