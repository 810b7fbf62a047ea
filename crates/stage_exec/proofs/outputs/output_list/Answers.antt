use Rattle.std.proofs.Common.{◌∙◌, sym}
use Rattle.stage_results.specs.of_map_shard.Tables.{table}
use Rattle.stage_results.proofs.of_map_shard.Later.{kept_lists}
use Rattle.stage_exec.specs.inner.Places.{is_same}
use Rattle.stage_exec.proofs.outputs.output_list.Goals as goal

pub returns-clause-others : goal.returns-clause-others
returns-clause-others c =
    kept_lists (table c.args.sources.now.items c.args.results.now.items)
    (table c.taken.new.sources.items c.taken.new.results.items)
    (λ q. is_same q c.args.place.now) c.taken.ensures.others c.args.later.now
    (sym c.is_among.ensures ∙ c.if-is_among.false)
