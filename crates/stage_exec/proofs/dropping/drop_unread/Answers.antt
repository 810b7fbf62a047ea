use Rattle.std.proofs.Common.{◌∙◌, sym}
use Rattle.stage_exec.specs.inner.Places.{is_same}
use Rattle.stage_exec.specs.inner.Reads.{later_reads}
use Rattle.stage_results.specs.of_map_shard.Tables.{table}
use Rattle.stage_results.proofs.of_map_shard.Later.{kept_lists}
use Rattle.stage_exec.proofs.dropping.drop_unread.Goals as goal

pub returns : goal.returns
returns c = record {
  kept = record {
    others = kept_lists (table c.args.sources.now.items c.args.results.now.items)
        (table c.taken.new.sources.items c.taken.new.results.items) (λ q. is_same q c.args.place)
        c.taken.ensures.others (later_reads c.args.later.now c.args.outputs.now)
        (sym c.is_read.ensures ∙ c.if-is_read.false);
    typed = c.taken.ensures.typed;
    count = c.taken.ensures.count;
  };
}
