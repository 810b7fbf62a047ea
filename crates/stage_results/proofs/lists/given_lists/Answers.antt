use Rattle.std.proofs.Common.{◌∙◌, ◌∷◌, [], ap}
use Rattle.std.proofs.lemmas.Result.{IfOk-weaker}
use Rattle.stage_phases.specs.of_map_shard.Tables.{split_into}
use Rattle.stage_results.proofs.lists.given_lists.Goals as goal

pub returns-in-Pass-clause-lists : goal.returns-in-Pass-clause-lists
returns-in-Pass-clause-lists c w shards t s some next through =
    let number = c.in-Pass.field-1 in
    let take = c.in-Pass.field-0 in
    let whole = c.outs_law.ensures.passed w (split_into shards c.args.partitions) t s through.maps
    through.number number take some through.made (rw c.in-Pass.is at through.at) in
    rw c.in-Pass.is
    (IfOk-weaker c.one_list.result _ _ (λ lists e. e ∙ ap (λ l. l ∷ []) (through.is _ whole))
    c.one_list.ensures)

pub returns-in-Group-clause-lists : goal.returns-in-Group-clause-lists
returns-in-Group-clause-lists c w shards t s some next through =
    rw c.in-Group.is
    (c.channel_lists.ensures.lists w shards t s.inputs (rw c.in-Group.is at next))

pub returns-in-Group-clause-grown : goal.returns-in-Group-clause-grown
returns-in-Group-clause-grown c w shards t ins next =
    rw c.in-Group.is (c.channel_lists.ensures.grown w shards t ins (rw c.in-Group.is at next))
