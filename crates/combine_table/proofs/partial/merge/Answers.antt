use Rattle.combine_table.proofs.Merging.{shape_sorted}
use Rattle.combine_table.proofs.partial.merge.Goals as goal

pub distinct_of_both-requires-clause-left : goal.distinct_of_both-requires-clause-left
distinct_of_both-requires-clause-left c =
    shape_sorted c.args.comb c.args.left c.into_list-in-Distinct.result.items c.in-Distinct.is
    c.requires.left c.into_list-in-Distinct.ensures

pub distinct_of_both-requires-clause-right : goal.distinct_of_both-requires-clause-right
distinct_of_both-requires-clause-right c =
    shape_sorted c.args.comb c.args.right c.into_list-in-Distinct-2.result.items c.in-Distinct.is
    c.requires.right c.into_list-in-Distinct-2.ensures
