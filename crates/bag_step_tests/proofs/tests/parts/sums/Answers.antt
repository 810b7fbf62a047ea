use Rattle.std.proofs.Common.{◌≡◌, rules}
use Rattle.flume_value.proofs.ReferenceLemmas.{referred}
use Rattle.bag_groups.proofs.MemberLemmas.{referred_all}
use Rattle.combine_table.specs.declared.comb.Comb.TheVariants as by
use Rattle.partial_tables.specs.Merges.{IsCombinable}
use Rattle.bag_step_tests.proofs.tests.parts.sums.Goals as goal

pub lift_borrowed-requires : goal.lift_borrowed-requires
lift_borrowed-requires c =
    let collected : referred c.in_ok-referred.referred.items ≡ c.args.pairs.items = search rules in
    referred_all (IsCombinable by.Sum) c.in_ok-referred.referred.items c.args.pairs.items collected
    c.requires
