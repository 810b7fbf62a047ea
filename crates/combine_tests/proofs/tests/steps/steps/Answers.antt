use Rattle.std.proofs.Common.{◌≡◌, ap, ◌∙◌, subst, rules}
use Rattle.std.specs.List.Sorted.{IsSorted}
use Rattle.flume_value.specs.Order.{value_cmp}
use Rattle.flume_value.specs.Bag.{bag_of}
use Rattle.flume_value.proofs.BagLemmas.{IsSorted-bag_of}
use Rattle.flume_types.specs.declared.types.Ty.TheVariants as ty
use Rattle.bag_groups.specs.Groups.{grouped}
use Rattle.bag_groups.proofs.Grouping.{grouped-bag_of, pairs_begin}
use Rattle.keyed_steps.proofs.TypedFacts.{all_pairs, grouped_suited}
use Rattle.combine_tests.proofs.tests.steps.steps.Goals as goal

pub group-requires : goal.group-requires
group-requires c = record {
  pairs = pairs_begin c.args.pairs.items c.deref.result.now (search rules)
      (all_pairs ty.Int ty.Int c.args.pairs.items c.requires.typed);
  ascending = subst (IsSorted value_cmp) (search rules) (IsSorted-bag_of c.args.pairs.items);
}

pub combine_each-requires : goal.combine_each-requires
combine_each-requires c =
    let made : c.deref-2.result.now ≡ grouped c.deref.result.now = search rules in
    let bag : c.deref.result.now ≡ bag_of c.args.pairs.items = search rules in
    grouped_suited c.args.comb ty.Int ty.Int c.args.pairs.items c.deref-2.result.now
    c.requires.takes c.requires.typed (made ∙ ap grouped bag ∙ grouped-bag_of c.args.pairs.items)
