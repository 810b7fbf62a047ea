-- What accumulators come to depends neither on the cut nor on the order of merging.
use Rattle.std.proofs.Common.{◌≡◌, List, refl, sym, ap, ◌∙◌}
use Rattle.flume_value.specs.declared.value.Value.{Value}
use Rattle.flume_value.specs.Bag.{bag_of}
use Rattle.flume_value.proofs.BagLemmas.{bag_of-IsPermutation}
use Rattle.combine_table.specs.declared.comb.Comb.{Comb}
use Rattle.combine_table.specs.Accumulators.{accumulator, merged, finished}
use Rattle.combine_table.specs.Combinations.{combined}
use Rattle.combine_table.proofs.Parts.{merged-accumulator, finished-accumulator}
use Rattle.partial_tables.specs.Cuts.{IsMadeOf, at_once, by_merge, in_order}

pub made-accumulator : (c : Comb) (xs : List Value) (a : Value) → IsMadeOf c xs a
    → a ≡ accumulator c (bag_of xs)
made-accumulator c xs a (at_once ys) = refl
made-accumulator c xs a (by_merge ys zs x y one other) =
    ap (λ v. merged c v y) (made-accumulator c ys x one)
    ∙ ap (λ v. merged c (accumulator c (bag_of ys)) v) (made-accumulator c zs y other)
    ∙ merged-accumulator c ys zs
made-accumulator c xs a (in_order ys zs x moved made) =
    made-accumulator c ys x made ∙ sym (ap (accumulator c) (bag_of-IsPermutation ys zs moved))

pub made-finished : (c : Comb) (xs : List Value) (a : Value) → IsMadeOf c xs a
    → finished c a ≡ combined c (bag_of xs)
made-finished c xs a made =
    ap (finished c) (made-accumulator c xs a made) ∙ finished-accumulator c (bag_of xs)
