use Rattle.std.proofs.Common.{ap, sym, ◌∙◌}
use Rattle.std.specs.List.{flat_map}
use Rattle.std.proofs.lemmas.List.Concat.{flat_map-append}
use Rattle.flume_value.specs.Bag.{bag_of}
use Rattle.flume_value.proofs.BagLemmas.{bag_of-sum}
use Rattle.bag_step_laws.proofs.laws.parts_law.Goals as goal

pub returns : goal.returns
returns c = record {
  together = λ f xs ys. ap bag_of (flat_map-append f xs ys)
      ∙ sym (bag_of-sum (flat_map f xs) (flat_map f ys));
}
