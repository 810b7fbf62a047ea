-- Steps that only pair what they are given.
use Rattle.std.specs.Prelude.{◌≡◌, [], pos}
use Rattle.bag_groups.specs.Pairs.{pair}
use Rattle.exec_graph.specs.Forests.{Branch, Bare}
use Rattle.exec_graph.specs.declared.step.Does.TheVariants as does
use Rattle.flume_value.specs.declared.value.Value.{Value}
use Rattle.flume_value.specs.declared.value.Value.TheVariants as value

-- the pair of a key and the number 1
abbrev pub once : Value → Value
once key = pair key (value.Int (pos 1))

-- the step makes the pair of an element and 1, for one output, which no step reads
pub record PairsAlone (b : Branch) : Type 0 where
  pub pairs : b.does ≡ does.Pair
  pub one : b.more ≡ []
  pub unread : b.first.kids ≡ Bare
