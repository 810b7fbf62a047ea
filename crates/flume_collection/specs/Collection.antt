-- A collection as runs see it: the bag of its members, and the set of the traps behind it.
use Rattle.std.specs.Prelude.{List, [], ◌∷◌}
use Rattle.std.specs.List.{flat_map}
use Rattle.flume_value.specs.declared.value.Value.{Value}
use Rattle.flume_value.specs.Bag.{bag_of}
use Rattle.bag_groups.specs.Groups.{grouped}
use Rattle.flume_collection.specs.declared.trap.Trap.{Trap}
use Rattle.flume_collection.specs.Traps.{trap_set}

-- a collection: its bag, and the set of the traps behind it
pub record Collection : Type 0 where
  pub bag : List Value
  pub traps : List Trap

-- collections together
abbrev pub together : List Collection → Collection
together cs = record {
  bag = bag_of (flat_map (λ c. c.bag) cs);
  traps = trap_set (flat_map (λ c. c.traps) cs);
}

abbrev pub unless_trapped : List Trap → List Value → List Value
unless_trapped [] b = b
unless_trapped (t ∷ ts) b = []

-- the groups of the pairs; none where a trap is behind them
abbrev pub by_key : Collection → Collection
by_key c = record { bag = unless_trapped c.traps (grouped c.bag); traps = c.traps }
