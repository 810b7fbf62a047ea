-- Each collection of a script is a bag, with a set of traps.
use Rattle.std.proofs.Common.{◌≡◌, ℕ, List, [], ◌∷◌, ◌++◌, map, Option, Some, None, Result, Ok, Err, refl, subst}
use Rattle.std.specs.List.{flat_map, slice_get}
use Rattle.bag_groups.specs.Combining.{combined_pair, groups_in, traps_of_each}
use Rattle.bag_groups.specs.Groups.{grouped}
use Rattle.bag_groups.proofs.Grouping.{grouped-IsSorted}
use Rattle.bag_steps.specs.Joins.{joined}
use Rattle.bag_steps.specs.Counts.{counted, counted_traps}
use Rattle.bag_steps.proofs.RowOrder.{counted-IsSorted, greatest-IsSorted, joined-IsSorted}
use Rattle.combine_table.specs.Combinations.{combined, greatest}
use Rattle.combine_table.specs.declared.comb.Comb.{Comb}
use Rattle.flume_value.specs.Bag.{bag_of}
use Rattle.flume_value.specs.declared.value.Value.{Value}
use Rattle.flume_value.specs.declared.fault.Kind.{Kind}
use Rattle.flume_value.proofs.BagLemmas.{bag_of-settled, bag_of-twice}
use Rattle.flume_collection.specs.declared.trap.Trap.{Trap}
use Rattle.flume_collection.specs.Calls.{Called, emissions, or_none, passed, trap_named, trap_of}
use Rattle.flume_collection.specs.Collection.{Collection, by_key, together, unless_trapped}
use Rattle.flume_collection.specs.Traps.{trap_le, trap_set}
use Rattle.flume_collection.proofs.Members.{set_sum}
use Rattle.flume_collection.proofs.Orders.{trap_order}
use Rattle.direct_meaning.specs.Direct.{called_by, combined_by, counted_by, counts_behind, joined_collections, rows_as, top_by}
use Rattle.direct_meaning.specs.Objects.{combined_whole, object_as, whole_behind, whole_value}
use Rattle.exec_graph.specs.Objects as graph
use Rattle.exec_graph.specs.World.{World}
use Rattle.build_law.proofs.Meeting.{IsSettled}

pub set_twice : (ts : List Trap) → trap_set (trap_set ts) ≡ trap_set ts
set_twice ts = set_sum trap_le trap_order [] ts

bag_unless : (ts : List Trap) (b : List Value) → bag_of b ≡ b
    → bag_of (unless_trapped ts b) ≡ unless_trapped ts b
bag_unless [] b h = h
bag_unless (t ∷ ts) b h = refl

made_settled : (b : List Value) (ts : List Trap)
    → IsSettled (record { bag = bag_of b; traps = trap_set ts })
made_settled b ts = record { bag = bag_of-twice b; set = set_twice ts }

pub rows_settled : (rows : List Value) → IsSettled (rows_as rows)
rows_settled rows = record { bag = bag_of-twice rows; set = refl }

pub called_settled : (origin output : ℕ) (traps : List Trap) (calls : List Called)
    → IsSettled (called_by origin output traps calls)
called_settled origin output traps calls =
    made_settled (flat_map (emissions output) calls) (traps ++ flat_map (trap_of origin) calls)

pub groups_settled : (c : Collection) → IsSettled c → IsSettled (by_key c)
groups_settled c h = record {
  bag = bag_unless c.traps (grouped c.bag)
      (bag_of-settled (grouped c.bag) (grouped-IsSorted c.bag));
  set = h.set;
}

pub combined_settled : (origin : ℕ) (k : Comb) (c : Collection)
    → IsSettled (combined_by origin k c)
combined_settled origin k c =
    made_settled
    (flat_map (λ group. combined_pair group.0 (combined k (bag_of group.1))) (groups_in c.bag))
    (c.traps ++ map (trap_named origin) (traps_of_each (combined k) c.bag))

pub together_settled : (cs : List Collection) → IsSettled (together cs)
together_settled cs = made_settled (flat_map (λ c. c.bag) cs) (flat_map (λ c. c.traps) cs)

counts_settled : (origin : ℕ) (ts : List Trap) (b : List Value) → trap_set ts ≡ ts
    → IsSettled (counts_behind origin ts b)
counts_settled origin [] b h = record {
  bag = bag_of-settled (counted b) (counted-IsSorted b);
  set = set_twice (map (trap_named origin) (counted_traps b));
}
counts_settled origin (t ∷ ts) b h = record { bag = refl; set = h }

pub counted_settled : (origin : ℕ) (c : Collection) → IsSettled c
    → IsSettled (counted_by origin c)
counted_settled origin c h = counts_settled origin c.traps c.bag h.set

pub joined_settled : (a b : Collection) → IsSettled (joined_collections a b)
joined_settled a b = record {
  bag = bag_unless (a.traps ++ b.traps) (joined a.bag b.bag)
      (bag_of-settled (joined a.bag b.bag) (joined-IsSorted a.bag b.bag));
  set = set_twice (a.traps ++ b.traps);
}

greatest_settled : (many : ℕ) (b : List Value) → bag_of b ≡ b
    → bag_of (greatest many b) ≡ greatest many b
greatest_settled many b h =
    subst (λ c. bag_of (greatest many c) ≡ greatest many c) h
    (bag_of-settled (greatest many (bag_of b)) (greatest-IsSorted many b))

pub top_settled : (many : ℕ) (c : Collection) → IsSettled c → IsSettled (top_by many c)
top_settled many c h = record {
  bag = bag_unless c.traps (greatest many c.bag) (greatest_settled many c.bag h.bag);
  set = h.set;
}

-- ---- objects, and what is made beside one

object_settled : (r : Result Value Trap) → IsSettled (object_as r)
object_settled (Ok v) = record { bag = refl; set = refl }
object_settled (Err trap) = record { bag = refl; set = refl }

behind_settled : (origin : ℕ) (ts : List Trap) (r : Result Value Kind) → trap_set ts ≡ ts
    → IsSettled (whole_behind origin ts r)
behind_settled origin [] r h = object_settled (whole_value origin r)
behind_settled origin (t ∷ ts) r h = record { bag = refl; set = h }

pub whole_settled : (origin : ℕ) (k : Comb) (c : Collection) → IsSettled c
    → IsSettled (combined_whole origin k c)
whole_settled origin k c h = behind_settled origin c.traps (combined k c.bag) h.set

emitted_settled : (origin : ℕ) (x : Value) (o : Option Value)
    → IsSettled (graph.one_emitted origin x o)
emitted_settled origin x None = record { bag = refl; set = refl }
emitted_settled origin x (Some v) = record { bag = refl; set = refl }

answer_settled : (origin : ℕ) (x : Value) (called : Called)
    → IsSettled (graph.one_answer origin x called)
answer_settled origin x (Ok outputs) =
    emitted_settled origin x (graph.only (or_none (slice_get outputs 0)))
answer_settled origin x (Err trap) = record { bag = refl; set = refl }

operated_on_settled : (w : World) (origin f : ℕ) (o : Option (List Value)) (cs : List Collection)
    → IsSettled (graph.operated_on w origin f o cs)
operated_on_settled w origin f None cs = record {
  bag = refl;
  set = set_twice (flat_map (λ (c : Collection). c.traps) cs);
}
operated_on_settled w origin f (Some vs) cs =
    answer_settled origin (graph.argument vs) (w.called f (graph.argument vs))

pub operated_settled : (w : World) (origin f : ℕ) (cs : List Collection)
    → IsSettled (graph.operated w origin f cs)
operated_settled w origin f cs = operated_on_settled w origin f (graph.values_in cs) cs

passed_settled : (origin at : ℕ) (f : Value → Called) (c : Collection)
    → IsSettled (passed origin at f c)
passed_settled origin at f c =
    made_settled (flat_map (λ x. emissions at (f x)) c.bag)
    (c.traps ++ flat_map (λ x. trap_of origin (f x)) c.bag)

pub beside_settled : (w : World) (origin f : ℕ) (c object : Collection)
    → IsSettled (graph.side_input w origin f c object)
beside_settled w origin f c object =
    passed_settled origin 0 ((graph.world_beside (graph.value_in object) w).called f)
    (graph.called_beside (graph.value_in object) c object)
