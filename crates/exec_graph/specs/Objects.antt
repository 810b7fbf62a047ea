-- Objects, and what a barrier makes of the collections that it reads.
--
-- An object is a collection that holds just one value, or none exactly where a trap is behind it. A
-- barrier reads collections whole: all that it reads is finished before it begins. Its act is a
-- side input (a function is called on each element of a collection beside the value of an object),
-- an operate (a function is called once, on the values of objects), or a singleton (the value of
-- the only pair of a collection becomes an object).
use Rattle.std.specs.Prelude.{◌≡◌, ◌⊎◌, ℕ, pos, Bool, true, false, not, List, [], ◌∷◌, Option, Some, None, Result, Ok, Err, option_map}
use Rattle.std.specs.List.{list_all, slice_get}
use Rattle.std.specs.Option.{option_and_then}
use Rattle.flume_value.specs.declared.value.Value.{Value}
use Rattle.flume_value.specs.declared.value.Value.TheVariants as value
use Rattle.flume_value.specs.declared.fault.Kind.{Kind}
use Rattle.flume_value.specs.declared.fault.Kind.TheVariants as kind
use Rattle.flume_collection.specs.of_bag_groups.Pairs.{value_of}
use Rattle.combine_table.specs.Combinations.{combined}
use Rattle.combine_table.specs.declared.comb.Comb.{Comb}
use Rattle.flume_collection.specs.declared.trap.Trap.{Trap}
use Rattle.flume_collection.specs.Calls.{Called, or_none, passed, trap_named}
use Rattle.flume_collection.specs.Collection.{Collection}
pub use Rattle.flume_collection.specs.Objects.{argument_of as argument, naming, nothing_behind as none_of, only, value_in}
use Rattle.exec_graph.specs.World.{World}
use Rattle.exec_graph.specs.declared.graph.Act.{Act}
use Rattle.exec_graph.specs.declared.graph.Act.TheVariants.{SideInput, Operate, Singleton}

-- ---- values of objects

-- The values of a first object and of the others, where all have one.
abbrev pub with_first : {X : Type 0} → Option X → Option (List X) → Option (List X)
with_first None o = None
with_first (Some x) o = option_map (λ xs. x ∷ xs) o

-- The values of several objects, where each has one.
abbrev pub values_in : List Collection → Option (List Value)
values_in [] = Some []
values_in (c ∷ cs) = with_first (value_in c) (values_in cs)

-- ---- objects

-- The collection of those members, with no trap behind it.
abbrev pub untrapped : List Value → Collection
untrapped vs = record { bag = vs; traps = [] }

-- The object of that value.
abbrev pub value_object : Value → Collection
value_object v = untrapped (v ∷ [])

-- The object that has no value, since that trap is behind it.
abbrev pub trap_object : Trap → Collection
trap_object t = record { bag = []; traps = t ∷ [] }

-- A collection is an object if it holds one value and no trap, or no value and a trap at least.
abbrev pub IsObject : Collection → Type 0
IsObject c =
    ((v : Value) × (c ≡ value_object v))
    ⊎ ((t : Trap) × (ts : List Trap) × (c ≡ record { bag = []; traps = t ∷ ts }))

-- ---- side inputs: a function called beside an object

-- The world whose functions are called on an element beside a value. The call is on the record of
-- both, and its trap names the element.
abbrev pub world_beside : Option Value → World → World
world_beside None w = w
world_beside (Some v) w = record {
  rows = w.rows;
  called = λ f x. naming x (w.called f (value.Rec (x ∷ v ∷ [])));
}

-- The collection whose elements a function is called on beside an object. It is empty, with the
-- traps behind both, where the object has no value.
abbrev pub called_beside : Option Value → Collection → Collection → Collection
called_beside None c object = none_of (c ∷ object ∷ [])
called_beside (Some v) c object = c

-- The function f of script node o called on each element of c beside an object, of the value v if
-- it has one.
abbrev pub side_input_on : World → ℕ → ℕ → Option Value → Collection → Collection → Collection
side_input_on w o f v c object = passed o 0 ((world_beside v w).called f) (called_beside v c object)

-- The function f of script node o called on each element of c beside the object.
abbrev pub side_input : World → ℕ → ℕ → Collection → Collection → Collection
side_input w o f c object = side_input_on w o f (value_in object) c object

-- ---- operate: a function of objects

-- A call gives an object if it emits just once. Otherwise the object has no value, and its trap
-- names the argument.
abbrev pub one_emitted : ℕ → Value → Option Value → Collection
one_emitted o x None = trap_object (record { origin = o; element = x; kind = kind.NotOne })
one_emitted o x (Some v) = value_object v

-- The object that a call on x gives, for script node o.
abbrev pub one_answer : ℕ → Value → Called → Collection
one_answer o x (Ok outputs) = one_emitted o x (only (or_none (slice_get outputs 0)))
one_answer o x (Err trap) = trap_object (trap_named o trap)

-- The object that the function f gives of objects of these values, if all have one.
abbrev pub operated_on : World → ℕ → ℕ → Option (List Value) → List Collection → Collection
operated_on w o f None objects = none_of objects
operated_on w o f (Some vs) objects = one_answer o (argument vs) (w.called f (argument vs))

-- The function f of script node o called on the objects.
abbrev pub operated : World → ℕ → ℕ → List Collection → Collection
operated w o f objects = operated_on w o f (values_in objects) objects

-- ---- singleton: the value of the only pair

-- The object that is what a combiner gives. Its trap names the number 0.
abbrev pub whole_combined : ℕ → Result Value Kind → Collection
whole_combined o (Ok v) = value_object v
whole_combined o (Err k) =
    trap_object (record { origin = o; element = value.Int (pos 0); kind = k })

-- The object of the value of the only pair, or of what the combiner k makes of nothing.
abbrev pub or_of_nothing : ℕ → Comb → Option Value → Collection
or_of_nothing o k None = whole_combined o (combined k [])
or_of_nothing o k (Some v) = value_object v

-- One collection where traps are behind it, and another where there are none.
abbrev pub unless_behind : List Trap → Collection → Collection → Collection
unless_behind [] none some = some
unless_behind (t ∷ ts) none some = none

-- The object that has the value of the only pair of c, or what the combiner k makes of nothing
-- where there is no pair. It has no value where a trap is behind the pairs.
abbrev pub singleton_value : ℕ → Comb → Collection → Collection
singleton_value o k c =
    unless_behind c.traps (none_of (c ∷ []))
    (or_of_nothing o k (option_and_then value_of (only c.bag)))

-- ---- acts

-- What a barrier of that act gives, for script node o, of the collections that it reads.
unfoldable pub act_result : World → ℕ → Act → List Collection → Collection
act_result w o (SideInput f) [] = none_of []
act_result w o (SideInput f) (c ∷ []) = none_of (c ∷ [])
act_result w o (SideInput f) (c ∷ (object ∷ [])) = side_input w o f c object
act_result w o (SideInput f) (c ∷ (object ∷ (d ∷ ds))) = none_of (c ∷ (object ∷ (d ∷ ds)))
act_result w o (Operate f) objects = operated w o f objects
act_result w o (Singleton k) [] = none_of []
act_result w o (Singleton k) (c ∷ []) = singleton_value o k c
act_result w o (Singleton k) (c ∷ (d ∷ ds)) = none_of (c ∷ (d ∷ ds))

-- ---- which collections are objects

-- Whether the act gives an object.
abbrev pub gives_object : Act → Bool
gives_object (SideInput f) = false
gives_object (Operate f) = true
gives_object (Singleton k) = true

-- Whether the act takes collections of which these are objects: a side input takes a collection and
-- an object, an operate takes objects, one at least, and a singleton takes one collection that is
-- no object.
abbrev pub takes_such : Act → List Bool → Bool
takes_such (SideInput f) [] = false
takes_such (SideInput f) (a ∷ []) = false
takes_such (SideInput f) (a ∷ (b ∷ [])) = b
takes_such (SideInput f) (a ∷ (b ∷ (c ∷ cs))) = false
takes_such (Operate f) [] = false
takes_such (Operate f) (a ∷ rest) = list_all (λ b. b) (a ∷ rest)
takes_such (Singleton k) [] = false
takes_such (Singleton k) (a ∷ []) = not a
takes_such (Singleton k) (a ∷ (b ∷ bs)) = false
