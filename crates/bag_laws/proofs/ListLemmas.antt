-- The list of each collection ascends, and that of its traps is a set.
use Rattle.std.proofs.Common.{◌≡◌, ℕ, zero, suc, Bool, true, false, cond, List, [], ◌∷◌, ◌++◌, map, length, Option, Some, None, refl, sym, ap}
use Rattle.std.specs.Prelude.{slice_get}
use Rattle.std.specs.List.{flat_map}
use Rattle.std.specs.Option.{option_flatten}
use Rattle.flume_value.specs.declared.value.Value.{Value}
use Rattle.flume_value.specs.Bag.{bag_of}
use Rattle.flume_value.proofs.BagLemmas.{IsSorted-bag_of, bag_of-settled}
use Rattle.bag_groups.specs.Groups.{grouped}
use Rattle.bag_groups.proofs.Grouping.{grouped-IsSorted}
use Rattle.combine_table.specs.Combinations.{greatest}
use Rattle.flume_collection.specs.declared.trap.Trap.{Trap}
use Rattle.flume_collection.specs.Calls.{Called, emissions, passed, trap_of}
use Rattle.flume_collection.specs.Collection.{Collection, together, unless_trapped}
use Rattle.flume_collection.specs.Traps.{trap_set}
use Rattle.exec_graph.specs.Calls.{called}
use Rattle.exec_graph.specs.Forests.{Forest, Bare, Grow}
use Rattle.exec_graph.specs.Meaning.{collection, first, is_out, node_at, nothing, or_nothing, out_of, solve, through, value as given, value_at}
use Rattle.exec_graph.specs.Objects.{act_result, world_beside, called_beside, none_of, trap_object, value_in, value_object}
use Rattle.exec_graph.specs.World.{World}
use Rattle.exec_graph.specs.declared.graph.Act.{Act}
use Rattle.exec_graph.specs.declared.graph.Entry.{Entry}
use Rattle.exec_graph.specs.declared.graph.Graph.{Graph}
use Rattle.exec_graph.specs.declared.graph.Node.{Node}
use Rattle.exec_graph.specs.declared.graph.Node.TheVariants.{Source, Flatten, Pdo, Gbk, Barrier}
use Rattle.exec_graph.specs.declared.graph.Place.{Place}
use Rattle.written_types.specs.Named.{Named}
use Rattle.script_program.specs.Script.{Node as ScriptNode, Script}
use Rattle.direct_meaning.specs.Direct.{made_at, top_by}
use Rattle.direct_meaning.specs.Made.{AreMade, IsCollectionOf, IsMadeFor}
use Rattle.exec_graph.proofs.ActLemmas.{act_holds}
use Rattle.direct_meaning.proofs.PlaceLemmas.{zip_back}
use Rattle.direct_meaning.proofs.TypeLemmas.{set_again}
use Rattle.bag_laws.specs.Lists.{IsOfSortedLists}

-- ---- of a script

flat_is : (o : Option (Option Collection)) (c : Collection) → option_flatten o ≡ Some c
    → o ≡ Some (Some c)
flat_is None c is = cc
flat_is (Some None) c is = cc
flat_is (Some (Some d)) c is = ap (λ (o : Option Collection). Some o) is

-- what is made under a number is a collection of the node's type
pub made_for : (script : Script) (nodes : Named ScriptNode) (made : List (Option Collection))
    (number : ℕ) (c : Collection) → AreMade script nodes made → made_at made number ≡ Some c
    → (entry : List ℕ × ScriptNode) × (slice_get nodes number ≡ Some entry)
    × IsCollectionOf entry.1.type c
made_for script nodes made number c are at =
    zip_back IsMadeFor nodes made are.each number (Some c)
    (flat_is (slice_get made number) c at)

pub made_in_order : (script : Script) (nodes : Named ScriptNode)
    (made : List (Option Collection)) (number : ℕ) (c : Collection) → AreMade script nodes made
    → made_at made number ≡ Some c → IsOfSortedLists c
made_in_order script nodes made number c are at =
    let it = (made_for script nodes made number c are at).2 in
    record {
      ascending = it.ascending;
      bag = bag_of-settled c.bag it.ascending;
      set = it.set;
    }

-- ---- of a graph

abbrev listed : List Value → List Trap → Collection
listed bag traps = record { bag = bag; traps = traps }

-- a bag and a set
put_in_order : (xs : List Value) (ts : List Trap)
    → IsOfSortedLists (listed (bag_of xs) (trap_set ts))
put_in_order xs ts = record {
  ascending = IsSorted-bag_of xs;
  bag = bag_of-settled (bag_of xs) (IsSorted-bag_of xs);
  set = set_again ts;
}

passed_in_order : (o at : ℕ) (f : Value → Called) (c : Collection)
    → IsOfSortedLists (passed o at f c)
passed_in_order o at f c =
    put_in_order (flat_map (λ x. emissions at (f x)) c.bag)
    (c.traps ++ flat_map (λ x. trap_of o (f x)) c.bag)

together_in_order : (cs : List Collection) → IsOfSortedLists (together cs)
together_in_order cs =
    put_in_order (flat_map (λ (c : Collection). c.bag) cs)
    (flat_map (λ (c : Collection). c.traps) cs)

none_in_order : (ts : List Trap) → trap_set ts ≡ ts → IsOfSortedLists (listed [] ts)
none_in_order ts is = record { ascending = IsSorted-bag_of []; bag = refl; set = is }

one_in_order : (v : Value) → IsOfSortedLists (value_object v)
one_in_order v = record { ascending = IsSorted-bag_of (v ∷ []); bag = refl; set = refl }

trap_in_order : (t : Trap) → IsOfSortedLists (trap_object t)
trap_in_order t = none_in_order (t ∷ []) refl

groups_in_order : (ts : List Trap) (xs : List Value) → trap_set ts ≡ ts
    → IsOfSortedLists (listed (unless_trapped ts (grouped xs)) ts)
groups_in_order [] xs is = record {
  ascending = grouped-IsSorted xs;
  bag = bag_of-settled (grouped xs) (grouped-IsSorted xs);
  set = refl;
}
groups_in_order (t ∷ ts) xs is = none_in_order (t ∷ ts) is

-- ---- barriers

none_of_in_order : (cs : List Collection) → IsOfSortedLists (none_of cs)
none_of_in_order cs =
    none_in_order (together cs).traps
    (set_again (flat_map (λ (c : Collection). c.traps) cs))

act_in_order : (w : World) (o : ℕ) (a : Act) (cs : List Collection)
    → IsOfSortedLists (act_result w o a cs)
act_in_order =
    act_holds IsOfSortedLists one_in_order trap_in_order none_of_in_order
    (λ w o f c object.
    passed_in_order o 0 ((world_beside (value_in object) w).called f)
    (called_beside (value_in object) c object))

-- ---- nodes

nothing_in_order : IsOfSortedLists nothing
nothing_in_order = none_in_order [] refl

abbrev OptionInOrder : Option Collection → Type 0
OptionInOrder o = IsOfSortedLists (or_nothing o)

first_in_order : (a b : Option Collection) → OptionInOrder a → OptionInOrder b
    → OptionInOrder (first a b)
first_in_order None b g h = h
first_in_order (Some c) b g h = g

out_in_order : (w : World) (v : Collection) (f : Forest) (j : ℕ)
    → OptionInOrder (out_of w v f j)
out_in_order w v Bare j = nothing_in_order
out_in_order w v (Grow l kids rest) j =
    by (is_out l.out j) (out_in_order w (through w l v) kids j) (out_in_order w v rest j)
  where
    by : (t : Bool) → OptionInOrder (out_of w (through w l v) kids j)
        → OptionInOrder (out_of w v rest j)
        → OptionInOrder (cond t (Some (through w l v))
        (first (out_of w (through w l v) kids j) (out_of w v rest j)))
    by true g h = passed_in_order l.origin l.at (called w l.does) v
    by false g h = first_in_order (out_of w (through w l v) kids j) (out_of w v rest j) g h

node_in_order : (w : World) (m : Place → Collection) → ((c : Place) → IsOfSortedLists (m c))
    → (x : Node) (j : ℕ) → IsOfSortedLists (given w m x j)
node_in_order w m all (Source r) j = put_in_order (w.rows r.number) []
node_in_order w m all (Flatten ins) j = together_in_order (map m ins)
node_in_order w m all (Pdo c f) j = out_in_order w (m c) f j
node_in_order w m all (Gbk c o l k) j = groups_in_order (m c).traps (m c).bag (all c).set
node_in_order w m all (Barrier ins o l a) j = act_in_order w o a (map m ins)

at_in_order : (w : World) (m : Place → Collection) → ((c : Place) → IsOfSortedLists (m c))
    → (x : Option Node) (j : ℕ) → IsOfSortedLists (value_at w m x j)
at_in_order w m all None j = nothing_in_order
at_in_order w m all (Some x) j = node_in_order w m all x j

solve_in_order : (w : World) (es : List Entry) (turns : ℕ) (c : Place)
    → IsOfSortedLists (solve w es turns c)
unfolding solve
solve_in_order w es zero c = nothing_in_order
solve_in_order w es (suc turns) c =
    at_in_order w (solve w es turns) (solve_in_order w es turns) (node_at es c.node) c.out

pub meant_in_order : (w : World) (g : Graph) (c : Place) → IsOfSortedLists (collection w g c)
unfolding collection
meant_in_order w g c = solve_in_order w g.nodes (suc (length g.nodes)) c

-- ---- the greatest

pub greatest_of_bag : (many : ℕ) (c : Collection) → IsOfSortedLists c
    → (top_by many c).bag ≡ unless_trapped c.traps (greatest many (bag_of c.bag))
greatest_of_bag many c it = ap (λ l. unless_trapped c.traps (greatest many l)) (sym it.bag)
