-- A collection of a graph together with none else is the collection.
use Rattle.std.proofs.Common.{◌≡◌, ℕ, Bool, true, false, cond, List, [], ◌∷◌, ◌++◌, length, map, append-nil, Option, Some, None, zero, suc, refl, sym, ap, ◌∙◌, subst}
use Rattle.std.specs.List.{flat_map}
use Rattle.exec_plan.specs.of_flume_value.declared.value.Value.{Value}
use Rattle.exec_plan.specs.of_flume_value.Bag.{bag_of}
use Rattle.exec_plan.proofs.of_flume_value.BagLemmas.{bag_of-settled, bag_of-twice}
use Rattle.exec_plan.specs.of_bag_groups.Groups.{grouped}
use Rattle.exec_plan.proofs.of_bag_groups.Grouping.{grouped-IsSorted}
use Rattle.exec_plan.specs.of_flume_collection.declared.trap.Trap.{Trap}
use Rattle.exec_plan.specs.of_flume_collection.Traps.{trap_le, trap_set}
use Rattle.exec_plan.specs.of_flume_collection.Collection.{Collection, together, by_key}
use Rattle.exec_plan.proofs.of_flume_collection.Bagging.{set-gathered}
use Rattle.exec_plan.proofs.of_flume_collection.Orders.{trap_order}
use Rattle.exec_plan.specs.of_exec_graph.World.{World}
use Rattle.exec_plan.specs.of_exec_graph.Objects.{world_beside, called_beside, value_object, trap_object, act_result, none_of, side_input_on, value_in}
use Rattle.exec_plan.specs.of_exec_graph.declared.graph.Act.{Act}
use Rattle.exec_plan.specs.of_flume_collection.Calls.{Called, emissions, trap_of}
use Rattle.exec_plan.specs.of_exec_graph.Calls.{emitted, trapped}
use Rattle.exec_plan.specs.of_exec_graph.Forests.{Forest, Bare, Grow}
use Rattle.exec_plan.specs.of_exec_graph.Meaning.{collection, first, is_out, or_nothing, node_at, out_of, solve, through, value_at}
use Rattle.exec_plan.specs.of_exec_graph.declared.graph.Place.{Place}
use Rattle.exec_plan.specs.of_exec_graph.declared.graph.Node.{Node}
use Rattle.exec_plan.specs.of_exec_graph.declared.graph.Node.TheVariants.{Source, Flatten, Pdo, Gbk, Barrier}
use Rattle.exec_plan.specs.of_exec_graph.declared.graph.Entry.{Entry}
use Rattle.exec_plan.specs.of_exec_graph.declared.graph.Graph.{Graph}
use Rattle.exec_plan.proofs.of_exec_graph.ActLemmas.{act_holds}
use Rattle.exec_plan.proofs.of_exec_graph.Solving.{collection_is}
use Rattle.plan_laws.proofs.Carrying.{IsPlain}

pub record IsNormal (v : Collection) : Type 0 where
  pub bag : bag_of v.bag ≡ v.bag
  pub traps : trap_set v.traps ≡ v.traps

made_normal : (xs : List Value) (ts : List Trap)
    → IsNormal (record { bag = bag_of xs; traps = trap_set ts })
made_normal xs ts = record { bag = bag_of-twice xs; traps = set-gathered trap_le trap_order ts [] }

source_normal : (xs : List Value) → IsNormal (record { bag = bag_of xs; traps = [] })
source_normal xs = record { bag = bag_of-twice xs; traps = refl }

keyed_normal : (b : List Value) (ts : List Trap) → IsNormal (record { bag = b; traps = ts })
    → IsNormal (by_key (record { bag = b; traps = ts }))
keyed_normal b [] h = record { bag = bag_of-settled (grouped b) (grouped-IsSorted b); traps = refl }
keyed_normal b (t ∷ ts) h = record { bag = refl; traps = h.traps }

first_normal : (a b : Option Collection) → IsNormal (or_nothing a) → IsNormal (or_nothing b)
    → IsNormal (or_nothing (first a b))
first_normal None b h i = i
first_normal (Some c) b h i = h

cond_normal : (b : Bool) (v : Collection) (o : Option Collection) → IsNormal v
    → IsNormal (or_nothing o) → IsNormal (or_nothing (cond b (Some v) o))
cond_normal true v o h i = h
cond_normal false v o h i = i

out_normal : (w : World) (v : Collection) (f : Forest) (j : ℕ)
    → IsNormal (or_nothing (out_of w v f j))
out_normal w v Bare j = record { bag = refl; traps = refl }
out_normal w v (Grow l kids rest) j =
    cond_normal (is_out l.out j) (through w l v) (first (out_of w (through w l v) kids j)
    (out_of w v rest j)) (made_normal (flat_map (emitted w l) v.bag)
    (v.traps ++ flat_map (trapped w l) v.bag))
    (first_normal (out_of w (through w l v) kids j) (out_of w v rest j)
    (out_normal w (through w l v) kids j) (out_normal w v rest j))

just_normal : (v : Value) → IsNormal (value_object v)
just_normal v = record { bag = refl; traps = refl }

trap_normal : (t : Trap) → IsNormal (trap_object t)
trap_normal t = record { bag = refl; traps = refl }

none_normal : (cs : List Collection) → IsNormal (none_of cs)
none_normal cs = made_normal [] (flat_map (λ (c : Collection). c.traps) cs)

side_normal : (w : World) (o f : ℕ) (v : Option Value) (c d : Collection)
    → IsNormal (side_input_on w o f v c d)
side_normal w o f v c d =
    let e : Collection = called_beside v c d in
    let g : Value → Called = (world_beside v w).called f in
    made_normal (flat_map (λ x. emissions 0 (g x)) e.bag)
    (e.traps ++ flat_map (λ x. trap_of o (g x)) e.bag)

barrier_normal : (w : World) (o : ℕ) (a : Act) (cs : List Collection)
    → IsNormal (act_result w o a cs)
barrier_normal =
    act_holds IsNormal just_normal trap_normal none_normal
    (λ w o f c object. side_normal w o f (value_in object) c object)

value_normal : (w : World) (m : Place → Collection) (o : Option Node) (j : ℕ)
    → ((c : Place) → IsNormal (m c)) → IsNormal (value_at w m o j)
value_normal w m None j h = record { bag = refl; traps = refl }
value_normal w m (Some (Source r)) j h = source_normal (w.rows r.number)
value_normal w m (Some (Flatten ins)) j h = made_normal (flat_map (λ (c : Collection). c.bag)
    (map m ins)) (flat_map (λ (c : Collection). c.traps) (map m ins))
value_normal w m (Some (Pdo c f)) j h = out_normal w (m c) f j
value_normal w m (Some (Gbk c o l k)) j h = keyed_normal (m c).bag (m c).traps (h c)
value_normal w m (Some (Barrier ins o l a)) j h = barrier_normal w o a (map m ins)

solve_normal : (w : World) (es : List Entry) (k : ℕ) (c : Place) → IsNormal (solve w es k c)
unfolding solve
solve_normal w es zero c = record { bag = refl; traps = refl }
solve_normal w es (suc k) c = value_normal w (solve w es k) (node_at es c.node) c.out
    (λ d. solve_normal w es k d)

abbrev col : List Value → List Trap → Collection
col b ts = record { bag = b; traps = ts }

normal_plain : (v : Collection) → IsNormal v → together (v ∷ []) ≡ v
normal_plain v n =
    let x : bag_of (v.bag ++ []) ≡ v.bag = ap bag_of (append-nil v.bag) ∙ n.bag in
    let y : trap_set (v.traps ++ []) ≡ v.traps = ap (trap_set) (append-nil v.traps) ∙ n.traps in
    ap (λ (b : List Value). col b (trap_set (v.traps ++ []))) x ∙ ap (col v.bag) y

pub collection_plain : (w : World) (g : Graph) → IsPlain (collection w g)
collection_plain w g c =
    normal_plain (collection w g c) (subst IsNormal (sym (collection_is w g c))
    (solve_normal w g.nodes (suc (length g.nodes)) c))
