-- In a graph whose types fit each step finds what it reads.
use Rattle.std.proofs.Common.{◌≡◌, ℕ, ◌<◌, List, [], ◌∷◌, length, Option, Some, None, is_some, ap, subst, arith}
use Rattle.std.specs.Prelude.{IsSome, Result, Ok, Err, slice_get}
use Rattle.std.specs.List.{AllByRecursion as Each, flat_map}
use Rattle.std.proofs.lemmas.List.Elements.{All-from_recursion}
use Rattle.flume_value.specs.declared.value.Value.{Value}
use Rattle.flume_value.specs.declared.fault.Kind.{Kind}
use Rattle.flume_value.specs.Bag.{bag_of}
use Rattle.flume_value.proofs.BagLemmas.{Each-bag_of}
use Rattle.flume_value.proofs.EachLemmas.{Each-append, Each-both, Each-weaker, each_from}
use Rattle.flume_types.specs.declared.types.Ty.{Ty}
use Rattle.flume_types.specs.declared.types.Ty.TheVariants as type
use Rattle.flume_types.specs.Tables.{table_of}
use Rattle.flume_types.specs.Typing.{AllHave, Has}
use Rattle.bag_groups.specs.Combining.{group_of}
use Rattle.bag_groups.specs.Pairs.{IsPair, pair}
use Rattle.combine_table.specs.Combinations.{combined}
use Rattle.combine_table.specs.declared.comb.Comb.{Comb}
use Rattle.keyed_steps.proofs.TypedFacts.{all_pairs, group_suits, table_group, table_pair}
use Rattle.flume_collection.specs.Calls.{Called}
use Rattle.flume_collection.specs.Collection.{Collection}
use Rattle.exec_graph.specs.Calls.{called, emitted, of_combine, of_group}
use Rattle.exec_graph.specs.Derived.{left_tagged, right_tagged, split, spread, under_zero, with_one}
use Rattle.exec_graph.specs.Forests.{Label, Forest, Bare, Grow}
use Rattle.exec_graph.specs.Meaning.{IsSound, IsThere, collection, reads, through}
use Rattle.exec_graph.specs.Typing.{EmitsTyped, ForestTyped, IsTypedBy, IsWorldTyped, NodeTyped, Signatures, StepTyped}
use Rattle.exec_graph.specs.World.{World}
use Rattle.exec_graph.specs.declared.graph.Entry.{Entry}
use Rattle.exec_graph.specs.declared.graph.Graph.{Graph}
use Rattle.exec_graph.specs.declared.graph.Node.{Node}
use Rattle.exec_graph.specs.declared.graph.Node.TheVariants.{Source, Flatten, Pdo, Gbk, Barrier}
use Rattle.exec_graph.specs.declared.graph.Place.{Place}
use Rattle.exec_graph.specs.declared.step.Does.{Does}
use Rattle.exec_graph.specs.declared.step.Does.TheVariants as does
use Rattle.exec_graph.proofs.Typed.{members_have, step_typed}
use Rattle.script_laws.proofs.MemberLemmas.{within, zip_length}
use Rattle.no_defaults.specs.Readings.{HasOutput, IsListed}
use Rattle.no_defaults.specs.Steps.{ForestFinds, SuitsStep, NodeFinds, StepFinds}

-- ---- answers

call_has : (gives : List Ty) (at : ℕ) (u : Ty) → slice_get gives at ≡ Some u → (answer : Called)
    → EmitsTyped gives answer → HasOutput at answer
call_has gives at u is (Ok outputs) have =
    subst (λ n. at < n) (zip_length AllHave gives outputs have) (within gives at u is)
call_has gives at u is (Err trap) have = tt

one_has : (at : ℕ) (values : List Value) → at ≡ 0 → at < length (values ∷ [])
one_has at values is = omega arith

combined_has : (at : ℕ) (k : Value) (r : Result Value Kind) → at ≡ 0
    → HasOutput at (of_combine k r)
combined_has at k (Ok v) is = one_has at (pair k v ∷ []) is
combined_has at k (Err kind) is = tt

group_has : (at : ℕ) (c : Comb) (group : Option (Value × List Value)) → at ≡ 0 → IsSome group
    → HasOutput at (of_group c group)
group_has at c None is some = cc some
group_has at c (Some group) is some =
    combined_has at group.0 (combined c (bag_of group.1)) is

-- ---- members

is_pair : (key value : Ty) (t : Ty) → t ≡ table_of key value → (x : Value) → Has t x → IsPair x
is_pair key value t is x h =
    let (k, v, parts, first, second) = table_pair key value x (subst (λ r. Has r x) is h) in
    ap is_some parts

is_listed : (key value : Ty) (t : Ty) → t ≡ table_of key (type.List value) → (x : Value)
    → Has t x → IsListed x
is_listed key value t is x h =
    let (k, l, group, first, second) = table_group key value x (subst (λ r. Has r x) is h) in
    ap is_some group

-- ---- steps

step_finds : (s : Signatures) (w : World) → IsWorldTyped s w → (d : Does) (at : ℕ) (t u : Ty)
    → StepTyped s d at t u → (x : Value) → Has t x → SuitsStep d x × HasOutput at (called w d x)
unfolding called
step_finds s w world (does.Call f) at t u a x h = (
  tt,
  call_has (s.gives f) at u a.1 (w.called f x)
      (world.called f x (subst (λ r. Has r x) a.0 h)),
)
step_finds s w world (does.Combine c) at t u a x h =
    let it = a.1 in (
      group_suits c it.key it.value it.suits x (subst (λ r. Has r x) it.takes h),
      group_has at c (group_of x) a.0 (is_listed it.key it.value t it.takes x h),
    )
step_finds s w world does.Pair at t u a x h = (tt, one_has at (with_one x) a.0)
step_finds s w world does.TagLeft at t u a x h =
    let it = a.1 in (is_pair it.key it.left t it.takes x h, one_has at (left_tagged x) a.0)
step_finds s w world does.TagRight at t u a x h =
    let it = a.1 in (is_pair it.key it.right t it.takes x h, one_has at (right_tagged x) a.0)
step_finds s w world does.Split at t u a x h =
    let it = a.1 in
    (is_listed it.key (type.Either it.left it.right) t it.takes x h, one_has at (split x) a.0)
step_finds s w world does.Solo at t u a x h = (tt, one_has at (under_zero x) a.0)
step_finds s w world does.Spread at t u a x h =
    let it = a.1 in (is_listed it.key u t it.takes x h, one_has at (spread x) a.0)

-- ---- forests

each_flat : (P Q : Value → Type 0) (f : Value → List Value) → ((x : Value) → P x → Each Q (f x))
    → (xs : List Value) → Each P xs → Each Q (flat_map f xs)
each_flat P Q f h [] a = tt
each_flat P Q f h (x ∷ xs) a =
    Each-append Q (f x) (flat_map f xs) (h x a.0) (each_flat P Q f h xs a.1)

module _ (s : Signatures) (w : World) (world : IsWorldTyped s w) (types : Place → Ty) where
  given_has : (l : Label) (v : Collection) (t u : Ty) → StepTyped s l.does l.at t u
      → Each (Has t) v.bag → Each (Has u) (through w l v).bag
  given_has l v t u a h =
      Each-bag_of (Has u) (flat_map (emitted w l) v.bag)
      (each_flat (Has t) (Has u) (emitted w l)
      (λ x i. step_typed s w world l.does l.at t u a x i) v.bag h)

  forest_finds : (n : ℕ) (v : Collection) (t : Ty) (f : Forest) → ForestTyped s types n t f
      → Each (Has t) v.bag → ForestFinds w v f
  forest_finds n v t Bare a h = tt
  forest_finds n v t (Grow l kids rest) a h =
      let u : Ty = a.0.0 in (
        All-from_recursion (StepFinds w l) v.bag
            (Each-weaker (Has t) (StepFinds w l)
            (λ x i. step_finds s w world l.does l.at t u a.0.1 x i) v.bag h),
        forest_finds n (through w l v) u kids a.0.3 (given_has l v t u a.0.1 h),
        forest_finds n v t rest a.1 h,
      )

  -- ---- nodes

  module _ (g : Graph) (ok : IsSound g) (typed : IsTypedBy s g types) where
    have : (c : Place) → IsThere g.nodes c → AllHave (types c) (collection w g c).bag
    have c there = members_have s w g types ok typed world c there

    node_finds : (n : ℕ) (x : Node) → NodeTyped s types n x → Each (IsThere g.nodes) (reads x)
        → NodeFinds w (collection w g) x
    node_finds n (Source r) a there = tt
    node_finds n (Flatten ins) a there = tt
    node_finds n (Pdo c f) a there =
        let bag = (collection w g c).bag in
        forest_finds n (collection w g c) (types c) f a
        (each_from (Has (types c)) bag (have c there.0))
    node_finds n (Gbk c o l k) a there =
        let bag = (collection w g c).bag in
        all_pairs a.key a.value bag
        (subst (λ (t : Ty). AllHave t bag) a.takes (have c there.0))
    node_finds n (Barrier ins o l d) a there = tt

    all_find : Each (λ e. NodeFinds w (collection w g) e.node) g.nodes
    all_find =
        Each-both (λ (e : Entry). NodeTyped s types e.number e.node)
        (λ (e : Entry). Each (IsThere g.nodes) (reads e.node))
        (λ (e : Entry). NodeFinds w (collection w g) e.node)
        (λ e a there. node_finds e.number e.node a there) g.nodes typed ok.there

pub graph_finds : (s : Signatures) (w : World) (g : Graph) (types : Place → Ty) → IsSound g
    → IsTypedBy s g types → IsWorldTyped s w
    → Each (λ e. NodeFinds w (collection w g) e.node) g.nodes
graph_finds s w g types ok typed world = all_find s w world types g ok typed
