-- In a graph whose types fit, over a typed world, each member of a collection has its type.
use Rattle.std.proofs.Common.{◌≡◌, ℕ, zero, suc, ◌<◌, true, eqb, ◌||◌, List, [], ◌∷◌, map, Option, Some, None, Result, Ok, Err, inl, inr, sym, subst, arith, append-nil}
use Rattle.std.specs.List.{AllByRecursion as Each, AllZip, cons_option, flat_map, slice_get}
use Rattle.std.proofs.lemmas.Bool.{eqb-true, false≢true}
use Rattle.std.proofs.lemmas.List.Elements.{All-from_recursion}
use Rattle.flume_value.specs.declared.value.Value.{Value}
use Rattle.flume_value.specs.declared.fault.Kind.{Kind}
use Rattle.flume_value.specs.Bag.{bag_of}
use Rattle.flume_value.proofs.BagLemmas.{Each-bag_of}
use Rattle.flume_value.proofs.EachLemmas.{each_from, Each-append, Each-both}
use Rattle.flume_types.specs.declared.types.Ty.{Ty}
use Rattle.flume_types.specs.declared.types.Ty.TheVariants as type
use Rattle.flume_types.specs.Tables.{table_of}
use Rattle.flume_types.specs.Typing.{Has, AllHave}
use Rattle.flume_collection.specs.of_bag_groups.Combining.{combined_pair, group_of}
use Rattle.flume_collection.specs.of_bag_groups.Groups.{grouped}
use Rattle.combine_table.specs.declared.comb.Comb.{Comb}
use Rattle.combine_table.specs.Combinations.{combined}
use Rattle.bag_steps.specs.of_keyed_steps.Types.{gives_type}
use Rattle.bag_steps.proofs.of_keyed_steps.TypedFacts.{combined_pairs_have, groups_have}
use Rattle.flume_collection.specs.declared.trap.Trap.{Trap}
use Rattle.flume_collection.specs.Collection.{Collection, unless_trapped}
use Rattle.flume_collection.specs.Calls.{Called, emissions}
use Rattle.exec_graph.specs.declared.step.Does.{Does}
use Rattle.exec_graph.specs.declared.step.Does.TheVariants as does
use Rattle.exec_graph.specs.declared.graph.Place.{Place}
use Rattle.exec_graph.specs.declared.graph.Node.{Node}
use Rattle.exec_graph.specs.declared.graph.Node.TheVariants.{Source, Flatten, Pdo, Gbk, Barrier}
use Rattle.exec_graph.specs.declared.graph.Graph.{Graph}
use Rattle.exec_graph.specs.World.{World}
use Rattle.exec_graph.specs.Calls.{called, emitted, to_first, of_combine, of_group}
use Rattle.exec_graph.specs.Forests.{Label, Forest, Bare, Grow}
use Rattle.exec_graph.specs.Meaning.{collection, through, place, is_out, has_out, FitsForest, Holds, Meets, IsThere, IsRankedBy, IsSound, gives, reads}
use Rattle.exec_graph.specs.Typing.{Signatures, StepTyped, OutTyped, ForestTyped, NodeTyped, IsTypedBy, IsWorldTyped, IsCombined, IsGrouped, EmitsTyped}
use Rattle.exec_graph.proofs.Entries.{all_found}
use Rattle.exec_graph.proofs.Barriers.{AllGood, barrier_typed}
use Rattle.exec_graph.proofs.Bools.{or_cases}
use Rattle.exec_graph.proofs.Derived.{with_one_typed, under_zero_typed, left_typed, right_typed, split_typed, spread_typed}
use Rattle.exec_graph.proofs.Solving.{collection_meets, kept_value, ranked_at, there_found}

-- ---- one call
one_list : (t : Ty) (vs : List Value) (n : ℕ) → Each (Has t) vs
    → Each (Has t) (emissions n (to_first vs))
one_list t vs zero h = h
one_list t vs (suc n) h = tt

no_list : (t : Ty) (n : ℕ) → Each (Has t) (emissions n (Ok []))
no_list t zero = tt
no_list t (suc n) = tt

output_typed : (gives : List Ty) (outputs : List (List Value)) (n : ℕ) (u : Ty)
    → AllZip AllHave gives outputs → slice_get gives n ≡ Some u
    → Each (Has u) (emissions n (Ok outputs))
output_typed [] outputs n u a e = cc
output_typed (t ∷ ts) [] n u a e = absurd a
output_typed (t ∷ ts) (vs ∷ more) zero u a e =
    let same : t ≡ u = cc in
    subst (λ r. Each (Has r) vs) same (each_from (Has t) vs a.0)
output_typed (t ∷ ts) (vs ∷ more) (suc n) u a e = output_typed ts more n u a.1 e

answer_typed : (gives : List Ty) (c : Called) (n : ℕ) (u : Ty) → EmitsTyped gives c
    → slice_get gives n ≡ Some u → Each (Has u) (emissions n c)
answer_typed gives (Ok outputs) n u a e = output_typed gives outputs n u a e
answer_typed gives (Err trap) n u a e = tt

combine_typed : (t : Ty) (n : ℕ) (k : Value) (r : Result Value Kind)
    → Each (Has t) (combined_pair k r) → Each (Has t) (emissions n (of_combine k r))
combine_typed t n k (Ok v) h = one_list t (combined_pair k (Ok v)) n h
combine_typed t n k (Err kind) h = tt

-- what one group comes to
abbrev one_pair : Comb → Option (Value × List Value) → List Value
one_pair c group =
    flat_map (λ (g : Value × List Value). combined_pair g.0 (combined c (bag_of g.1)))
    (cons_option group [])

group_typed : (t : Ty) (n : ℕ) (c : Comb) (group : Option (Value × List Value))
    → Each (Has t) (one_pair c group) → Each (Has t) (emissions n (of_group c group))
group_typed t n c None h = no_list t n
group_typed t n c (Some g) h =
    let r : Result Value Kind = combined c (bag_of g.1) in
    combine_typed t n g.0 r (subst (Each (Has t)) (append-nil (combined_pair g.0 r)) h)

combined_typed : (c : Comb) (t u : Ty) (n : ℕ) → IsCombined c t u → (x : Value) → Has t x
    → Each (Has u) (emissions n (of_group c (group_of x)))
combined_typed c t u n s x h =
    subst (λ r. Each (Has r) (emissions n (of_group c (group_of x)))) (sym s.gives)
    (group_typed (table_of s.key (gives_type c s.value)) n c (group_of x)
    (combined_pairs_have c s.key s.value (x ∷ []) (subst (λ r. Has r x) s.takes h, tt)))

-- what a typed step emits of a value of its type has the type that it gives
pub step_typed : (s : Signatures) (w : World) → IsWorldTyped s w → (d : Does) (n : ℕ) (t u : Ty)
    → StepTyped s d n t u → (x : Value) → Has t x → Each (Has u) (emissions n (called w d x))
unfolding called
step_typed s w world (does.Call f) n t u a x h =
    answer_typed (s.gives f) (w.called f x) n u
    (world.called f x (subst (λ r. Has r x) a.0 h)) a.1
step_typed s w world (does.Combine c) n t u a x h = combined_typed c t u n a.1 x h
step_typed s w world does.Pair n t u a x h = one_list u _ n (with_one_typed t u a.1 x h)
step_typed s w world does.TagLeft n t u a x h = one_list u _ n (left_typed t u a.1 x h)
step_typed s w world does.TagRight n t u a x h = one_list u _ n (right_typed t u a.1 x h)
step_typed s w world does.Split n t u a x h = one_list u _ n (split_typed t u a.1 x h)
step_typed s w world does.Solo n t u a x h = one_list u _ n (under_zero_typed t u a.1 x h)
step_typed s w world does.Spread n t u a x h = one_list u _ n (spread_typed t u a.1 x h)

-- ---- collections
each_flat : (P Q : Value → Type 0) (f : Value → List Value) → ((x : Value) → P x → Each Q (f x))
    → (xs : List Value) → Each P xs → Each Q (flat_map f xs)
each_flat P Q f h [] a = tt
each_flat P Q f h (x ∷ xs) a = Each-append Q (f x) (flat_map f xs) (h x a.0)
    (each_flat P Q f h xs a.1)

through_typed : (s : Signatures) (w : World) → IsWorldTyped s w → (l : Label) (v : Collection)
    (t u : Ty) → StepTyped s l.does l.at t u → Each (Has t) v.bag
    → Each (Has u) (through w l v).bag
through_typed s w world l v t u a h =
    Each-bag_of (Has u) (flat_map (emitted w l) v.bag)
    (each_flat (Has t) (Has u) (emitted w l)
    (λ x i. step_typed s w world l.does l.at t u a x i) v.bag h)

-- an output of a step has the type that the step gives
out_has : (m : Place → Collection) (types : Place → Ty) (n j : ℕ) (o : Option ℕ) (u : Ty)
    → is_out o j ≡ true → OutTyped types n o u → Each (Has u) (m (place n j)).bag
    → Each (Has (types (place n j))) (m (place n j)).bag
out_has m types n j None u e a h = absurd (false≢true e)
out_has m types n j (Some i) u e a h =
    subst (λ (k : ℕ). Each (Has (types (place n k))) (m (place n j)).bag) (eqb-true i j e)
    (subst (λ (r : Ty). Each (Has r) (m (place n j)).bag) (sym a) h)

forest_typed : (s : Signatures) (w : World) → IsWorldTyped s w → (types : Place → Ty)
    (m : Place → Collection) (n : ℕ) (v : Collection) (t : Ty) (f : Forest) (j : ℕ)
    → ForestTyped s types n t f → FitsForest w m n v f → Each (Has t) v.bag
    → has_out j f ≡ true → Each (Has (types (place n j))) (m (place n j)).bag
forest_typed s w world types m n v t Bare j a fits h e = absurd (false≢true e)
forest_typed s w world types m n v t (Grow l kids rest) j a fits h e =
    let u : Ty = a.0.0 in
    let now : Each (Has u) (through w l v).bag = through_typed s w world l v t u a.0.1 h in
    elim (or_cases (is_out l.out j) (has_out j kids || has_out j rest) e) [
      | inl i ↦ out_has m types n j l.out u i a.0.2
          (subst (λ (c : Collection). Each (Has u) c.bag)
          (sym (kept_value m n j l.out (through w l v) i fits.0)) now)
      | inr i ↦ elim (or_cases (has_out j kids) (has_out j rest) i) [
        | inl q ↦ forest_typed s w world types m n (through w l v) u kids j a.0.3 fits.1 now q
        | inr q ↦ forest_typed s w world types m n v t rest j a.1 fits.2 h q
      ]
    ]

abbrev Good : (Place → Ty) → (Place → Collection) → Place → Type 0
Good types m c = Each (Has (types c)) (m c).bag

flat_good : (t : Ty) (m : Place → Collection) (cs : List Place)
    → Each (λ d. Each (Has t) (m d).bag) cs
    → Each (Has t) (flat_map (λ (c : Collection). c.bag) (map m cs))
flat_good t m [] a = tt
flat_good t m (d ∷ ds) a = Each-append (Has t) (m d).bag
    (flat_map (λ (c : Collection). c.bag) (map m ds)) a.0 (flat_good t m ds a.1)

keyed_good : (key value : Ty) (b : List Value) (ts : List Trap)
    → Each (Has (table_of key value)) b
    → Each (Has (table_of key (type.List value))) (unless_trapped ts (grouped b))
keyed_good key value b [] h = groups_have key value b h
keyed_good key value b (t ∷ ts) h = tt

gbk_good : (t u : Ty) (v : Collection) → IsGrouped t u → Each (Has t) v.bag
    → Each (Has u) (unless_trapped v.traps (grouped v.bag))
gbk_good t u v s h =
    subst (λ r. Each (Has r) (unless_trapped v.traps (grouped v.bag))) (sym s.gives)
    (keyed_good s.key s.value v.bag v.traps (subst (λ r. Each (Has r) v.bag) s.takes h))

-- the only output of a node that is no Pdo
first_good : (types : Place → Ty) (m : Place → Collection) (n j : ℕ) → eqb j 0 ≡ true
    → Good types m (place n 0) → Good types m (place n j)
first_good types m n j e h =
    subst (λ (k : ℕ). Good types m (place n k)) (sym (eqb-true j 0 e)) h

made_good : (types : Place → Ty) (m : Place → Collection) (n j : ℕ) (v : Collection)
    → eqb j 0 ≡ true → m (place n 0) ≡ v → Each (Has (types (place n 0))) v.bag
    → Good types m (place n j)
made_good types m n j v e is h = first_good types m n j e
    (subst (λ (c : Collection). Each (Has (types (place n 0))) c.bag) (sym is) h)

zip_good : (types : Place → Ty) (m : Place → Collection) (cs : List Place)
    → Each (Good types m) cs → AllGood (map types cs) (map m cs)
zip_good types m [] a = tt
zip_good types m (c ∷ cs) a = (a.0, zip_good types m cs a.1)

node_good : (s : Signatures) (w : World) → IsWorldTyped s w → (types : Place → Ty)
    (m : Place → Collection) (n j : ℕ) (x : Node) → NodeTyped s types n x → Holds w m n x
    → Each (Good types m) (reads x) → gives x j ≡ true → Good types m (place n j)
node_good s w world types m n j (Source r) a h g e =
    made_good types m n j _ e h
    (Each-bag_of (Has (types (place n 0))) (w.rows r.number)
    (subst (λ t. Each (Has t) (w.rows r.number)) (sym a)
    (each_from (Has (s.inputs r.number)) (w.rows r.number) (world.rows r.number))))
node_good s w world types m n j (Flatten ins) a h g e =
    let t : Ty = types (place n 0) in
    made_good types m n j _ e h
    (Each-bag_of (Has t) (flat_map (λ (v : Collection). v.bag) (map m ins))
    (flat_good t m ins (Each-both (λ c. types c ≡ t) (Good types m)
    (λ c. Each (Has t) (m c).bag)
    (λ c q i. subst (λ (r : Ty). Each (Has r) (m c).bag) q i) ins a g)))
node_good s w world types m n j (Pdo c f) a h g e =
    forest_typed s w world types m n (m c) (types c) f j a h g.0 e
node_good s w world types m n j (Gbk c o l k) a h g e =
    made_good types m n j _ e h (gbk_good (types c) (types (place n 0)) (m c) a g.0)
node_good s w world types m n j (Barrier ins o l d) a h g e =
    made_good types m n j _ e h
    (barrier_typed s w world o d (map types ins) (types (place n 0)) a (map m ins)
    (zip_good types m ins g))

-- ---- graphs
typed_below : (s : Signatures) (w : World) → IsWorldTyped s w → (g : Graph) → IsSound g
    → (types : Place → Ty) → IsTypedBy s g types → (m : Place → Collection) → Meets w g.nodes m
    → (r : ℕ → ℕ) → IsRankedBy r g.nodes → (k : ℕ) (c : Place) → r c.node < k
    → IsThere g.nodes c → Good types m c
typed_below s w world g ok types a m h r ranked zero c l t = absurd (omega arith)
typed_below s w world g ok types a m h r ranked (suc k) c l t =
    let x = there_found g.nodes c t in
    let reads_there : Each (IsThere g.nodes) (reads x.0) =
    all_found (λ e. Each (IsThere g.nodes) (reads e.node)) g.nodes c.node x.0 x.1 ok.there in
    node_good s w world types m c.node c.out x.0
    (all_found (λ e. NodeTyped s types e.number e.node) g.nodes c.node x.0 x.1 a)
    (all_found (λ e. Holds w m e.number e.node) g.nodes c.node x.0 x.1 h)
    (Each-both (λ (d : Place). r d.node < r c.node) (IsThere g.nodes) (Good types m)
    (λ d u v. typed_below s w world g ok types a m h r ranked k d (omega arith) v) (reads x.0)
    (ranked_at r g.nodes c.node x.0 ranked x.1) reads_there) x.2

-- each member of a collection has the collection's type
pub members_have : (s : Signatures) (w : World) (g : Graph) (types : Place → Ty) → IsSound g
    → IsTypedBy s g types → IsWorldTyped s w → (c : Place) → IsThere g.nodes c
    → AllHave (types c) (collection w g c).bag
members_have s w g types ok a world c t =
    let m : Place → Collection = collection w g in
    All-from_recursion (Has (types c)) (m c).bag
    (typed_below s w world g ok types a m (collection_meets w g ok) ok.ranked.0 ok.ranked.1
    (suc (ok.ranked.0 c.node)) c (omega arith) t)
