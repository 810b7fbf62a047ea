-- What barriers give: the equations of their acts, and its types.
use Rattle.std.proofs.Common.{◌≡◌, ℕ, pos, List, [], ◌∷◌, Option, Some, None, Result, Ok, Err, refl, sym, ap, ◌∙◌, subst, append-nil}
use Rattle.std.specs.Prelude.{option_map}
use Rattle.std.specs.List.{AllByRecursion as Each, AllZip, cons_option, flat_map, slice_get}
use Rattle.std.specs.Option.{option_and_then}
use Rattle.flume_value.specs.declared.value.Value.{Value}
use Rattle.flume_value.specs.declared.value.Value.TheVariants as value
use Rattle.flume_value.specs.declared.fault.Kind.{Kind}
use Rattle.flume_value.specs.Bag.{bag_of}
use Rattle.flume_value.specs.Parts.{list_layer}
use Rattle.flume_value.proofs.BagLemmas.{Each-bag_of}
use Rattle.flume_value.proofs.EachLemmas.{each_from, Each-append}
use Rattle.flume_types.specs.declared.types.Ty.{Ty}
use Rattle.flume_types.specs.declared.types.Ty.TheVariants as type
use Rattle.flume_types.specs.Tables.{table_of}
use Rattle.flume_types.specs.Typing.{Has, HaveTypes, AllHave}
use Rattle.flume_types.proofs.PartLemmas.{has_int, has_list, has_record}
use Rattle.flume_collection.specs.of_bag_groups.Pairs.{pair, value_of}
use Rattle.flume_collection.specs.of_bag_groups.Combining.{combined_pair, group_of}
use Rattle.flume_collection.proofs.of_bag_groups.CombiningLemmas.{Group, group_by}
use Rattle.flume_collection.proofs.of_bag_groups.PairLemmas.{Parts, parts_of-pair}
use Rattle.combine_table.specs.declared.comb.Comb.{Comb}
use Rattle.combine_table.specs.Combinations.{combined}
use Rattle.bag_steps.specs.of_keyed_steps.Types.{TakesType, gives_type}
use Rattle.bag_steps.proofs.of_keyed_steps.TypedFacts.{combined_pairs_have, table_pair, Has-pair}
use Rattle.flume_collection.specs.declared.trap.Trap.{Trap}
use Rattle.flume_collection.specs.Collection.{Collection, unless_trapped}
use Rattle.flume_collection.specs.Calls.{Called, emissions, or_none}
use Rattle.exec_graph.specs.declared.graph.Act.{Act}
use Rattle.exec_graph.specs.declared.graph.Act.TheVariants.{SideInput, Operate, Singleton}
use Rattle.exec_graph.specs.World.{World}
use Rattle.exec_graph.specs.Objects.{argument, world_beside, act_result, naming, none_of, one_answer, one_emitted, singleton_value, only, operated, operated_on, or_of_nothing, side_input, side_input_on, unless_behind, value_in, values_in, whole_combined, with_first}
use Rattle.exec_graph.specs.Typing.{ActTyped, EmitsTyped, IsArgument, IsRecord, IsWhole, IsWorldTyped, Signatures}

-- ---- the equations
pub barrier_side_input : (w : World) (o f : ℕ) (c object : Collection)
    → act_result w o (SideInput f) (c ∷ (object ∷ [])) ≡ side_input w o f c object
unfolding act_result
barrier_side_input w o f c object = refl

pub barrier_operate : (w : World) (o f : ℕ) (objects : List Collection)
    → act_result w o (Operate f) objects ≡ operated w o f objects
unfolding act_result
barrier_operate w o f objects = refl

pub barrier_singleton : (w : World) (o : ℕ) (k : Comb) (c : Collection)
    → act_result w o (Singleton k) (c ∷ []) ≡ singleton_value o k c
unfolding act_result
barrier_singleton w o k c = refl

-- ---- the types of values of objects
abbrev pub AllGood : List Ty → List Collection → Type 0
AllGood ts cs = AllZip (λ t (c : Collection). Each (Has t) c.bag) ts cs

only_has : {X : Type 0} (P : X → Type 0) (xs : List X) (x : X) → Each P xs → only xs ≡ Some x → P x
only_has P [] x a e = cc
only_has P (y ∷ []) x a e = let same : y ≡ x = cc in subst P same a.0
only_has P (y ∷ (z ∷ zs)) x a e = cc

untrapped_has : (t : Ty) (ts : List Trap) (b : List Value) → Each (Has t) b
    → Each (Has t) (unless_trapped ts b)
untrapped_has t [] b a = a
untrapped_has t (u ∷ us) b a = tt

value_has : (t : Ty) (c : Collection) (v : Value) → Each (Has t) c.bag → value_in c ≡ Some v
    → Has t v
value_has t c v a e =
    only_has (Has t) (unless_trapped c.traps c.bag) v (untrapped_has t c.traps c.bag a) e

-- several values, one of each type
first_have : (ts : List Ty) (t : Ty) (a : Option Value) (o : Option (List Value)) (vs : List Value)
    → with_first a o ≡ Some vs → ((v : Value) → a ≡ Some v → Has t v)
    → ((us : List Value) → o ≡ Some us → HaveTypes ts us) → HaveTypes (t ∷ ts) vs
first_have ts t None o vs e f g = cc
first_have ts t (Some v) None vs e f g = cc
first_have ts t (Some v) (Some us) vs e f g =
    let same : v ∷ us ≡ vs = cc in
    let both : HaveTypes (t ∷ ts) (v ∷ us) = (f v refl, g us refl) in
    subst (HaveTypes (t ∷ ts)) same both

no_values : (vs : List Value) → values_in [] ≡ Some vs → HaveTypes [] vs
no_values vs e =
    let same : [] ≡ vs = cc in let none : HaveTypes [] [] = tt in subst (HaveTypes []) same none

pub values_have : (ts : List Ty) (cs : List Collection) (vs : List Value) → AllGood ts cs
    → values_in cs ≡ Some vs → HaveTypes ts vs
values_have [] [] vs a e = no_values vs e
values_have [] (c ∷ cs) vs a e = absurd a
values_have (t ∷ ts) [] vs a e = absurd a
values_have (t ∷ ts) (c ∷ cs) vs a e =
    first_have ts t (value_in c) (values_in cs) vs e (λ v i. value_has t c v a.0 i)
    (λ us i. values_have ts cs us a.1 i)

record_has : (ts : List Ty) (t : Ty) (vs : List Value) → IsRecord ts t → HaveTypes ts vs
    → Has t (value.Rec vs)
record_has ts t vs r h =
    subst (λ u. Has u (value.Rec vs)) (sym r.record_of)
    (has_record r.fields vs (subst (λ us. HaveTypes us vs) (sym r.in_order) h))

pub argument_has : (ts : List Ty) (t : Ty) (vs : List Value) → IsArgument ts t → HaveTypes ts vs
    → Has t (argument vs)
argument_has [] t [] r h = record_has [] t [] r h
argument_has [] t (v ∷ vs) r h = absurd h
argument_has (u ∷ us) t [] r h = absurd h
argument_has (u ∷ []) t (v ∷ []) r h = subst (λ x. Has x v) (sym r) h.0
argument_has (u ∷ []) t (v ∷ (x ∷ vs)) r h = absurd h.1
argument_has (u ∷ (y ∷ us)) t (v ∷ []) r h = absurd h.1
argument_has (u ∷ (y ∷ us)) t (v ∷ (x ∷ vs)) r h =
    record_has (u ∷ (y ∷ us)) t (v ∷ (x ∷ vs)) r h

-- ---- the types of what is made
first_typed : (u : Ty) (outputs : List (List Value)) → AllZip AllHave (u ∷ []) outputs
    → Each (Has u) (or_none (slice_get outputs 0))
first_typed u [] a = absurd a
first_typed u (vs ∷ more) a = each_from (Has u) vs a.0

-- the first list of an answer of one output
answer_first : (u : Ty) (c : Called) → EmitsTyped (u ∷ []) c → Each (Has u) (emissions 0 c)
answer_first u (Ok outputs) a = first_typed u outputs a
answer_first u (Err trap) a = tt

naming_emits : (x : Value) (n : ℕ) (c : Called) → emissions n (naming x c) ≡ emissions n c
naming_emits x n (Ok outputs) = refl
naming_emits x n (Err trap) = refl

each_flat : (P Q : Value → Type 0) (f : Value → List Value) → ((x : Value) → P x → Each Q (f x))
    → (xs : List Value) → Each P xs → Each Q (flat_map f xs)
each_flat P Q f h [] a = tt
each_flat P Q f h (x ∷ xs) a = Each-append Q (f x) (flat_map f xs) (h x a.0)
    (each_flat P Q f h xs a.1)

module _ (s : Signatures) (w : World) (world : IsWorldTyped s w) (f : ℕ) (u : Ty)
    (gives : s.gives f ≡ u ∷ []) where
  call_has : (x : Value) → Has (s.takes f) x → EmitsTyped (u ∷ []) (w.called f x)
  call_has x h = subst (λ ts. EmitsTyped ts (w.called f x)) gives (world.called f x h)

  beside_has : (t object : Ty) → IsRecord (t ∷ (object ∷ [])) (s.takes f) → (v : Value)
      → Has object v → (x : Value) → Has t x
      → Each (Has u) (emissions 0 (naming x (w.called f (value.Rec (x ∷ (v ∷ []))))))
  beside_has t object r v h x i =
      subst (Each (Has u)) (sym (naming_emits x 0 (w.called f (value.Rec (x ∷ (v ∷ []))))))
      (answer_first u (w.called f (value.Rec (x ∷ (v ∷ []))))
      (call_has (value.Rec (x ∷ (v ∷ [])))
      (record_has (t ∷ (object ∷ [])) (s.takes f) (x ∷ (v ∷ [])) r (i, (h, tt)))))

  side_has : (t object : Ty) → IsRecord (t ∷ (object ∷ [])) (s.takes f) → (o : ℕ)
      (a : Option Value) (c d : Collection) → Each (Has t) c.bag
      → ((v : Value) → a ≡ Some v → Has object v) → Each (Has u) (side_input_on w o f a c d).bag
  side_has t object r o None c d h i = tt
  side_has t object r o (Some v) c d h i =
      Each-bag_of (Has u) (flat_map (λ x. emissions 0 ((world_beside (Some v) w).called f x)) c.bag)
      (each_flat (Has t) (Has u) (λ x. emissions 0 ((world_beside (Some v) w).called f x))
      (λ x j. beside_has t object r v (i v refl) x j) c.bag h)

  emitted_has : (o : ℕ) (x : Value) (vs : List Value) (a : Option Value) → Each (Has u) vs
      → only vs ≡ a → Each (Has u) (one_emitted o x a).bag
  emitted_has o x vs None h e = tt
  emitted_has o x vs (Some v) h e = (only_has (Has u) vs v h e, tt)

  answered_has : (o : ℕ) (x : Value) (c : Called) → EmitsTyped (u ∷ []) c
      → Each (Has u) (one_answer o x c).bag
  answered_has o x (Ok outputs) a =
      let vs = or_none (slice_get outputs 0) in
      emitted_has o x vs (only vs) (first_typed u outputs a) refl
  answered_has o x (Err trap) a = tt

  operated_has : (ts : List Ty) → IsArgument ts (s.takes f) → (o : ℕ) (cs : List Collection)
      (a : Option (List Value)) → ((vs : List Value) → a ≡ Some vs → HaveTypes ts vs)
      → Each (Has u) (operated_on w o f a cs).bag
  operated_has ts r o cs None h = tt
  operated_has ts r o cs (Some vs) h =
      answered_has o (argument vs) (w.called f (argument vs))
      (call_has (argument vs) (argument_has ts (s.takes f) vs r (h vs refl)))

-- what a combiner makes of nothing
second_is : (p q : Parts) → Some p ≡ Some q → p.1 ≡ q.1
second_is p q e = let same : p ≡ q = cc in ap (λ (x : Parts). x.1) same

first_pair_has : (t : Ty) (v : Value) → Has (table_of type.Int t) (pair (value.Int (pos 0)) v)
    → Has t v
first_pair_has t v h =
    let (k, x, is, typed, held) = table_pair type.Int t (pair (value.Int (pos 0)) v) h in
    let p : Parts = (value.Int (pos 0), v) in
    let q : Parts = (k, x) in
    let e : v ≡ x = second_is p q (sym (parts_of-pair (value.Int (pos 0)) v) ∙ is) in
    subst (Has t) (sym e) held

nothing_pair : (k : Comb) (t : Ty) → TakesType k t
    → Each (Has (table_of type.Int (gives_type k t)))
    (combined_pair (value.Int (pos 0)) (combined k []))
nothing_pair k t takes =
    let zero : Value = value.Int (pos 0) in
    let g : Value = pair zero (value.List []) in
    let P = Has (table_of type.Int (gives_type k t)) in
    let is : group_of g ≡ Some (zero, []) = empty_group in
    let all : Each P (flat_map (λ (h : Group). combined_pair h.0 (combined k (bag_of h.1)))
    (cons_option (group_of g) [])) =
    combined_pairs_have k type.Int t (g ∷ []) (
      Has-pair type.Int (type.List t) zero (value.List []) (has_int (pos 0)) (has_list t [] tt),
      tt,
    ) in
    subst (Each P) (append-nil (combined_pair zero (combined k [])))
    (subst (λ (o : Option Group). Each P
    (flat_map (λ (h : Group). combined_pair h.0 (combined k (bag_of h.1))) (cons_option o []))) is
    all)
  where
    empty_group : group_of (pair (value.Int (pos 0)) (value.List [])) ≡ Some (value.Int (pos 0), [])
    empty_group =
        group_by (pair (value.Int (pos 0)) (value.List [])) (value.Int (pos 0)) (value.List [])
        (Some [])
        (ap (option_map (λ (it : Parts). it.0)) (parts_of-pair (value.Int (pos 0)) (value.List [])))
        (ap (option_map (λ (it : Parts). it.1)) (parts_of-pair (value.Int (pos 0)) (value.List [])))
        (ap list_layer (value.outs-List []))

nothing_has : (k : Comb) (t : Ty) (r : Result Value Kind) (o : ℕ)
    → Each (Has (table_of type.Int t)) (combined_pair (value.Int (pos 0)) r)
    → Each (Has t) (whole_combined o r).bag
nothing_has k t (Ok v) o a = (first_pair_has t v a.0, tt)
nothing_has k t (Err kind) o a = tt

or_nothing_has : (k : Comb) (t u : Ty) → IsWhole k t u → (o : ℕ) (a : Option Value)
    → ((v : Value) → a ≡ Some v → Has u v) → Each (Has u) (or_of_nothing o k a).bag
or_nothing_has k t u r o None h =
    subst (λ x. Each (Has x) (whole_combined o (combined k [])).bag) (sym r.gives)
    (nothing_has k (gives_type k r.value) (combined k []) o (nothing_pair k r.value r.suits))
or_nothing_has k t u r o (Some v) h = (h v refl, tt)

behind_has : (u : Ty) (ts : List Trap) (c d : Collection) → Each (Has u) c.bag
    → Each (Has u) d.bag → Each (Has u) (unless_behind ts c d).bag
behind_has u [] c d h i = i
behind_has u (t ∷ ts) c d h i = h

value_of_has : (k : Comb) (t u : Ty) → IsWhole k t u → (a : Option Value)
    → ((p : Value) → a ≡ Some p → Has t p) → (v : Value) → option_and_then value_of a ≡ Some v
    → Has u v
value_of_has k t u r None h v e = cc
value_of_has k t u r (Some p) h v e =
    let (key, x, is, typed, held) = table_pair r.key (gives_type k r.value) p
    (subst (λ y. Has y p) r.takes (h p refl)) in
    let at : Some x ≡ Some v = sym (ap (option_map (λ (it : Parts). it.1)) is) ∙ e in
    let same : x ≡ v = cc in
    subst (λ y. Has y v) (sym r.gives) (subst (Has (gives_type k r.value)) same held)

one_has : (k : Comb) (t u : Ty) → IsWhole k t u → (o : ℕ) (c : Collection)
    → Each (Has t) c.bag → Each (Has u) (singleton_value o k c).bag
one_has k t u r o c h =
    behind_has u c.traps (none_of (c ∷ [])) (or_of_nothing o k (option_and_then value_of
    (only c.bag))) tt
    (or_nothing_has k t u r o (option_and_then value_of (only c.bag))
    (λ v e. value_of_has k t u r (only c.bag) (λ p i. only_has (Has t) c.bag p h i) v e))

-- what is made of collections of their types has the type that is given
pub barrier_typed : (s : Signatures) (w : World) → IsWorldTyped s w → (o : ℕ) (a : Act)
    (ts : List Ty) (u : Ty) → ActTyped s a ts u → (cs : List Collection) → AllGood ts cs
    → Each (Has u) (act_result w o a cs).bag
unfolding act_result
barrier_typed s w world o (SideInput f) [] u a cs g = absurd a
barrier_typed s w world o (SideInput f) (t ∷ []) u a cs g = absurd a
barrier_typed s w world o (SideInput f) (t ∷ (x ∷ [])) u a [] g = absurd g
barrier_typed s w world o (SideInput f) (t ∷ (x ∷ [])) u a (c ∷ []) g = absurd g.1
barrier_typed s w world o (SideInput f) (t ∷ (x ∷ [])) u a (c ∷ (d ∷ [])) g =
    side_has s w world f u a.1 t x a.0 o (value_in d) c d g.0
    (λ v e. value_has x d v g.1.0 e)
barrier_typed s w world o (SideInput f) (t ∷ (x ∷ [])) u a (c ∷ (d ∷ (e ∷ es))) g = absurd g.1.1
barrier_typed s w world o (SideInput f) (t ∷ (x ∷ (y ∷ ys))) u a cs g = absurd a
barrier_typed s w world o (Operate f) ts u a cs g =
    operated_has s w world f u a.1 ts a.0 o cs (values_in cs) (λ vs e. values_have ts cs vs g e)
barrier_typed s w world o (Singleton k) [] u a cs g = absurd a
barrier_typed s w world o (Singleton k) (t ∷ []) u a [] g = absurd g
barrier_typed s w world o (Singleton k) (t ∷ []) u a (c ∷ []) g = one_has k t u a o c g.0
barrier_typed s w world o (Singleton k) (t ∷ []) u a (c ∷ (d ∷ ds)) g = absurd g.1
barrier_typed s w world o (Singleton k) (t ∷ (x ∷ xs)) u a cs g = absurd a
