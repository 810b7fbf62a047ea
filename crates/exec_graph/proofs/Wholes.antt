-- In a well-formed graph an object is one value without a trap, or no value and a trap.
use Rattle.std.proofs.Common.{◌≡◌, ℕ, zero, suc, ◌<◌, Bool, true, List, [], ◌∷◌, ◌++◌, map, Option, Some, None, inl, inr, ◌⊎◌, refl, sym, ap, ◌∙◌, subst, arith}
use Rattle.std.specs.Prelude.{option_map}
use Rattle.std.specs.List.{AllByRecursion as Each, flat_map, list_all}
use Rattle.std.specs.Option.{option_and_then}
use Rattle.std.proofs.lemmas.Bool.{eqb-true, false≢true}
use Rattle.flume_value.specs.declared.value.Value.{Value}
use Rattle.flume_value.specs.Bag.{bag_of}
use Rattle.flume_value.proofs.BoolLemmas.{both_true}
use Rattle.flume_value.proofs.EachLemmas.{Each-both}
use Rattle.flume_collection.specs.of_bag_groups.Pairs.{value_of}
use Rattle.combine_table.specs.declared.comb.Comb.{Comb}
use Rattle.flume_collection.specs.declared.trap.Trap.{Trap}
use Rattle.flume_collection.specs.Traps.{trap_le, trap_set}
use Rattle.flume_collection.specs.Collection.{Collection}
use Rattle.flume_collection.proofs.Members.{no_members}
use Rattle.flume_collection.proofs.Orders.{trap_order}
use Rattle.exec_graph.specs.declared.graph.Act.{Act}
use Rattle.exec_graph.specs.declared.graph.Act.TheVariants.{SideInput, Operate, Singleton}
use Rattle.exec_graph.specs.declared.graph.Place.{Place}
use Rattle.exec_graph.specs.declared.graph.Node.{Node}
use Rattle.exec_graph.specs.declared.graph.Node.TheVariants.{Source, Flatten, Pdo, Gbk, Barrier}
use Rattle.exec_graph.specs.declared.graph.Entry.{Entry}
use Rattle.exec_graph.specs.declared.graph.Graph.{Graph}
use Rattle.exec_graph.specs.World.{World}
use Rattle.exec_graph.specs.Meaning.{collection, place, Holds, Meets, IsThere, IsRankedBy, IsSound, gives, reads}
use Rattle.exec_graph.specs.Objects.{IsObject, argument, gives_object, value_object, trap_object, act_result, none_of, singleton_value, only, operated, operated_on, or_of_nothing, takes_such, unless_behind, value_in, values_in, with_first}
use Rattle.exec_graph.specs.Wellformed.{HasOneRow, HaveOneRow, IsGraphOk, has_objects, is_object, is_object_at}
use Rattle.exec_graph.proofs.ActLemmas.{answer_holds, nothing_holds}
use Rattle.exec_graph.proofs.Entries.{all_found}
use Rattle.exec_graph.proofs.Solving.{collection_meets, ranked_at, there_found}
use Rattle.exec_graph.proofs.Soundness.{IsSound-ok}

value_is_object : (v : Value) → IsObject (value_object v)
value_is_object v = inl (v, refl)

trap_is_object : (t : Trap) → IsObject (trap_object t)
trap_is_object t = inr (t, [], refl)

-- ---- no value, and traps
behind : List Collection → List Trap
behind cs = flat_map (λ (c : Collection). c.traps) cs

empty_object : (ts : List Trap) (t : Trap) (us : List Trap) → ts ≡ t ∷ us
    → IsObject (record { bag = []; traps = trap_set ts })
empty_object ts t us e = by (trap_set ts) refl
  where
    by : (set : List Trap) → trap_set ts ≡ set → IsObject (record { bag = []; traps = set })
    by [] i = let none : t ∷ us ≡ [] = sym e ∙ no_members trap_le trap_order ts i in
        let bad : ⊥ = cc in absurd bad
    by (x ∷ xs) i = inr (x, xs, refl)

-- ---- the values of objects
abbrev Valued : List Collection → Type 0
Valued cs =
    ((vs : List Value) × (values_in cs ≡ Some vs))
    ⊎ ((values_in cs ≡ None) × ((t : Trap) × ((ts : List Trap)
    × (flat_map (λ (c : Collection). c.traps) cs ≡ t ∷ ts))))

first_some : (v : Value) (cs : List Collection) (a : Option Value) → a ≡ Some v → Valued cs
    → ((vs : List Value) × (with_first a (values_in cs) ≡ Some vs))
    ⊎ ((with_first a (values_in cs) ≡ None) × ((t : Trap) × ((ts : List Trap)
    × (flat_map (λ (c : Collection). c.traps) cs ≡ t ∷ ts))))
first_some v cs a e (inl h) =
    inl (
      v ∷ h.0,
      ap (λ (x : Option Value). with_first x (values_in cs)) e
          ∙ ap (λ o. option_map (λ xs. v ∷ xs) o) h.1,
    )
first_some v cs a e (inr h) =
    inr (
      ap (λ (x : Option Value). with_first x (values_in cs)) e
          ∙ ap (λ o. option_map (λ xs. v ∷ xs) o) h.0,
      h.1,
    )

object_valued : (c : Collection) (cs : List Collection) → IsObject c → Valued cs → Valued (c ∷ cs)
object_valued c cs (inl h) i =
    let found : value_in c ≡ Some h.0 = ap value_in h.1 in
    let free : c.traps ≡ [] = ap (λ (x : Collection). x.traps) h.1 in
    by (first_some h.0 cs (value_in c) found i) free
  where
    by : ((vs : List Value) × (with_first (value_in c) (values_in cs) ≡ Some vs))
        ⊎ ((with_first (value_in c) (values_in cs) ≡ None) × ((t : Trap) × ((ts : List Trap)
        × (flat_map (λ (d : Collection). d.traps) cs ≡ t ∷ ts)))) → c.traps ≡ []
        → Valued (c ∷ cs)
    by (inl x) e = inl x
    by (inr x) e = inr (
      x.0,
      (
        x.1.0,
        (
          x.1.1.0,
          ap (λ (ts : List Trap). ts ++ flat_map (λ (d : Collection). d.traps) cs) e ∙ x.1.1.1,
        ),
      ),
    )
object_valued c cs (inr h) i =
    let found : value_in c ≡ None = ap value_in h.2 in
    let traps : c.traps ≡ h.0 ∷ h.1 = ap (λ (x : Collection). x.traps) h.2 in
    inr (
      ap (λ (x : Option Value). with_first x (values_in cs)) found,
      (
        h.0,
        (
          h.1 ++ flat_map (λ (d : Collection). d.traps) cs,
          ap (λ (ts : List Trap). ts ++ flat_map (λ (d : Collection). d.traps) cs) traps,
        ),
      ),
    )

all_valued : (cs : List Collection) → Each IsObject cs → Valued cs
all_valued [] a = inl ([], refl)
all_valued (c ∷ cs) a = object_valued c cs a.0 (all_valued cs a.1)

-- ---- what is made
operated_object : (w : World) (o f : ℕ) (cs : List Collection) → Each IsObject cs
    → IsObject (operated w o f cs)
operated_object w o f cs a = by (all_valued cs a)
  where
    by : Valued cs → IsObject (operated_on w o f (values_in cs) cs)
    by (inl h) = subst (λ v. IsObject (operated_on w o f v cs)) (sym h.1)
        (answer_holds IsObject value_is_object trap_is_object o (argument h.0)
        (w.called f (argument h.0)))
    by (inr h) = subst (λ v. IsObject (operated_on w o f v cs)) (sym h.0)
        (empty_object (flat_map (λ (c : Collection). c.traps) cs) h.1.0 h.1.1.0 h.1.1.1)

one_object : (o : ℕ) (k : Comb) (c : Collection) → IsObject (singleton_value o k c)
one_object o k c = by c.traps refl
  where
    some : Collection
    some = or_of_nothing o k (option_and_then value_of (only c.bag))

    by : (ts : List Trap) → c.traps ≡ ts → IsObject (unless_behind ts (none_of (c ∷ [])) some)
    by [] e =
        nothing_holds IsObject value_is_object trap_is_object o k
        (option_and_then value_of (only c.bag))
    by (t ∷ ts) e = empty_object (c.traps ++ []) t (ts ++ [])
        (ap (λ (us : List Trap). us ++ []) e)

all_flags : {X : Type 0} (p : X → Bool) (P : X → Type 0) → (xs : List X)
    → Each (λ x. p x ≡ true → P x) xs → list_all (λ b. b) (map p xs) ≡ true → Each P xs
all_flags p P [] a h = tt
all_flags p P (x ∷ xs) a h =
    let q = both_true (p x) (list_all (λ b. b) (map p xs)) h in
    (a.0 q.0, all_flags p P xs a.1 q.1)

-- an act on such collections gives an object
barrier_object : (w : World) (m : Place → Collection) (p : Place → Bool) (o : ℕ) (a : Act)
    (cs : List Place) → gives_object a ≡ true → takes_such a (map p cs) ≡ true
    → Each (λ c. p c ≡ true → IsObject (m c)) cs → IsObject (act_result w o a (map m cs))
unfolding act_result
barrier_object w m p o (SideInput f) cs g t h = absurd (false≢true g)
barrier_object w m p o (Operate f) [] g t h = absurd (false≢true t)
barrier_object w m p o (Operate f) (c ∷ cs) g t h =
    operated_object w o f (map m (c ∷ cs))
    (all_mapped (c ∷ cs) (all_flags p (λ c. IsObject (m c)) (c ∷ cs) h t))
  where
    all_mapped : (ds : List Place) → Each (λ c. IsObject (m c)) ds → Each IsObject (map m ds)
    all_mapped [] b = tt
    all_mapped (d ∷ ds) b = (b.0, all_mapped ds b.1)
barrier_object w m p o (Singleton k) [] g t h = absurd (false≢true t)
barrier_object w m p o (Singleton k) (c ∷ []) g t h = one_object o k (m c)
barrier_object w m p o (Singleton k) (c ∷ (d ∷ ds)) g t h = absurd (false≢true t)

-- ---- graphs
node_object : (w : World) (es : List Entry) (m : Place → Collection) (n j : ℕ) (x : Node)
    → has_objects es x ≡ true → HasOneRow w x → Holds w m n x
    → Each (λ c. is_object_at es c ≡ true → IsObject (m c)) (reads x) → gives x j ≡ true
    → is_object (Some x) ≡ true → IsObject (m (place n j))
node_object w es m n j (Source r) t one h a e i =
    let row = one i in
    subst (λ k. IsObject (m (place n k))) (sym (eqb-true j 0 e))
    (subst IsObject
    (sym (h ∙ ap (λ (xs : List Value). record { bag = bag_of xs; traps = [] }) row.1))
    (value_is_object row.0))
node_object w es m n j (Barrier ins o l d) t one h a e i =
    subst (λ k. IsObject (m (place n k))) (sym (eqb-true j 0 e))
    (subst IsObject (sym h) (barrier_object w m (is_object_at es) o d ins i t a))
node_object w es m n j _ t one h a e i = absurd (false≢true i)

object_below : (w : World) (g : Graph) → IsGraphOk g → IsSound g → HaveOneRow w g.nodes
    → (m : Place → Collection) → Meets w g.nodes m → (r : ℕ → ℕ) → IsRankedBy r g.nodes
    → (k : ℕ) (c : Place) → r c.node < k → IsThere g.nodes c → is_object_at g.nodes c ≡ true
    → IsObject (m c)
object_below w g ok s rows m h r ranked zero c l t i = absurd (omega arith)
object_below w g ok s rows m h r ranked (suc k) c l t i =
    let x = there_found g.nodes c t in
    let reads_there : Each (IsThere g.nodes) (reads x.0) =
    all_found (λ e. Each (IsThere g.nodes) (reads e.node)) g.nodes c.node x.0 x.1 s.there in
    node_object w g.nodes m c.node c.out x.0
    (all_found (λ e. has_objects g.nodes e.node ≡ true) g.nodes c.node x.0 x.1 ok.objects)
    (all_found (λ e. HasOneRow w e.node) g.nodes c.node x.0 x.1 rows)
    (all_found (λ e. Holds w m e.number e.node) g.nodes c.node x.0 x.1 h)
    (Each-both (λ (d : Place). r d.node < r c.node) (IsThere g.nodes)
    (λ d. is_object_at g.nodes d ≡ true → IsObject (m d))
    (λ d u v q. object_below w g ok s rows m h r ranked k d (omega arith) v q) (reads x.0)
    (ranked_at r g.nodes c.node x.0 ranked x.1) reads_there) x.2 (sym (ap is_object x.1) ∙ i)

pub objects_are : (w : World) (g : Graph) → IsGraphOk g → HaveOneRow w g.nodes → (c : Place)
    → IsThere g.nodes c → is_object_at g.nodes c ≡ true → IsObject (collection w g c)
objects_are w g ok rows c t i =
    let s = IsSound-ok g ok in
    object_below w g ok s rows (collection w g) (collection_meets w g s) s.ranked.0 s.ranked.1
    (suc (s.ranked.0 c.node)) c (omega arith) t i
