-- The steps of a forest on each element of a list, and on a collection.
use Rattle.std.proofs.Common.{◌≡◌, ℕ, true, false, cond, List, [], ◌∷◌, ◌++◌, Option, Some, None, refl, sym, ap, ◌∙◌, subst, arith}
use Rattle.std.specs.Prelude.{◌||◌}
use Rattle.std.specs.Option.{is_some}
use Rattle.std.specs.List.{sum_by, flat_map}
use Rattle.std.proofs.lemmas.List.Sums.{sum_by-append}
use Rattle.flume_value.specs.declared.value.Value.{Value}
use Rattle.flume_value.specs.Bag.{bag_of}
use Rattle.flume_value.proofs.BagLemmas.{bag_of-twice}
use Rattle.flume_collection.specs.Collection.{Collection}
use Rattle.flume_collection.specs.Traps.{trap_set}
use Rattle.shards.proofs.Alike.{Alike, alike_is, alike_back, alike_then, alike_append, alike_bag, alike_flat_map, alike_both, flat_map-flat_map, flat_map-nothing, flat_map-itself, append_empty}
use Rattle.exec_plan.specs.of_exec_graph.World.{World}
use Rattle.exec_plan.specs.of_exec_graph.Calls.{emitted, trapped}
use Rattle.exec_plan.specs.of_exec_graph.Forests.{Label, Forest, Bare, Grow}
use Rattle.exec_plan.specs.of_exec_graph.Meaning.{through, is_out, has_out, first, out_of, or_nothing, nothing, total}
use Rattle.exec_plan.specs.Channels.{output_of}
use Rattle.exec_plan.specs.Meaning.{total_of}
use Rattle.task_lists.specs.Runs.{out_at, visits, output_at, visits_of}

-- what q says of a step on each member
abbrev pub each_step : {Y : Type 0} → (Label → Value → List Y) → Collection → Label → List Y
each_step q v l = flat_map (q l) v.bag

abbrev pub IsBag : Collection → Type 0
IsBag c = bag_of c.bag ≡ c.bag

-- a list has the members of the bag, and no trap is behind it
pub record Agrees (xs : List Value) (c : Collection) : Type 0 where
  pub same : Alike xs c.bag
  pub calm : c.traps ≡ []
  pub settled : IsBag c

pub none_agrees : Agrees [] nothing
none_agrees = record { same = λ u. refl; calm = refl; settled = refl }

some_first : (a c : Option Collection) → is_some (first a c) ≡ (is_some a || is_some c)
some_first None c = refl
some_first (Some x) c = refl

first_is : (a c : Option Collection)
    → or_nothing (first a c) ≡ cond (is_some a) (or_nothing a) (or_nothing c)
first_is None c = refl
first_is (Some x) c = refl

module _ (w : World) where
  -- ---- the collection of an output

  has_some : (v : Collection) (f : Forest) (j : ℕ) → is_some (out_of w v f j) ≡ has_out j f
  has_some v Bare j = refl
  has_some v (Grow l kids rest) j =
      let a : Option Collection = out_of w (through w l v) kids j in
      let c : Option Collection = out_of w v rest j in
      elim (is_out l.out j) as
      (λ b. is_some (cond b (Some (through w l v)) (first a c))
      ≡ (b || (has_out j kids || has_out j rest))) [
        | true ↦ refl
        | false ↦ some_first a c
            ∙ (λ i. has_some (through w l v) kids j i || has_some v rest j i)
      ]

  chosen : (v : Collection) (l : Label) (kids rest : Forest) (j : ℕ)
      → or_nothing (out_of w v (Grow l kids rest) j)
      ≡ cond (is_out l.out j) (through w l v)
      (cond (has_out j kids) (or_nothing (out_of w (through w l v) kids j))
      (or_nothing (out_of w v rest j)))
  chosen v l kids rest j =
      let a : Option Collection = out_of w (through w l v) kids j in
      let c : Option Collection = out_of w v rest j in
      elim (is_out l.out j) as
      (λ b. or_nothing (cond b (Some (through w l v)) (first a c))
      ≡ cond b (through w l v) (cond (has_out j kids) (or_nothing a) (or_nothing c))) [
        | true ↦ refl
        | false ↦ first_is a c
            ∙ ap (λ b. cond b (or_nothing a) (or_nothing c)) (has_some (through w l v) kids j)
      ]

  -- ---- lists and bags

  -- what a step emits of a list has the members of what it gives of the collection
  emitted_alike : (l : Label) (xs : List Value) (v : Collection) → Alike xs v.bag
      → Alike (flat_map (emitted w l) xs) (through w l v).bag
  emitted_alike l xs v h =
      alike_then (flat_map (emitted w l) xs) (flat_map (emitted w l) v.bag)
      (bag_of (flat_map (emitted w l) v.bag)) (alike_flat_map (emitted w l) xs v.bag h)
      (alike_back (bag_of (flat_map (emitted w l) v.bag)) (flat_map (emitted w l) v.bag)
      (alike_bag (flat_map (emitted w l) v.bag)))

  -- element by element, or step by step
  pub visits_split : {Y : Type 0} (q : Label → Value → List Y) (l : Label) (kids rest : Forest)
      (xs : List Value) → Alike (flat_map (visits w q (Grow l kids rest)) xs)
      (flat_map (q l) xs
      ++ (flat_map (visits w q kids) (flat_map (emitted w l) xs) ++ flat_map (visits w q rest) xs))
  visits_split q l kids rest xs =
      let inner = λ (x : Value). flat_map (visits w q kids) (emitted w l x) in
      let below = flat_map-flat_map (visits w q kids) (emitted w l) xs in
      let last = flat_map (visits w q rest) xs in
      λ u. omega (
        arith,
        ap (sum_by u) below,
        alike_both (q l) (λ x. inner x ++ visits w q rest x) xs u,
        alike_both inner (visits w q rest) xs u,
        sum_by-append u (flat_map (q l) xs) (flat_map (λ x. inner x ++ visits w q rest x) xs),
        sum_by-append u (flat_map inner xs) last,
        sum_by-append u (flat_map (q l) xs)
            (flat_map (visits w q kids) (flat_map (emitted w l) xs) ++ last),
        sum_by-append u (flat_map (visits w q kids) (flat_map (emitted w l) xs)) last,
      )

  visits_total : {Y : Type 0} (q : Label → Value → List Y) (f : Forest) (xs : List Value)
      (v : Collection) → Alike xs v.bag
      → Alike (flat_map (visits w q f) xs) (total w (each_step q) v f)
  visits_total q Bare xs v h = alike_is (flat_map (λ x. []) xs) [] (flat_map-nothing xs)
  visits_total q (Grow l kids rest) xs v h =
      let below = flat_map (visits w q kids) (flat_map (emitted w l) xs) in
      let beside = flat_map (visits w q rest) xs in
      alike_then (flat_map (visits w q (Grow l kids rest)) xs)
      (flat_map (q l) xs ++ (below ++ beside))
      (flat_map (q l) v.bag
      ++ (total w (each_step q) (through w l v) kids ++ total w (each_step q) v rest))
      (visits_split q l kids rest xs)
      (alike_append (flat_map (q l) xs) (flat_map (q l) v.bag) (below ++ beside)
      (total w (each_step q) (through w l v) kids ++ total w (each_step q) v rest)
      (alike_flat_map (q l) xs v.bag h)
      (alike_append below (total w (each_step q) (through w l v) kids) beside
      (total w (each_step q) v rest)
      (visits_total q kids (flat_map (emitted w l) xs) (through w l v) (emitted_alike l xs v h))
      (visits_total q rest xs v h)))

  out_alike : (f : Forest) (j : ℕ) (xs : List Value) (v : Collection) → Alike xs v.bag
      → Alike (flat_map (out_at w f j) xs) (or_nothing (out_of w v f j)).bag
  out_alike Bare j xs v h = alike_is (flat_map (λ x. []) xs) [] (flat_map-nothing xs)
  out_alike (Grow l kids rest) j xs v h =
      let a : Collection = or_nothing (out_of w (through w l v) kids j) in
      let c : Collection = or_nothing (out_of w v rest j) in
      subst (λ (o : Collection). Alike (flat_map (out_at w (Grow l kids rest) j) xs) o.bag)
      (sym (chosen v l kids rest j))
      (elim (is_out l.out j) as
      (λ b. Alike (flat_map (λ x. cond b (emitted w l x)
      (cond (has_out j kids) (flat_map (out_at w kids j) (emitted w l x)) (out_at w rest j x))) xs)
      (cond b (through w l v) (cond (has_out j kids) a c)).bag) [
        | true ↦ emitted_alike l xs v h
        | false ↦ elim (has_out j kids) as
            (λ b. Alike (flat_map (λ x. cond b (flat_map (out_at w kids j) (emitted w l x))
            (out_at w rest j x)) xs) (cond b a c).bag) [
              | true ↦ λ u. sym (ap (sum_by u)
                  (flat_map-flat_map (out_at w kids j) (emitted w l) xs))
                  ∙ out_alike kids j (flat_map (emitted w l) xs) (through w l v)
                  (emitted_alike l xs v h) u
              | false ↦ out_alike rest j xs v h
            ]
      ])

  -- ---- no step traps

  through_calm : (l : Label) (v : Collection) → v.traps ≡ [] → flat_map (trapped w l) v.bag ≡ []
      → (through w l v).traps ≡ []
  through_calm l v h none = λ i. trap_set (h i ++ none i)

  out_calm : (f : Forest) (j : ℕ) (v : Collection) → v.traps ≡ []
      → total w (each_step (trapped w)) v f ≡ [] → (or_nothing (out_of w v f j)).traps ≡ []
  out_calm Bare j v h none = refl
  out_calm (Grow l kids rest) j v h none =
      let a : Collection = or_nothing (out_of w (through w l v) kids j) in
      let c : Collection = or_nothing (out_of w v rest j) in
      let sums = each_step (trapped w) in
      let here = append_empty (flat_map (trapped w l) v.bag)
      (total w sums (through w l v) kids ++ total w sums v rest) none in
      let below = append_empty (total w sums (through w l v) kids) (total w sums v rest) here.1 in
      let calm = through_calm l v h here.0 in
      subst (λ (o : Collection). o.traps ≡ []) (sym (chosen v l kids rest j))
      (elim (is_out l.out j) as
      (λ b. (cond b (through w l v) (cond (has_out j kids) a c)).traps ≡ []) [
        | true ↦ calm
        | false ↦ elim (has_out j kids) as (λ b. (cond b a c).traps ≡ []) [
          | true ↦ out_calm kids j (through w l v) calm below.0
          | false ↦ out_calm rest j v h below.1
        ]
      ])

  out_settled : (f : Forest) (j : ℕ) (v : Collection) → IsBag (or_nothing (out_of w v f j))
  out_settled Bare j v = refl
  out_settled (Grow l kids rest) j v =
      let a : Collection = or_nothing (out_of w (through w l v) kids j) in
      let c : Collection = or_nothing (out_of w v rest j) in
      subst IsBag (sym (chosen v l kids rest j))
      (elim (is_out l.out j) as
      (λ b. IsBag (cond b (through w l v) (cond (has_out j kids) a c))) [
        | true ↦ bag_of-twice (flat_map (emitted w l) v.bag)
        | false ↦ elim (has_out j kids) as (λ b. IsBag (cond b a c)) [
          | true ↦ out_settled kids j (through w l v)
          | false ↦ out_settled rest j v
        ]
      ])

  -- ---- the same of a forest or the identity

  pub visits_of_total : {Y : Type 0} (q : Label → Value → List Y) (f : Option Forest)
      (xs : List Value) (v : Collection) → Alike xs v.bag
      → Alike (flat_map (visits_of w q f) xs) (total_of w (each_step q) v f)
  visits_of_total q None xs v h = alike_is (flat_map (λ x. []) xs) [] (flat_map-nothing xs)
  visits_of_total q (Some f) xs v h = visits_total q f xs v h

  pub output_agrees : (f : Option Forest) (j : ℕ) (xs : List Value) (v : Collection)
      → Agrees xs v → total_of w (each_step (trapped w)) v f ≡ []
      → Agrees (flat_map (output_at w f j) xs) (output_of w v f j)
  output_agrees None j xs v a none = record {
    same = alike_then (flat_map (λ x. x ∷ []) xs) xs v.bag
        (alike_is (flat_map (λ x. x ∷ []) xs) xs (flat_map-itself xs)) a.same;
    calm = a.calm;
    settled = a.settled;
  }
  output_agrees (Some f) j xs v a none = record {
    same = out_alike f j xs v a.same;
    calm = out_calm f j v a.calm none;
    settled = out_settled f j v;
  }
