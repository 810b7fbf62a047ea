-- The lists of a plan whose types fit have their types, and so have the elements of its tasks.
use Rattle.std.proofs.Common.{◌≡◌, ℕ, zero, suc, ◌+◌, ◌<◌, true, false, cond, Bool, List, [], ◌∷◌, length, Option, Some, None, refl, sym, ap, ◌∙◌, subst, arith}
use Rattle.std.specs.Prelude.{◌==◌, ◌-◌, drop}
use Rattle.std.specs.List.{AllByRecursion, flat_map, slice_get}
use Rattle.std.specs.Option.{option_map_or}
use Rattle.std.proofs.lemmas.Bool.{eqb-true}
use Rattle.std.proofs.lemmas.List.Elements.{All-from_recursion}
use Rattle.flume_value.specs.declared.value.Value.{Value}
use Rattle.flume_value.proofs.EachLemmas.{each_from, Each-append, Each-drop, Each-filter, Each-take}
use Rattle.flume_types.specs.declared.types.Ty.{Ty}
use Rattle.flume_types.specs.Typing.{Has, AllHave}
use Rattle.bag_groups.specs.Groups.{grouped}
use Rattle.exec_plan.proofs.of_keyed_steps.TypedFacts.{groups_have}
use Rattle.shards.specs.Shards.{concatenated, shard, begins}
use Rattle.shuffle_parts.specs.Partitions.{falls_in}
use Rattle.exec_plan.specs.of_exec_graph.World.{World}
use Rattle.exec_plan.specs.of_exec_graph.Calls.{emitted}
use Rattle.exec_plan.specs.of_exec_graph.Forests.{Forest, Bare, Grow}
use Rattle.exec_plan.specs.of_exec_graph.Objects.{world_beside, only}
use Rattle.exec_plan.specs.of_exec_graph.Meaning.{is_out, has_out, place}
use Rattle.exec_plan.specs.of_exec_graph.declared.graph.Place.{Place}
use Rattle.exec_plan.specs.of_exec_graph.Typing.{Signatures, OutTyped, ForestTyped, IsWorldTyped}
use Rattle.exec_plan.proofs.of_exec_graph.Typed.{step_typed}
use Rattle.exec_plan.specs.declared.plan.PlanPlace.{PlanPlace}
use Rattle.exec_plan.specs.declared.plan.PlanPlace.TheVariants as at
use Rattle.exec_plan.specs.declared.plan.Take.{Take}
use Rattle.exec_plan.specs.declared.plan.InChannel.{InChannel}
use Rattle.exec_plan.specs.declared.plan.Grouping.{Grouping}
use Rattle.exec_plan.specs.Wellformed.{Exists, outputs_count_at, count_of_outputs as outs_count}
use Rattle.exec_plan.specs.Typing.{BesideTyped, ChannelTyped, InTyped, InsTyped, IsSideTyped, take_type, stage_types, GroupTyped}
use Rattle.task_lists.specs.Runs.{out_at, emissions_at}
use Rattle.task_lists.specs.Tasks.{Split, Lists, elements_beside, if_valued, value_beside, task_gives, no_task, map_task, map_task_of, given_to, gathered, reduce_task}
use Rattle.task_lists.specs.Lists.{reduced_lists}
use Rattle.task_lists.specs.Typing.{AreListsTyped, IsTaskTyped, StepsTyped}
use Rattle.task_lists.proofs.TypedSides.{only_has, side_emits, valued_have}

-- ---- lists of a type

pub each_flat : {X : Type 0} (P : X → Type 0) (Q : Value → Type 0) (f : X → List Value)
    → ((x : X) → P x → AllByRecursion Q (f x)) → (xs : List X) → AllByRecursion P xs
    → AllByRecursion Q (flat_map f xs)
each_flat P Q f h [] a = tt
each_flat P Q f h (x ∷ xs) a =
    Each-append Q (f x) (flat_map f xs) (h x a.0) (each_flat P Q f h xs a.1)

pub each_joined : (Q : Value → Type 0) (f : ℕ → List Value) → ((i : ℕ) → AllByRecursion Q (f i))
    → (n : ℕ) → AllByRecursion Q (concatenated f n)
each_joined Q f h zero = tt
each_joined Q f h (suc n) = Each-append Q (concatenated f n) (f n) (each_joined Q f h n) (h n)

pub each_shard : (Q : Value → Type 0) (s i : ℕ) (xs : List Value) → AllByRecursion Q xs
    → AllByRecursion Q (shard s i xs)
unfolding shard
each_shard Q s i xs h =
    Each-take Q (begins s (i + 1) (length xs) - begins s i (length xs))
    (drop (begins s i (length xs)) xs) (Each-drop Q (begins s i (length xs)) xs h)

-- a shard of no elements has none
nothing_there : (xs : List Value) → AllByRecursion (λ x. ⊥) xs → 0 < length xs → ⊥
nothing_there [] a some = omega (arith, some)
nothing_there (x ∷ xs) a some = a.0

none_of_none : (s i : ℕ) → 0 < length (shard {A = Value} s i []) → ⊥
none_of_none s i some = nothing_there (shard s i []) (each_shard (λ x. ⊥) s i [] tt) some

-- a number of an output: the identity has one alone
abbrev pub IsOutput : Option Forest → ℕ → Type 0
IsOutput None j = j ≡ 0
IsOutput (Some f) j = Unit {0}

module _ (s : Signatures) (w : World) (world : IsWorldTyped s w) where
  -- ---- the outputs of steps

  out_typed : (outs : Place → Ty) (n : ℕ) (t : Ty) (f : Forest) (j : ℕ)
      → ForestTyped s outs n t f → (x : Value) → Has t x
      → AllByRecursion (Has (outs (place n j))) (out_at w f j x)
  out_typed outs n t Bare j typed x h = tt
  out_typed outs n t (Grow l kids rest) j typed x h =
      let u : Ty = typed.0.0 in
      let Q : Value → Type 0 = Has (outs (place n j)) in
      let emits = step_typed s w world l.does l.at t u typed.0.1 x h in
      elim (is_out l.out j) as
      (λ b. is_out l.out j ≡ b → AllByRecursion Q (cond b (emitted w l x)
      (cond (has_out j kids) (flat_map (out_at w kids j) (emitted w l x)) (out_at w rest j x)))) [
        | true ↦ λ e. kept l.out u e typed.0.2 (emitted w l x) emits
        | false ↦ λ e. elim (has_out j kids) as
            (λ b. AllByRecursion Q
            (cond b (flat_map (out_at w kids j) (emitted w l x)) (out_at w rest j x))) [
              | true ↦ each_flat (Has u) Q (out_at w kids j)
                  (λ y i. out_typed outs n u kids j typed.0.3 y i) (emitted w l x) emits
              | false ↦ out_typed outs n t rest j typed.1 x h
            ]
      ] refl
    where
      kept : (o : Option ℕ) (u : Ty) → is_out o j ≡ true → OutTyped outs n o u
          → (xs : List Value) → AllByRecursion (Has u) xs
          → AllByRecursion (Has (outs (place n j))) xs
      kept None u e a xs i = cc
      kept (Some k) u e a xs i =
          subst (λ (m : ℕ). AllByRecursion (Has (outs (place n m))) xs) (eqb-true k j e)
          (subst (λ (r : Ty). AllByRecursion (Has r) xs) (sym a) i)

  gives_typed : (outs : Place → Ty) (n : ℕ) (t : Ty) (f : Option Forest) (j : ℕ)
      → IsOutput f j → ChannelTyped s outs n t f → (xs : List Value) → AllByRecursion (Has t) xs
      → AllByRecursion (Has (outs (place n j))) (emissions_at w f xs j)
  gives_typed outs n t None j first typed xs h =
      each_flat (Has t) (Has (outs (place n j))) (λ x. x ∷ [])
      (λ x i. (
        subst (λ r. Has r x)
            (sym typed ∙ ap (λ (k : ℕ). outs (place n k)) (sym first)) i,
        tt,
      )) xs h
  gives_typed outs n t (Some f) j first typed xs h =
      each_flat (Has t) (Has (outs (place n j))) (out_at w f j) (out_typed outs n t f j typed) xs h

  -- ---- the outputs of steps that are called beside a value

  side_typed : (outs : Place → Ty) (n : ℕ) (t object : Ty) (v : Value) → Has object v
      → (f : Forest) → IsSideTyped s outs n t object f → (j : ℕ) (x : Value) → Has t x
      → AllByRecursion (Has (outs (place n j))) (out_at (world_beside (Some v) w) f j x)
  side_typed outs n t object v held f typed j x h =
      let b : World = world_beside (Some v) w in
      let Q : Value → Type 0 = Has (outs (place n j)) in
      let emits = side_emits s w world outs n t object v held f typed x h in
      subst (λ (g : Forest). AllByRecursion Q (out_at b g j x)) (sym typed.alone)
      (elim (is_out typed.label.out j) as
      (λ c. is_out typed.label.out j ≡ c
      → AllByRecursion Q (cond c (emitted b typed.label x) [])) [
        | true ↦ λ e.
            let same : 0 ≡ j = eqb-true 0 j
            (subst (λ (o : Option ℕ). is_out o j ≡ true) typed.kept e) in
            subst (λ (m : ℕ). AllByRecursion (Has (outs (place n m))) (emitted b typed.label x))
            same emits
        | false ↦ λ e. tt
      ] refl)

  gives_beside : (outs : Place → Ty) (n : ℕ) (t : Ty) (v : Option Value) (f : Option Forest)
      (j : ℕ) → IsOutput f j → StepsTyped s outs n t v f → (xs : List Value)
      → AllByRecursion (Has t) xs
      → AllByRecursion (Has (outs (place n j))) (emissions_at (world_beside v w) f xs j)
  gives_beside outs n t None f j first typed xs h = gives_typed outs n t f j first typed xs h
  gives_beside outs n t (Some v) None j first typed xs h = absurd typed.2
  gives_beside outs n t (Some v) (Some f) j first typed xs h =
      each_flat (Has t) (Has (outs (place n j))) (out_at (world_beside (Some v) w) f j)
      (side_typed outs n t typed.0 v typed.1 f typed.2 j) xs h

  -- of elements, if there are any
  gives_each : (outs : Place → Ty) (n : ℕ) (t : Ty) (v : Option Value) (f : Option Forest)
      (j : ℕ) → IsOutput f j → (xs : List Value)
      → (0 < length xs → StepsTyped s outs n t v f) → AllByRecursion (Has t) xs
      → AllByRecursion (Has (outs (place n j))) (emissions_at (world_beside v w) f xs j)
  gives_each outs n t v f j first [] typed h = tt
  gives_each outs n t v f j first (x ∷ xs) typed h =
      gives_beside outs n t v f j first (typed (omega arith)) (x ∷ xs) h

  -- ---- the map tasks of a stage

  module _ (types : PlanPlace → Ty) (n : Split) (t : Lists) (lists : AreListsTyped types t)
      (ins : List InChannel) (outs : Place → Ty) (typed : InsTyped s types outs 0 ins) where
    abbrev IsChannelTyped : ℕ → InChannel → Type 0
    IsChannelTyped k c = InTyped s types outs k (types c.reads) c.beside c.does

    ins_at : (cs : List InChannel) (k m : ℕ) (c : InChannel) → InsTyped s types outs k cs
        → slice_get cs m ≡ Some c → IsChannelTyped (k + m) c
    ins_at [] k m c a e = cc
    ins_at (d ∷ cs) k zero c a e =
        let same : d ≡ c = cc in
        let here : k + 0 ≡ k = omega arith in
        subst (λ (x : InChannel). IsChannelTyped (k + 0) x) same
        (subst (λ l. IsChannelTyped l d) (sym here) a.0)
    ins_at (d ∷ cs) k (suc m) c a e =
        let there : suc k + m ≡ k + suc m = omega arith in
        subst (λ l. IsChannelTyped l c) there (ins_at cs (suc k) m c a.1 e)

    channel_at : (m : ℕ) (c : InChannel) → slice_get ins m ≡ Some c → IsChannelTyped m c
    channel_at m c e =
        let here : 0 + m ≡ m = omega arith in
        subst (λ l. IsChannelTyped l c) here (ins_at ins 0 m c typed e)

    -- the elements that a channel's steps are called on
    abbrev list_on : InChannel → List Value
    list_on c = elements_beside t c.beside (t c.reads)

    on_typed : (o : Option PlanPlace) (c : PlanPlace)
        → AllByRecursion (Has (types c)) (elements_beside t o (t c))
    on_typed None c = each_from (Has (types c)) (t c) (lists c)
    on_typed (Some d) c =
        valued_have (Has (types c)) (only (t d)) (t c)
        (each_from (Has (types c)) (t c) (lists c))

    elements_typed : (c : InChannel) (i : ℕ)
        → AllByRecursion (Has (types c.reads)) (shard n.shards i (list_on c))
    elements_typed c i =
        each_shard (Has (types c.reads)) n.shards i (list_on c) (on_typed c.beside c.reads)

    -- they are called on those beside the value, where there are any
    beside_typed : (k : ℕ) (u : Ty) (d : PlanPlace) (f : Option Forest) (i : ℕ) (xs : List Value)
        → BesideTyped s outs k u (types d) f → (v : Option Value) → only (t d) ≡ v
        → 0 < length (shard n.shards i (if_valued v xs)) → StepsTyped s outs k u v f
    beside_typed k u d f i xs a None e some = absurd (none_of_none n.shards i some)
    beside_typed k u d f i xs a (Some v) e some = (
      types d,
      only_has (Has (types d)) (t d) v (each_from (Has (types d)) (t d) (lists d)) e,
      a,
    )

    steps_typed : (k : ℕ) (u : Ty) (o : Option PlanPlace) (f : Option Forest) (i : ℕ)
        (xs : List Value) → InTyped s types outs k u o f
        → 0 < length (shard n.shards i (elements_beside t o xs))
        → StepsTyped s outs k u (value_beside t o) f
    steps_typed k u None f i xs a some = a
    steps_typed k u (Some d) f i xs a some = beside_typed k u d f i xs a (only (t d)) refl some

    pub map_typed : (m i : ℕ) → IsTaskTyped s (map_task_of n t ins m i)
    map_typed m i =
        elim (slice_get ins m) as
        (λ o. slice_get ins m ≡ o
        → IsTaskTyped s (option_map_or (λ c. map_task n t c i) o no_task)) [
          | None ↦ λ e. record {
            element = outs (place 0 0);
            outs = outs;
            node = 0;
            members = All-from_recursion (Has (outs (place 0 0))) [] tt;
            steps = λ some. refl;
          }
          | Some c ↦ λ e. record {
            element = types c.reads;
            outs = outs;
            node = m;
            members = All-from_recursion (Has (types c.reads)) (shard n.shards i (list_on c))
                (elements_typed c i);
            steps = steps_typed m (types c.reads) c.beside c.does i (t c.reads)
                (channel_at m c e);
          }
        ] refl

    -- ---- what they give a channel

    is_output : (f : Option Forest) (j : ℕ) → j < outs_count f → IsOutput f j
    is_output None j below = omega (arith, below)
    is_output (Some f) j below = tt

    taken_typed : (k : Take) (i : ℕ) → Exists ins k
        → AllByRecursion (Has (take_type outs k))
        (task_gives w (map_task_of n t ins k.channel i) k.out)
    taken_typed k i there =
        elim (slice_get ins k.channel) as
        (λ o. slice_get ins k.channel ≡ o → k.out < outputs_count_at o
        → AllByRecursion (Has (take_type outs k))
        (task_gives w (option_map_or (λ c. map_task n t c i) o no_task) k.out)) [
          | None ↦ λ e below. tt
          | Some c ↦ λ e below. gives_each outs k.channel (types c.reads)
              (value_beside t c.beside) c.does k.out (is_output c.does k.out below)
              (shard n.shards i (list_on c))
              (steps_typed k.channel (types c.reads) c.beside c.does i (t c.reads)
              (channel_at k.channel c e)) (elements_typed c i)
        ] refl there

    given_typed : (pairs : Ty) (m i : ℕ) (takes : List Take) → AllByRecursion (Exists ins) takes
        → AllByRecursion (λ k. take_type outs k ≡ pairs) takes
        → AllByRecursion (Has pairs) (given_to w (map_task_of n t ins m i) m takes)
    given_typed pairs m i [] there fit = tt
    given_typed pairs m i (k ∷ takes) there fit =
        let one = λ (b : Bool). cond b (task_gives w (map_task_of n t ins m i) k.out) [] in
        Each-append (Has pairs) (one (k.channel == m))
        (given_to w (map_task_of n t ins m i) m takes)
        (elim (k.channel == m) as
        (λ b. (k.channel == m) ≡ b → AllByRecursion (Has pairs) (one b)) [
          | true ↦ λ e. let same : k.channel ≡ m = grind (arith, e) in
              subst (λ (l : ℕ). AllByRecursion (Has pairs)
              (task_gives w (map_task_of n t ins l i) k.out)) same
              (subst (λ r. AllByRecursion (Has r) (task_gives w (map_task_of n t ins k.channel i)
              k.out)) fit.0 (taken_typed k i there.0))
          | false ↦ λ e. tt
        ] refl)
        (given_typed pairs m i takes there.1 fit.1)

    pub given_have : (pairs : Ty) (m i : ℕ) (takes : List Take) → AllByRecursion (Exists ins) takes
        → AllByRecursion (λ k. take_type outs k ≡ pairs) takes
        → AllHave pairs (given_to w (map_task_of n t ins m i) m takes)
    given_have pairs m i takes there fit =
        All-from_recursion (Has pairs) (given_to w (map_task_of n t ins m i) m takes)
        (given_typed pairs m i takes there fit)

    pub gathered_typed : (pairs : Ty) (takes : List Take) → AllByRecursion (Exists ins) takes
        → AllByRecursion (λ k. take_type outs k ≡ pairs) takes
        → AllByRecursion (Has pairs) (gathered w n t ins takes)
    gathered_typed pairs takes there fit =
        each_joined (Has pairs)
        (λ m. concatenated (λ i. given_to w (map_task_of n t ins m i) m takes) n.shards)
        (λ m. each_joined (Has pairs) (λ i. given_to w (map_task_of n t ins m i) m takes)
        (λ i. given_typed pairs m i takes there fit) n.shards) (length ins)

    -- ---- the reduce tasks

    groups_typed : (k : ℕ) (g : Grouping) (p : ℕ) (gt : GroupTyped s types outs k g)
        → AllByRecursion (Exists ins) g.takes
        → AllByRecursion (Has gt.groups) (reduce_task w n t ins g p).elements
    groups_typed k g p gt there =
        let key : Ty = gt.grouped.key in
        let value : Ty = gt.grouped.value in
        let all : List Value = gathered w n t ins g.takes in
        Each-filter (Has gt.groups) (falls_in n.partitions p) (grouped all)
        (subst (λ r. AllByRecursion (Has r) (grouped all)) (sym gt.grouped.gives)
        (groups_have key value all
        (subst (λ r. AllByRecursion (Has r) all) gt.grouped.takes
        (gathered_typed gt.pairs g.takes there gt.takes))))

    pub reduce_typed : (k : ℕ) (g : Grouping) (p : ℕ) → GroupTyped s types outs k g
        → AllByRecursion (Exists ins) g.takes → IsTaskTyped s (reduce_task w n t ins g p)
    reduce_typed k g p gt there = record {
      element = gt.groups;
      outs = stage_types types k g.first;
      node = 0;
      members = All-from_recursion (Has gt.groups) (reduce_task w n t ins g p).elements
          (groups_typed k g p gt there);
      steps = λ some. gt.reduced;
    }

    pub reduced_typed : (k : ℕ) (g : Grouping) (j : ℕ) → GroupTyped s types outs k g
        → AllByRecursion (Exists ins) g.takes → IsOutput g.does j
        → AllByRecursion (Has (types (at.Result k (g.first + j)))) (reduced_lists w n t ins g j)
    reduced_typed k g j gt there first =
        each_joined (Has (types (at.Result k (g.first + j))))
        (λ p. task_gives w (reduce_task w n t ins g p) j)
        (λ p. gives_typed (stage_types types k g.first) 0 gt.groups g.does j first gt.reduced
        (reduce_task w n t ins g p).elements (groups_typed k g p gt there)) n.partitions
