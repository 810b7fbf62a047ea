-- What a forest gives in worlds in which functions answer alike.
use Rattle.std.proofs.Common.{◌≡◌, ℕ, cond, List, [], ◌∷◌, ◌++◌, length, map, Option, Some, None, refl, ap, ◌∙◌, subst}
use Rattle.std.specs.List.{AllByRecursion, flat_map}
use Rattle.flume_value.specs.declared.value.Value.{Value}
use Rattle.flume_collection.specs.Calls.{emissions, trap_of}
use Rattle.forest_steps.specs.of_exec_graph.Calls.{called, emitted, trapped}
use Rattle.forest_steps.specs.of_exec_graph.Forests.{Label, Forest, Bare, Grow}
use Rattle.forest_steps.specs.of_exec_graph.Meaning.{is_out, has_out}
use Rattle.forest_steps.specs.of_exec_graph.World.{World}
use Rattle.forest_steps.specs.of_exec_graph.declared.step.Does.{Does}
use Rattle.forest_steps.specs.of_exec_graph.declared.step.Does.TheVariants as does
use Rattle.task_lists.specs.of_exec_plan.Channels.{output_numbers_of}
use Rattle.task_lists.specs.Runs.{all_emissions, counts_of, emissions_at, out_at, output_at, step_lists, traps_in_order, visits, visits_of}
use Rattle.forest_steps.specs.Safety.{Safe, SafeOf}

module _ (v w : World) (same : v.called ≡ w.called) where
  same_called : (d : Does) (x : Value) → called v d x ≡ called w d x
  unfolding called
  same_called (does.Call f) x = ap (λ c. c f x) same
  same_called (does.Combine c) x = refl
  same_called does.Pair x = refl
  same_called does.TagLeft x = refl
  same_called does.TagRight x = refl
  same_called does.Split x = refl
  same_called does.Solo x = refl
  same_called does.Spread x = refl

  same_emitted : (l : Label) (x : Value) → emitted v l x ≡ emitted w l x
  same_emitted l x = ap (emissions l.at) (same_called l.does x)

  same_out : (f : Forest) (j : ℕ) (x : Value) → out_at v f j x ≡ out_at w f j x
  same_out Bare j x = refl
  same_out (Grow l kids rest) j x =
      λ i. cond (is_out l.out j) (same_emitted l x i)
      (cond (has_out j kids) (flat_map (λ y. same_out kids j y i) (same_emitted l x i))
      (same_out rest j x i))

  same_visits : (f : Forest) (x : Value)
      → visits v (trapped v) f x ≡ visits w (trapped w) f x
  same_visits Bare x = refl
  same_visits (Grow l kids rest) x =
      λ i. trap_of l.origin (same_called l.does x i)
      ++ (flat_map (λ y. same_visits kids y i) (same_emitted l x i) ++ same_visits rest x i)

  same_output : (f : Option Forest) (j : ℕ) (x : Value) → output_at v f j x ≡ output_at w f j x
  same_output None j x = refl
  same_output (Some f) j x = same_out f j x

  same_traps_at : (f : Option Forest) (x : Value)
      → visits_of v (trapped v) f x ≡ visits_of w (trapped w) f x
  same_traps_at None x = refl
  same_traps_at (Some f) x = same_visits f x

  pub same_gives : (f : Option Forest) (xs : List Value) (j : ℕ)
      → emissions_at v f xs j ≡ emissions_at w f xs j
  same_gives f xs j = λ i. flat_map (λ x. same_output f j x i) xs

  pub same_given : (f : Option Forest) (xs : List Value)
      → all_emissions v f xs ≡ all_emissions w f xs
  same_given f xs = λ i. map (λ j. same_gives f xs j i) (output_numbers_of f)

  pub same_traps : (f : Option Forest) (xs : List Value)
      → traps_in_order v f xs ≡ traps_in_order w f xs
  same_traps f xs = λ i. flat_map (λ x. same_traps_at f x i) xs

  same_lists : (f : Forest) (xs : List Value) → step_lists v f xs ≡ step_lists w f xs
  same_lists Bare xs = refl
  same_lists (Grow l kids rest) xs =
      let here : flat_map (emitted v l) xs ≡ flat_map (emitted w l) xs =
      λ i. flat_map (λ x. same_emitted l x i) xs in
      let below = same_lists kids (flat_map (emitted v l) xs)
      ∙ ap (step_lists w kids) here in
      λ i. here i ∷ (below i ++ same_lists rest xs i)

  pub same_counts : (f : Option Forest) (xs : List Value) → counts_of v f xs ≡ counts_of w f xs
  same_counts None xs = refl
  same_counts (Some f) xs = ap (map (λ (vs : List Value). length vs)) (same_lists f xs)

  -- ---- what may be called
  module _ (takes : ℕ → Value → Type 0) where
    all_safe : (f : Forest) → ((x : Value) → Safe v takes f x → Safe w takes f x)
        → (xs : List Value) → AllByRecursion (Safe v takes f) xs
        → AllByRecursion (Safe w takes f) xs
    all_safe f h [] all = tt
    all_safe f h (x ∷ xs) all = (h x all.0, all_safe f h xs all.1)

    same_safe : (f : Forest) (x : Value) → Safe v takes f x → Safe w takes f x
    same_safe Bare x safe = tt
    same_safe (Grow l kids rest) x safe = (
      safe.0,
      subst (AllByRecursion (Safe w takes kids)) (same_emitted l x)
          (all_safe kids (same_safe kids) (emitted v l x) safe.1),
      same_safe rest x safe.2,
    )

    pub same_safe_of : (f : Option Forest) (x : Value) → SafeOf v takes f x → SafeOf w takes f x
    same_safe_of None x safe = tt
    same_safe_of (Some f) x safe = same_safe f x safe
