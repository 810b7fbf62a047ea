-- What may be called where functions take less, or answer alike.
use Rattle.std.proofs.Common.{◌≡◌, ℕ, List, [], ◌∷◌, Option, Some, None, ap}
use Rattle.std.specs.List.{AllByRecursion}
use Rattle.flume_value.specs.declared.value.Value.{Value}
use Rattle.flume_value.specs.declared.value.Value.TheVariants as value
use Rattle.flume_value.proofs.EachLemmas.{Each-weaker}
use Rattle.flume_collection.specs.Calls.{Called}
use Rattle.exec_graph.specs.declared.step.Does.{Does}
use Rattle.exec_graph.specs.declared.step.Does.TheVariants as does
use Rattle.exec_graph.specs.Calls.{emitted}
use Rattle.exec_graph.specs.Forests.{Forest, Bare, Grow}
use Rattle.exec_graph.specs.Objects.{world_beside, naming}
use Rattle.exec_graph.specs.World.{World}
use Rattle.forest_courses.specs.of_forest_steps.Safety.{CanCall, Safe, SafeOf}
use Rattle.forest_courses.proofs.Worlds.{same_safe_of}
use Rattle.task_safety.specs.Taking.{taking}

module _ (taken takes : ℕ → Value → Type 0) (more : (f : ℕ) (x : Value) → taken f x → takes f x)
  where
    called_more : (d : Does) (x : Value) → CanCall taken d x → CanCall takes d x
    called_more (does.Call f) x a = more f x a
    called_more (does.Combine c) x a = a
    called_more does.Pair x a = tt
    called_more does.TagLeft x a = tt
    called_more does.TagRight x a = tt
    called_more does.Split x a = tt
    called_more does.Solo x a = tt
    called_more does.Spread x a = tt

    safe_more : (w : World) (f : Forest) (x : Value) → Safe w taken f x → Safe w takes f x
    safe_more w Bare x a = tt
    safe_more w (Grow l kids rest) x a = (
      called_more l.does x a.0,
      Each-weaker (Safe w taken kids) (Safe w takes kids) (λ y i. safe_more w kids y i)
          (emitted w l x) a.1,
      safe_more w rest x a.2,
    )

    safe_of_more : (w : World) (f : Option Forest) (x : Value) → SafeOf w taken f x
        → SafeOf w takes f x
    safe_of_more w None x a = tt
    safe_of_more w (Some f) x a = safe_more w f x a

    all_safe_more : (v w : World) → v.called ≡ w.called → (f : Option Forest) (xs : List Value)
        → AllByRecursion (SafeOf v taken f) xs → AllByRecursion (SafeOf w takes f) xs
    all_safe_more v w same f xs all =
        Each-weaker (SafeOf v taken f) (SafeOf w takes f)
        (λ x a. safe_of_more w f x (same_safe_of v w same taken f x a)) xs all

-- ---- beside a value

pub same_beside : (a : Option Value) (v w : World) → v.called ≡ w.called
    → (world_beside a v).called ≡ (world_beside a w).called
same_beside None v w same = same
same_beside (Some a) v w same =
    ap (λ (called : ℕ → Value → Called). λ (f : ℕ) (x : Value).
    naming x (called f (value.Rec (x ∷ (a ∷ []))))) same

more_beside : (a : Option Value) (taken takes : ℕ → Value → Type 0)
    → ((f : ℕ) (x : Value) → taken f x → takes f x) → (f : ℕ) (x : Value)
    → taking a taken f x → taking a takes f x
more_beside None taken takes more f x h = more f x h
more_beside (Some a) taken takes more f x h = more f (value.Rec (x ∷ (a ∷ []))) h

pub all_safe_beside : (a : Option Value) (taken takes : ℕ → Value → Type 0)
    → ((f : ℕ) (x : Value) → taken f x → takes f x) → (v w : World) → v.called ≡ w.called
    → (f : Option Forest) (xs : List Value)
    → AllByRecursion (SafeOf (world_beside a v) (taking a taken) f) xs
    → AllByRecursion (SafeOf (world_beside a w) (taking a takes) f) xs
all_safe_beside a taken takes more v w same f xs all =
    all_safe_more (taking a taken) (taking a takes) (more_beside a taken takes more)
    (world_beside a v)
    (world_beside a w) (same_beside a v w same) f xs all
