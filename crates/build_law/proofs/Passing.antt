-- What one step of a graph gives of a collection.
use Rattle.std.proofs.Common.{◌≡◌, ℕ, Bool, true, List, [], ◌∷◌, ◌++◌, map, Some, None, refl, ap, ◌∙◌, append-nil}
use Rattle.std.specs.List.{flat_map}
use Rattle.combine_table.specs.declared.comb.Comb.{Comb}
use Rattle.flume_value.specs.Bag.{bag_of}
use Rattle.flume_value.specs.declared.value.Value.{Value}
use Rattle.flume_collection.specs.declared.trap.Trap.{Trap}
use Rattle.flume_collection.specs.Calls.{passed}
use Rattle.flume_collection.specs.Collection.{Collection}
use Rattle.flume_collection.specs.Traps.{trap_set}
use Rattle.flume_collection.proofs.Together.{same_collection}
use Rattle.exec_graph.specs.Calls.{called, to_first}
use Rattle.exec_graph.specs.Forests.{Label}
use Rattle.exec_graph.specs.Meaning.{through}
use Rattle.exec_graph.specs.World.{World}
use Rattle.exec_graph.specs.declared.step.Does.{Does}
use Rattle.exec_graph.specs.declared.step.Does.TheVariants as does
use Rattle.exec_graph.proofs.StepFacts.{combine_emits, combine_traps}
use Rattle.direct_meaning.specs.Direct.{combined_by}

-- the one output of a step
abbrev pub only_label : ℕ → Bool → Does → Label
only_label origin last does =
    record { origin = origin; last = last; does = does; at = 0; out = Some 0 }

-- the output of a call at a place, where the first name has the number `origin`
abbrev pub call_label : ℕ → ℕ → ℕ → Label
call_label origin f at =
    record { origin = origin; last = true; does = does.Call f; at = at; out = None }

abbrev pub no_trap : Value → List Trap
no_trap x = []

pub no_traps : (xs : List Value) → flat_map no_trap xs ≡ []
no_traps [] = refl
no_traps (x ∷ xs) = no_traps xs

pub each_one : {A B : Type 0} (f : A → B) (xs : List A)
    → flat_map (λ x. f x ∷ []) xs ≡ map f xs
each_one f [] = refl
each_one f (x ∷ xs) = ap (λ ys. f x ∷ ys) (each_one f xs)

-- a step that gives one list of each element, and never traps
pub through_given : (w : World) (origin : ℕ) (last : Bool) (does : Does) (f : Value → List Value)
    → ((x : Value) → called w does x ≡ to_first (f x)) → (c : Collection)
    → through w (only_label origin last does) c
    ≡ record { bag = bag_of (flat_map f c.bag); traps = trap_set c.traps }
through_given w origin last does f h c =
    (λ i. passed origin 0 (λ x. h x i) c)
    ∙ same_collection _ _ _ _ refl
    (ap (λ ts. trap_set (c.traps ++ ts)) (no_traps c.bag)
    ∙ ap trap_set (append-nil c.traps))

-- a step that combines
pub through_combined : (w : World) (origin : ℕ) (last : Bool) (k : Comb) (c : Collection)
    → through w (only_label origin last (does.Combine k)) c ≡ combined_by origin k c
through_combined w origin last k c =
    same_collection _ _ _ _ (combine_emits w k c.bag)
    (ap (λ ts. trap_set (c.traps ++ ts)) (combine_traps w origin k c.bag))
