-- The JSON of a plan has no number, so that its text is known byte by byte.
use Rattle.std.proofs.Common.{◌≡◌, ℕ, suc, Bool, false, List, [], ◌∷◌, map, refl}
use Rattle.std.specs.Prelude.{Option, Some, None, ◌||◌}
use Rattle.serde_json.specs.Data.{Data}
use Rattle.serde_json.specs.View.{items_of}
use Rattle.serde_json.specs.Written.{has_float, items_have_float, members_have_float}
use Rattle.combine_table.specs.declared.comb.Comb.{Comb}
use Rattle.exec_plan.specs.Channels.{output_numbers_of}
use Rattle.exec_plan.specs.declared.plan.PlanPlace.{PlanPlace}
use Rattle.exec_plan.specs.declared.plan.OutChannel.{OutChannel}
use Rattle.exec_plan.specs.declared.plan.OutChannel.TheVariants.{Group, Pass}
use Rattle.exec_plan.specs.declared.plan.Stage.{Stage}
use Rattle.exec_plan.specs.declared.plan.Stage.TheVariants.{Mscr, Flatten, Operate}
use Rattle.exec_plan.specs.declared.plan.Plan.{Plan}
use Rattle.plan_writing.specs.Lists.{numbered_texts, paired}
use Rattle.plan_writing.specs.Places.{given_text, take_text}
use Rattle.plan_writing.specs.Naming.{Naming}
use Rattle.plan_json.specs.PlanJson.{beside_json, in_json, lift_json, out_json, output_json, plan_json_of, stage_json, text_json}

neither : (a b : Bool) → a ≡ false → b ≡ false → (a || b) ≡ false
neither a b p q = rw (p, q) refl

mapped : {X : Type 0} (make : X → Data) → ((x : X) → has_float (make x) ≡ false)
    → (xs : List X) → items_have_float (items_of (map make xs)) ≡ false
mapped make each [] = refl
mapped make each (x ∷ xs) = neither _ _ (each x) (mapped make each xs)

counted : {X : Type 0} (make : ℕ → X → Data) → ((n : ℕ) (x : X) → has_float (make n x) ≡ false)
    → (n : ℕ) (xs : List X) → items_have_float (items_of (numbered_texts make n xs)) ≡ false
counted make each n [] = refl
counted make each n (x ∷ xs) = neither _ _ (each n x) (counted make each (suc n) xs)

matched : {X Y : Type 0} (make : X → Y → Data) → ((x : X) (y : Y) → has_float (make x y) ≡ false)
    → (xs : List X) (ys : List Y) → items_have_float (items_of (paired make xs ys)) ≡ false
matched make each [] ys = refl
matched make each (x ∷ xs) [] = refl
matched make each (x ∷ xs) (y ∷ ys) = neither _ _ (each x y) (matched make each xs ys)

texts : {X : Type 0} (print : X → List ℕ) (xs : List X)
    → items_have_float (items_of (map (λ x. text_json (print x)) xs)) ≡ false
texts print xs = mapped (λ x. text_json (print x)) (λ x. refl) xs

beside : (place : Option PlanPlace) → members_have_float (beside_json place) ≡ false
beside None = refl
beside (Some place) = refl

lift : (names : Naming) (lifted : Option Comb) → has_float (lift_json names lifted) ≡ false
lift names None = refl
lift names (Some combiner) = refl

out : (names : Naming) (stage : ℕ) (channel : OutChannel)
    → has_float (out_json names stage channel) ≡ false
out names stage (Group group) =
    neither _ _ (texts (given_text stage group) (output_numbers_of group.does))
    (neither _ _ (lift names group.lifted) (neither _ _ (texts take_text group.takes) refl))
out names stage (Pass take result) = refl

stage_whole : (names : Naming) (n : ℕ) (stage : Stage)
    → has_float (stage_json names n stage) ≡ false
stage_whole names n (Mscr mscr) =
    neither _ _ (mapped (in_json names) (λ channel. beside channel.beside) mscr.inputs)
    (neither _ _ (mapped (out_json names n) (out names n) mscr.outputs) refl)
stage_whole names n (Flatten takes) = neither _ _ (texts _ takes) refl
stage_whole names n (Operate takes origin last does) = neither _ _ (texts _ takes) refl

pub plan_whole : (names : Naming) (plan : Plan) → has_float (plan_json_of names plan) ≡ false
plan_whole names plan =
    neither _ _ (matched output_json (λ output place. refl) names.outputs plan.outputs)
    (neither _ _ (counted (stage_json names) (stage_whole names) 1 plan.stages) refl)
