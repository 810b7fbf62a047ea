-- Stages of well-formed plans: their output channels, and how many tasks they have at most.
use Rattle.std.proofs.Common.{◌≡◌, ◌+◌, ◌*◌, ◌≤◌, ◌^◌, ℕ, zero, suc, Bool, List, [], ◌∷◌, Some, refl, subst, arith, slice_get, ◌||◌}
use Rattle.std.specs.List.{AllByRecursion as Each}
use Rattle.std.proofs.Math.Nat.{mul-le-mul_left, mul-le-mul_right}
use Rattle.std.proofs.lemmas.Option.{none-some, same_Some}
use Rattle.exec_plan.specs.declared.plan.InChannel.{InChannel}
use Rattle.exec_plan.specs.declared.plan.OutChannel.{OutChannel}
use Rattle.exec_plan.specs.Wellformed.{AreOutChannels, IsOutOk, is_pass, results_given}

pub each_placed : {A : Type 0} (P : A → Type 0) (xs : List A)
    → ((k : ℕ) (x : A) → slice_get xs k ≡ Some x → P x) → Each P xs
each_placed P [] f = tt
each_placed P (x ∷ xs) f = (f 0 x refl, each_placed P xs (λ k y e. f (suc k) y e))

-- an output channel of a well-formed stage is well-formed behind some others
pub record IsOutSomewhere (ins : List InChannel) (c : OutChannel) : Type 0 where
  pub passed : Bool
  pub first : ℕ
  pub ok : IsOutOk ins passed first c

pub out_at : (ins : List InChannel) (passed : Bool) (n : ℕ) (cs : List OutChannel)
    → AreOutChannels ins passed n cs → (r : ℕ) (c : OutChannel) → slice_get cs r ≡ Some c
    → IsOutSomewhere ins c
out_at ins passed n [] all r c e = absurd (none-some c e)
out_at ins passed n (d ∷ cs) all zero c e =
    record { passed = passed; first = n; ok = subst (IsOutOk ins passed n) (same_Some d c e) all.0 }
out_at ins passed n (d ∷ cs) all (suc r) c e =
    out_at ins (passed || is_pass d) (n + results_given d) cs all.1 r c e

pub few_tasks : (channels parts : ℕ) → channels ≤ 2 ^ 17 → parts ≤ 1024
    → channels * parts ≤ 2 ^ 27
few_tasks channels parts h k =
    let a = mul-le-mul_right parts h in
    let b = mul-le-mul_left (2 ^ 17) k in omega arith
