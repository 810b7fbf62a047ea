-- The tasks of a phase, by their numbers.
use Rattle.std.proofs.Common.{◌≡◌, ℕ, zero, suc, ◌<◌, [], ◌∷◌, ◌++◌, length, Some, ⊎_elim, refl, sym, ap, ◌∙◌, arith, slice_get, length-append}
use Rattle.std.proofs.lemmas.Bool.{cases_lt}
use Rattle.std.proofs.lemmas.Option.{get_or_from_slice_get, slice_get_within}
use Rattle.std.proofs.Math.ListN.{get_or-append}
use Rattle.std.proofs.Math.Seq.{get_or-append_seam}
use Rattle.std.proofs.Common.{get_or}
use Rattle.task_lists.specs.Tasks.{Task}
use Rattle.plan_phases.specs.Phases.{tasks_below}

pub length_below : (task : ℕ → Task) (n : ℕ) → length (tasks_below task n) ≡ n
length_below task zero = refl
length_below task (suc n) =
    let a = length-append (tasks_below task n) (task n ∷ []) in
    let b = length_below task n in omega arith

get_below : (task : ℕ → Task) (n k : ℕ) (d : Task) → k < n
    → get_or (tasks_below task n) k d ≡ task k
get_below task zero k d h = absurd (omega arith)
get_below task (suc n) k d h =
    let long = length_below task n in
    ⊎_elim (λ below. get_or-append (tasks_below task n) (task n ∷ []) d k (omega arith)
    ∙ get_below task n k d below)
    (λ past. let last : k ≡ n = omega arith in
    ap (λ i. get_or (tasks_below task n ++ task n ∷ []) i d) (last ∙ sym long)
    ∙ get_or-append_seam (tasks_below task n) (task n) [] d ∙ ap task (sym last))
    (cases_lt k n)

pub at_below : (task : ℕ → Task) (n k : ℕ) (x : Task) → slice_get (tasks_below task n) k ≡ Some x
    → task k ≡ x
at_below task n k x e =
    let within = slice_get_within (tasks_below task n) k x e in
    let long = length_below task n in
    sym (get_below task n k x (omega arith)) ∙ get_or_from_slice_get (tasks_below task n) k x x e
