-- Counts by owner, and owners step by step.
use Rattle.std.specs.Prelude.{ℕ, ◌+◌, ◌==◌, Bool, cond, List, [], ◌∷◌, ◌++◌, Option, Some, None}
use Rattle.std.proofs.Common.{suc}
use Rattle.exec_graph.specs.Forests.{Branch, Twig}
use Rattle.exec_plan.specs.declared.plan.Grouping.{Grouping}
use Rattle.task_lists.specs.Runs.{kept_count}
use Rattle.step_counts.specs.Owners.{owners_in}

-- what a count adds to the size of script node i
abbrev pub more_at : ℕ → Option ℕ → ℕ → ℕ
more_at i None count = 0
more_at i (Some node) count = cond (node == i) count 0

-- what counts add to it
abbrev pub owned : ℕ → List (Option ℕ) → List ℕ → ℕ
owned i (o ∷ os) (n ∷ ns) = more_at i o n + owned i os ns
owned i _ _ = 0

abbrev pub owner_at : Branch → ℕ → Option ℕ
owner_at b at = cond b.last (Some (kept_count (b.origin + at))) None

abbrev pub group_owner : Grouping → Option ℕ
group_owner g = cond g.last (Some g.origin) None

-- of an object of script node o, which is its own bag or not
abbrev pub object_owner : ℕ → Bool → Option ℕ
object_owner o last = cond last (Some o) None

-- the owners of a step's outputs from place n on, and of the steps on them
abbrev pub twigs_owners : Branch → ℕ → List Twig → List (Option ℕ)
twigs_owners b n [] = []
twigs_owners b n (t ∷ ts) = owner_at b n ∷ (owners_in t.kids ++ twigs_owners b (suc n) ts)

abbrev pub branch_owners : Branch → List (Option ℕ)
branch_owners b = twigs_owners b 0 (b.first ∷ b.more)

abbrev pub branches_owners : List Branch → List (Option ℕ)
branches_owners [] = []
branches_owners (b ∷ bs) = branch_owners b ++ branches_owners bs
