-- Channels that take one list at most of input channel m.
use Rattle.std.specs.Prelude.{ℕ, ◌==◌, Bool, true, cond, not, List, [], ◌∷◌}
use Rattle.std.specs.List.{list_any}
use Rattle.exec_plan.specs.declared.plan.Take.{Take}
use Rattle.exec_plan.specs.declared.plan.OutChannel.{OutChannel}
use Rattle.exec_plan.specs.declared.plan.OutChannel.TheVariants.{Group, Pass}

-- whether one of the takes at most is of it
abbrev pub takes_once : ℕ → List Take → Bool
takes_once m [] = true
takes_once m (k ∷ ks) =
    cond (k.channel == m) (not (list_any (λ o. o.channel == m) ks)) (takes_once m ks)

abbrev pub is_single : ℕ → OutChannel → Bool
is_single m (Pass k number) = true
is_single m (Group g) = takes_once m g.takes
