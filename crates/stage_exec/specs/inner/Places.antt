-- Whether two collections of a plan are one.
use Rattle.std.specs.Prelude.{◌==◌, ◌&&◌, Bool, List, false}
use Rattle.std.specs.List.{list_any}
use Rattle.exec_plan.specs.declared.plan.PlanPlace.{PlanPlace}
use Rattle.exec_plan.specs.declared.plan.PlanPlace.TheVariants.{Source, Result}

abbrev pub is_same : PlanPlace → PlanPlace → Bool
is_same (Source n) (Source m) = n == m
is_same (Result k n) (Result l m) = (k == l) && (n == m)
is_same _ _ = false

-- the collection is one of these
abbrev pub is_among : List PlanPlace → PlanPlace → Bool
is_among places place = list_any (λ q. is_same q place) places
