-- A step that only pairs what it is given.
use Rattle.std.proofs.Common.{◌≡◌, ◌∙◌, ◌∷◌, [], List, ℕ, ap}
use Rattle.std.specs.Prelude.{Ok}
use Rattle.flume_value.specs.declared.value.Value.{Value}
use Rattle.exec_graph.specs.Calls.{called}
use Rattle.exec_graph.specs.Forests.{Bare, Branch, limb}
use Rattle.exec_graph.specs.World.{World}
use Rattle.forest_steps.specs.Running.{Given, and_then, below, counted_at, with_values_put, run, run_out, run_twigs}
use Rattle.forest_steps.specs.inner.Once.{PairsAlone, once}
use Rattle.forest_steps.proofs.Twigging.{limb_run}

pub once_run : (w : World) (sizes : List ℕ) (at : ℕ) (b : Branch) (x : Value) (g : Given)
    → PairsAlone b
    → run w sizes at (limb b Bare) x g
    ≡ Ok (with_values_put b.first.out (once x ∷ []) (counted_at at 1 g))
unfolding called
once_run w sizes at b x g alone =
    let answers = (once x ∷ []) ∷ [] in
    limb_run w sizes at b x answers g (ap (λ d. called w d x) alone.pairs)
    ∙ ap (λ ts. run_twigs w sizes at answers (b.first ∷ ts) g) alone.one
    ∙ ap (λ kids.
    and_then (run_out b.first.out at (run w sizes (below at) kids) (once x ∷ []) g)
    (λ more. Ok more)) alone.unread
