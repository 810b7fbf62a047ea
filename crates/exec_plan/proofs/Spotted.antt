-- The outputs that a forest keeps are among those of its steps.
use Rattle.std.proofs.Common.{◌≡◌, ℕ, List, ◌++◌, refl, ap, ap₂, ◌∙◌}
use Rattle.std.specs.List.{flat_map}
use Rattle.std.proofs.lemmas.List.Concat.{flat_map-append}
use Rattle.exec_graph.specs.Forests.{Forest, Bare, Grow}
use Rattle.exec_graph.specs.Spots.{spots}
use Rattle.exec_graph.specs.declared.spots.Spot.{Spot}
use Rattle.exec_plan.specs.Channels.{kept_out, outs_of}

abbrev pub spot_outs : List Spot → List ℕ
spot_outs ss = flat_map (λ (s : Spot). kept_out s.out) ss

pub outs_spotted : (f : Forest) → spot_outs (spots f) ≡ outs_of f
outs_spotted Bare = refl
outs_spotted (Grow l kids rest) =
    ap (λ (ns : List ℕ). kept_out l.out ++ ns)
    (flat_map-append (λ (s : Spot). kept_out s.out) (spots kids) (spots rest)
    ∙ ap₂ (λ (ns ms : List ℕ). ns ++ ms) (outs_spotted kids) (outs_spotted rest))
