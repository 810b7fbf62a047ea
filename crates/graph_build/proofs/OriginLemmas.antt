-- One collection more: of the collections that nodes are built for.
use Rattle.std.proofs.Common.{◌≡◌, ℕ, ◌+◌, ◌<◌, List, ◌++◌, length, get_or, drop, ap, ◌∙◌, sym, append_assoc, append-nil, add-one, drop-cons}
use Rattle.std.specs.Prelude.{Option, None}
use Rattle.script_program.specs.Script.{Script}
use Rattle.std.specs.List.{flat_map}
use Rattle.graph_build.specs.Origins.{origins_at}
use Rattle.graph_build.specs.Built.{Built, built, built_at}
use Rattle.graph_build.proofs.StepLemmas.{all_dropped}
use Rattle.graph_build.proofs.BuiltLemmas.{built_length}

origins_step : (ws : List (Option Built)) (i : ℕ) → i < length ws
    → flat_map origins_at (drop i ws)
    ≡ origins_at (get_or ws i None) ++ flat_map origins_at (drop (i + 1) ws)
origins_step ws i h = rw (add-one, drop-cons ws i None)

-- one more is done
pub origins_next : (script : Script) (done more all : List ℕ) (i : ℕ)
    → i < length script.nodes
    → more ≡ done ++ origins_at (built_at script i)
    → done ++ flat_map origins_at (drop i (built script)) ≡ all
    → more ++ flat_map origins_at (drop (i + 1) (built script)) ≡ all
origins_next script done more all i below pushed h =
    let fits : i < length (built script) = rw built_length below in
    rw (pushed, append_assoc)
    (ap (λ rest. done ++ rest) (sym (origins_step (built script) i fits)) ∙ h)

-- all is done
pub origins_all : (script : Script) (done all : List ℕ) (i : ℕ) → i ≡ length script.nodes
    → done ++ flat_map origins_at (drop i (built script)) ≡ all → done ≡ all
origins_all script done all i end h =
    sym (append-nil done)
    ∙ ap (λ rest. done ++ flat_map origins_at rest)
    (sym (all_dropped (built script) i (end ∙ sym (built_length script))))
    ∙ h
