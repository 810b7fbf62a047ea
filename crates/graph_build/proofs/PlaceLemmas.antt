-- One place more.
use Rattle.std.proofs.Common.{◌≡◌, ℕ, suc, ◌+◌, ◌<◌, List, [], ◌∷◌, ◌++◌, length, get_or, drop, arith, ap, ◌∙◌, sym, append_assoc, append-nil, add-one, drop-cons}
use Rattle.std.specs.Prelude.{Option, None}
use Rattle.exec_graph.specs.declared.graph.Place.{Place}
use Rattle.script_program.specs.declared.made.Made.{Made}
use Rattle.script_program.specs.Script.{Script}
use Rattle.graph_build.specs.Graphs.{place_made, places_from}
use Rattle.graph_build.specs.Wanted.{wanted, wanted_at}
use Rattle.graph_build.proofs.StepLemmas.{all_dropped}
use Rattle.graph_build.proofs.WantedLemmas.{wanted_length}

places_step : (script : Script) (giving : List ℕ) (ws : List (Option Made)) (i : ℕ)
    → i < length ws
    → places_from script giving i (drop i ws)
    ≡ place_made script giving i (get_or ws i None)
    ∷ places_from script giving (i + 1) (drop (i + 1) ws)
places_step script giving ws i h = rw (add-one, drop-cons ws i None)

pub places_next : (script : Script) (giving : List ℕ) (done more all : List Place) (place : Place)
    (i : ℕ) → i < length script.nodes
    → place ≡ place_made script giving i (wanted_at script i)
    → more ≡ done ++ place ∷ []
    → done ++ places_from script giving i (drop i (wanted script)) ≡ all
    → more ++ places_from script giving (i + 1) (drop (i + 1) (wanted script)) ≡ all
places_next script giving done more all place i below is pushed h =
    let fits : i < length (wanted script) = rw wanted_length below in
    rw (pushed, is, append_assoc)
    (ap (λ rest. done ++ rest) (sym (places_step script giving (wanted script) i fits)) ∙ h)

pub places_all : (script : Script) (giving : List ℕ) (done all : List Place) (i : ℕ)
    → i ≡ length script.nodes
    → done ++ places_from script giving i (drop i (wanted script)) ≡ all → done ≡ all
places_all script giving done all i end h =
    sym (append-nil done)
    ∙ ap (λ rest. done ++ places_from script giving i rest)
    (sym (all_dropped (wanted script) i (end ∙ sym (wanted_length script))))
    ∙ h
