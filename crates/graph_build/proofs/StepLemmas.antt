-- One collection more: of the numbers of nodes that give collections, and of nodes.
use Rattle.std.proofs.Common.{◌≡◌, ℕ, ◌+◌, ◌<◌, List, [], ◌∷◌, ◌++◌, length, get_or, drop, refl, ap, ◌∙◌, sym, append_assoc, append-nil, add-one, drop-cons}
use Rattle.std.specs.Prelude.{Option, Some, None}
use Rattle.std.proofs.Math.Seq.{drop-length}
use Rattle.std.specs.Prelude.{map, slice_get}
use Rattle.std.specs.Option.{option_map}
use Rattle.exec_graph.specs.declared.graph.Entry.{Entry}
use Rattle.exec_graph.specs.declared.graph.Place.{Place}
use Rattle.script_program.proofs.SourceSteps.{head_of}
use Rattle.script_program.specs.Script.{Script}
use Rattle.graph_build.specs.Graphs.{last_node, number_past, giving_from, next_source, nodes_at, nodes_from}
use Rattle.graph_build.specs.Built.{Built, built, built_at}
use Rattle.graph_build.proofs.BuiltLemmas.{built_length}

giving_step : (ws : List (Option Built)) (i n : ℕ) → i < length ws
    → giving_from n (drop i ws)
    ≡ last_node n (get_or ws i None) ∷ giving_from (number_past n (get_or ws i None))
    (drop (i + 1) ws)
giving_step ws i n h = rw (add-one, drop-cons ws i None)

pub nodes_step : (script : Script) (gives : ℕ → Place) (ws : List (Option Built)) (i source n : ℕ)
    → i < length ws → nodes_from script gives source n (drop i ws)
    ≡ nodes_at script gives source n (get_or ws i None)
    ++ nodes_from script gives (next_source source (get_or ws i None))
    (number_past n (get_or ws i None)) (drop (i + 1) ws)
nodes_step script gives ws i source n h = rw (add-one, drop-cons ws i None)

pub all_dropped : {A : Type 0} (xs : List A) (i : ℕ) → i ≡ length xs → drop i xs ≡ []
all_dropped xs i h = rw h (drop-length xs)

giving_done : (script : Script) (i n : ℕ) → i ≡ length script.nodes
    → giving_from n (drop i (built script)) ≡ []
giving_done script i n h =
    ap (giving_from n) (all_dropped (built script) i (h ∙ sym (built_length script)))

nodes_done : (gives : ℕ → Place) (script : Script) (i source n : ℕ)
    → i ≡ length script.nodes → nodes_from script gives source n (drop i (built script)) ≡ []
nodes_done gives script i source n h =
    ap (nodes_from script gives source n)
    (all_dropped (built script) i (h ∙ sym (built_length script)))

-- one more is done
pub giving_next : (script : Script) (done more all : List ℕ) (i n next : ℕ)
    → i < length script.nodes
    → more ≡ done ++ last_node n (built_at script i) ∷ []
    → next ≡ number_past n (built_at script i)
    → done ++ giving_from n (drop i (built script)) ≡ all
    → more ++ giving_from next (drop (i + 1) (built script)) ≡ all
giving_next script done more all i n next below pushed ahead h =
    let fits : i < length (built script) = rw built_length below in
    rw (pushed, ahead, append_assoc)
    (ap (λ rest. done ++ rest) (sym (giving_step (built script) i n fits)) ∙ h)

pub mapped_next : {A B : Type 0} (f : A → B) (xs : List A) (done more : List B) (i : ℕ) (x : A)
    → slice_get xs i ≡ Some x
    → more ≡ done ++ f x ∷ []
    → done ++ map f (drop i xs) ≡ map f xs
    → more ++ map f (drop (i + 1) xs) ≡ map f xs
mapped_next f xs done more i x found pushed h =
    rw (pushed, append_assoc, add-one)
    (ap (λ rest. done ++ map f rest) (sym (head_of xs i x found)) ∙ h)

-- an entry, by its second part
pub entry_of : {A B : Type 0} (o : Option (A × B)) (y : B)
    → option_map (λ entry. entry.1) o ≡ Some y
    → (entry : A × B) × (o ≡ Some entry) × (entry.1 ≡ y)
entry_of None y h = cc
entry_of (Some entry) y h = (entry, refl, cc)

-- all is done
pub giving_all : (script : Script) (done all : List ℕ) (i n : ℕ) → i ≡ length script.nodes
    → done ++ giving_from n (drop i (built script)) ≡ all → done ≡ all
giving_all script done all i n end h =
    sym (append-nil done) ∙ ap (λ rest. done ++ rest) (sym (giving_done script i n end)) ∙ h

pub nodes_all : (gives : ℕ → Place) (script : Script) (done all : List Entry) (i source n : ℕ)
    → i ≡ length script.nodes
    → done ++ nodes_from script gives source n (drop i (built script)) ≡ all → done ≡ all
nodes_all gives script done all i source n end h =
    sym (append-nil done)
    ∙ ap (λ rest. done ++ rest) (sym (nodes_done gives script i source n end)) ∙ h

pub ruleset next_nodes = (nodes_step, built_length)
