-- How the collection of a number is made, where it is needed.
use Rattle.std.proofs.Common.{◌≡◌, ℕ, suc, zero, ◌+◌, ◌<◌, ◌≤◌, Bool, true, false, List, [], ◌∷◌, length, get_or, refl, arith, ap, ◌∙◌, sym, subst, add-zero}
use Rattle.std.specs.Prelude.{Option, Some, None, if◌then◌else◌, is_some, slice_get}
use Rattle.std.specs.Option.{option_map}
use Rattle.script_program.specs.of_written_types.Named.{Named}
use Rattle.script_program.specs.declared.made.Made.{Made}
use Rattle.script_program.specs.Script.{Node, Script}
use Rattle.script_program.specs.Needed.{is_needed}
use Rattle.graph_build.specs.Wanted.{needed_at, wanted, wanted_from, wanted_at}
use Rattle.script_program.proofs.SourceSteps.{found_below as within, told_many}

-- how a node is made, where it is needed
abbrev pub where_needed : Script → ℕ → Node → Option Made
where_needed script i node = if is_needed script i then Some node.made else None

found : (script : Script) (k i : ℕ) (nodes : Named Node) (node : Node)
    → option_map (λ entry. entry.1) (slice_get nodes i) ≡ Some node
    → get_or (wanted_from script k nodes) i None ≡ where_needed script (k + i) node
found script k i [] node h = cc
found script k zero (entry ∷ nodes) node h =
    let e : entry.1 ≡ node = cc in
    rw add-zero (ap (where_needed script k) e)
found script k (suc i) (entry ∷ nodes) node h =
    let e : suc k + i ≡ k + suc i = omega arith in
    subst (λ n. get_or (wanted_from script (suc k) nodes) i None ≡ where_needed script n node) e
    (found script (suc k) i nodes node h)

at_zero : (i : ℕ) → 0 + i ≡ i
at_zero i = omega arith

pub wanted_needed : (script : Script) (i : ℕ) (node : Node)
    → option_map (λ entry. entry.1) (slice_get script.nodes i) ≡ Some node
    → true ≡ is_needed script i → Some node.made ≡ wanted_at script i
wanted_needed script i node h needed =
    sym (found script 0 i script.nodes node h
    ∙ ap (λ n. where_needed script n node) (at_zero i)
    ∙ ap (λ b. if b then Some node.made else None) (sym needed))

pub wanted_needless : (script : Script) (i : ℕ) (node : Node)
    → option_map (λ entry. entry.1) (slice_get script.nodes i) ≡ Some node
    → false ≡ is_needed script i → None ≡ wanted_at script i
wanted_needless script i node h needless =
    sym (found script 0 i script.nodes node h
    ∙ ap (λ n. where_needed script n node) (at_zero i)
    ∙ ap (λ b. if b then Some node.made else None) (sym needless))

pub wanted_length : (script : Script) → length (wanted script) ≡ length script.nodes
wanted_length script =
    told_many (wanted_from script) (λ k. refl) (λ k entry nodes. (_, refl)) 0 script.nodes

beyond_all : {A : Type 0} (xs : List A) (i : ℕ) (d : A) → length xs ≤ i → get_or xs i d ≡ d
beyond_all [] i d h = refl
beyond_all (x ∷ xs) zero d h = absurd (omega arith)
beyond_all (x ∷ xs) (suc i) d h = beyond_all xs i d (omega arith)

pub wanted_beyond : (script : Script) (i : ℕ) → length script.nodes ≤ i
    → None ≡ wanted_at script i
wanted_beyond script i h =
    let size = wanted_length script in
    sym (beyond_all (wanted script) i None (omega arith))

by_need : (script : Script) (i : ℕ) (node : Node) (b : Bool)
    → option_map (λ entry. entry.1) (slice_get script.nodes i) ≡ Some node
    → is_needed script i ≡ b → needed_at script i ≡ b
by_need script i node true h is = ap is_some (sym (wanted_needed script i node h (sym is)))
by_need script i node false h is = ap is_some (sym (wanted_needless script i node h (sym is)))

-- whether a collection of the script is needed
pub needed_here : (script : Script) (i : ℕ) → i < length script.nodes
    → needed_at script i ≡ is_needed script i
needed_here script i below =
    let (entry, found) = within script.nodes i below in
    by_need script i entry.1 (is_needed script i)
    (ap (option_map (λ (it : List ℕ × Node). it.1)) found) refl
