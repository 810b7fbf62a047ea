-- One output's line more.
use Rattle.std.proofs.Common.{◌≡◌, ℕ, suc, zero, ◌+◌, ◌<◌, ◌≤◌, List, [], ◌∷◌, ◌++◌, length, drop, refl, arith, ap, ◌∙◌, sym, append_assoc, append-nil, add-one, min, inl, inr}
use Rattle.std.specs.Prelude.{Some, slice_get, ◌⊎◌}
use Rattle.std.proofs.lemmas.List.{drop_all}
use Rattle.std.proofs.lemmas.Bool.{cases_lt}
use Rattle.exec_graph.specs.declared.graph.Place.{Place}
use Rattle.script_program.proofs.SourceSteps.{head_of}
use Rattle.graph_build.specs.of_script_program.declared.made.Output.{Output}
use Rattle.graph_print.specs.GraphText.{output_line, output_lines}

pub lines_next : (text more all : List ℕ) (outputs : List (List ℕ × Output))
    (places : List Place) (i : ℕ) (output : List ℕ × Output) (place : Place)
    → slice_get outputs i ≡ Some output → slice_get places i ≡ Some place
    → more ≡ text ++ output_line output place
    → text ++ output_lines (drop i outputs) (drop i places) ≡ all
    → more ++ output_lines (drop (i + 1) outputs) (drop (i + 1) places) ≡ all
lines_next text more all outputs places i output place here there pushed h =
    let rest : List ℕ = output_lines (drop (suc i) outputs) (drop (suc i) places) in
    let e : output_lines (drop i outputs) (drop i places)
    ≡ output_line output place ++ rest =
    rw (head_of outputs i output here, head_of places i place there) refl in
    rw (pushed, add-one)
    (append_assoc text (output_line output place) rest
    ∙ ap (λ lines. text ++ lines) (sym e) ∙ h)

no_places : (outputs : List (List ℕ × Output))
    → output_lines outputs [] ≡ []
no_places [] = refl
no_places (output ∷ outputs) = refl

at_end : (outputs : List (List ℕ × Output)) (places : List Place) (i : ℕ)
    → (length outputs ≤ i) ⊎ (length places ≤ i)
    → output_lines (drop i outputs) (drop i places) ≡ []
at_end outputs places i (inl h) = rw (drop_all i outputs h) refl
at_end outputs places i (inr h) =
    rw (drop_all i places h) (no_places (drop i outputs))

either_end : (m n i : ℕ) → min m n ≤ i → (m ≤ i) ⊎ (n ≤ i)
either_end m n i h =
    elim (cases_lt m n) [ inl p ↦ inl (omega arith) | inr p ↦ inr (omega arith) ]

-- where either list is at its end, there is no line
pub lines_all : (text all : List ℕ) (outputs : List (List ℕ × Output))
    (places : List Place) (i : ℕ) → min (length outputs) (length places) ≤ i
    → text ++ output_lines (drop i outputs) (drop i places) ≡ all → text ≡ all
lines_all text all outputs places i end h =
    sym (append-nil text)
    ∙ ap (λ lines. text ++ lines)
    (sym (at_end outputs places i (either_end (length outputs) (length places) i end)))
    ∙ h
