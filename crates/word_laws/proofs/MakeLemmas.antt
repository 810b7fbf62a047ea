-- What the words of `make` ask for, by the definitions of `clap`.
use Rattle.std.proofs.Common.{◌≡◌, ◌∙◌, ◌≤◌, ℕ, true, [], ◌∷◌, refl, ap, ap₂, codes, arith}
use Rattle.std.specs.Prelude.{Option, Some, None, decimal, fold, if◌then◌else◌}
use Rattle.clap.specs.Kinds.{Kinds, or_else}
use Rattle.clap.specs.Simple.{Shape}
use Rattle.clap.specs.Walk.{Held, Text, Walk, finished, is_empty, nothing_held, walked}
use Rattle.clap.proofs.OnLiterals.{clap_on_literals}
use Rattle.drill_text.proofs.FirstLemmas.{number_begins}
use Rattle.drill_text.proofs.NumberLemmas.{number_spelled}
use Rattle.int_text.proofs.IntFacts.{le-to}
use Rattle.command_words.specs.Words.{bounded_count, is_operand, make_app, most_made, workload, workload_at, workload_for}
use Rattle.command_words.specs.declared.workload.Workload.{Workload}
use Rattle.word_laws.proofs.GrammarLemmas.{at_first, built_command}
use Rattle.word_laws.proofs.OperandLemmas.{faults_from, operand_first, operand_taken, operand_walked}
use Rattle.word_laws.proofs.PartLemmas.{operand_by}

abbrev makes : Shape
makes = built_command make_app.top

-- what is held behind the first word
abbrev first_held : Text → Held
first_held first = (operand_taken makes.rules nothing_held 1 first).held

passes : (first second : Text) → is_operand first ≡ true → is_operand second ≡ true
    → faults_from makes at_first (first ∷ second ∷ []) ≡ []
unfolding clap_on_literals
passes first second is also =
    operand_first makes nothing_held 1 first (second ∷ []) is
    ∙ (operand_first makes (first_held first) 2 second [] also ∙ refl)

walk : (first second : Text) → is_operand first ≡ true → is_operand second ≡ true
    → fold (walked makes.rules []) at_first (first ∷ second ∷ [])
    ≡ operand_taken makes.rules (first_held first) 2 second
unfolding clap_on_literals
walk first second is also =
    ap (λ w. walked makes.rules [] w second) (operand_walked makes.rules nothing_held 1 first is)
    ∙ operand_walked makes.rules (first_held first) 2 second also

abbrev answer : Kinds → Walk → Option Workload
answer fault w =
    if is_empty (or_else fault []) then workload_at (codes "make") (finished makes.rules w.held)
    else None

counted : (n : ℕ) → n ≤ most_made → bounded_count (decimal n) ≡ Some n
counted n few = rw (number_spelled n (omega (arith, few))) (rw (le-to n most_made few) refl)

operand : (n : ℕ) → n ≤ most_made → is_operand (decimal n) ≡ true
operand n few =
    operand_by (decimal n) (number_begins (decimal n) n (number_spelled n (omega (arith, few))))

pub made : (program : Text) (start rows : ℕ) → start ≤ most_made → rows ≤ most_made
    → workload_for (program ∷ codes "make" ∷ decimal start ∷ decimal rows ∷ [])
    ≡ Some (workload start rows)
unfolding clap_on_literals
made program start rows few less =
    let is = operand start few in
    let also = operand rows less in
    ap₂ answer (passes (decimal start) (decimal rows) is also)
    (walk (decimal start) (decimal rows) is also)
    ∙ rw (counted start few, counted rows less) refl
