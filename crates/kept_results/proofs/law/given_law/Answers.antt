use Rattle.std.proofs.Common.{◌≡◌, ℕ, ◌++◌, List, Option, map, subst, sym}
use Rattle.std.specs.List.{AllByRecursion as Each}
use Rattle.saved_meaning.specs.of_direct_meaning.Inputs.{AreInputs}
use Rattle.flume_collection.specs.Collection.{Collection}
use Rattle.flume_value.specs.declared.value.Value.{Value}
use Rattle.saved_meaning.specs.Found.{marked_ones, lists_for}
use Rattle.saved_results.specs.declared.saved.Saved.{Saved}
use Rattle.saved_meaning.specs.of_script_laws.WellFormed.{IsWellFormed}
use Rattle.script_program.specs.Saved.{HasNoSaved}
use Rattle.script_program.specs.Script.{Script}
use Rattle.kept_results.specs.Asked.{asked_nodes}
use Rattle.kept_results.specs.Kept.{AreKept}
use Rattle.kept_results.specs.Lists.{HasMembers, found_of, rows_for_script, kept_table, later_of}
use Rattle.kept_results.proofs.FoundLemmas.{ascend, lists, own, right}
use Rattle.kept_results.proofs.ListLemmas.{kept_are, marks_are, numbers_of}
use Rattle.kept_results.proofs.law.given_law.Goals as goal

meant : (script : Script) (asked : List (ℕ × List ℕ)) (looked : List (Option Saved))
    (rows : List (List Value)) (table : List (Option Collection)) → IsWellFormed script
    → HasNoSaved script
    → map (λ (it : ℕ × List ℕ). it.0) asked ≡ map (λ (it : ℕ × List ℕ). it.0) (asked_nodes script)
    → AreKept script asked looked → Each (HasMembers table) (found_of asked looked)
    → rows_for_script script (found_of asked looked) rows
    ≡ lists_for script (later_of script (found_of asked looked)) rows table
meant script asked looked rows table well unsaved are kept has =
    let found = found_of asked looked in
    let marks = marks_are script (later_of script found) in
    let members =
    kept_are script found table unsaved (ascend script well asked looked are kept)
    (right script well asked looked are kept table has) in
    λ i. marked_ones (marks i) rows ++ sym members i

pub returns-clause-meant : goal.returns-clause-meant
returns-clause-meant c = meant

pub returns-clause-inputs : goal.returns-clause-inputs
returns-clause-inputs c = λ script asked looked rows well unsaved are kept have.
    let found = found_of asked looked in
    let table = kept_table script found in
    let has = own script well asked looked are kept in
    subst (AreInputs (later_of script found))
    (sym (meant script asked looked rows table well unsaved are kept has))
    (c.lists_law.ensures script (numbers_of found) rows table well unsaved have
    (lists script well asked looked are kept table has))
