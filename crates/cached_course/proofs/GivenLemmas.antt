-- What is given to a run that has looked for what was kept.
use Rattle.std.proofs.Common.{◌≡◌, ◌∙◌, ◌<◌, ℕ, List, [], ◌∷◌, length, sym, ap, subst, arith}
use Rattle.std.specs.Prelude.{All, Option}
use Rattle.std.specs.List.{AllByRecursion as Each, flat_map}
use Rattle.std.proofs.lemmas.List.Elements.{All-from_recursion}
use Rattle.flume_value.proofs.EachLemmas.{Each-append}
use Rattle.flume_value.specs.declared.value.Value.{Value}
use Rattle.kept_results.specs.Asked.{asked_nodes}
use Rattle.kept_results.specs.Keyed.{keyed_nodes}
use Rattle.kept_results.specs.Lists.{found_of, rows_given, rows_for_script, input_numbers, later_of, number_of_input}
use Rattle.kept_results.specs.Sizes.{nodes_needed}
use Rattle.kept_results.specs.of_direct_meaning.Inputs.{AreInputs}
use Rattle.kept_results.proofs.FoundLemmas.{firsts}
use Rattle.outside.specs.declared.file.File.{File}
use Rattle.saved_results.specs.declared.saved.Saved.{Saved}
use Rattle.script_keys.specs.declared.outline.Outline.{Outline}
use Rattle.script_program.specs.Needed.{is_needed, needed_nodes}
use Rattle.script_program.specs.Saved.{with_saved}
use Rattle.script_program.specs.Script.{Node, Script}
use Rattle.script_program.specs.declared.made.Made.{Made}
use Rattle.script_program.specs.declared.made.Made.TheVariants as made
use Rattle.cache_store.specs.Seen.{SeenCache}
use Rattle.cached_course.specs.Looked.{WereLooked, not_found}
use Rattle.cached_course.specs.declared.found.Found.{Found as Apart}
use Rattle.cached_course.specs.declared.saving.Given.{Given}
use Rattle.cached_course.specs.inner.Course.{WasGiven}
use Rattle.cached_course.specs.inner.Found.{IsApart}
use Rattle.cached_course.specs.inner.Missing.{AreMissing}
use Rattle.cached_course.proofs.AskedLemmas.{same_firsts}
use Rattle.cached_course.proofs.SizedLemmas.{picked}
use Rattle.cached_course.proofs.SoundLemmas.{saved_length}

-- ---- numbers of inputs

one_input : (n most : ℕ) (how : Made) → n < most
    → Each (λ (k : ℕ). k < most) (number_of_input n how)
one_input n most (made.Input file columns) below = (below, tt)
one_input n most (made.Do source called output) below = tt
one_input n most (made.Group source) below = tt
one_input n most (made.Combine source by) below = tt
one_input n most (made.Flatten sources) below = tt
one_input n most (made.Count source) below = tt
one_input n most (made.Join left right_) below = tt
one_input n most (made.Top many source) below = tt
one_input n most (made.CombineAll source by) below = tt
one_input n most (made.Operate objects called) below = tt
one_input n most (made.DoWith source called object) below = tt
one_input n most (made.Saved is_object call) below = tt

each_input : (most : ℕ) (xs : List (ℕ × (List ℕ × Node)))
    → Each (λ (it : ℕ × (List ℕ × Node)). it.0 < most) xs
    → Each (λ (k : ℕ). k < most)
    (flat_map (λ (it : ℕ × (List ℕ × Node)). number_of_input it.0 it.1.1.made) xs)
each_input most [] below = tt
each_input most (it ∷ xs) below =
    Each-append (λ (k : ℕ). k < most) (number_of_input it.0 it.1.1.made)
    (flat_map (λ (x : ℕ × (List ℕ × Node)). number_of_input x.0 x.1.1.made) xs)
    (one_input it.0 most it.1.1.made below.0) (each_input most xs below.1)

-- each is the number of a collection, also where some are kept
pub inputs_below : (script later : Script) (numbers found : List ℕ)
    → numbers ≡ input_numbers script → later ≡ with_saved found script
    → All (λ (n : ℕ). n < length later.nodes) numbers
inputs_below script later numbers found are same =
    let size : length later.nodes ≡ length script.nodes
    = ap (λ (s : Script). length s.nodes) same ∙ saved_length found 0 script.nodes in
    All-from_recursion (λ (n : ℕ). n < length later.nodes) numbers
    (subst (λ (l : List ℕ). Each (λ (n : ℕ). n < length later.nodes) l) (sym are)
    (subst (λ (most : ℕ). Each (λ (n : ℕ). n < most) (input_numbers script)) (sym size)
    (each_input (length script.nodes) (needed_nodes script)
    (picked (is_needed script) (λ n. n < length script.nodes) script.nodes 0
    (λ n low high needed. omega (arith, high))))))

-- ---- what is given

-- what is asked for has the numbers of the collections that outputs read
pub asked_firsts : (script : Script) (outlines : List Outline) (texts : List (List ℕ))
    (files : List File) (asked : List (ℕ × List ℕ))
    → asked ≡ keyed_nodes outlines texts files script
    → firsts asked ≡ firsts (asked_nodes script)
asked_firsts script outlines texts files asked are =
    ap firsts are ∙ same_firsts script outlines texts files

module _ (script : Script) (asked : List (ℕ × List ℕ)) (looked : List (Option Saved))
    (rows : List (List Value)) (apart : Apart) (later : Script) (numbers : List ℕ)
    (lists : List (List Value))
    (found : IsApart script (found_of asked looked) apart)
    (program : later ≡ with_saved apart.numbers.items script)
    (are : numbers ≡ input_numbers script)
    (given : lists ≡ rows_given later numbers rows apart.members.items) where
  script_given : later ≡ later_of script (found_of asked looked)
  script_given = program ∙ ap (λ l. with_saved l script) found.numbers

  lists_given : lists ≡ rows_for_script script (found_of asked looked) rows
  lists_given = given ∙ (λ i. rows_given (script_given i) (are i) rows (found.members i))

  pub inputs_given : AreInputs (later_of script (found_of asked looked))
      (rows_for_script script (found_of asked looked) rows)
      → AreInputs later lists
  inputs_given have =
      subst (λ (s : Script). AreInputs s lists) (sym script_given)
      (subst (λ (l : List (List Value)). AreInputs (later_of script (found_of asked looked)) l)
      (sym lists_given) have)

pub was_given : (script : Script) (asked keyed : List (ℕ × List ℕ))
    (looked : List (Option Saved)) (rows : List (List Value)) (cache after : SeenCache)
    (apart : Apart) (numbers : List ℕ) (given : Given) → asked ≡ keyed
    → WereLooked script asked looked cache after
    → IsApart script (found_of asked looked) apart
    → AreMissing script (not_found asked looked) given.missing.items
    → given.program.script ≡ with_saved apart.numbers.items script
    → numbers ≡ input_numbers script
    → given.lists ≡ rows_given given.program.script numbers rows apart.members.items
    → given.known.items ≡ apart.known.items → given.needed.items ≡ nodes_needed script
    → WasGiven script keyed rows cache after given
was_given script asked keyed looked rows cache after apart numbers given same was found missing
    program are lists known needed =
    subst (λ (l : List (ℕ × List ℕ)). WasGiven script l rows cache after given) same
    (record {
      looked = looked;
      was = was;
      program = script_given script asked looked rows apart given.program.script numbers
          given.lists found program are lists;
      lists = lists_given script asked looked rows apart given.program.script numbers given.lists
          found program are lists;
      known = known ∙ found.known;
      missing = missing;
      needed = needed;
    })
