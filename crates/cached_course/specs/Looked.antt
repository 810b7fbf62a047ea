-- What a run looks for in a cache, and what it finds.
use Rattle.std.specs.Prelude.{◌≡◌, ◌++◌, ℕ, List, [], ◌∷◌, Option, Some, None, IfSome}
use Rattle.std.specs.List.{AllByRecursion}
use Rattle.cache_store.specs.Seen.{SeenCache}
use Rattle.key_meaning.specs.Keyed.{HasKeyLength}
use Rattle.kept_results.specs.of_direct_meaning.Inputs.{inputs_of}
use Rattle.kept_results.specs.Keyed.{keyed_nodes}
use Rattle.kept_results.specs.Kept.{AreFound, AreKept, FindsEach, FindsUnlessFailed}
use Rattle.keyed_loading.specs.Files.{AreFilesOf}
use Rattle.keyed_loading.specs.Keyed.{LoadsKeyed}
use Rattle.outside.specs.Cause.{Rose}
use Rattle.outside.specs.declared.file.File.{File}
use Rattle.saved_results.specs.declared.saved.Saved.{Saved}
use Rattle.script_keys.specs.declared.outline.Outline.{Outline}
use Rattle.script_program.specs.Script.{Script}

-- The collections that outputs of the script of this file read, by number and key: the keys are
-- over the files of the inputs that it needs.
pub record AreKeyedOutputs (told : Option (List File)) (name : List ℕ) (script : Script)
    (asked : List (ℕ × List ℕ)) : Type 0 where
  pub outlines : List Outline
  pub texts : List (List ℕ)
  pub loaded : LoadsKeyed told name script outlines texts
  pub files : List File
  pub inputs : AreFilesOf told (inputs_of script) files
  pub keyed : asked ≡ keyed_nodes outlines texts files script
  -- what a key is made of is in memory: 64 bits hold each length
  pub texts_short : AllByRecursion HasKeyLength texts
  pub names_short : AllByRecursion (λ output. HasKeyLength output.1.name) script.outputs

-- What was found of each: nothing but what may be kept of it and stands under its key; and just
-- that, where the cache did not fail, and else for all but as many as it failed for.
pub record WereLooked (script : Script) (asked : List (ℕ × List ℕ)) (looked : List (Option Saved))
    (before after : SeenCache) : Type 0 where
  pub kept : AreKept script asked looked
  pub found : IfSome before.entries (λ entries. AreFound script entries asked looked)
  pub finds : IfSome before.entries (λ entries. (Rose before.faults after.faults → ⊥) →
      FindsEach script entries asked looked)
  pub failed : IfSome before.entries (λ entries.
      FindsUnlessFailed before.faults after.faults script entries asked looked)

-- one that is asked for, where nothing was found of it
abbrev pub missing_as : ℕ × List ℕ → Option Saved → List (ℕ × List ℕ)
missing_as it (Some saved) = []
missing_as it None = it ∷ []

-- those of what is asked for of which nothing was found, by number and key
abbrev pub not_found : List (ℕ × List ℕ) → List (Option Saved) → List (ℕ × List ℕ)
not_found [] looked = []
not_found (it ∷ asked) [] = []
not_found (it ∷ asked) (found ∷ looked) = missing_as it found ++ not_found asked looked
