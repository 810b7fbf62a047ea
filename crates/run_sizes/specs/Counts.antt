-- What a run has counted for the collections of a script.
use Rattle.std.specs.Prelude.{◌≡◌, ℕ, List, Option, Some, slice_get}
use Rattle.flume_collection.specs.Collection.{Collection}
use Rattle.script_program.specs.Needed.{made_of}
use Rattle.script_program.specs.Script.{Script}
use Rattle.script_program.specs.declared.made.Made.{Made}
use Rattle.build_law.specs.Means.{HasOwn}
use Rattle.build_law.specs.of_direct_meaning.Direct.{made_at, size_of}

-- By the numbers of collections, the counts have the sizes of those that have calls, groups or
-- combinations of their own.
abbrev pub AreOwnCounts : Script → List (Option Collection) → List ℕ → Type 0
AreOwnCounts script made counts =
    (j : ℕ) (how : Made) (c : Collection) → slice_get (made_of script) j ≡ Some how → HasOwn how
    → made_at made j ≡ Some c → slice_get counts j ≡ Some (size_of c)
