-- What a source is asked for of several files, by the answer.
use Rattle.std.specs.Prelude.{◌≡◌, ℕ, List, [], ◌∷◌, ◌++◌}
use Rattle.outside.specs.Asked.{Asks, AsksFront}
use Rattle.outside.specs.Seen.{SeenSource}
use Rattle.run_texts.specs.declared.status.Status.{Status}
use Rattle.run_texts.specs.declared.status.Status.TheVariants.{InputRefused, ReadFault, WantOfMemory, TooLong, NoFile}

-- of the files of these names, by what is seen of their source before and after
module _ (tries : ℕ) (names : List (List ℕ)) (before after : SeenSource) where
  -- it was asked for those up to the one of this name
  abbrev pub AsksUpTo : List ℕ → Type 0
  AsksUpTo last =
      (front : List (List ℕ)) × (behind : List (List ℕ)) × (names ≡ front ++ last ∷ behind)
      × Asks tries (front ++ last ∷ []) before after

  -- it was asked for those up to the one that the answer names; or, where no memory was found, for
  -- a front of them
  abbrev pub AsksToStop : Status → Type 0
  AsksToStop (InputRefused name row column kind) = AsksUpTo name
  AsksToStop (NoFile name) = AsksUpTo name
  AsksToStop (ReadFault name) = AsksUpTo name
  AsksToStop (TooLong name limit) = AsksUpTo name
  AsksToStop WantOfMemory = AsksFront tries names before after
  AsksToStop status = ⊥
