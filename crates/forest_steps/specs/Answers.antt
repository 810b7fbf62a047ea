-- What a step answered, as lists.
use Rattle.std.specs.Prelude.{[], ◌∷◌}
use Rattle.forest_steps.specs.Running.{OutputLists}
use Rattle.forest_steps.specs.declared.emissions.Answer.{Answer}

-- one list of emissions for each output
abbrev pub lists_of : Answer → OutputLists
lists_of (Answer.One value) = (value ∷ []) ∷ []
lists_of (Answer.Pair couple) = (couple ∷ []) ∷ []
lists_of (Answer.Lists lists) = lists.items
