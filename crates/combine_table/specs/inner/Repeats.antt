-- A value before a list, where it is not the list's first.
use Rattle.std.specs.Prelude.{if◌then◌else◌, List, [], ◌∷◌}
use Rattle.flume_value.specs.declared.value.Value.{Value}
use Rattle.flume_value.specs.Equality.{value_eq}

-- v, then the values without a first that is v
abbrev pub once : Value → List Value → List Value
once v [] = v ∷ []
once v (w ∷ ws) = if value_eq w v then v ∷ ws else v ∷ w ∷ ws
