-- What functions take by their signatures.
use Rattle.std.specs.Prelude.{ℕ, [], ◌∷◌, Option, Some, None}
use Rattle.flume_value.specs.declared.value.Value.{Value}
use Rattle.flume_value.specs.declared.value.Value.TheVariants as value
use Rattle.flume_types.specs.Typing.{Has}
use Rattle.exec_graph.specs.Typing.{Signatures}

-- function f takes the value, by its signature
abbrev pub Takes : Signatures → ℕ → Value → Type 0
Takes s f x = Has (s.takes f) x

-- what functions may be called on beside a value: the record of it and that value is taken
abbrev pub taking : Option Value → (ℕ → Value → Type 0) → ℕ → Value → Type 0
taking None takes = takes
taking (Some v) takes = λ f x. takes f (value.Rec (x ∷ (v ∷ [])))
