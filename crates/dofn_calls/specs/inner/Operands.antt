-- What an operand stands for, and the values in scope.
use Rattle.std.specs.Prelude.{List, [], ◌∷◌}
use Rattle.flume_value.specs.declared.value.Value.{Value}
use Rattle.dofn_calls.specs.declared.operand.Operand.{Operand}
use Rattle.dofn_calls.specs.declared.operand.Operand.TheVariants.{Borrowed, Owned}
use Rattle.dofn_calls.specs.declared.scope.Scope.{Scope}
use Rattle.dofn_calls.specs.declared.scope.Scope.TheVariants.{Empty, Bound', Block'}

abbrev pub content : Operand → Value
content (Borrowed value) = value.now
content (Owned value) = value

-- values that were named one after another in an environment
abbrev pub named : List Value → List Value → List Value
named [] env = env
named (v ∷ vs) env = named vs (v ∷ env)

-- the values in scope, the newest first
abbrev pub values : Scope → List Value
values Empty = []
values (Bound' r p rest) = r.now ∷ values rest
values (Block' r p rest) = named r.now (values rest)
