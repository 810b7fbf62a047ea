-- Whether a value has a type, by one level of both.
use Rattle.std.proofs.Common.{◌≡◌, ◌∙◌}
use Rattle.flume_types.specs.declared.types.Ty.{Ty, Ty-F, out-Ty}
use Rattle.flume_types.specs.Typing.{has_type, layer_has}
use Rattle.flume_types.proofs.TypingLemmas.{has_type-step}
use Rattle.flume_value.specs.declared.value.Value.{Value, Value-F, out-Value}

pub shaped : (v : Value) (t : Ty) (x : Value-F Value) (y : Ty-F Ty) → out-Value v ≡ x
    → out-Ty t ≡ y → has_type v t ≡ layer_has has_type x y
shaped v t x y a b = has_type-step v t ∙ (λ i. layer_has has_type (a i) (b i))
