-- Sizes that are read from the last to the first, as a loop does.
use Rattle.std.proofs.Common.{◌≡◌, List, [], ◌∷◌, ◌++◌, Option, Some, None, option_and_then, refl, sym, ap, ◌∙◌}
use Rattle.std.specs.Option.{option_map}
use Rattle.std.specs.Prelude.{reverse}
use Rattle.std.proofs.lemmas.List.{append-nil}
use Rattle.flume_value.specs.declared.value.Value.{Value}
use Rattle.saved_results.specs.declared.saved.Size.{Size}
use Rattle.saved_results.specs.Forms.{size_in_value, sizes_in_values}

-- the sizes of these values, and those behind them
abbrev pub before : List Value → List Size → Option (List Size)
before values behind = option_map (λ sizes. sizes ++ behind) (sizes_in_values values)

turned : (first : Option Size) (others : Option (List Size)) (behind : List Size)
    → option_map (λ sizes. sizes ++ behind)
    (option_and_then (λ size. option_map (λ sizes. size ∷ sizes) others) first)
    ≡ option_and_then (λ size. option_map (λ sizes. size ∷ sizes)
    (option_map (λ sizes. sizes ++ behind) others)) first
turned None others behind = refl
turned (Some size) None behind = refl
turned (Some size) (Some sizes) behind = refl

pub one_more : (values : List Value) (value : Value) (size : Size) (behind : List Size)
    → size_in_value value ≡ Some size
    → before (values ++ value ∷ []) behind ≡ before values (size ∷ behind)
one_more [] value size behind e =
    ap (λ o. option_map (λ sizes. sizes ++ behind)
    (option_and_then (λ s. option_map (λ sizes. s ∷ sizes) (Some [])) o)) e
one_more (v ∷ values) value size behind e =
    turned (size_in_value v) (sizes_in_values (values ++ value ∷ [])) behind
    ∙ ap (λ o. option_and_then (λ s. option_map (λ sizes. s ∷ sizes) o) (size_in_value v))
    (one_more values value size behind e)
    ∙ sym (turned (size_in_value v) (sizes_in_values values) (size ∷ behind))

pub none_more : (values : List Value) (value : Value) (behind : List Size)
    → size_in_value value ≡ None → before (values ++ value ∷ []) behind ≡ None
none_more [] value behind e =
    ap (λ o. option_map (λ sizes. sizes ++ behind)
    (option_and_then (λ s. option_map (λ sizes. s ∷ sizes) (Some [])) o)) e
none_more (v ∷ values) value behind e =
    turned (size_in_value v) (sizes_in_values (values ++ value ∷ [])) behind
    ∙ ap (λ o. option_and_then (λ s. option_map (λ sizes. s ∷ sizes) o) (size_in_value v))
    (none_more values value behind e)
    ∙ nothing (size_in_value v)
  where
    nothing : (first : Option Size)
        → option_and_then (λ s. option_map (λ sizes. s ∷ sizes) None) first ≡ None
    nothing None = refl
    nothing (Some s) = refl
