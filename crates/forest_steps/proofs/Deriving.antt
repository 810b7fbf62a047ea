-- The sides of eithers, one after another.
use Rattle.std.proofs.Common.{◌≡◌, List, [], ◌∷◌, ◌++◌, Option, Some, None, refl, sym, ap, ◌∙◌}
use Rattle.std.specs.Prelude.{filter_map}
use Rattle.std.specs.List.{cons_option}
use Rattle.std.specs.Option.{option_to_list}
use Rattle.std.proofs.lemmas.List.Elements.{filter_map-append}
use Rattle.flume_value.specs.declared.value.Value.{Value}

side_one : (o : Option Value) → option_to_list o ≡ cons_option o []
side_one None = refl
side_one (Some v) = refl

pub sides_on : (f : Value → Option Value) (seen now new : List Value) (x : Value)
    → now ≡ filter_map f seen → new ≡ now ++ option_to_list (f x)
    → new ≡ filter_map f (seen ++ x ∷ [])
sides_on f seen now new x goes e =
    e ∙ ap (λ l. l ++ option_to_list (f x)) goes
    ∙ ap (λ l. filter_map f seen ++ l) (side_one (f x))
    ∙ sym (filter_map-append f seen (x ∷ []))
