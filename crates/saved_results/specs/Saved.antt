-- What is kept of a collection, as a value.
use Rattle.std.specs.Prelude.{ℕ, ◌^◌, ◌<◌, pos, List, [], ◌∷◌, map}
use Rattle.std.specs.List.{AllByRecursion}
use Rattle.flume_value.specs.declared.value.Value.{Value}
use Rattle.flume_value.specs.declared.value.Value.TheVariants as variant
use Rattle.saved_results.specs.declared.saved.Saved.{Saved}
use Rattle.saved_results.specs.declared.saved.Size.{Size}

-- a size: the name of a collection, and how many members it has
abbrev pub size_value : Size → Value
size_value size = variant.Rec (variant.Text size.name ∷ variant.Wide (pos size.members) ∷ [])

-- the members, and the sizes
abbrev pub saved_value : Saved → Value
saved_value saved =
    variant.Rec (variant.List saved.members ∷ variant.List (map size_value saved.sizes) ∷ [])

-- 64 bits hold each size
abbrev pub AreCounts : Saved → Type 0
AreCounts saved = AllByRecursion (λ size. size.members < 2 ^ 64) saved.sizes
