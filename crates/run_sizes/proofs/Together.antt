-- The sizes of collections by their numbers, and of collections together.
use Rattle.std.proofs.Common.{◌≡◌, ℕ, zero, suc, ◌+◌, List, [], ◌∷◌, length, map, Option, Some, None, refl, sym, ap, ◌∙◌, arith, length-append}
use Rattle.std.specs.Prelude.{option_map}
use Rattle.std.specs.List.{flat_map}
use Rattle.flume_collection.specs.Collection.{Collection}
use Rattle.build_law.specs.of_direct_meaning.Direct.{all_made, made_at, size_of}
use Rattle.build_law.proofs.Tables.{and_then_some, map_some}
use Rattle.run_sizes.specs.inner.Along.{kept, size_at, together}

-- the size of a collection, where it is made
abbrev pub sized : Option Collection → Option ℕ
sized made = option_map size_of made

size_made : (table : List (Option Collection)) (number : ℕ) (c : Collection)
    → made_at table number ≡ Some c → size_at (map sized table) number ≡ size_of c
size_made [] number c at = cc
size_made (None ∷ table) zero c at = cc
size_made (Some d ∷ table) zero c at = let same : d ≡ c = cc in ap size_of same
size_made (made ∷ table) (suc number) c at = size_made table number c at

abbrev pub members_in : List Collection → ℕ
members_in cs = length (flat_map (λ c. c.bag) cs)

kept_sum : (a t m : ℕ) → kept t ≡ kept m → kept (kept a + t) ≡ kept (a + m)
kept_sum a t m same = omega (arith, same)

one_more : (c : Collection) (cs : List Collection)
    → members_in (c ∷ cs) ≡ length c.bag + members_in cs
one_more c cs = rw length-append refl

-- collections together have all members of theirs
pub together_sizes : (table : List (Option Collection)) (sources : List ℕ) (cs : List Collection)
    → all_made table sources ≡ Some cs
    → kept (together (map sized table) sources) ≡ kept (members_in cs)
together_sizes table [] cs made = let none : [] ≡ cs = cc in ap (λ l. kept (members_in l)) none
together_sizes table (number ∷ numbers) cs made =
    let (c, at, others) =
    and_then_some (λ c. option_map (λ ds. c ∷ ds) (all_made table numbers)) (made_at table number)
    cs made in
    let (ds, rest, is) = map_some (λ ds. c ∷ ds) (all_made table numbers) cs others in
    ap (λ s. kept (s + together (map sized table) numbers)) (size_made table number c at)
    ∙ (kept_sum (length c.bag) (together (map sized table) numbers) (members_in ds)
    (together_sizes table numbers ds rest)
    ∙ (ap kept (sym (one_more c ds)) ∙ ap (λ l. kept (members_in l)) is))
