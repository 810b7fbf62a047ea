-- What is there is read, and nothing else.
use Rattle.std.proofs.Common.{◌≡◌, ℕ, zero, suc, ◌<◌, List, [], ◌∷◌, length, map, Option, Some, None, slice_get, refl, ap, arith}
use Rattle.std.specs.Prelude.{IsSome, filter_map, unwrap_or}
use Rattle.std.specs.List.{All, AllByRecursion as Each, cons_option}
use Rattle.flume_value.specs.declared.value.Value.{Value}
use Rattle.flume_value.proofs.EachLemmas.{each_from}
use Rattle.flume_collection.specs.Calls.{or_none}

pub there : (outputs : List (List Value)) (at : ℕ) → at < length outputs
    → slice_get outputs at ≡ Some (or_none (slice_get outputs at))
there [] at below = absurd (omega arith)
there (values ∷ outputs) zero below = refl
there (values ∷ outputs) (suc at) below = there outputs at (omega arith)

module _ {A B : Type 0} (f : A → Option B) where
  first_found : (o : Option B) (ys : List B) (zs : List (Option B)) → IsSome o
      → map (λ y. Some y) ys ≡ zs → map (λ y. Some y) (cons_option o ys) ≡ o ∷ zs
  first_found None ys zs some rest = cc some
  first_found (Some y) ys zs some rest = ap (λ l. Some y ∷ l) rest

  each_found : (xs : List A) → Each (λ x. IsSome (f x)) xs
      → map (λ y. Some y) (filter_map f xs) ≡ map f xs
  each_found [] each = refl
  each_found (x ∷ xs) each =
      first_found (f x) (filter_map f xs) (map f xs) each.0 (each_found xs each.1)

  -- of members each of which has something it is found of each, in order
  pub all_found : (xs : List A) → All (λ x. IsSome (f x)) xs
      → map (λ y. Some y) (filter_map f xs) ≡ map f xs
  all_found xs all = each_found xs (each_from (λ x. IsSome (f x)) xs all)

pub known : {A : Type 0} (o : Option A) (other : A) → IsSome o → o ≡ Some (unwrap_or o other)
known None other some = cc some
known (Some x) other some = refl
