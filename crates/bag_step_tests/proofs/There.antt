-- The outs that are made by hand have what is gathered of them.
use Rattle.std.proofs.Common.{◌≡◌, ◌<◌, ℕ, Option, Some, None, List, [], ◌∷◌, ◌++◌, refl, sym, subst}
use Rattle.std.specs.Prelude.{IsSome, option_and_then, option_map, slice_get}
use Rattle.flume_value.specs.declared.value.Value.{Value}
use Rattle.shuffle_parts.specs.declared.out.Sent.{Sent}
use Rattle.shuffle_parts.specs.declared.out.Sent.TheVariants.{Grouped}
use Rattle.shuffle_parts.specs.Outs.{all_found, pairs_in}
use Rattle.shuffle_parts.specs.Partitions.{pairs_in_part, in_parts}
use Rattle.shuffle_parts.proofs.Ranged.{get_ranged}

pub parted_there : (n p : ℕ) (pairs : List Value) (parts : List (List Value))
    (sent rest : List Sent) → sent ≡ Grouped parts ∷ rest → parts ≡ in_parts n pairs → p < n
    → IsSome (option_and_then (pairs_in p) (slice_get sent 0))
parted_there n p pairs parts sent rest e made below =
    let got = get_ranged (λ q. pairs_in_part n q pairs) 0 n p below in
    subst (λ (s : List Sent). IsSome (option_and_then (pairs_in p) (slice_get s 0))) (sym e)
    (subst (λ (ps : List (List Value)). IsSome (slice_get ps p)) (sym made)
    (subst IsSome (sym got) refl))

module _ {X Y : Type 0} (f : X → Option (List Y)) (x y : X) where
  by : (a b : Option (List Y)) → IsSome a → IsSome b
      → IsSome (option_and_then (λ one. option_map (λ more. one ++ more)
      (option_and_then (λ other. option_map (λ more. other ++ more) (Some [])) b)) a)
  by None b one other = cc one
  by (Some one) None some other = cc other
  by (Some one) (Some other) some more = refl

  pub both_there : (xs : List X) → xs ≡ x ∷ y ∷ [] → IsSome (f x) → IsSome (f y)
      → IsSome (all_found f xs)
  both_there xs e one other =
      subst (λ (l : List X). IsSome (all_found f l)) (sym e) (by (f x) (f y) one other)
