-- Each pair is in one partition.
use Rattle.std.proofs.Common.{◌≡◌, ◌<◌, ℕ, true, false, cond, Some, None, List, [], ◌∷◌, ◌++◌, refl, ap, ◌∙◌}
use Rattle.std.specs.Prelude.{All, IsSome, IsTrue, option_map, ◌==◌}
use Rattle.std.specs.List.{AllByRecursion as Each, flat_map}
use Rattle.std.specs.Option.{option_map_or}
use Rattle.std.proofs.lemmas.Nat.{mod_below}
use Rattle.std.proofs.lemmas.List.Elements.{All-from_recursion}
use Rattle.flume_value.specs.declared.value.Value.{Value}
use Rattle.flume_value.specs.Bag.{bag_of}
use Rattle.flume_value.specs.Canonical.{canonical}
use Rattle.flume_value.specs.Partitions.{fnv_1a, partition_of}
use Rattle.flume_value.proofs.EachLemmas.{each_from, Each-filter_passes}
use Rattle.bag_groups.specs.Pairs.{IsPair, key_of, parts_of}
use Rattle.shards.specs.Shards.{concatenated}
use Rattle.shards.proofs.Alike.{bag_alike, flat_map-itself}
use Rattle.shards.proofs.Joined.{joined_same, joined_parts}
use Rattle.shuffle_parts.specs.Partitions.{is_in_part, falls_in, pairs_in_part}

pub part_own : (n p : ℕ) (pairs : List Value)
    → All (λ pair. IsTrue (falls_in n p pair)) (pairs_in_part n p pairs)
part_own n p pairs =
    All-from_recursion (λ pair. IsTrue (falls_in n p pair)) (pairs_in_part n p pairs)
    (Each-filter_passes (falls_in n p) pairs)

-- the partition of a pair's key, of n
abbrev number : ℕ → Value → ℕ
number n x = option_map_or (λ k. partition_of k n) (key_of x) 0

number_below : (n : ℕ) → 0 < n → (x : Value) → number n x < n
number_below n some x =
    elim (key_of x) as (λ o. option_map_or (λ k. partition_of k n) o 0 < n) [
      | None ↦ some
      | Some k ↦ mod_below (fnv_1a (canonical k)) n some
    ]

falls_by_number : (n p : ℕ) (x : Value) → IsPair x → falls_in n p x ≡ (number n x == p)
falls_by_number n p x is =
    elim (parts_of x) as
    (λ o. IsSome o → option_map_or (is_in_part n p) (option_map (λ parts. parts.0) o) false
    ≡ (option_map_or (λ k. partition_of k n) (option_map (λ parts. parts.0) o) 0 == p)) [
      | None ↦ λ some. cc some
      | Some q ↦ λ some. refl
    ] is

part_flat : (n p : ℕ) (xs : List Value) → Each IsPair xs
    → pairs_in_part n p xs ≡ flat_map (λ x. cond (number n x == p) (x ∷ []) []) xs
part_flat n p [] e = refl
part_flat n p (x ∷ xs) e =
    ap (λ b. cond b (x ∷ pairs_in_part n p xs) (pairs_in_part n p xs)) (falls_by_number n p x e.0)
    ∙ elim (number n x == p) as
    (λ b. cond b (x ∷ pairs_in_part n p xs) (pairs_in_part n p xs)
    ≡ cond b (x ∷ []) [] ++ flat_map (λ y. cond (number n y == p) (y ∷ []) []) xs) [
      | true ↦ ap (λ l. x ∷ l) (part_flat n p xs e.1)
      | false ↦ part_flat n p xs e.1
    ]

pub parts_whole : (n : ℕ) (pairs : List Value) → 0 < n → All IsPair pairs
    → bag_of (concatenated (λ p. pairs_in_part n p pairs) n) ≡ bag_of pairs
parts_whole n pairs some are =
    let each = each_from IsPair pairs are in
    let by_number = λ (p : ℕ). flat_map (λ x. cond (number n x == p) (x ∷ []) []) pairs in
    ap bag_of (joined_same (λ p. pairs_in_part n p pairs) by_number (λ p. part_flat n p pairs each)
    n)
    ∙ bag_alike (concatenated by_number n) (flat_map (λ x. x ∷ []) pairs)
    (joined_parts (λ x. x ∷ []) (number n) n (number_below n some) pairs)
    ∙ ap bag_of (flat_map-itself pairs)
