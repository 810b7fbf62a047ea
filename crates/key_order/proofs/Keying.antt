-- A pair's key and its value.
use Rattle.std.proofs.Common.{◌≡◌, Some, None, sym, ap, refl, ◌∙◌}
use Rattle.std.specs.Prelude.{IsSome, option_map}
use Rattle.std.specs.Option.{option_map_or}
use Rattle.flume_value.specs.declared.value.Value.{Value}
use Rattle.bag_groups.specs.Pairs.{IsPair, key_of, pair, parts_of, value_of}
use Rattle.bag_groups.proofs.PairLemmas.{key_of-pair, parts_of-pair}
use Rattle.key_order.specs.inner.Numbered.{key_in}

pub value_of-pair : (k v : Value) → value_of (pair k v) ≡ Some v
value_of-pair k v = ap (λ o. option_map (λ parts. parts.1) o) (parts_of-pair k v)

-- the key that the pair is known to have
pub key_in-keyed : (x k : Value) → key_of x ≡ Some k → key_in x ≡ k
key_in-keyed x k e = ap (λ o. option_map_or (λ key. key) o x) e

pub key_in-made : (k v x : Value) → pair k v ≡ x → k ≡ key_in x
key_in-made k v x made = sym (key_in-keyed x k (ap key_of (sym made) ∙ key_of-pair k v))

pub is_keyed : (x : Value) → IsPair x → key_of x ≡ Some (key_in x)
is_keyed x is =
    elim (parts_of x) as
    (λ o. IsSome o → option_map (λ parts. parts.0) o
    ≡ Some (option_map_or (λ key. key) (option_map (λ parts. parts.0) o) x)) [
      | None ↦ λ some. cc some
      | Some q ↦ λ some. refl
    ] is
