-- Where nothing traps an object has one member.
use Rattle.std.proofs.Common.{◌≡◌, ◌-◌, ◌^◌, ℕ, List, [], ◌∷◌, length, min, Option, Some, ap, subst}
use Rattle.std.specs.List.{Contains}
use Rattle.flume_value.specs.declared.value.Value.{Value}
use Rattle.flume_collection.proofs.Members.{at_head, no_members, not_in_none}
use Rattle.flume_collection.proofs.Orders.{trap_order}
use Rattle.flume_collection.specs.Collection.{Collection}
use Rattle.flume_collection.specs.Traps.{trap_le}
use Rattle.flume_collection.specs.declared.trap.Trap.{Trap}
use Rattle.direct_meaning.proofs.KeepLemmas.{among_made}
use Rattle.direct_meaning.proofs.StandLemmas.{all_traps}
use Rattle.direct_meaning.specs.Direct.{made_at, size_of, traps_of}
use Rattle.direct_meaning.specs.Objects.{IsObject, members_behind}

sized : (traps : List Trap) (bag : List Value) → length bag ≡ members_behind traps
    → ((trap : Trap) → Contains traps trap → ⊥) → min (length bag) (2 ^ 64 - 1) ≡ 1
sized [] bag object free = ap (λ (n : ℕ). min n (2 ^ 64 - 1)) object
sized (trap ∷ traps) bag object free = absurd (free trap (at_head trap traps))

pub object_size : (table : List (Option Collection)) (number : ℕ) (c : Collection) → IsObject c
    → made_at table number ≡ Some c → traps_of table ≡ [] → size_of c ≡ 1
object_size table number c object made none =
    let known : all_traps table ≡ [] = no_members trap_le trap_order (all_traps table) none in
    sized c.traps c.bag object
    (λ trap is. not_in_none trap
    (subst (λ (l : List Trap). Contains l trap) known (among_made table number c made trap is)))
