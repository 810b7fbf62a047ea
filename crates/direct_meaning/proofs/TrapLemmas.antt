-- Sets of traps, and whether there are any.
use Rattle.std.proofs.Common.{◌≡◌, false, ◌||◌, List, [], ◌∷◌, ◌++◌, refl, sym, ap, ◌∙◌, ⊎_elim}
use Rattle.std.specs.List.{Contains}
use Rattle.std.proofs.lemmas.List.Elements.{Contains-append_left, Contains-append_right, Contains-append_cases}
use Rattle.flume_value.specs.declared.value.Value.{Value}
use Rattle.flume_collection.proofs.Members.{no_members, one_set, same_set, set_known, set_sum}
use Rattle.flume_collection.proofs.Orders.{trap_order}
use Rattle.flume_collection.specs.Collection.{unless_trapped}
use Rattle.flume_collection.specs.Traps.{trap_le, trap_set}
use Rattle.flume_collection.specs.declared.trap.Trap.{Trap}
use Rattle.direct_meaning.specs.inner.Kept.{has_traps, unless_behind}

-- ---- whether there are traps

pub traps-append : (xs ys : List Trap) → has_traps (xs ++ ys) ≡ (has_traps xs || has_traps ys)
traps-append [] ys = refl
traps-append (x ∷ xs) ys = refl

no_traps : (traps : List Trap) → traps ≡ [] → has_traps traps ≡ false
no_traps traps none = ap has_traps none

has-set : (traps set : List Trap) → trap_set traps ≡ set → has_traps set ≡ has_traps traps
has-set [] set is = ap has_traps (sym is)
has-set (trap ∷ traps) [] is =
    let none : trap ∷ traps ≡ [] = no_members trap_le trap_order (trap ∷ traps) is in
    sym (no_traps (trap ∷ traps) none)
has-set (trap ∷ traps) (first ∷ set) is = refl

pub traps-set : (traps : List Trap) → has_traps (trap_set traps) ≡ has_traps traps
traps-set traps = has-set traps (trap_set traps) refl

pub unless-same : (traps : List Trap) (bag : List Value)
    → unless_behind (has_traps traps) bag ≡ unless_trapped traps bag
unless-same [] bag = refl
unless-same (trap ∷ traps) bag = refl

-- ---- traps that are known

-- each of the second is among the first
abbrev pub AreAmong : List Trap → List Trap → Type 0
AreAmong known traps = (trap : Trap) → Contains traps trap → Contains known trap

pub among-append : (known xs ys : List Trap) → AreAmong known xs → AreAmong known ys
    → AreAmong known (xs ++ ys)
among-append known xs ys first second trap is =
    ⊎_elim (first trap) (second trap) (Contains-append_cases xs ys trap is)

among_front : (known more traps : List Trap) → AreAmong known traps
    → AreAmong (known ++ more) traps
among_front known more traps among trap is =
    Contains-append_left known more trap (among trap is)

-- own traps behind known ones and a set of known and own: the known ones of the set add nothing
pub absorbed : (known behind own : List Trap) → AreAmong known behind
    → trap_set (known ++ trap_set (behind ++ own)) ≡ trap_set (known ++ own)
absorbed known behind own among =
    let fewer : (trap : Trap) → Contains (known ++ (behind ++ own)) trap
    → Contains (known ++ own) trap =
    λ trap is. ⊎_elim (Contains-append_left known own trap)
    (λ rest. ⊎_elim (among_front known own behind among trap) (Contains-append_right known own trap)
    (Contains-append_cases behind own trap rest))
    (Contains-append_cases known (behind ++ own) trap is) in
    let more : (trap : Trap) → Contains (known ++ own) trap
    → Contains (known ++ (behind ++ own)) trap =
    λ trap is. ⊎_elim (Contains-append_left known (behind ++ own) trap)
    (λ last. Contains-append_right known (behind ++ own) trap
    (Contains-append_right behind own trap last))
    (Contains-append_cases known own trap is) in
    set_sum trap_le trap_order known (behind ++ own)
    ∙ same_set trap_le trap_order (known ++ (behind ++ own)) (known ++ own)
    (λ trap. (fewer trap, more trap))

-- traps that are all known add nothing
pub known_all : (known behind : List Trap) → AreAmong known behind
    → trap_set (known ++ behind) ≡ trap_set known
known_all known behind among = set_known trap_le trap_order known behind among

-- one set in place of another, before others
pub same_front : (xs ys own : List Trap) → trap_set xs ≡ trap_set ys
    → trap_set (xs ++ own) ≡ trap_set (ys ++ own)
same_front xs ys own same =
    same_set trap_le trap_order (xs ++ own) (ys ++ own) (λ trap. (
      λ is. ⊎_elim
          (λ first. Contains-append_left ys own trap
          ((one_set trap_le trap_order xs ys same trap).0 first))
          (Contains-append_right ys own trap) (Contains-append_cases xs own trap is),
      λ is. ⊎_elim
          (λ first. Contains-append_left xs own trap
          ((one_set trap_le trap_order xs ys same trap).1 first))
          (Contains-append_right xs own trap) (Contains-append_cases ys own trap is),
    ))
