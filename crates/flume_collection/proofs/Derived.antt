-- The derived comparison of traps is their order.
use Rattle.std.proofs.Common.{◌≡◌, refl, ◌∙◌, ap}
use Rattle.std.specs.Ordering.{eq_by_cmp, is_eq, nat_cmp, ordering_then}
use Rattle.flume_value.specs.declared.fault.Kind.{Kind}
use Rattle.flume_value.specs.declared.fault.Kind.TheVariants.{Overflow, DivideByZero, BadIndex, BadNumber, NotOne}
use Rattle.flume_value.specs.contracts.fault.KindOrd.TheImpl as kinds
use Rattle.flume_value.proofs.OrderLemmas.{derived_cmp-value_cmp}
use Rattle.flume_collection.specs.contracts.trap.TrapOrd.TheImpl.{ghosts}
use Rattle.flume_collection.specs.contracts.trap.TrapOrd.TheImpl.Laws.{matches_eq-law}
use Rattle.flume_collection.specs.contracts.trap.TrapPartialEq.TheImpl as equality
use Rattle.flume_collection.specs.declared.trap.Trap.{Trap}
use Rattle.flume_collection.specs.Traps.{kind_place, trap_cmp}

derived_kind : (a b : Kind) → (kinds.ghosts).cmp a b ≡ nat_cmp (kind_place a) (kind_place b)
derived_kind Overflow Overflow = refl
derived_kind Overflow DivideByZero = refl
derived_kind Overflow BadIndex = refl
derived_kind Overflow BadNumber = refl
derived_kind Overflow NotOne = refl
derived_kind DivideByZero Overflow = refl
derived_kind DivideByZero DivideByZero = refl
derived_kind DivideByZero BadIndex = refl
derived_kind DivideByZero BadNumber = refl
derived_kind DivideByZero NotOne = refl
derived_kind BadIndex Overflow = refl
derived_kind BadIndex DivideByZero = refl
derived_kind BadIndex BadIndex = refl
derived_kind BadIndex BadNumber = refl
derived_kind BadIndex NotOne = refl
derived_kind BadNumber Overflow = refl
derived_kind BadNumber DivideByZero = refl
derived_kind BadNumber BadIndex = refl
derived_kind BadNumber BadNumber = refl
derived_kind BadNumber NotOne = refl
derived_kind NotOne Overflow = refl
derived_kind NotOne DivideByZero = refl
derived_kind NotOne BadIndex = refl
derived_kind NotOne BadNumber = refl
derived_kind NotOne NotOne = refl

derived_cmp : (a b : Trap) → (ghosts).cmp a b ≡ trap_cmp a b
derived_cmp a b =
    ap (ordering_then (nat_cmp a.origin b.origin))
    (λ i. ordering_then (derived_cmp-value_cmp a.element b.element i)
    (derived_kind a.kind b.kind i))

pub derived_cmp-is : (ghosts).cmp ≡ trap_cmp
derived_cmp-is = λ i a b. derived_cmp a b i

derived_eq : (a b : Trap) → (equality.ghosts).eq a b ≡ eq_by_cmp trap_cmp a b
derived_eq a b = matches_eq-law a b ∙ ap is_eq (derived_cmp a b)

pub derived_eq-is : (equality.ghosts).eq ≡ eq_by_cmp trap_cmp
derived_eq-is = λ i a b. derived_eq a b i
