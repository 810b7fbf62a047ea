use Rattle.std.proofs.Common.{Bool, List, subst, ap, ◌∙◌}
use Rattle.std.specs.declared.cmp.Ordering.{Ordering}
use Rattle.std.specs.List.{dedup}
use Rattle.std.specs.List.Sorted.{IsSorted, IsPermutation}
use Rattle.std.proofs.lemmas.List.Filters.{dedup_is}
use Rattle.flume_collection.specs.contracts.trap.TrapOrd.TheImpl.{ghosts}
use Rattle.flume_collection.specs.contracts.trap.TrapPartialEq.TheImpl as equality
use Rattle.flume_collection.specs.declared.trap.Trap.{Trap}
use Rattle.flume_collection.proofs.Derived.{derived_cmp-is, derived_eq-is}
use Rattle.flume_collection.proofs.TrapSets.{set_dedup}
use Rattle.flume_collection.proofs.trap.trap_set.Goals as goal

pub returns : goal.returns
returns c =
    let all : List Trap = c.sort.new.self.items in
    let moved : IsPermutation c.args.traps.items all = c.in_ok-sort.ensures.permutation in
    let sorted : IsSorted (ghosts).cmp all = c.in_ok-sort.ensures.sorted in
    dedup_is (equality.ghosts).eq all c.dedup.new.self.items c.dedup.ensures.filtered
    ∙ ap (λ (E : Trap → Trap → Bool). dedup E all) derived_eq-is
    ∙ set_dedup c.args.traps.items all moved
    (subst (λ (R : Trap → Trap → Ordering). IsSorted R all) derived_cmp-is sorted)
