use Rattle.std.proofs.Common.{List, [], ◌∷◌, map, sym, subst}
use Rattle.std.specs.Borrow.{Bor}
use Rattle.std.specs.List.{AllZip}
use Rattle.std.proofs.lemmas.List.{map-append}
use Rattle.flume_value.specs.declared.value.Value.{Value}
use Rattle.partial_tables.specs.Lifted.{IsLifted}
use Rattle.shuffle_parts.specs.Partitions.{in_parts}
use Rattle.shuffle_parts.proofs.combine.lift_referred.Goals as goal

pub lift_one-requires-clause-stands : goal.lift_one-requires-clause-stands
lift_one-requires-clause-stands c =
    (map (λ (pair : Bor Value). pair.now) c.loop-pair.yielded, c.loop-pair.invariant)

pub loop-pair-preserved : goal.loop-pair-preserved
loop-pair-preserved c =
    let told = map (λ (pair : Bor Value). pair.now) c.loop-pair.yielded in
    let parts = c.lift_one.new.parts.items in
    subst (λ (l : List Value). AllZip (IsLifted c.args.comb) parts (in_parts c.args.partitions l))
    (sym (map-append (λ (pair : Bor Value). pair.now) c.loop-pair.yielded (c.in-Some.pair ∷ [])))
    (c.in_ok-lift_one.ensures told c.loop-pair.invariant)
