use Rattle.std.proofs.Common.{List, [], ◌∷◌, map, sym, subst}
use Rattle.std.specs.Borrow.{Bor}
use Rattle.std.proofs.lemmas.List.{map-append}
use Rattle.flume_value.specs.declared.value.Value.{Value}
use Rattle.partial_tables.specs.Lifted.{IsLifted}
use Rattle.partial_tables.proofs.lift.lift_each.Goals as goal

pub loop-pair-preserved : goal.loop-pair-preserved
loop-pair-preserved c =
    subst (λ (l : List Value). IsLifted c.args.comb c.put.new.self l)
    (sym (map-append (λ (p : Bor Value). p.now) c.loop-pair.yielded (c.in-Some.pair ∷ [])))
    (c.in_ok-put.ensures (map (λ (p : Bor Value). p.now) c.loop-pair.yielded)
    c.loop-pair.invariant)
