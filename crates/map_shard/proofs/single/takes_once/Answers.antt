use Rattle.std.proofs.Common.{◌+◌, ap, ◌∙◌, sym}
use Rattle.std.specs.Prelude.{◌==◌, not}
use Rattle.std.specs.List.{list_any}
use Rattle.exec_plan.specs.declared.plan.Take.{Take}
use Rattle.map_shard.proofs.Later.{behind}
use Rattle.map_shard.proofs.Singling.{once_here}
use Rattle.map_shard.proofs.single.takes_once.Goals as goal

abbrev no_take : Take
no_take = record { channel = 0; out = 0 }

pub returns-then-take-m : goal.returns-then-take-m
returns-then-take-m c =
    let takes = c.args.takes.now in
    let m = c.args.m in
    let i = c.loop-i.i in
    ap not
    (c.some_of.ensures
    ∙ ap (list_any (λ (o : Take). o.channel == m)) (behind takes (i + 1)))
    ∙ sym (once_here m takes i no_take c.loop-i-test.true c.if-take-m.true c.loop-i.invariant)
