use Rattle.std.proofs.Common.{arith}
use Rattle.let_check.proofs.TurnLemmas.{seen-next, seen-none}
use Rattle.let_check.proofs.turns.seen.Goals as goal

pub loop-number-init : goal.loop-number-init
loop-number-init c = record {
  from = omega arith;
  seen = seen-none c.args.entering.now c.in_ok-seen.seen.items c.args.start
      c.in_ok-seen.ensures.items;
}

pub loop-number-preserved : goal.loop-number-preserved
loop-number-preserved c = record {
  from = omega (arith, c.loop-number.invariant.from);
  seen = seen-next c.args.entering.now c.loop-number.seen.items c.push.new.self.items c.args.start
      c.loop-number.number c.loop-number.invariant.from c.loop-number.invariant.seen
      c.in_ok-push.ensures.items;
}
