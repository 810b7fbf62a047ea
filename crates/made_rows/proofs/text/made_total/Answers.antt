use Rattle.std.proofs.Common.{arith, rules}
use Rattle.made_rows.proofs.Numbers.{sum_more}
use Rattle.made_rows.proofs.text.made_total.Goals as goal

pub loop-turn-preserved : goal.loop-turn-preserved
loop-turn-preserved c = record {
  so_far = sum_more c.args.start c.loop-turn.turn c.from-total.result (search rules)
      c.loop-turn.total c.loop-turn.invariant.so_far;
  small = grind (arith, c.loop-turn.invariant.small);
}
