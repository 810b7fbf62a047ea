use Rattle.std.proofs.Common.{◌+◌, ◌∙◌, codes, refl}
use Rattle.made_rows.proofs.Numbers.{line_more}
use Rattle.made_rows.proofs.text.text_made.Goals as goal

pub loop-turn-preserved : goal.loop-turn-preserved
loop-turn-preserved c =
    c.in_ok-push_line.ensures
    ∙ line_more c.args.start c.loop-turn.turn (c.args.start + c.loop-turn.turn + 1) refl
    (codes "k,v\n") c.loop-turn.text.items c.loop-turn.invariant
