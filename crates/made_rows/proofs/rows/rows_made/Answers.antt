use Rattle.std.proofs.Common.{◌+◌, ◌++◌, ◌∷◌, ◌∙◌, [], ap, refl}
use Rattle.made_rows.proofs.Numbers.{row_more}
use Rattle.made_rows.proofs.rows.rows_made.Goals as goal

pub loop-turn-preserved : goal.loop-turn-preserved
loop-turn-preserved c =
    c.in_ok-push.ensures.items
    ∙ (ap (λ v. c.loop-turn.items.items ++ v ∷ []) c.in_ok-row.ensures
    ∙ row_more c.args.start c.loop-turn.turn (c.args.start + c.loop-turn.turn + 1) refl
    c.loop-turn.items.items c.loop-turn.invariant)
