use Rattle.claim_board.proofs.Stepping.{draw_steps, look_steps, win_steps, lose_steps, make_steps, join_steps}
use Rattle.claim_board.proofs.steps.board_steps.Goals as goal

pub returns-clause-draw : goal.returns-clause-draw
returns-clause-draw c = draw_steps

pub returns-clause-look : goal.returns-clause-look
returns-clause-look c = look_steps

pub returns-clause-win : goal.returns-clause-win
returns-clause-win c = win_steps

pub returns-clause-lose : goal.returns-clause-lose
returns-clause-lose c = lose_steps

pub returns-clause-make : goal.returns-clause-make
returns-clause-make c = make_steps

pub returns-clause-join : goal.returns-clause-join
returns-clause-join c = join_steps
