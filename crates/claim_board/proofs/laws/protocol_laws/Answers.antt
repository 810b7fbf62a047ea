use Rattle.claim_board.proofs.Whole.{every_state_is_good, words_stay, each_task_is_won_once, undecided_were_drawn, ended_means_used_up}
use Rattle.claim_board.proofs.Moves.{word_low}
use Rattle.claim_board.proofs.laws.protocol_laws.Goals as goal

pub returns-clause-good : goal.returns-clause-good
returns-clause-good c = every_state_is_good

pub returns-clause-stay : goal.returns-clause-stay
returns-clause-stay c = words_stay

pub returns-clause-once : goal.returns-clause-once
returns-clause-once c = each_task_is_won_once

pub returns-clause-undecided : goal.returns-clause-undecided
returns-clause-undecided c = undecided_were_drawn

pub returns-clause-used_up : goal.returns-clause-used_up
returns-clause-used_up c = ended_means_used_up

pub returns-clause-tries : goal.returns-clause-tries
returns-clause-tries c tasks tries s t h small = word_low tasks tries s t small h
