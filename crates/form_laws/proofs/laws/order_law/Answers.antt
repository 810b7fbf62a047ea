use Rattle.form_laws.proofs.Ordering.{stuck}
use Rattle.form_laws.proofs.Turns.{ordered_in_turn, picks_next}
use Rattle.form_laws.proofs.laws.order_law.Goals as goal

pub returns-clause-next : goal.returns-clause-next
returns-clause-next c = picks_next

pub returns-clause-none : goal.returns-clause-none
returns-clause-none c = stuck

pub returns-clause-in_turn : goal.returns-clause-in_turn
returns-clause-in_turn c = ordered_in_turn
