use Rattle.script_program.specs.Script.{with_given}
use Rattle.script_state.proofs.StateLemmas.{as-seen, state_in}
use Rattle.script_state.proofs.state.State.give.Goals as goal

pub returns-clause-state : goal.returns-clause-state
returns-clause-state c =
    as-seen (λ checking. with_given c.args.first c.args.numbers.now checking.state) c.self.view_is
    (λ i. record (state_in c.self.inside) { names = c.give.ensures i })
