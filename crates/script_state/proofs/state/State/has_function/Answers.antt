use Rattle.std.proofs.Common.{◌≡◌, is_some, sym, ◌∙◌, subst}
use Rattle.body_check.specs.of_written_types.Named.{find}
use Rattle.script_program.specs.Program.{function_in}
use Rattle.script_state.proofs.StateLemmas.{has-mapped}
use Rattle.script_state.proofs.state.State.has_function.Goals as goal

pub returns : goal.returns
returns c =
    let own = c.self.inside in
    subst
    (λ checking. c.contains_key.result
    ≡ is_some (find c.args.name.now checking.state.functions))
    c.self.view_is
    (c.contains_key.ensures
    ∙ sym (has-mapped (function_in own.known) c.args.name.now own.functions.entries))
