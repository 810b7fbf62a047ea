use Rattle.std.proofs.Common.{◌≡◌, false, is_some, sym, ◌∙◌, subst}
use Rattle.std.specs.Str.{bytes_eq}
use Rattle.indexmap.proofs.CallerLemmas.{insert_entry-new}
use Rattle.body_check.specs.of_written_types.Named.{find}
use Rattle.script_program.specs.Script.{with_output}
use Rattle.script_state.proofs.StateLemmas.{as-seen, none-is, state_in}
use Rattle.script_state.proofs.state.State.add_output.Goals as goal

pub returns-clause-state : goal.returns-clause-state
returns-clause-state c =
    let own = c.self.inside in
    let new =
    subst (λ checking. is_some (find c.args.file checking.state.outputs) ≡ false)
    (sym c.self.view_is) c.requires in
    let put =
    c.in_ok-insert.ensures.entries
    ∙ insert_entry-new bytes_eq own.outputs c.args.file c.args.output (none-is _ new) in
    as-seen (λ checking. with_output c.args.file c.args.output checking.state) c.self.view_is
    (λ i. record (state_in own) { outputs = put i })
