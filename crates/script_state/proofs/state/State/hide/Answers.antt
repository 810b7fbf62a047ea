use Rattle.std.proofs.Common.{◌≡◌, ◌++◌, ◌∷◌, [], false, is_some, sym, ◌∙◌, subst}
use Rattle.std.specs.Str.{bytes_eq}
use Rattle.indexmap.proofs.CallerLemmas.{insert_entry-new}
use Rattle.body_check.specs.of_written_types.Named.{find}
use Rattle.script_program.specs.declared.made.Standing.TheVariants.{Hidden}
use Rattle.script_program.specs.Script.{with_standing}
use Rattle.script_state.proofs.StateLemmas.{as-seen, none-is, state_in}
use Rattle.script_state.proofs.state.State.hide.Goals as goal

pub returns-clause-state : goal.returns-clause-state
returns-clause-state c =
    let own = c.self.inside in
    let new =
    subst (λ checking. is_some (find c.args.name.now checking.state.names) ≡ false)
    (sym c.self.view_is) c.requires in
    let key = c.in_ok-key.ensures.made in
    let absent =
    subst (λ name. is_some (find name own.names.entries) ≡ false) (sym key) new in
    let put =
    c.in_ok-insert.ensures.entries
    ∙ insert_entry-new bytes_eq own.names c.in_ok-key.key Hidden (none-is _ absent) in
    let names = put ∙ (λ j. own.names.entries ++ (key j, Hidden) ∷ []) in
    as-seen (λ checking. with_standing c.args.name.now Hidden checking.state) c.self.view_is
    (λ i. record (state_in own) { names = names i })
