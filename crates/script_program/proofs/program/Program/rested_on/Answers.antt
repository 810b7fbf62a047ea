use Rattle.std.proofs.Common.{◌≡◌, ◌∷◌, ◌∙◌, [], ap, false, get_or, length, subst}
use Rattle.std.proofs.lemmas.Result.{IfOk-weaker}
use Rattle.script_program.specs.Needed.{read_from}
use Rattle.script_program.specs.Rested.{rests}
use Rattle.script_program.specs.inner.Flags.{AreFlags, held_made}
use Rattle.script_program.proofs.FlagLemmas.{as-many-flags, rests-told}
use Rattle.script_program.proofs.program.Program.rested_on.Goals as goal

pub returns-clause-many : goal.returns-clause-many
returns-clause-many c =
    let own = c.self.inside in
    IfOk-weaker c.rested.result _ _
    (λ flags many.
    subst (λ program. length flags.items ≡ length program.script.nodes) c.self.view_is
    (as-many-flags own.known own.functions.entries own.nodes own.outputs.entries flags.items
    (many ∙ ap length c.as_slice.ensures)))
    c.rested.ensures.many

pub returns-clause-told : goal.returns-clause-told
returns-clause-told c =
    let own = c.self.inside in
    IfOk-weaker c.rested.result _ _
    (λ flags told n within.
    subst (λ program. get_or flags.items n false ≡ rests program.script c.args.asked n)
    c.self.view_is
    (rests-told own.known own.functions.entries own.nodes own.outputs.entries c.args.asked
    flags.items
    (subst
    (λ nodes. AreFlags (read_from (c.args.asked ∷ []) 0 (held_made nodes)) flags.items)
    c.as_slice.ensures told) n within))
    c.rested.ensures.told
