use Rattle.std.proofs.Common.{◌++◌, ◌∷◌, [], Ok, map, sym, ap, ◌∙◌}
use Rattle.type_table.specs.Table.{type_at}
use Rattle.operation_check.specs.of_written_types.Answer.{◌>>=◌}
use Rattle.operation_check.proofs.of_expression_check.KeptLemmas.{types-push, within-push}
use Rattle.script_check.proofs.signatures.push_type.Goals as goal

pub returns-clause-gives : goal.returns-clause-gives
returns-clause-gives c =
    let old = c.args.state.now.types in
    let found = map (type_at old) c.args.ids.now in
    ap (λ r. r >>= λ t. Ok (found ++ t ∷ [])) c.in_ok-id.ensures.gives
    ∙ ap Ok
    (sym (types-push old c.whole_type.new.self.types c.whole_type.ensures.extends
    c.args.ids.now c.push.new.self c.in_ok-id.id c.in_ok-push.ensures.ok c.requires))

pub returns-clause-within : goal.returns-clause-within
returns-clause-within c =
    within-push c.args.state.now.types c.whole_type.new.self.types c.whole_type.ensures.extends
    c.args.ids.now c.push.new.self c.in_ok-id.id c.in_ok-push.ensures.ok c.requires
    c.in_ok-id.ensures.within
