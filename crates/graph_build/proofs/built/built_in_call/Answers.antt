use Rattle.std.proofs.Common.{◌∙◌}
use Rattle.graph_build.proofs.BuiltLemmas.{call_names}
use Rattle.graph_build.proofs.built.built_in_call.Goals as goal

pub returns : goal.returns
returns c =
    c.in_ok-number.ensures ∙ c.named.ensures
    ∙ call_names c.args.program.now.script c.args.first c.args.function c.in_ok-others.others
    c.args.place c.in_ok-others.ensures
