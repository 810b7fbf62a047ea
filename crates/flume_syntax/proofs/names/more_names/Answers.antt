use Rattle.std.proofs.Common.{refl, sym, ◌∙◌}
use Rattle.flume_grammar.specs.inner.Reads.{all}
use Rattle.flume_grammar.specs.inner.Types.{at_comma}
use Rattle.flume_grammar.specs.inner.Statements.{next_name}
use Rattle.flume_grammar.proofs.Loops.{at_first, failed}
use Rattle.flume_syntax.proofs.names.more_names.Goals as goal

pub more-init : goal.more-init
more-init c = at_first at_comma next_name all _ _ _ refl tt

pub returns-in_err-names : goal.returns-in_err-names
returns-in_err-names c =
    let q = failed c.more.invariant refl (sym c.is_at_sign.ensures ∙ c.more-test.true)
    c.in_err-names.ensures c.from_residual.result c.from_residual.ensures.1 in
    rw q.0 q.1
