use Rattle.std.proofs.Common.{ℕ, List, ◌++◌, ◌∷◌, [], refl, sym, ap, ◌∙◌}
use Rattle.flume_grammar.specs.Limits.{the_limits}
use Rattle.flume_grammar.specs.inner.Out.{all_of, bind}
use Rattle.flume_grammar.specs.inner.Reads.{all}
use Rattle.flume_grammar.specs.inner.Types.{at_comma}
use Rattle.flume_grammar.specs.inner.Statements.{next_input}
use Rattle.flume_grammar.proofs.Loops.{at_first, failed}
use Rattle.flume_syntax.proofs.operation.inputs.Goals as goal

pub more-init : goal.more-init
more-init c = at_first at_comma (next_input the_limits) all _ _ _ refl tt

pub returns-in_err-inputs : goal.returns-in_err-inputs
returns-in_err-inputs c =
    let part = next_input the_limits in
    let q = failed c.more.invariant refl (sym c.is_at_sign.ensures ∙ c.more-test.true)
    c.in_err-inputs.ensures c.from_residual-in_err-inputs.result
    c.from_residual-in_err-inputs.ensures.1 in
    rw q.0 (λ other.
    ap (λ o. bind o (λ x us. all_of at_comma part (x ∷ []) us)) c.in_ok-name.ensures.value
    ∙ ap (λ (zs : List (List ℕ)). all_of at_comma part zs c.name.new.tokens)
    (sym (c.in_ok-push.ensures.ok
    ∙ ap (λ (l : List (List ℕ)). l ++ c.in_ok-name.field-0 ∷ []) c.new-inputs.ensures))
    ∙ q.1 other)
