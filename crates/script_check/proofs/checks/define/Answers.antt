use Rattle.std.proofs.Common.{length, sym, ap, ◌∙◌, arith}
use Rattle.std.specs.Vec.Iter.{into_iter_items}
use Rattle.operation_check.specs.of_written_types.Answer.{◌>>=◌}
use Rattle.script_program.specs.Script.{with_statement}
use Rattle.script_rules.specs.Rules.{defined}
use Rattle.script_check.proofs.CountLemmas.{rule-count}
use Rattle.script_check.proofs.checks.define.Goals as goal

pub end_statement-requires : goal.end_statement-requires
end_statement-requires c =
    let s = c.in-Some.statement in
    let kept = rule-count s.line c.loop-statement.state.state c.rule.new.state.state s.form
    c.in_ok-rule.ensures in
    let steps = ap length c.in-Some.ensures.steps.0 in
    omega (
      arith,
      kept,
      steps,
      c.loop-statement.invariant.count,
      c.len-count.ensures,
      c.len-count.type_inv,
    )

pub loop-statement-preserved : goal.loop-statement-preserved
loop-statement-preserved c =
    let s = c.in-Some.statement in
    let before = c.loop-statement.state.state in
    let rest = into_iter_items c.next.new.self in
    let kept = rule-count s.line before c.rule.new.state.state s.form c.in_ok-rule.ensures in
    let steps = c.in-Some.ensures.steps.0 in
    let lengths = ap length steps in
    let ended = ap (λ state. state.statements) c.end_statement.ensures.state in
    record {
      defined = ap (defined rest) c.end_statement.ensures.state
          ∙ sym (ap (λ l. defined l before) steps
          ∙ ap (λ r. r >>= λ next. defined rest (with_statement next)) c.in_ok-rule.ensures)
          ∙ c.loop-statement.invariant.defined;
      count = omega (arith, kept, lengths, ended, c.loop-statement.invariant.count);
    }
