use Rattle.std.proofs.Common.{◌<◌, nat_lt, length, Ok, sym, ap, ◌∙◌, arith}
use Rattle.std.proofs.lemmas.Bool.{lt-ltb}
use Rattle.flume_grammar.specs.declared.fault.ScriptKind.TheVariants.{NoOutput}
use Rattle.operation_check.specs.of_written_types.Answer.{◌>>=◌, unless}
use Rattle.script_program.specs.Script.{script_from}
use Rattle.script_rules.specs.Rules.{defined}
use Rattle.script_check.proofs.checks.check.Goals as goal

pub returns-in_ok-into_program-in-Ok : goal.returns-in_ok-into_program-in-Ok
returns-in_ok-into_program-in-Ok c =
    let s = c.define.new.state.state in
    let some : 0 < length s.outputs =
    omega (arith, c.if-output_count-eq0.false, c.output_count.ensures) in
    ap (λ r. r >>= λ s. unless 0 NoOutput (nat_lt 0 (length s.outputs)) >>= λ more.
    Ok (script_from s))
    (ap (defined c.args.ast.statements) (sym c.new-state.ensures.state) ∙ c.in-Ok.ensures)
    ∙ ap (λ b. unless 0 NoOutput b >>= λ more. Ok (script_from s))
    (lt-ltb 0 (length s.outputs) some)
    ∙ ap Ok (sym c.in_ok-into_program-in-Ok.ensures)
