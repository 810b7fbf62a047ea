use Rattle.std.specs.Prelude.{nat_eq}
use Rattle.std.specs.HashMap.{get}
use Rattle.std.proofs.Common.{ℕ, Bool, cond, Some, None, ap, rules, ◌∙◌}
use Rattle.exec_graph.specs.Places.{code}
use Rattle.exec_graph.proofs.Coding.{code_same}
use Rattle.graph_tracing.specs.inner.Callers.{or_else}
use Rattle.graph_tracing.proofs.callers.note_reader.Goals as goal

pub returns : goal.returns
returns c = λ d lt.
    let before = get nat_eq c.args.firsts.now (code d) in
    c.in_ok-note_code.ensures (code d)
    ∙ ap (λ (n : ℕ). or_else before (cond (nat_eq (code d) n) (Some c.args.number) None))
    c.code_of.ensures
    ∙ ap (λ (b : Bool). or_else before (cond b (Some c.args.number) None))
    (code_same d c.args.read lt (search rules))
