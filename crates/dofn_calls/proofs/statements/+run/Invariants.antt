use Rattle.std.proofs.Common.{◌≡◌, ◌+◌, ◌*◌, max, drop}
use denote.Param.Weighed.{most}
use Rattle.dofn_eval.specs.declared.stmt.Stmt.{size-Stmt}
use Rattle.dofn_calls.specs.inner.Operands.{values, named}
use Rattle.dofn_eval.specs.Run.{state, run_all, run_one, run_statements, each}
use Rattle.dofn_calls.proofs.statements.+run.Given as goal

abbrev pub decreases-run_block : goal.decreases-run_block
decreases-run_block l = 4 * most (λ s. size-Stmt s) l.block.now + 1

abbrev pub decreases-run_stmt : goal.decreases-run_stmt
decreases-run_stmt l = 4 * size-Stmt l.stmt.now

abbrev pub decreases-run_if : goal.decreases-run_if
decreases-run_if l = 4 * max (most (λ s. size-Stmt s) l.a.now) (most (λ s. size-Stmt s) l.b.now) + 2

abbrev pub decreases-run_each : goal.decreases-run_each
decreases-run_each l = 4 * most (λ s. size-Stmt s) l.body.now + 2

abbrev pub decreases-run_for : goal.decreases-run_for
decreases-run_for l = 4 * most (λ s. size-Stmt s) l.body.now + 3

abbrev pub decreases-run_case : goal.decreases-run_case
decreases-run_case l = 4 * max (most (λ s. size-Stmt s) l.a.now) (most (λ s. size-Stmt s) l.b.now) +
    3

abbrev pub decreases-run_side : goal.decreases-run_side
decreases-run_side l = 4 * max (most (λ s. size-Stmt s) l.a.now) (most (λ s. size-Stmt s) l.b.now) +
    2

abbrev pub invariant-run_block-loop-stmt : goal.invariant-run_block-loop-stmt
invariant-run_block-loop-stmt l =
    run_all run_one l.stmts (state (values l.scope) l.fn.out)
    ≡ run_all run_one (drop l.stmt-index l.stmts)
    (state (named l.names.items (values l.scope)) l.out)

abbrev pub invariant-run_each-loop-member : goal.invariant-run_each-loop-member
invariant-run_each-loop-member l =
    each (run_statements l.body) l.members (values l.scope) l.fn.out
    ≡ each (run_statements l.body) (drop l.member-index l.members) (values l.scope) l.out
