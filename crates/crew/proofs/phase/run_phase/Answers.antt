use Rattle.std.proofs.Common.{◌≡◌, ◌≢◌, ◌<◌, ℕ, inl, List, get_or, refl, ap, ◌∙◌, subst, arith}
use Rattle.std.specs.List.Sorted.{IsPermutation}
use Rattle.std.proofs.lemmas.Result.{err_from_is_err_and}
use Rattle.claim_board.specs.Boards.{Passes}
use Rattle.claim_board.specs.Told.{closing_state}
use Rattle.crew.specs.declared.kept.KeptOut.{KeptOut}
use Rattle.crew.proofs.Accounts.{all_grew_not}
use Rattle.crew.proofs.Asking.{asked_not, asked_once}
use Rattle.crew.proofs.Fronts.{took_so_far}
use Rattle.crew.proofs.Closing.{can_close, can_start, closed_well}
use Rattle.crew.proofs.Ending.{cannot_finish, settled, unsettled}
use Rattle.crew.proofs.phase.run_phase.Goals as goal

pub work_all-worked-requires-clause-start : goal.work_all-worked-requires-clause-start
work_all-worked-requires-clause-start g c κs within =
    let b = c.in_ok-board.board in
    let size = c.in_ok-board.ensures.size in
    let members = c.as_mut_slice.ensures.value
    ∙ ap (λ (p : Passes). p.members) c.in_ok-board.ensures.passes in
    can_start b _ _ _ _ members (size.0 ∙ c.count-count.ensures) (size.1 ∙ c.tries.ensures) size.2
    c.requires.tasks c.requires.hosts.0

pub close-tally-requires-clause-members : goal.close-tally-requires-clause-members
close-tally-requires-clause-members g c =
    can_close c.in_ok-board.board c.in_ok-board.passes _ c.work_all-worked.new.passes
    c.in_ok-board.ensures.passes c.as_mut_slice.ensures.value c.work_all-worked.auto.passes
    c.work_all-worked.ensures.same

pub returns-clause-settled : goal.returns-clause-settled
returns-clause-settled g c =
    let all = subst
    (λ (n : ℕ). (t : ℕ) → t < n → get_or c.close-tally.result.winners t 0 ≢ 0)
    c.count-count.ensures c.in-None.ensures.none in
    let back = closed_well c.in_ok-board.board c.in_ok-board.passes _ c.work_all-worked.new.passes
    c.in_ok-board.ensures.passes c.as_mut_slice.ensures.value c.work_all-worked.auto.passes
    c.close-tally.result g.H.Host.account c.args.hosts.now c.in_ok-board.ensures.size
    c.count-count.ensures c.tries.ensures c.close-tally.ensures.good in
    settled _ _ _ _ c.close-tally.result c.work_all-worked.new.passes _ _ c.in_ok-kept.kept back.0
    (rw c.in_ok-kept.was at c.work_all-worked.ensures.phased)
    c.requires.tasks back.1 all _ c.in_order-in-None.ensures.moved c.in_order-in-None.ensures.rise

pub returns-clause-asked : goal.returns-clause-asked
returns-clause-asked g c =
    let it = returns-clause-settled g c in
    asked_once _ _ _ c.requires.tasks it.board _ _ it.worked.workers it.closed.good it.worked.are

pub returns-in-Some-clause-fault : goal.returns-in-Some-clause-fault
returns-in-Some-clause-fault g c =
    let found = c.in-Some.ensures.some in
    let small = subst (λ (n : ℕ). c.in-Some.task < n) c.count-count.ensures found.0 in
    let some_host = c.requires.hosts.0 in
    let back = closed_well c.in_ok-board.board c.in_ok-board.passes _ c.work_all-worked.new.passes
    c.in_ok-board.ensures.passes c.as_mut_slice.ensures.value c.work_all-worked.auto.passes
    c.close-tally.result g.H.Host.account c.args.hosts.now c.in_ok-board.ensures.size
    c.count-count.ensures c.tries.ensures c.close-tally.ensures.good in
    let many = back.2 in
    let moved = subst (λ (l : List (KeptOut g.row.T-Out.Denot)). IsPermutation l c.in_order.result)
    c.below.ensures c.in_order.ensures.moved in
    unsettled _ _ _ _ c.close-tally.result c.work_all-worked.new.passes _ _ c.in_ok-kept.kept
    back.0 (rw c.in_ok-kept.was at c.work_all-worked.ensures.phased)
    c.requires.tasks back.1 c.protocol_laws.ensures.undecided c.in-Some.task small found.1
    (omega arith) found.2 _ moved c.in_order.ensures.rise

pub returns-in-Some-clause-complete : goal.returns-in-Some-clause-complete
returns-in-Some-clause-complete g c can =
    let gave_up = returns-in-Some-clause-fault g c in
    cannot_finish _ _ _ _ c.in-Some.task gave_up.is_task gave_up.lost can

pub returns-in-Some-clause-asked : goal.returns-in-Some-clause-asked
returns-in-Some-clause-asked g c =
    let it = returns-in-Some-clause-fault g c in
    asked_once _ _ _ c.requires.tasks it.board _ _ it.worked.workers it.closed.good it.worked.are

pub returns-in_err-board-clause-grew : goal.returns-in_err-board-clause-grew
returns-in_err-board-clause-grew g c = all_grew_not _

pub returns-in_err-board-clause-asked : goal.returns-in_err-board-clause-asked
returns-in_err-board-clause-asked g c = asked_not _ _ _ _

pub returns-in_err-board-clause-fault : goal.returns-in_err-board-clause-fault
returns-in_err-board-clause-fault g c =
    let p = err_from_is_err_and c.from_residual.result c.from_residual.ensures.1 in
    rw (p.1, p.2) (inl refl)

pub returns-in_err-kept-clause-asked : goal.returns-in_err-kept-clause-asked
returns-in_err-kept-clause-asked g c =
    let asked = c.work_all-worked.ensures.asked in
    asked_once _ _ _ c.requires.tasks
    (closing_state c.close-tally.result c.work_all-worked.new.passes) _ _ asked.0
    (closed_well c.in_ok-board.board c.in_ok-board.passes _ c.work_all-worked.new.passes
    c.in_ok-board.ensures.passes c.as_mut_slice.ensures.value c.work_all-worked.auto.passes
    c.close-tally.result g.H.Host.account c.args.hosts.now c.in_ok-board.ensures.size
    c.count-count.ensures c.tries.ensures c.close-tally.ensures.good).0 asked.1

pub returns-in_err-kept-clause-fault : goal.returns-in_err-kept-clause-fault
returns-in_err-kept-clause-fault g c =
    let end = c.from_residual-in_err-kept in
    let p = err_from_is_err_and end.result end.ensures.1 in
    let back = closed_well c.in_ok-board.board c.in_ok-board.passes _ c.work_all-worked.new.passes
    c.in_ok-board.ensures.passes c.as_mut_slice.ensures.value c.work_all-worked.auto.passes
    c.close-tally.result g.H.Host.account c.args.hosts.now c.in_ok-board.ensures.size
    c.count-count.ensures c.tries.ensures c.close-tally.ensures.good in
    rw (p.1, p.2) (took_so_far _ _ _ _ _ c.close-tally.result c.work_all-worked.new.passes back.0
    c.work_all-worked.ensures.asked)
