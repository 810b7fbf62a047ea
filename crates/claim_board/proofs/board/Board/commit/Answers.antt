use Rattle.std.proofs.Common.{sym, ap, ◌∙◌, subst, arith}
use Rattle.claim_board.specs.Boards.{Board, Pass, Drawn, IsOpenDraw, KeepsOtherClaims}
use Rattle.claim_board.specs.inner.Seats.{board_of, pass_in}
use Rattle.claim_board.proofs.Claimable.{commit_keeps}
use Rattle.claim_board.proofs.Moves.{commits_at}
use Rattle.claim_board.proofs.Naming.{same_table, same_size}
use Rattle.claim_board.proofs.board.Board.commit.Goals as goal
use Rattle.claim_board.proofs.board.Board.commit.Goals.{After-compare_exchange-found}

pub compare_exchange-found-requires : goal.compare_exchange-found-requires
compare_exchange-found-requires c =
    let i = c.pass.invariant in
    let b = c.self.invariant in
    let shared = c.self.inside.table.shared in
    let board : Board = board_of shared.table_id shared.key in
    let of = ap (λ (p : Pass). p.board) c.pass.view_is ∙ (c.requires.board ∙ sym c.self.view_is) in
    let may = subst (λ (x : Board). IsOpenDraw x c.args.pass.now.state c.args.draw)
    (sym c.self.view_is) c.requires.claimable in
    let mine = subst (λ (x : Pass × Drawn). IsOpenDraw board x.0.state x.1)
    (λ i. (sym c.pass.view_is i, sym c.draw.view_is i)) may in
    let size = b.5 in (
      same_table _ _ _ _ of,
      omega arith,
      commits_at _ _ _ _ i.0 (same_size _ _ _ _ of) _ _ _ mine.task mine.attempt mine.claimable
          size.tasks,
    )

-- whatever stood there, the other draws may still claim their tasks
kept : (c : After-compare_exchange-found) → KeepsOtherClaims c.args.self.now c.args.pass.now.state
    (pass_in c.compare_exchange-found.new.seat.me.0) c.args.draw.number
kept c =
    let size = ap (λ (p : Pass). p.board.tasks) c.pass.view_is
    ∙ ap (λ (x : Board). x.tasks) c.requires.board in
    let task = ap (λ (d : Drawn). d.task) c.draw.view_is ∙ c.requires.claimable.task in
    let attempt = ap (λ (d : Drawn). d.attempt) c.draw.view_is ∙ c.requires.claimable.attempt in
    commit_keeps c.args.self.now c.pass.inside.seat.me c.compare_exchange-found.new.seat.me _
    c.compare_exchange-found.result c.draw.inside.task c.draw.inside.attempt _
    (ap (λ (p : Pass). p.state) c.pass.view_is) size task attempt
    c.compare_exchange-found.ensures.2

pub returns-then-found-eq0-clause-claims : goal.returns-then-found-eq0-clause-claims
returns-then-found-eq0-clause-claims c =
    kept (goal.at.returns-then-found-eq0-clause-claims c).After-compare_exchange-found

pub returns-clause-claims : goal.returns-clause-claims
returns-clause-claims c = kept (goal.at.returns-clause-claims c).After-compare_exchange-found
