use Rattle.std.proofs.Common.{sym, ap, ◌∙◌, arith}
use Rattle.claim_board.specs.Boards.{Pass}
use Rattle.claim_board.proofs.Claimable.{draw_keeps}
use Rattle.claim_board.proofs.Moves.{draws_as}
use Rattle.claim_board.proofs.Naming.{same_table, same_size}
use Rattle.claim_board.proofs.board.Board.draw.Goals as goal

pub fetch_add-number-requires : goal.fetch_add-number-requires
fetch_add-number-requires c =
    let i = c.pass.invariant in
    let b = c.self.invariant in
    let of = ap (λ (p : Pass). p.board) c.pass.view_is ∙ (c.requires ∙ sym c.self.view_is) in (
      same_table _ _ _ _ of,
      omega arith,
      draws_as _ _ _ _ i.0 (same_size _ _ _ _ of) (sym i.1 ∙ c.if-pass.false),
    )

pub returns-then-number-tasks-clause-claims : goal.returns-then-number-tasks-clause-claims
returns-then-number-tasks-clause-claims c =
    draw_keeps c.args.self.now c.pass.inside.seat.me c.fetch_add-number.new.seat.me _
    c.fetch_add-number.result (ap (λ (p : Pass). p.state) c.pass.view_is)
    c.fetch_add-number.ensures.2

pub returns-clause-claims : goal.returns-clause-claims
returns-clause-claims c = draw_keeps c.args.self.now c.pass.inside.seat.me
    c.fetch_add-number.new.seat.me _ c.fetch_add-number.result
    (ap (λ (p : Pass). p.state) c.pass.view_is) c.fetch_add-number.ensures.2
