use Rattle.std.proofs.Common.{◌<◌, sym, ap, ◌∙◌, subst, arith}
use Rattle.claim_board.specs.Boards.{Board, Pass}
use Rattle.claim_board.proofs.Claimable.{look_keeps}
use Rattle.claim_board.proofs.Moves.{looks_as}
use Rattle.claim_board.proofs.Naming.{same_table, same_size}
use Rattle.claim_board.proofs.board.Board.look.Goals as goal

pub load-attempt-requires : goal.load-attempt-requires
load-attempt-requires c =
    let i = c.pass.invariant in
    let b = c.self.invariant in
    let of = ap (λ (p : Pass). p.board) c.pass.view_is ∙ (c.requires.board ∙ sym c.self.view_is) in
    let small = subst (λ (x : Board). c.args.task < x.tasks) (sym c.self.view_is)
    c.requires.task in (
      same_table _ _ _ _ of,
      omega arith,
      looks_as _ _ _ _ i.0 (same_size _ _ _ _ of) c.args.task small,
    )

pub returns-then-attempt-eq0-clause-claims : goal.returns-then-attempt-eq0-clause-claims
returns-then-attempt-eq0-clause-claims c =
    look_keeps c.args.self.now c.pass.inside.seat.me c.load-attempt.new.seat.me _ _
    c.load-attempt.result (ap (λ (p : Pass). p.state) c.pass.view_is) c.load-attempt.ensures.2

pub returns-clause-claims : goal.returns-clause-claims
returns-clause-claims c =
    look_keeps c.args.self.now c.pass.inside.seat.me c.load-attempt.new.seat.me _ _
    c.load-attempt.result (ap (λ (p : Pass). p.state) c.pass.view_is) c.load-attempt.ensures.2
