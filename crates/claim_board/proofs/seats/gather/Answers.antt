use Rattle.std.proofs.Common.{◌≡◌, [], ◌∷◌, ap, ◌∙◌, subst}
use Rattle.claim_board.specs.Boards.{Board, Pass, AreOfBoard}
use Rattle.claim_board.specs.Seats.{pass_view}
use Rattle.claim_board.specs.inner.Seats.{Seated, pass_in, board_of}
use Rattle.std.proofs.lemmas.List.Elements.{All-head}
use Rattle.claim_board.proofs.Seating.{joins_as}
use Rattle.claim_board.proofs.Naming.{same_table, same_size}
use Rattle.claim_board.proofs.Totals.{all_right}
use Rattle.claim_board.proofs.seats.gather.Goals as goal

pub join_seat-requires : goal.join_seat-requires
join_seat-requires c =
    let i = c.loop-pass.invariant in
    let words = c.args.words.now in
    let board : Board = board_of words.table_id words.key in
    let p = c.in-Some.pass in
    let mine = All-head (λ (q : Pass). q.board ≡ board) p []
    (all_right (λ (q : Pass). q.board ≡ board) c.pop.new.self.items (p ∷ [])
    (subst (AreOfBoard board) c.in-Some.ensures.items i.members)) in
    let of = ap (λ (q : Pass). q.board) c.pass.view_is ∙ mine in
    let me = c.pass.invariant.0 in (
      i.table,
      same_table _ _ _ _ of,
      ap (λ (m : Seated). m.1) me,
      c.requires.table.2,
      joins_as words.key c.args.maker.me.0.made c.loop-pass.maker.me.0.passes _ _
          (pass_in c.pass.inside.seat.me.0) _ _ i.first (ap (λ (m : Seated). m.0) i.view)
          (ap (λ (m : Seated). m.0) me ∙ ap
          (λ (k : _). pass_view k (pass_in c.pass.inside.seat.me.0)) (same_size _ _ _ _ of)),
    )
