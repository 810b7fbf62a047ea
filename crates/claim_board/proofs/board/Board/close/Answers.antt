use Rattle.std.proofs.Common.{◌<◌, ◌≤◌, ℕ, List, get_or, sym, subst, arith}
use Rattle.std.specs.Mem.Slots.{slots_items}
use Rattle.claim_board.specs.Protocol.{IsGood}
use Rattle.claim_board.specs.Boards.{Board, Tally}
use Rattle.claim_board.specs.Told.{closing_state}
use Rattle.claim_board.specs.Seats.{task_words}
use Rattle.claim_board.proofs.Closing.{drawn_once, won_once, saw_winners, lost_to_winners, ended_past_limit}
use Rattle.claim_board.proofs.Seating.{word_at}
use Rattle.claim_board.proofs.Moves.{word_low}
use Rattle.claim_board.proofs.board.Board.close.Goals as goal

pub read_winners-winners-requires-clause-low : goal.read_winners-winners-requires-clause-low
read_winners-winners-requires-clause-low c t small =
    let key = c.self.inside.table.shared.key in
    let size = c.self.invariant.5 in
    let few = size.tries in
    let tasks : t < key.tasks = (let i = c.self.invariant.0 in omega arith) in
    let low : get_or (task_words (slots_items c.take_back-closed.result.words)) t 0 ≤ key.tries =
    word_low key.tasks key.tries _ t tasks c.take_back-closed.ensures.good in omega arith

pub returns : goal.returns
returns c =
    let key = c.self.inside.table.shared.key in
    let ws : List ℕ = slots_items c.take_back-closed.result.words in
    let draws = word_at ws 0 c.word-draws.result c.word-draws.ensures in
    let winners = sym c.read_winners-winners.ensures in
    let told : Tally = record {
      draws = c.word-draws.result;
      winners =
          c.read_winners-winners.result.items;
    } in
    let b = c.args.self in
    let ms = c.args.passes.members in
    let read = subst (λ (r : Tally). IsGood key.tasks key.tries (closing_state r ms))
    (λ i. record { draws = draws i; winners = winners i }) c.take_back-closed.ensures.good in
    let good = subst (λ (x : Board). IsGood x.tasks x.tries (closing_state told ms)) c.self.view_is
    read in record {
      good = good;
      size = good.sized;
      draws = drawn_once b told ms good;
      winners = won_once b told ms good;
      seen = saw_winners b told ms good;
      lost = lost_to_winners b told ms good;
      ended = ended_past_limit b told ms good;
    }
