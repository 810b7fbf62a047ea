use Rattle.std.proofs.Common.{ℕ, List, get_or, length, sym, ap, ◌∙◌, subst}
use Rattle.std.specs.Mem.Slots.{slots_items}
use Rattle.claim_board.specs.Protocol.{IsGood}
use Rattle.claim_board.specs.Boards.{Pass, Passes, states_of}
use Rattle.claim_board.specs.Seats.{task_words}
use Rattle.claim_board.specs.inner.Seats.{Seated}
use Rattle.claim_board.proofs.Seating.{closes_as, length_states_of}
use Rattle.claim_board.proofs.seats.take_back.Goals as goal

pub returns-clause-good : goal.returns-clause-good
returns-clause-good c =
    let key = c.args.table.shared.key in
    let ps : List Pass = c.passes.inside.members.items in
    let ws : List ℕ = slots_items c.close_with.result.words in
    let all = length_states_of ps ∙
    (ap (λ (p : Passes). length p.members) c.passes.view_is
    ∙ (c.requires.members.1 ∙ ap (λ (p : Passes). p.board.crew) (sym c.passes.view_is))) in
    let full = all ∙ sym (ap (λ (m : Seated). m.0.made) c.passes.invariant.1) in
    let good = (closes_as key _ (states_of ps) _ _ ws _ c.gather-maker.ensures.table.1
    (ap (λ (m : Seated). m.0) c.gather-maker.ensures.view) full c.close_with.ensures.values.2).1
    in
    subst (λ (p : Passes). IsGood key.tasks key.tries record
    { next = get_or ws 0 0; words = task_words ws; passes = states_of p.members })
    c.passes.view_is good
