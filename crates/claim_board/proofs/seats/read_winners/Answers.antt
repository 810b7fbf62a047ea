use Rattle.std.proofs.Common.{◌≡◌, ◌<◌, ℕ, List, set, get_or, length, length-set, get_or-set_same, sym, ◌∙◌, subst, arith}
use Rattle.std.proofs.lemmas.List.{get_or-set_other, ext_get_or}
use Rattle.std.specs.Mem.Slots.{slots_items}
use native.Mathlib.Decide.{ℕ_discrete}
use mathlib.Core.Logic.{dite}
use Rattle.claim_board.specs.Seats.{task_words}
use Rattle.claim_board.proofs.Seating.{rest_word, rest_length}
use Rattle.claim_board.proofs.seats.read_winners.Goals as goal

pub overflow_cast-word : goal.overflow_cast-word
overflow_cast-word c =
    let is = rest_word (slots_items c.args.closed.now.words) c.loop-t.t c.word.result c.word.ensures
    in
    let low = c.requires.low c.loop-t.t c.loop-t-test.true in record { fits = omega arith }

pub loop-t-preserved : goal.loop-t-preserved
loop-t-preserved c =
    let ws : List ℕ = c.loop-t.winners.items in
    let t = c.loop-t.t in
    let x = c.word.result in
    let is = rest_word (slots_items c.args.closed.now.words) t x c.word.ensures in
    let size = c.loop-t.invariant.size in
    let inside : t < length ws = omega arith in record {
      size = length-set ws t x ∙ size;
      same = λ k l. dite (ℕ_discrete k t)
          (λ e. subst (λ (j : ℕ). get_or (set ws t x) j 0
          ≡ get_or (task_words (slots_items c.args.closed.now.words)) j 0) (sym e)
          (get_or-set_same ws t x 0 inside ∙ sym is))
          (λ n. get_or-set_other ws t k x 0 n ∙ c.loop-t.invariant.same k (omega arith));
    }

pub returns : goal.returns
returns c =
    let ws : List ℕ = slots_items c.args.closed.now.words in
    let size = c.loop-t.invariant.size in
    let all : length (task_words ws)
    ≡ c.args.tasks = rest_length ws c.args.tasks c.requires.full.2 in
    let end = c.loop-t.auto.t-end in
    ext_get_or 0 c.loop-t.winners.items (task_words ws) (size ∙ sym all)
    (λ k l. c.loop-t.invariant.same k (omega arith))
