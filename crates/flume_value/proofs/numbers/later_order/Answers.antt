use Rattle.std.proofs.Common.{rules, ◌∙◌, ◌<◌, ℕ, List, get_or, drop}
use Rattle.flume_value.proofs.NumberLemmas.{Small, small_from, small-drop, same_drop, told_apart, tied}
use Rattle.flume_value.proofs.numbers.later_order.Goals as goal

small_later : (bytes : List ℕ) → ((i : ℕ) → get_or bytes i 0 < 256) → Small (drop 8 bytes)
small_later bytes small = small-drop 8 bytes (small_from bytes small)

pub returns-then-x-y : goal.returns-then-x-y
returns-then-x-y c =
    c.cmp.ensures
    ∙ told_apart 8 (drop 8 c.args.a.now) (drop 8 c.args.b.now) _ _ _
    (same_drop 8 c.args.a.now c.args.b.now (search rules))
    (small_later c.args.a.now (search rules)) (small_later c.args.b.now (search rules))
    c.second-x.ensures c.second-y.ensures c.if-x-y.true

pub returns : goal.returns
returns c =
    c.last_order.ensures
    ∙ tied 8 (drop 8 c.args.a.now) (drop 8 c.args.b.now) _ _ _
    (same_drop 8 c.args.a.now c.args.b.now (search rules))
    (small_later c.args.a.now (search rules)) (small_later c.args.b.now (search rules))
    c.second-x.ensures c.second-y.ensures c.if-x-y.false
