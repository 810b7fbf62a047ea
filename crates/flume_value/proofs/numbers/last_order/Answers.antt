use Rattle.std.proofs.Common.{rules, ◌∙◌}
use Rattle.std.specs.Ordering.{nat_cmp}
use Rattle.flume_value.proofs.NumberLemmas.{small_from, last-cmp}
use Rattle.flume_value.proofs.numbers.last_order.Goals as goal

pub returns : goal.returns
returns c =
    c.cmp.ensures ∙ (λ i. nat_cmp (c.third.ensures i) (c.third-2.ensures i))
    ∙ last-cmp c.args.a.now c.args.b.now c.args.a_len c.args.b_len (search rules) (search rules)
    (small_from c.args.a.now (search rules)) (small_from c.args.b.now (search rules))
    (search rules) (search rules)
