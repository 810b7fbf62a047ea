use Rattle.std.proofs.Common.{sym, ap, ◌∙◌}
use Rattle.std.specs.Ordering.{is_lt}
use Rattle.combine_table.proofs.Popped.{upto_last, popped_last, right_greatest, left_greatest, right_alone, left_alone, lower}
use Rattle.combine_table.proofs.lists.pop_greatest.Goals as goal

pub returns-in-None-clause-greatest : goal.returns-in-None-clause-greatest
returns-in-None-clause-greatest c =
    right_alone _ _ _ _ _ c.deref.ensures.value c.in-None.ensures.value c.requires.right
    c.pop.ensures.items

pub returns-in-None-last-clause-greatest : goal.returns-in-None-last-clause-greatest
returns-in-None-last-clause-greatest c =
    left_alone _ _ _ _ _ c.deref-in-Some.ensures.value c.in-None-last.ensures.value c.requires.left
    c.pop-in-None-last.ensures.items

pub returns-then-is_lt-clause-greatest : goal.returns-then-is_lt-clause-greatest
returns-then-is_lt-clause-greatest c =
    right_greatest _ _ _ c.in-Some.a.now c.in-Some-last.b.now _
    (upto_last _ _ _ c.requires.left c.deref.ensures.value c.in-Some.ensures.value)
    c.requires.right
    c.pop-then-is_lt.ensures.items
    (popped_last _ _ _ _ _ _ c.deref-in-Some.ensures.value c.deref-in-Some.ensures.len
    c.in-Some-last.ensures.value c.pop-then-is_lt.ensures.items
    c.pop-then-is_lt.ensures.variant)
    (lower _ _ (sym (ap is_lt c.compare.ensures) ∙ sym c.is_lt.ensures ∙ c.if-is_lt.true))

pub returns-else-is_lt-clause-greatest : goal.returns-else-is_lt-clause-greatest
returns-else-is_lt-clause-greatest c =
    left_greatest _ _ _ c.in-Some.a.now c.in-Some-last.b.now _
    (upto_last _ _ _ c.requires.right c.deref-in-Some.ensures.value c.in-Some-last.ensures.value)
    c.requires.left
    c.pop-else-is_lt.ensures.items
    (popped_last _ _ _ _ _ _ c.deref.ensures.value c.deref.ensures.len c.in-Some.ensures.value
    c.pop-else-is_lt.ensures.items c.pop-else-is_lt.ensures.variant)
    (sym (ap is_lt c.compare.ensures) ∙ sym c.is_lt.ensures ∙ c.if-is_lt.false)
