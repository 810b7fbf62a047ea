use Rattle.std.proofs.Common.{◌∙◌, Some, [], ◌∷◌, ap, lit<, map, sym}
use Rattle.std.proofs.lemmas.List.{map-append}
use Rattle.std.proofs.lemmas.Iterator.Consumers.{YieldsList-at, YieldsList-end, YieldsList-turn}
use Rattle.std.proofs.lemmas.Iterator.Splits.{YieldsList-from_str_split}
use Rattle.drill_text.specs.Drills as spec
use Rattle.drill_text.proofs.EntryLemmas.{entries_push, entries_stop}
use Rattle.drill_text.proofs.drill.entries_in.Goals as goal

pub loop-part-preserved : goal.loop-part-preserved
loop-part-preserved c =
    ap spec.entries_in (map-append (λ part. part.now) c.loop-part.yielded (c.in-Some.part ∷ []))
    ∙ entries_push (map (λ part. part.now) c.loop-part.yielded) c.in-Some.part.now
    c.loop-part.entries c.in-Some-entry_in.entry c.loop-part.invariant
    (sym c.entry_in.ensures ∙ c.in-Some-entry_in.is)
    ∙ ap Some (sym c.in_ok-push-in-Some-entry_in.ensures.ok)

pub returns-in-None-entry_in : goal.returns-in-None-entry_in
returns-in-None-entry_in c =
    let all = YieldsList-at c.into_iter-part-iterator.ensures.into_iter_gives
    (YieldsList-from_str_split spec.comma c.args.text.now (lit< tt)
    c.split-part-items.ensures.text c.split-part-items.ensures.has_more
    c.split-part-items.ensures.pattern) in
    let turn = YieldsList-turn all c.loop-part.yielded _ c.loop-part.yielded_by _ _
    c.in-Some.part c.in-Some.is c.next.ensures.steps in
    sym (entries_stop (spec.drill_parts c.args.text.now) _ c.in-Some.part.now turn.0 turn.1
    (sym c.entry_in.ensures ∙ c.in-None-entry_in.is))

-- at the end every part was yielded
pub returns : goal.returns
returns c =
    let all = YieldsList-at c.into_iter-part-iterator.ensures.into_iter_gives
    (YieldsList-from_str_split spec.comma c.args.text.now (lit< tt)
    c.split-part-items.ensures.text c.split-part-items.ensures.has_more
    c.split-part-items.ensures.pattern) in
    let end = YieldsList-end all c.loop-part.yielded _ c.loop-part.yielded_by _ _ c.in-None.is
    c.next.ensures.steps in
    sym c.loop-part.invariant ∙ ap spec.entries_in end.0
