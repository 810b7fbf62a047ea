use Rattle.std.proofs.Common.{List, ℕ, map, filter, rules, tests, ap, ◌∙◌}
use Rattle.std.proofs.lemmas.Iterator.Splits.{YieldsList-from_slice_split}
use Rattle.std.proofs.lemmas.Iterator.Consumers.{YieldsList-at, YieldsList-end}
use Rattle.flume_value.specs.declared.value.Value.TheVariants as variant
use Rattle.dofn_eval.specs.Words.{is_space, has_bytes}
use Rattle.dofn_calls.proofs.words.words.Goals as goal

-- at the end every piece was yielded
pub returns : goal.returns
returns c =
    let e = YieldsList-end (YieldsList-at c.into_iter-word-iterator.ensures.into_iter_gives
    (YieldsList-from_slice_split _ is_space c.args.text.now c.split-word-items.ensures.rest
    c.split-word-items.ensures.done c.split-word-items.ensures.closure
    (λ x b q k. search (rules, tests)))) c.loop-word.yielded _ c.loop-word.yielded_by _ _
    c.in-None.is c.next.ensures.steps in
    c.loop-word.invariant ∙ ap (λ (pieces : List (List ℕ)). map variant.Text
    (filter has_bytes pieces)) e.0
