use Rattle.std.proofs.Common.{◌++◌, List, take, ap, sym, ◌∙◌, subst, append_assoc}
use Rattle.std.specs.List.{flat_map}
use Rattle.std.specs.Option.{option_map}
use Rattle.flume_value.specs.declared.value.Value.{Value}
use Rattle.flume_collection.specs.declared.trap.Trap.{Trap}
use Rattle.bag_groups.specs.Pairs.{pair, value_of}
use Rattle.dofn_eval.specs.Function.{CanBeCalledOn}
use Rattle.direct_meaning.proofs.CombineLemmas.{flat_further}
use Rattle.direct_meaning.proofs.OnlyLemmas.{second_of-pair}
use Rattle.direct_meaning.specs.Objects.{answer_beside, naming}
use Rattle.direct_meaning.specs.inner.Slots.{emitted_by, slots_answer, trapped_by}
use Rattle.direct_meaning.proofs.beside.call_all_beside.Goals as goal

pub call_beside-requires : goal.call_beside-requires
call_beside-requires c =
    let v = c.args.value.now in
    let same = c.with_first-argument.ensures v c.loop-element.invariant.argument
    ∙ ap (λ (x : Value). pair x v) c.in_ok-copy-2.ensures in
    subst (CanBeCalledOn c.args.fun.now)
    (sym (same ∙ ap (λ (x : Value). pair x v) c.element-item.is))
    (c.requires c.loop-element.element-index c.element-item.result c.loop-element-test.true)

pub loop-element-preserved : goal.loop-element-preserved
loop-element-preserved c =
    let v = c.args.value.now in
    let x = c.element-item.result in
    let i = c.loop-element.element-index in
    let slots = slots_answer c.args.fun.now in
    let before = c.loop-element.invariant in
    let elements = c.args.elements.now in
    let emitted = λ (y : Value). emitted_by 0 (answer_beside slots v y) in
    let trapped = λ (y : Value). trapped_by c.args.origin (answer_beside slots v y) in
    let same = c.with_first-argument.ensures v before.argument
    ∙ ap (λ (y : Value). pair y v) c.in_ok-copy-2.ensures in
    record {
      argument = ap value_of same ∙ second_of-pair x v;
      values = c.in_ok-call_beside.ensures.values
          ∙ ((λ j. before.values j ++ emitted_by 0 (option_map (naming x) (slots (same j))))
          ∙ flat_further emitted elements i x c.loop-element-test.true c.element-item.is);
      traps = c.in_ok-call_beside.ensures.traps
          ∙ ((λ j. before.traps j
          ++ trapped_by c.args.origin (option_map (naming x) (slots (same j))))
          ∙ (append_assoc c.args.traps.now.items (flat_map trapped (take i elements)) (trapped x)
          ∙ ap (λ (l : List Trap). c.args.traps.now.items ++ l)
          (flat_further trapped elements i x c.loop-element-test.true c.element-item.is)));
    }
