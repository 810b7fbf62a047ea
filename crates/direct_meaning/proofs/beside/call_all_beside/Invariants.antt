use Rattle.std.proofs.Common.{◌≡◌, ◌++◌, Some, take}
use Rattle.std.specs.List.{flat_map}
use Rattle.bag_groups.specs.Pairs.{value_of}
use Rattle.direct_meaning.specs.Objects.{answer_beside}
use Rattle.direct_meaning.specs.inner.Slots.{emitted_by, slots_answer, trapped_by}
use Rattle.direct_meaning.proofs.beside.call_all_beside.Given as goal

abbrev pub invariant-loop-element : goal.invariant-loop-element
invariant-loop-element l =
    let done = take l.element-index l.elements in
    record {
      argument : value_of l.argument ≡ Some l.value;
      values : l.values.items
          ≡ flat_map (λ x. emitted_by 0 (answer_beside (slots_answer l.fun) l.value x)) done;
      traps : l.traps.items ≡ l.initial.traps.items
          ++ flat_map (λ x. trapped_by l.origin (answer_beside (slots_answer l.fun) l.value x))
          done;
    }
