use Rattle.std.proofs.Common.{◌≡◌, ◌++◌, take}
use Rattle.std.specs.List.{flat_map}
use Rattle.direct_meaning.specs.inner.Slots.{emitted_by, slots_answer, trapped_by}
use Rattle.direct_meaning.proofs.calls.call_all.Given as goal

abbrev pub invariant-loop-element : goal.invariant-loop-element
invariant-loop-element l =
    let done = take l.element-index l.elements in
    record {
      values : l.values.items
          ≡ flat_map (λ element. emitted_by l.output (slots_answer l.fun element)) done;
      traps : l.traps.items ≡ l.initial.traps.items
          ++ flat_map (λ element. trapped_by l.origin (slots_answer l.fun element)) done;
    }
