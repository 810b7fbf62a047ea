use Rattle.std.proofs.Common.{◌≡◌, Some, arith, length, slice_get, subst, sym}
use Rattle.exec_graph.specs.of_flume_collection.Calls.{or_none}
use Rattle.shuffle_parts.specs.Outs.{passed_at}
use Rattle.shuffle_parts.proofs.Finding.{ComesTo}
use Rattle.stage_results.proofs.SideBySide.{passed_more, passed_none, passed_whole}
use Rattle.stage_results.proofs.passed.passed_lists.Goals as goal

pub loop-out-init : goal.loop-out-init
loop-out-init c r whole all =
    let lists = c.new-lists.result.items in
    subst (λ l. ComesTo (passed_at r) l (Some whole) (or_none (slice_get lists r)))
    (sym c.into_iter-out-iterator.ensures.into_iter_gives.0)
    (passed_none lists c.args.outs.items r whole c.new-lists.ensures.items all)

pub loop-out-preserved : goal.loop-out-preserved
loop-out-preserved c r whole all =
    let lists = c.loop-out.lists.items in
    passed_more lists c.join_passed.new.lists.items c.in-Some.out c.next.new.self.rest.items r
    (Some whole) c.in_ok-join_passed.ensures
    (subst (λ l. ComesTo (passed_at r) l (Some whole) (or_none (slice_get lists r)))
    c.in-Some.ensures.steps.0 (c.loop-out.invariant r whole all))

pub returns : goal.returns
returns c r whole all =
    let rest = c.loop-out.out-iterator.rest in
    let none : length rest.items ≡ 0 = omega (arith, c.in-None.ensures.steps.0, rest.ok.0) in
    passed_whole rest.items r whole (or_none (slice_get c.loop-out.lists.items r)) none
    (c.loop-out.invariant r whole all)
