use Rattle.std.proofs.Common.{◌≡◌, ◌+◌, ◌∙◌, List, Some, ap, arith, length, refl, slice_get, subst, suc, sym}
use Rattle.std.proofs.lemmas.Option.{slice_get_read}
use Rattle.std.specs.Vec.Iter.{into_iter_items}
use Rattle.exec_graph.specs.of_flume_collection.Calls.{or_none}
use Rattle.stage_phases.specs.of_map_shard.Tables.{split_into}
use Rattle.flume_value.specs.declared.value.Value.{Value}
use Rattle.shuffle_parts.specs.Outs.{all_passed}
use Rattle.stage_results.proofs.SideBySide.{behind_first}
use Rattle.stage_results.proofs.Staging.{along_more, along_none, channel_outs, end_grown, end_lists, stage_outs}
use Rattle.stage_results.proofs.lists.stage_lists.Goals as goal

pub loop-channel-init : goal.loop-channel-init
loop-channel-init c = record {
  passed = λ r values found.
      let here : 0 + r ≡ r = omega arith in
      ap (λ l. or_none (slice_get l r)) c.into_iter-passed.ensures.rest
      ∙ c.in_ok-passed_lists.ensures r values
      (subst (λ n. all_passed c.args.maps.items n ≡ Some values) here found);
  along = λ w shards t some maps reduces.
      let n = split_into shards c.args.partitions in
      let s = c.args.stage.now in
      let outs = stage_outs w n t s.inputs c.requires.some s c.args.reduces.items refl reduces in
      along_none w n t s _ _ _ (rw c.into_iter-outs.ensures.rest outs) c.new-lists.ensures.items
      (λ i. let fit = c.type_inv.sizes i in omega (arith, fit));
}

pub loop-channel-preserved : goal.loop-channel-preserved
loop-channel-preserved c = record {
  passed = λ r values found.
      let next : c.loop-channel.channel-index + 1 + r ≡ c.loop-channel.channel-index + suc r
      = omega arith in
      ap (λ l. or_none (slice_get l r)) c.next_list-here.ensures.rest
      ∙ behind_first (into_iter_items c.loop-channel.passed) r
      ∙ c.loop-channel.invariant.passed (suc r) values
      (subst (λ n. all_passed c.args.maps.items n ≡ Some values) next found);
  along = λ w shards t some maps reduces.
      let n = split_into shards c.args.partitions in
      let s = c.args.stage.now in
      let r = c.loop-channel.channel-index in
      let x = c.channel-item.result in
      let items = c.as_slice-channel-items.ensures in
      let at = ap (λ l. slice_get l r) (sym items)
      ∙ slice_get_read _ _ r x refl c.loop-channel-test.true c.channel-item.is in
      let a = c.loop-channel.invariant.along w shards t some maps reduces in
      let next = channel_outs w n t s r _ _ _ _ x a at in
      let given = c.in_ok-given.ensures in
      let first : r ≡ r + 0 = omega arith in
      let passed = λ (values : List Value) (found : all_passed c.args.maps.items r ≡ Some values).
      c.next_list-here.ensures.next
      ∙ c.loop-channel.invariant.passed 0 values
      (subst (λ n. all_passed c.args.maps.items n ≡ Some values) first found) in
      along_more w n t s r _ _ _ _ x a at _ c.in_ok-given.given.items _ _
      (rw (given.next w shards t s.inputs next.0 next.1 next.2 next.3) next.4)
      (given.lists w shards t s some (next.0, next.1, next.2, next.3) (record {
        maps = c.args.maps.items;
        made = maps;
        number = r;
        at = at;
        is = passed;
      }))
      c.in_ok-append.ensures.items
      (given.grown w shards t s.inputs (next.0, next.1, next.2, next.3));
}

pub returns-clause-lists : goal.returns-clause-lists
returns-clause-lists c w shards t some made =
    end_lists w _ t c.args.stage.now c.loop-channel.channel-index _ _ _ _
    (c.loop-channel.invariant.along w shards t some made.maps made.reduces)
    (omega (arith, ap length c.as_slice-channel-items.ensures, c.loop-channel-test.false))

pub returns-clause-grown : goal.returns-clause-grown
returns-clause-grown c w shards t some made =
    end_grown w _ t c.args.stage.now c.loop-channel.channel-index _ _ _ _
    (c.loop-channel.invariant.along w shards t some made.maps made.reduces)
    (omega (arith, ap length c.as_slice-channel-items.ensures, c.loop-channel-test.false))
