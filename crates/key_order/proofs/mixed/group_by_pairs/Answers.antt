use Rattle.std.proofs.Common.{◌≡◌, ◌<◌, length, rules, arith}
use Rattle.std.proofs.lemmas.Grind.{common_steps}
use Rattle.std.proofs.lemmas.List.Elements.{All-drop, All-same, All-take}
use Rattle.std.proofs.lemmas.List.Sorted.{All-permutation}
use Rattle.std.specs.Borrow.{Bor}
use Rattle.flume_value.specs.declared.value.Value.{Value}
use Rattle.flume_value.proofs.ReferenceLemmas.{referred}
use Rattle.bag_groups.specs.Pairs.{IsPair}
use Rattle.bag_groups.specs.Groups.{grouped}
use Rattle.key_order.proofs.KeyRuns.{fewer, groups_begin, keys_sorted, one_more}
use Rattle.key_order.proofs.mixed.group_by_pairs.Goals as goal

pub runs-init : goal.runs-init
runs-init c =
    let pairs = c.args.pairs.items in
    let left = c.sort_unstable_by.new.self.items in
    let moved = c.sort_unstable_by.ensures.permutation in
    record {
      pairs = All-permutation (λ (p : Bor Value). IsPair p.now) pairs left moved c.requires;
      ascending = keys_sorted left c.sort_unstable_by.ensures.sorted (λ a r q k. search rules);
      all = groups_begin pairs left c.new-groups.result.items moved c.new-groups.ensures.items;
    }

pub group_of_run-requires : goal.group_of_run-requires
group_of_run-requires c =
    let ds = c.deref-in-runs.result.now in
    let P : Bor Value → Type 0 = λ p. IsPair p.now in
    All-take P _ _ (All-drop P c.run_start-start.result ds
    (All-same P ds c.runs.left.items c.deref-in-runs.ensures.value c.runs.invariant.pairs))

pub runs-smaller : goal.runs-smaller
runs-smaller c =
    let left = c.runs.left.items in
    let some : 0 < c.len.result = first_of (search rules, grind (arith, common_steps)) in
    let many : c.len.result ≡ length left = omega (arith, c.len.ensures, c.runs.left.ok.0) in
    let less = fewer left c.deref.result.now c.index.result.now c.key-last.result.now c.len.result
    c.run_start-start.result c.runs.invariant.pairs c.runs.invariant.ascending
    c.deref.ensures.value many some c.index.ensures c.key-last.ensures c.run_start-start.ensures in
    omega (arith, less, many, c.len.ensures, c.runs.left.ok.0, c.truncate.ensures.len)

pub runs-preserved : goal.runs-preserved
runs-preserved c =
    let left = c.runs.left.items in
    let some : 0 < c.len.result = first_of (search rules, grind (arith, common_steps)) in
    let many : c.len.result ≡ length left = omega (arith, c.len.ensures, c.runs.left.ok.0) in
    let next = one_more left c.deref.result.now c.index.result.now c.key-last.result.now
    c.len.result c.run_start-start.result c.runs.invariant.pairs c.runs.invariant.ascending
    c.deref.ensures.value many some c.index.ensures c.key-last.ensures c.run_start-start.ensures
    (grouped (referred c.args.pairs.items)) c.runs.groups.items c.push.new.self.items
    c.in_ok-group_of_run.field-0 c.deref-in-runs.result.now c.truncate.new.self.items
    c.runs.invariant.all c.deref-in-runs.ensures.value c.in_ok-group_of_run.ensures
    c.in_ok-push.ensures.items c.truncate.ensures.items in
    record { pairs = next.0; ascending = next.1; all = next.2 }
