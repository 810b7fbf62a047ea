use Rattle.std.proofs.Common.{◌++◌, ℕ, List, map}
use Rattle.kept_results.specs.Sizes.{size_pairs}
use Rattle.kept_results.proofs.SizeLemmas.{line_next, no_line}
use Rattle.kept_results.proofs.sizes.push_counted.Goals as goal

pub loop-place-preserved : goal.loop-place-preserved
loop-place-preserved c =
    let size = (λ (line : List ℕ × ℕ). line.1) in
    let whole = c.args.known.now.items ++ size_pairs c.args.nodes.now (map size c.args.ran.now) in
    line_next size c.args.nodes.now c.args.ran.now c.loop-place.place c.loop-place.known.items
    whole c.loop-place.invariant c.index-nodes-place.result c.in-Some.field-0.now
    c.push.new.self.items c.loop-place-test.true c.in-Some.ensures.lookup.3.0
    c.in-Some.ensures.lookup.1 c.in_ok-push.ensures.items

pub returns-in_default : goal.returns-in_default
returns-in_default c =
    let size = (λ (line : List ℕ × ℕ). line.1) in
    no_line size c.args.nodes.now c.args.ran.now c.loop-place.place c.loop-place.known.items
    (c.args.known.now.items ++ size_pairs c.args.nodes.now (map size c.args.ran.now))
    c.loop-place.invariant c.in_default.ensures.lookup.3
