use Rattle.std.proofs.Common.{◌≡◌, ◌++◌, [], ap, arith, rules, subst}
use Rattle.std.specs.Vec.Iter.{into_iter_items}
use Rattle.kept_results.specs.Lists.{found_of}
use Rattle.cached_course.specs.inner.Found.{IsApart, next_of}
use Rattle.cached_course.proofs.FoundLemmas.{found_end, found_loop}
use Rattle.cached_course.proofs.found.found_apart.Goals as goal

pub loop-one-init : goal.loop-one-init
loop-one-init c =
    let all : into_iter_items c.into_iter-left.result ≡ c.args.looked.items = search rules in (
      [],
      record {
        numbers = c.new-numbers.ensures.items;
        members = c.new-members.ensures.items;
        known = c.new-known.ensures.items;
      },
      ap (found_of c.args.asked.now) all,
    )

pub loop-one-preserved : goal.loop-one-preserved
loop-one-preserved c =
    let one = c.one-item.result in
    let left = into_iter_items c.loop-one.left in
    let so_far = c.loop-one.invariant.0 in (
      so_far ++ next_of one.0 left,
      c.in_ok-push_next.ensures.found so_far c.loop-one.invariant.1,
      found_loop c.args.asked.now c.loop-one.one-index one left
          (into_iter_items c.push_next.new.left) so_far
          (found_of c.args.asked.now c.args.looked.items) c.loop-one-test.true c.one-item.is
          c.in_ok-push_next.ensures.left c.loop-one.invariant.2,
    )

pub returns : goal.returns
returns c =
    let so_far = c.loop-one.invariant.0 in
    subst (λ l. IsApart c.args.program.now.script l c.loop-one.found)
    (found_end c.args.asked.now c.loop-one.one-index (into_iter_items c.loop-one.left) so_far
    (found_of c.args.asked.now c.args.looked.items) (omega (arith, c.loop-one-test.false))
    c.loop-one.invariant.2)
    c.loop-one.invariant.1
