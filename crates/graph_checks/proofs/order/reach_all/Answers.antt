use Rattle.std.proofs.Common.{arith, refl, rules}
use Rattle.std.proofs.lemmas.Bool.{false≢true}
use Rattle.graph_checks.proofs.Walks.{done_more, ranks_all, no_rank}
use Rattle.graph_checks.proofs.order.reach_all.Goals as goal

pub loop-i-init : goal.loop-i-init
loop-i-init c = record {
  none = c.requires.none;
  partly = c.requires.partly;
  done = λ j l. absurd (omega arith);
}

pub reach-requires-clause-partly : goal.reach-requires-clause-partly
reach-requires-clause-partly c = c.loop-i.invariant.partly

pub returns-then-not-reach : goal.returns-then-not-reach
returns-then-not-reach c = (
  λ h. absurd (false≢true h),
  λ r. absurd (no_rank c.args.edges.now c.loop-i.marks c.loop-i.i c.loop-i.invariant.none
      (c.reach.ensures.no (let q = c.if-not-reach.true in search rules)) r),
)

pub loop-i-preserved : goal.loop-i-preserved
loop-i-preserved c = done_more c.args.edges.now c.loop-i.marks c.reach.new.marks c.loop-i.i
    c.loop-i.invariant (c.reach.ensures.yes (let q = c.if-not-reach.false in search rules))

pub returns : goal.returns
returns c =
    let s = c.requires.size in
    let n = c.loop-i.auto.marks in
    let q = c.loop-i-test.false in
    let a = c.loop-i.invariant in (
      λ h. ranks_all c.args.edges.now c.loop-i.marks
          (record { none = a.none; partly = a.partly; done = λ j l. a.done j (omega arith) }),
      λ r. refl,
    )
