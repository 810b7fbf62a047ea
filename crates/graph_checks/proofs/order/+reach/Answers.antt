use Rattle.std.proofs.Common.{◌≡◌, ◌<◌, length, arith, refl, ap, ◌∙◌, rules}
use Rattle.graph_checks.specs.declared.order.Mark.TheVariants.{Open}
use Rattle.graph_checks.specs.inner.Order.{edges_at}
use Rattle.graph_checks.proofs.Walks.{walk_begun, walk_more, walk_no, walk_done, done_few, all_at, led, fresh_read, same_length}
use Rattle.graph_checks.proofs.order.+reach.Goals as goal

pub loop-k-init : goal.loop-k-init
loop-k-init t c =
    let e = c.requires.size in
    let h = c.requires.here in
    walk_begun c.args.edges.now c.args.i c.args.marks.now
    (fresh_read c.args.marks.now c.args.i _ (omega arith) c.in-Fresh.is) (omega arith)
    c.requires.partly

pub reach-requires : goal.reach-requires
reach-requires t c =
    let w = c.loop-k.invariant.few in
    let ls : c.as_slice-leads.result.now ≡ edges_at c.args.edges.now c.args.i =
    led c.args.edges.now c.args.i c.index-edges-i.result c.as_slice-leads.result.now
    c.requires.here c.index-edges-i.is c.as_slice-leads.ensures in (
      omega (arith, w, c.decreases),
      (
        c.requires.within,
        (
          same_length c.args.marks.now c.loop-k.marks c.args.i Open c.loop-k.auto.marks
              ∙ c.requires.size,
          (
            all_at (λ j. j < length c.args.edges.now) c.as_slice-leads.result.now
                c.loop-k.k c.loop-k-test.true (rw ls (c.requires.within c.args.i)),
            c.loop-k.invariant.partly,
          ),
        ),
      ),
    )

pub returns-then-not-reach-clause-few : goal.returns-then-not-reach-clause-few
returns-then-not-reach-clause-few t c = let a = c.loop-k.invariant.few in
    let b = c.reach.ensures.few in omega arith

pub returns-then-not-reach-clause-no : goal.returns-then-not-reach-clause-no
returns-then-not-reach-clause-no t c _ =
    let ls : c.as_slice-leads.result.now ≡ edges_at c.args.edges.now c.args.i =
    led c.args.edges.now c.args.i c.index-edges-i.result c.as_slice-leads.result.now
    c.requires.here c.index-edges-i.is c.as_slice-leads.ensures in
    walk_no c.args.edges.now c.args.i c.loop-k.k _ c.args.marks.now c.loop-k.marks
    c.loop-k.invariant (let n : length c.as_slice-leads.result.now
    ≡ length (edges_at c.args.edges.now c.args.i) = ap length ls in
    let q = c.loop-k-test.true in omega arith) (rw ls refl)
    (c.reach.ensures.no (let q = c.if-not-reach.true in search rules))

pub loop-k-preserved : goal.loop-k-preserved
loop-k-preserved t c =
    let ls : c.as_slice-leads.result.now ≡ edges_at c.args.edges.now c.args.i =
    led c.args.edges.now c.args.i c.index-edges-i.result c.as_slice-leads.result.now
    c.requires.here c.index-edges-i.is c.as_slice-leads.ensures in
    walk_more c.args.edges.now c.args.i c.loop-k.k _ c.args.marks.now c.loop-k.marks
    c.reach.new.marks c.loop-k.invariant (rw ls refl) c.reach.ensures.few
    (c.reach.ensures.yes (let q = c.if-not-reach.false in search rules))

pub returns-clause-few : goal.returns-clause-few
returns-clause-few t c =
    let e = c.requires.size in
    let h = c.requires.here in
    let n = same_length c.args.marks.now c.loop-k.marks c.args.i Open c.loop-k.auto.marks in
    done_few c.loop-k.marks c.args.marks.now c.args.i (omega arith) c.loop-k.invariant.open_now
    c.loop-k.invariant.few

pub returns-clause-yes : goal.returns-clause-yes
returns-clause-yes t c _ =
    let e = c.requires.size in
    let h = c.requires.here in
    let n = same_length c.args.marks.now c.loop-k.marks c.args.i Open c.loop-k.auto.marks in
    let ls : c.as_slice-leads.result.now ≡ edges_at c.args.edges.now c.args.i =
    led c.args.edges.now c.args.i c.index-edges-i.result c.as_slice-leads.result.now
    c.requires.here c.index-edges-i.is c.as_slice-leads.ensures in
    let m : length c.as_slice-leads.result.now ≡ length (edges_at c.args.edges.now c.args.i) =
    ap length ls in
    let q = c.loop-k-test.false in
    walk_done c.args.edges.now c.args.i c.loop-k.k c.args.marks.now c.loop-k.marks
    c.loop-k.invariant (omega arith) (omega arith)
