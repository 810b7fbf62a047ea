use Rattle.std.proofs.Common.{List, refl, sym, ap, subst, arith}
use Rattle.exec_graph.specs.declared.graph.Blocked.{Blocked}
use Rattle.exec_graph.specs.declared.graph.Place.{Place}
use Rattle.graph_rewrites.specs.Replays.{Leads}
use Rattle.fusion_blocks.specs.Blocks.{unmarked}
use Rattle.graph_rewriting.specs.inner.Standings.{blocked_of, shown}
use Rattle.graph_rewriting.proofs.Chain.{follows_none, follows_some, led_all, led_more, led_none, led_ok, led_stops}
use Rattle.graph_rewriting.proofs.Standings.{standing_of}
use Rattle.graph_rewriting.proofs.replaying.replay.Goals as goal

pub loop-rewrite-init : goal.loop-rewrite-init
loop-rewrite-init c = record {
  led = led_none c.args.graph c.args.rewrites.now _
      (ap (λ (ms : List Place). let b : Blocked = record { graph = c.args.graph; marks = ms } in
      b) (sym c.new.ensures));
  standing = tt;
  step = refl;
}

pub follow-requires-clause-ok : goal.follow-requires-clause-ok
follow-requires-clause-ok c =
    let l = c.loop-rewrite in
    led_ok c.args.graph c.args.rewrites.now l.rewrite-index l.group (blocked_of l.now) c.requires
    l.invariant.led

pub loop-rewrite-preserved : goal.loop-rewrite-preserved
loop-rewrite-preserved c =
    let l = c.loop-rewrite in record {
      led = led_more c.args.graph c.args.rewrites.now l.rewrite-index l.group (blocked_of l.now) _
          l.invariant.led (omega arith) _ (blocked_of c.in-Some.next)
          (follows_some l.group (blocked_of l.now) (blocked_of c.in-Some.next) _ _
          c.in_ok-next.ensures.follows (ap shown c.in-Some.is))
          c.group_of-group.ensures;
      standing = standing_of _ c.in-Some.next c.in_ok-next.ensures.standing c.in-Some.is;
      step = omega (arith, c.in_ok-step.ensures);
    }

pub returns-in-None : goal.returns-in-None
returns-in-None c =
    let l = c.loop-rewrite in
    led_stops c.args.graph c.args.rewrites.now l.rewrite-index l.group (blocked_of l.now) _
    l.invariant.led (omega arith) _
    (follows_none l.group (blocked_of l.now) _ _ c.in_ok-next.ensures.follows
    (ap shown c.in-None.is))
    (omega (arith, c.in_ok-step.ensures))

pub returns : goal.returns
returns c =
    let l = c.loop-rewrite in
    subst (λ (b : Blocked). Leads 0 c.args.rewrites.now (unmarked c.args.graph) b)
    (sym c.in_ok-last.ensures)
    (led_all c.args.graph c.args.rewrites.now l.rewrite-index l.group (blocked_of l.now)
    l.invariant.led (omega arith))
