use Rattle.std.proofs.Common.{Vec, Global, ℕ, ◌+◌, take, sym, subst, arith}
use Rattle.exec_plan.specs.declared.plan.Take.{Take}
use Rattle.map_shard.specs.inner.Takes.{AreLast}
use Rattle.map_shard.proofs.LastTakes.{last_all, last_none, last_put, last_stays}
use Rattle.map_shard.proofs.takes.last_places.Goals as goal
use Rattle.map_shard.proofs.takes.last_places.Goals.{then-take-m+in_ok-put_place, else-take-m}

abbrev no_take : Take
no_take = record { channel = 0; out = 0 }

pub loop-k-init : goal.loop-k-init
loop-k-init c = last_none c.args.m c.args.takes.now c.new-last.result.items

pub loop-k-preserved : goal.loop-k-preserved
loop-k-preserved c =
    let m = c.args.m in
    let takes = c.args.takes.now in
    let at = c.loop-k in
    elim c.if-take-m.branch [
      | then-take-m+in_ok-put_place w ↦
          subst (λ (v : Vec ℕ Global). AreLast m (take (at.k + 1) takes) v.items) (sym w.last-is)
          (last_put m takes at.k no_take c.loop-k-test.true at.last.items at.invariant
          w.put_place.new.places.items w.in_ok-put_place.ensures)
      | else-take-m w ↦
          subst (λ (v : Vec ℕ Global). AreLast m (take (at.k + 1) takes) v.items) (sym w.last-is)
          (last_stays m takes at.k no_take c.loop-k-test.true at.last.items at.invariant
          w.if-take-m.false)
    ]

pub returns : goal.returns
returns c =
    last_all c.args.m c.args.takes.now c.loop-k.k c.loop-k.last.items (omega arith)
    c.loop-k.invariant
