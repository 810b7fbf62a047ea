use Rattle.std.proofs.Common.{subst}
use Rattle.flatten_sink.specs.Pairs.{IsMergedAt, IsSunkAt}
use Rattle.sink_laws.specs.declared.pair.Pair.{Pair}
use Rattle.graph_rewriting.proofs.Sinks.{made_as, made_so, merge_made, sink_made}
use Rattle.graph_rewriting.proofs.applying.rewritten.Goals as goal

pub returns-in-Merge : goal.returns-in-Merge
returns-in-Merge c =
    let g = c.args.graph in
    made_as g c.args.rewrite _ c.merge_pair.result c.in-Merge.is (IsMergedAt g c.pair_of.result)
    (λ o h. merge_made g c.in-Merge.outer c.in-Merge.inner o
    (subst (λ (p : Pair). IsMergedAt g p o) c.pair_of.ensures h)) c.merge_pair.ensures.merged

pub returns-in-Sink : goal.returns-in-Sink
returns-in-Sink c =
    let g = c.args.graph in
    let pair = c.pair_of-in-Sink in
    made_as g c.args.rewrite _ c.sink_pair.result c.in-Sink.is (IsSunkAt g pair.result)
    (λ o h. sink_made g c.in-Sink.flatten c.in-Sink.pdo o
    (subst (λ (p : Pair). IsSunkAt g p o) pair.ensures h)) c.sink_pair.ensures.sunk

pub lift_at-requires : goal.lift_at-requires
lift_at-requires c = c.requires.founded.ascends

pub returns-in-Lift : goal.returns-in-Lift
returns-in-Lift c =
    made_so c.args.graph c.args.rewrite _ c.lift_at.result c.in-Lift.is c.lift_at.ensures

pub returns-in-Kid : goal.returns-in-Kid
returns-in-Kid c =
    made_as c.args.graph c.args.rewrite _ c.kid.result c.in-Kid.is _ (λ o h. h) c.kid.ensures

pub returns-in-Sibling : goal.returns-in-Sibling
returns-in-Sibling c =
    made_as c.args.graph c.args.rewrite _ c.sibling.result c.in-Sibling.is _ (λ o h. h)
    c.sibling.ensures

pub markable-requires : goal.markable-requires
markable-requires c = c.requires.founded.ascends

pub returns-in-Mark : goal.returns-in-Mark
returns-in-Mark c =
    made_so c.args.graph c.args.rewrite _ c.markable.result c.in-Mark.is c.markable.ensures
