-- Where only siblings were made, no two Pdos read one collection.
use Rattle.std.proofs.Common.{[], sym, ◌∙◌}
use Rattle.exec_graph.specs.declared.graph.Blocked.{Blocked}
use Rattle.exec_graph.specs.declared.graph.Graph.{Graph}
use Rattle.pass_rewrites.specs.of_fuse_chain.Cuts.{siblings_of}
use Rattle.pass_rewrites.proofs.of_fuse_chain.KidChains.{can_later}
use Rattle.pardo_fuse.specs.Parting.{parted}
use Rattle.pardo_fuse.specs.Readers.{Cut}
use Rattle.pardo_fuse.specs.SingleFusing.{CanFuse, fused_by}
use Rattle.pardo_fuse.specs.Wellformed.{IsFusible}
use Rattle.pardo_fuse.proofs.Levels.{all_grown}
use Rattle.pardo_fuse.proofs.Once.{AllGrown}
use Rattle.pardo_fuse.proofs.PartedNodes.{can_fuse}
use Rattle.pardo_fuse.proofs.Settling.{leader_seen, led, now_apart, one_leader}
use Rattle.graph_tracing.specs.inner.Waiting.{AreApart}

cut_apart : (b : Cut) → CanFuse b → AreApart (fused_by b).graph
unfolding fused_by
cut_apart b can n q c f h at bt =
    let g : AllGrown b = all_grown b can in
    let l = led b can n c f at in
    let m = led b can q c h bt in
    one_leader b n q l.from m.from l.leader m.leader
    (now_apart b l.from m.from can g (leader_seen b n l.from can l.leader)
    (leader_seen b q m.from can m.leader) (l.is ∙ sym m.is))

-- the graph between the siblings and the kids
abbrev pub middle : Blocked → Graph
middle b = (fused_by (siblings_of (parted b))).graph

pub middle_apart : (b : Blocked) → IsFusible b → AreApart (middle b)
middle_apart b fu =
    cut_apart (siblings_of (parted b)) (can_later (parted b) [] (can_fuse b fu))
