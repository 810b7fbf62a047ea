-- Fusing as siblings and then kids.
use Rattle.std.specs.Prelude.{List}
use Rattle.exec_graph.specs.declared.graph.Blocked.{Blocked}
use Rattle.graph_rewrites.specs.declared.rewrite.Rewrite.{Rewrite}
use Rattle.pardo_fuse.specs.Fusing.{fused}
use Rattle.graph_tracing.specs.Orders.{AreInOrder}
use Rattle.graph_tracing.specs.Traces.{IsTrace}

-- they lead to the fused graph: siblings and then kids, in order
pub record IsFusion (b : Blocked) (rs : List Rewrite) : Type 0 where
  pub traced : IsTrace 2 b.graph rs (fused b).graph
  pub order : AreInOrder rs
