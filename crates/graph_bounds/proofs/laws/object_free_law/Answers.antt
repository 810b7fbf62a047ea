use Rattle.graph_bounds.proofs.Bounding.{free_fused, free_lifted, free_sunk, kinds_free}
use Rattle.graph_bounds.proofs.laws.object_free_law.Goals as goal

pub returns-clause-sunk : goal.returns-clause-sunk
returns-clause-sunk c = free_sunk

pub returns-clause-lifted : goal.returns-clause-lifted
returns-clause-lifted c = free_lifted

pub returns-clause-fused : goal.returns-clause-fused
returns-clause-fused c = free_fused

pub returns-clause-kinds : goal.returns-clause-kinds
returns-clause-kinds c = kinds_free
