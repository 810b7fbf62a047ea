use Rattle.pardo_fuse.proofs.Chaining.{grown_one}
use Rattle.pardo_fuse.proofs.Levels.{all_grown}
use Rattle.pardo_fuse.proofs.PartedNodes.{can_fuse}
use Rattle.fuse_chain.proofs.laws.trees_law.Goals as goal

pub returns-clause-can : goal.returns-clause-can
returns-clause-can c = can_fuse

pub returns-clause-grown : goal.returns-clause-grown
returns-clause-grown c = λ b place can. all_grown b can place

pub returns-clause-one : goal.returns-clause-one
returns-clause-one c = grown_one
