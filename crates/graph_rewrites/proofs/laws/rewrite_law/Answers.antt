use Rattle.std.proofs.Common.{◌≡◌, true, cond, ap}
use Rattle.std.proofs.lemmas.Bool.{lt-ltb}
use Rattle.graph_bounds.specs.of_exec_graph.declared.graph.Graph.{Graph}
use Rattle.graph_bounds.proofs.of_exec_graph.Soundness.{SameMeaning-kept}
use Rattle.graph_rewrites.specs.Rewrites.{kid_under, kid_under_other, rewritten}
use Rattle.graph_rewrites.proofs.Keeping.{apply_good}
use Rattle.graph_rewrites.proofs.laws.rewrite_law.Goals as goal

pub returns-clause-well_formed : goal.returns-clause-well_formed
returns-clause-well_formed c = λ b r ok can. (apply_good b r ok can).ok

pub returns-clause-same : goal.returns-clause-same
returns-clause-same c = λ b r ok can.
    let a = apply_good b r ok can in
    SameMeaning-kept b.graph (rewritten b.graph r) ok a.ok a.keeps

pub returns-clause-types : goal.returns-clause-types
returns-clause-types c = λ b r ok can. (apply_good b r ok can).types

pub returns-clause-lesser : goal.returns-clause-lesser
returns-clause-lesser c = λ g p k q less.
    ap (λ b. cond b (kid_under_other g p k q) (kid_under g p k q)) (lt-ltb q p less)
