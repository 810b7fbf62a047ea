use Rattle.std.proofs.Common.{ℕ, Bool, ◌<◌, ◌^◌, subst, sym}
use Rattle.exec_graph.specs.Meaning.{SameMeaning}
use Rattle.exec_graph.specs.Typing.{KeepsTypes}
use Rattle.exec_graph.specs.declared.graph.Graph.{Graph}
use Rattle.exec_graph.specs.declared.graph.Blocked.{Blocked}
use Rattle.graph_bounds.specs.Sources.{HasKinds}
use Rattle.graph_bounds.specs.of_pardo_fuse.Wellformed.{IsFusible}
use Rattle.graph_bounds.specs.of_plan_rules.Fitting.{HasSourcesBelow, IsInBounds}
use Rattle.exec_graph.specs.ObjectFree.{IsObjectFree}
use Rattle.optimise.proofs.Passes.{SameMeaning-then, fusible}
use Rattle.optimise.proofs.refining.refine.Goals as goal

pub fuse-requires : goal.fuse-requires
fuse-requires c =
    fusible c.args.graph c.in_ok-sunk.sunk c.in_ok-lifted.lifted c.in_ok-blocked.blocked
    c.in_ok-blocked.ensures.well_formed c.in_ok-blocked.ensures.same
    c.in_ok-lifted.ensures.lifted c.in_ok-sunk.ensures.steps c.in_ok-lifted.ensures.unfused
    c.requires.unfused c.requires.narrow

pub returns-clause-same : goal.returns-clause-same
returns-clause-same c =
    SameMeaning-then c.args.graph c.in_ok-sunk.sunk c.in_ok-fused.fused.graph
    c.in_ok-sunk.ensures.same
    (SameMeaning-then c.in_ok-sunk.sunk c.in_ok-lifted.lifted c.in_ok-fused.fused.graph
    c.in_ok-lifted.ensures.same
    (subst (λ (g : Graph). SameMeaning g c.in_ok-fused.fused.graph)
    c.in_ok-blocked.ensures.same c.in_ok-fused.ensures.same))

pub returns-clause-types : goal.returns-clause-types
returns-clause-types c = λ s typed.
    c.in_ok-fused.ensures.types s
    (subst (λ (g : Graph). KeepsTypes c.in_ok-lifted.lifted g)
    (sym c.in_ok-blocked.ensures.same) (λ s t. t) s
    (c.in_ok-lifted.ensures.types s (c.in_ok-sunk.ensures.types s typed)))

pub returns-clause-bounds : goal.returns-clause-bounds
returns-clause-bounds c = λ sources below kinds.
    let b : Blocked = c.in_ok-blocked.blocked in
    let d : Blocked = c.in_ok-fused.fused in
    let can : IsFusible b =
    fusible c.args.graph c.in_ok-sunk.sunk c.in_ok-lifted.lifted b
    c.in_ok-blocked.ensures.well_formed c.in_ok-blocked.ensures.same
    c.in_ok-lifted.ensures.lifted c.in_ok-sunk.ensures.steps c.in_ok-lifted.ensures.unfused
    c.requires.unfused c.requires.narrow in
    let sunk : HasSourcesBelow sources c.in_ok-sunk.sunk =
    c.sources_law.ensures.sunk sources c.args.graph c.in_ok-sunk.sunk c.in_ok-sunk.ensures.sunk
    below in
    let lifted : HasSourcesBelow sources c.in_ok-lifted.lifted =
    subst (λ (g : Graph). HasSourcesBelow sources g) (sym c.in_ok-lifted.ensures.lifted)
    (c.sources_law.ensures.lifted sources c.in_ok-sunk.sunk sunk) in
    let blocked : HasSourcesBelow sources b.graph =
    subst (λ (g : Graph). HasSourcesBelow sources g) (sym c.in_ok-blocked.ensures.same) lifted in
    let kind : ℕ → Bool = kinds.0 in
    let sunk_kinds : HasKinds kind c.in_ok-sunk.sunk =
    c.kinds_law.ensures.sunk kind c.args.graph c.in_ok-sunk.sunk c.in_ok-sunk.ensures.sunk
    kinds.1 in
    let lifted_kinds : HasKinds kind c.in_ok-lifted.lifted =
    subst (λ (g : Graph). HasKinds kind g) (sym c.in_ok-lifted.ensures.lifted)
    (c.kinds_law.ensures.lifted kind c.in_ok-sunk.sunk sunk_kinds) in
    let blocked_kinds : HasKinds kind b.graph =
    subst (λ (g : Graph). HasKinds kind g) (sym c.in_ok-blocked.ensures.same) lifted_kinds in
    let small : d.graph.next < 2 ^ 32 =
    subst (λ (n : ℕ). n < 2 ^ 32) c.next_number-next.ensures.same
    c.next_number-next.ensures.small in
    subst (λ (x : Blocked). IsInBounds sources x.graph) (sym c.in_ok-fused.ensures.fused)
    (c.bounds_law.ensures sources kind b can blocked blocked_kinds
    (subst (λ (x : Blocked). x.graph.next < 2 ^ 32) c.in_ok-fused.ensures.fused small))

pub returns-clause-object_free : goal.returns-clause-object_free
returns-clause-object_free c = λ free.
    subst (λ (x : Blocked). IsObjectFree x.graph) (sym c.in_ok-fused.ensures.fused)
    (c.object_free_law.ensures.fused c.in_ok-blocked.blocked
    (fusible c.args.graph c.in_ok-sunk.sunk c.in_ok-lifted.lifted c.in_ok-blocked.blocked
    c.in_ok-blocked.ensures.well_formed c.in_ok-blocked.ensures.same
    c.in_ok-lifted.ensures.lifted c.in_ok-sunk.ensures.steps c.in_ok-lifted.ensures.unfused
    c.requires.unfused c.requires.narrow)
    (subst IsObjectFree (sym c.in_ok-blocked.ensures.same)
    (subst IsObjectFree (sym c.in_ok-lifted.ensures.lifted)
    (c.object_free_law.ensures.lifted c.in_ok-sunk.sunk (c.object_free_law.ensures.sunk
    c.args.graph c.in_ok-sunk.sunk c.in_ok-sunk.ensures.sunk free)))))
