-- Passes as lists of rewrites.
use Rattle.std.specs.Prelude.{◌≡◌, ℕ, ◌<◌, true, false, List, [], ◌∷◌, ◌++◌, map}
use Rattle.std.specs.List.{AllByRecursion}
use Rattle.exec_graph.specs.declared.graph.Blocked.{Blocked}
use Rattle.exec_graph.specs.declared.graph.Graph.{Graph}
use Rattle.fuse_chain.specs.Numbers.{numbers_after_kid}
use Rattle.fuse_chain.specs.Rewrites.{InOrder, Fusion, is_sibling, other_of}
use Rattle.fuse_chain.specs.Rewrites as fusion
use Rattle.fusion_blocks.specs.Blocks.{unmarked}
use Rattle.graph_rewrites.specs.Replays.{Leads, rewrite_group}
use Rattle.graph_rewrites.specs.declared.rewrite.Rewrite.{Rewrite}
use Rattle.graph_rewrites.specs.declared.rewrite.Rewrite.TheVariants.{Kid, Sibling}

-- Rewrites of that group lead from a to b.
pub record ByRewrites (group : ℕ) (a b : Blocked) : Type 0 where
  pub rewrites : List Rewrite
  pub all : AllByRecursion (λ r. rewrite_group r ≡ group) rewrites
  pub leads : Leads group rewrites a b

-- A kid or a sibling, as fusing makes it.
abbrev pub as_rewrite : Fusion → Rewrite
as_rewrite (fusion.Kid keeper output other) = Kid keeper output other
as_rewrite (fusion.Sibling keeper other) = Sibling keeper other

-- The Pdo that stays.
abbrev pub keeper_of : Fusion → ℕ
keeper_of (fusion.Kid keeper output other) = keeper
keeper_of (fusion.Sibling keeper other) = keeper

-- The kids as they are made, each under the numbers that its Pdos have by then: what comes of two
-- has the lesser one.
abbrev pub present_fusions : (ℕ → ℕ) → List Fusion → List Fusion
present_fusions l [] = []
present_fusions l (fusion.Kid keeper output other ∷ rs) =
    fusion.Kid (l keeper) output (l other) ∷ present_fusions (numbers_after_kid l keeper other) rs
present_fusions l (fusion.Sibling keeper other ∷ rs) =
    fusion.Sibling keeper other ∷ present_fusions l rs

-- Siblings and then kids lead from g to h, both in ascending order of the numbers that the Pdos
-- that become part of another had before all kids.
pub record ByFusing (g h : Graph) : Type 0 where
  pub siblings : List Fusion
  pub formers : List Fusion
  pub are_siblings : AllByRecursion (λ r. is_sibling r ≡ true) siblings
  pub are_kids : AllByRecursion (λ r. is_sibling r ≡ false) formers
  pub siblings_ascend : InOrder siblings
  pub kids_ascend : InOrder formers
  pub lesser : AllByRecursion (λ r. keeper_of r < other_of r) siblings
  pub leads : Leads 2 (map as_rewrite (siblings ++ present_fusions (λ n. n) formers)) (unmarked g)
      (unmarked h)
