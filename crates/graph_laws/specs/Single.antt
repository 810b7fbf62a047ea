-- Graphs whose Pdos have one step each, as they are before steps are fused, and how many outputs
-- such a step has.
use Rattle.std.specs.Prelude.{◌≡◌, ◌≤◌, ℕ}
use Rattle.std.proofs.Common.{suc}
use Rattle.std.specs.List.{AllByRecursion}
use Rattle.exec_graph.specs.Forests.{Forest, Label, Bare, Grow, Branch, limb}
use Rattle.exec_graph.specs.declared.graph.Node.{Node}
use Rattle.exec_graph.specs.declared.graph.Node.TheVariants.{Pdo}
use Rattle.exec_graph.specs.declared.graph.Graph.{Graph}

-- P holds of the node's steps, where it has any
abbrev pub HasSteps : (Forest → Type 0) → Node → Type 0
HasSteps P (Pdo c f) = P f
HasSteps P _ = Unit {0}

-- P holds of the steps of each Pdo
abbrev pub AllSteps : (Forest → Type 0) → Graph → Type 0
AllSteps P g = AllByRecursion (λ e. HasSteps P e.node) g.nodes

-- the forest is one step, with none on its outputs
pub record IsOneStep (f : Forest) : Type 0 where
  pub step : Branch
  pub alone : f ≡ limb step Bare
  pub first : step.first.kids ≡ Bare
  pub more : AllByRecursion (λ t. t.kids ≡ Bare) step.more

-- each Pdo has one step
abbrev pub IsUnfused : Graph → Type 0
IsUnfused g = AllSteps IsOneStep g

-- how many outputs the roots of a forest have
abbrev pub width : Forest → ℕ
width Bare = 0
width (Grow l kids rest) = suc (width rest)

-- how many outputs a step has at most
abbrev pub most_outputs : ℕ
most_outputs = 8

-- the steps of each Pdo have few outputs
abbrev pub HasNarrowSteps : Graph → Type 0
HasNarrowSteps g = AllSteps (λ f. width f ≤ most_outputs) g

-- the forest is one step with one output, with none on it
pub record IsOneOutput (f : Forest) : Type 0 where
  pub label : Label
  pub alone : f ≡ Grow label Bare Bare
  pub first : label.at ≡ 0

-- each Pdo has one step, which has one output
abbrev pub HasSingleOutputs : Graph → Type 0
HasSingleOutputs g = AllSteps IsOneOutput g
