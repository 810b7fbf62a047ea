-- The level of each node is that of the nodes that it reads, or one more.
use Rattle.std.proofs.Common.{◌≡◌, ℕ, ◌+◌, List, map, Some, suc, refl, ◌∙◌, arith}
use Rattle.exec_graph.specs.Meaning.{node_at, IsSound}
use Rattle.exec_graph.specs.declared.graph.Place.{Place}
use Rattle.exec_graph.specs.declared.graph.Node.{Node}
use Rattle.exec_graph.specs.declared.graph.Node.TheVariants.{Source, Flatten, Pdo, Gbk, Barrier}
use Rattle.exec_graph.specs.declared.graph.Graph.{Graph}
use Rattle.plan_roles.specs.Levels.{greatest_number, level_by, one_gbk, level}
use Rattle.plan_roles.proofs.Leveling.{level_found}

-- the level by the nodes that it reads, for each kind of node
abbrev pub level_of : (ℕ → ℕ) → Node → ℕ
level_of l (Source r) = 0
level_of l (Flatten ins) = greatest_number (map (λ (c : Place). l c.node) ins)
level_of l (Pdo c f) = l c.node
level_of l (Gbk c o last k) = suc (l c.node)
level_of l (Barrier ins x y d) =
    one_gbk (Barrier ins x y d) + greatest_number (map (λ (c : Place). l c.node) ins)

by_is : (l : ℕ → ℕ) (x : Node) → level_by l x ≡ level_of l x
by_is l (Source r) = refl
by_is l (Flatten ins) = omega arith
by_is l (Pdo c f) = omega arith
by_is l (Gbk c o last k) = omega arith
by_is l (Barrier ins x y d) = refl

pub levels_at : (g : Graph) (n : ℕ) (x : Node) → IsSound g → node_at g.nodes n ≡ Some x
    → level g.nodes n ≡ level_of (level g.nodes) x
levels_at g n x ok h =
    level_found g.nodes ok.ranked.0 ok.there ok.ranked.1 n x h ∙ by_is (level g.nodes) x
