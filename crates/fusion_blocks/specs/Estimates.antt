-- How much each node is taken to give, before anything runs.
use Rattle.std.specs.Prelude.{◌≡◌, ℕ, ◌+◌, ◌-◌, ◌*◌, ◌/◌, ◌^◌, min, List, [], ◌∷◌, map, Option, Some, None}
use Rattle.std.specs.List.{AllByRecursion, slice_get}
use Rattle.exec_graph.specs.Forests.{Forest, Bare, Grow}
use Rattle.exec_graph.specs.declared.step.Does.{Does}
use Rattle.exec_graph.specs.declared.step.Does.TheVariants as does
use Rattle.exec_graph.specs.declared.graph.Place.{Place}
use Rattle.exec_graph.specs.declared.graph.Act.{Act}
use Rattle.exec_graph.specs.declared.graph.Act.TheVariants.{SideInput, Operate, Singleton}
use Rattle.exec_graph.specs.declared.graph.Node.{Node}
use Rattle.exec_graph.specs.declared.graph.Node.TheVariants.{Source, Flatten, Pdo, Gbk, Barrier}
use Rattle.exec_graph.specs.declared.graph.Entry.{Entry}

-- at most the greatest number of 64 bits
abbrev pub capped : ℕ → ℕ
capped n = min n (2 ^ 64 - 1)

abbrev pub sum_of : List ℕ → ℕ
sum_of [] = 0
sum_of (n ∷ ns) = n + sum_of ns

abbrev pub scale_or : Option ℕ → ℕ
scale_or None = 100
scale_or (Some p) = p

-- what a step gives of a hundred elements: by its function's scale, where it has one
abbrev pub step_scale : List ℕ → Does → ℕ
step_scale scales (does.Call f) = scale_or (slice_get scales f)
step_scale scales _ = 100

-- a Pdo has the scale of its first step
abbrev pub scale_of : List ℕ → Forest → ℕ
scale_of scales Bare = 100
scale_of scales (Grow l kids rest) = step_scale scales l.does

-- a step beside an object has its function's scale, and what is made of others the sum of theirs
abbrev pub act_estimate : List ℕ → Act → List ℕ → ℕ
act_estimate scales (SideInput f) [] = 0
act_estimate scales (SideInput f) (n ∷ ns) = capped (n * step_scale scales (does.Call f) / 100)
act_estimate scales (Operate f) ns = capped (sum_of ns)
act_estimate scales (Singleton k) ns = capped (sum_of ns)

-- the estimate of a node, by those of the nodes that it reads
abbrev pub estimate : List ℕ → (ℕ → ℕ) → Node → ℕ
estimate scales m (Source r) = 1000000
estimate scales m (Flatten ins) = capped (sum_of (map (λ (c : Place). m c.node) ins))
estimate scales m (Pdo c f) = capped (m c.node * scale_of scales f / 100)
estimate scales m (Gbk c o l k) = m c.node
estimate scales m (Barrier ins o l a) = act_estimate scales a (map (λ (c : Place). m c.node) ins)

-- m says of each node what its estimate is
abbrev pub AreEstimates : List ℕ → List Entry → (ℕ → ℕ) → Type 0
AreEstimates scales es m = AllByRecursion (λ e. m e.number ≡ estimate scales m e.node) es
