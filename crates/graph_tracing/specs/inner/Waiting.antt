-- Kids and siblings that are still to be made.
use Rattle.std.specs.Prelude.{◌≡◌, ◌⊎◌, ℕ, ◌<◌, Bool, false, List, [], ◌∷◌, ◌++◌, map, Some, None}
use Rattle.std.specs.List.{AllByRecursion}
use Rattle.exec_graph.specs.Forests.{Forest}
use Rattle.exec_graph.specs.Meaning.{IsSound, node_at}
use Rattle.exec_graph.specs.declared.graph.Graph.{Graph}
use Rattle.exec_graph.specs.declared.graph.Node.TheVariants.{Pdo}
use Rattle.exec_graph.specs.declared.graph.Place.{Place}
use Rattle.pass_rewrites.specs.of_fuse_chain.Numbers.{after_kids}
use Rattle.pass_rewrites.specs.of_fuse_chain.Rewrites.{FusesTo, Fusion, is_sibling, other_of}
use Rattle.graph_rewrites.specs.declared.rewrite.Rewrite.{Rewrite}
use Rattle.pass_rewrites.specs.Passes.{as_rewrite, present_fusions}
use Rattle.graph_tracing.specs.declared.trace.Trace.{Trace}

-- no two Pdos read one collection
abbrev pub AreApart : Graph → Type 0
AreApart g =
    (n q : ℕ) (c : Place) (f h : Forest) → node_at g.nodes n ≡ Some (Pdo c f)
    → node_at g.nodes q ≡ Some (Pdo c h) → n ≡ q

-- the numbers ascend
abbrev pub Rise : List ℕ → Type 0
Rise [] = Unit {0}
Rise (n ∷ ns) = AllByRecursion (λ m. n < m) ns × Rise ns

-- the Pdos that go are some of these, in their order
abbrev pub GoFrom : List Fusion → List ℕ → Type 0
GoFrom [] ns = Unit {0}
GoFrom (r ∷ rs) [] = ⊥
GoFrom (r ∷ rs) (n ∷ ns) = ((other_of r ≡ n) × GoFrom rs ns) ⊎ GoFrom (r ∷ rs) ns

-- they lead from g to m, and the Pdos that go are some of these: all are siblings, or all are kids
pub record Await (siblings : Bool) (g m : Graph) (ns : List ℕ) (rs : List Fusion) : Type 0 where
  pub all : AllByRecursion (λ r. is_sibling r ≡ siblings) rs
  pub leads : FusesTo rs g m
  pub some : GoFrom rs ns
  pub rise : Rise ns
  pub sound : IsSound g

-- with such as lead on to m, and are made under the numbers that nodes have by l, those that led
-- here are the whole; at the end nodes have the numbers that total tells
pub record IsUnderway (siblings : Bool) (l total : ℕ → ℕ) (t : Trace) (m : Graph) (ns : List ℕ)
    (whole : List Rewrite) : Type 0 where
  pub rest : List Fusion
  pub await : Await siblings t.graph m ns rest
  pub written : t.rewrites ++ map as_rewrite (present_fusions l rest) ≡ whole
  pub last : (n : ℕ) → after_kids rest l n ≡ total n

-- none of these is there
abbrev pub AreGone : Graph → List ℕ → Type 0
AreGone m ns = AllByRecursion (λ n. node_at m.nodes n ≡ None) ns

-- the same of kids, where none of the Pdos that may go is there at the end
pub record IsLeaving (l total : ℕ → ℕ) (t : Trace) (m : Graph) (ns : List ℕ) (whole : List Rewrite)
    : Type 0 where
  pub gone : AreGone m ns
  pub underway : IsUnderway false l total t m ns whole
