-- The conditions on single nodes that rewrites keep.
use Rattle.std.proofs.Common.{◌≡◌, ℕ, ◌+◌, ◌<◌, ◌⊎◌, Bool, true, false, cond, Option, inl, inr}
use Rattle.combine_table.specs.declared.comb.Comb.{Comb}
use Rattle.graph_bounds.specs.of_exec_graph.Forests.{Forest, Bare, Grow}
use Rattle.graph_bounds.specs.of_exec_graph.Meaning.{is_out}
use Rattle.graph_bounds.specs.of_exec_graph.declared.graph.Act.{Act}
use Rattle.graph_bounds.specs.of_exec_graph.declared.graph.Input.{Input}
use Rattle.graph_bounds.specs.of_exec_graph.declared.graph.Node.{Node}
use Rattle.graph_bounds.specs.of_exec_graph.declared.graph.Node.TheVariants.{Source, Pdo, Barrier}
use Rattle.graph_bounds.specs.of_exec_graph.declared.graph.Place.{Place}
use Rattle.graph_bounds.proofs.Bounding.{numbered_few}
use Rattle.graph_bounds.specs.Sources.{BringsSuch}
use Rattle.graph_bounds.specs.of_graph_laws.Joining.{beside, grafted, reread}
use Rattle.graph_bounds.specs.of_graph_laws.Kids.{kept_by, named_by}
use Rattle.graph_bounds.specs.of_graph_laws.Lifting.{marked}
use Rattle.graph_bounds.specs.of_plan_rules.Fitting.{HasFewOutputs, IsNarrow}
use Rattle.graph_rewrites.proofs.Steady.{IsSteady}

-- nothing is asked of steps
abbrev pub Free : Forest → Type 0
Free f = Unit {0}

pub steady_such : (P : Input ⊎ Act → Type 0) → IsSteady (BringsSuch P) Free
steady_such P = record {
  flat = λ ins. tt;
  into = λ c f i. tt;
  from = λ c f i. tt;
  read = λ r x. read r x;
  mark = λ h x. mark h x;
  name = λ r f i. tt;
  keep = λ k f i. tt;
  count = λ f i. tt;
  both = λ f h i j. tt;
  graft = λ j f h i k. tt;
}
  where
    read : (r : Place → Place) (x : Node) → BringsSuch P x → BringsSuch P (reread r x)
    read r (Source s) i = i
    read r (Barrier ins o l a) i = i
    read r _ i = tt

    mark : (h : Option Comb → Option Comb) (x : Node) → BringsSuch P x → BringsSuch P (marked h x)
    mark h (Source s) i = i
    mark h (Barrier ins o l a) i = i
    mark h _ i = tt

-- ---- few outputs

-- a forest of few outputs may stand behind any other
few_behind : (m : ℕ) (f : Forest) → HasFewOutputs 0 f → HasFewOutputs m f
few_behind m Bare h = tt
few_behind m (Grow l kids rest) h = (by h.0, h.1, h.2)
  where
    by : (l.at ≡ 0) ⊎ ((l.at ≡ 0) × (0 < 8)) → (l.at ≡ 0) ⊎ ((l.at ≡ m) × (m < 8))
    by (inl e) = inl e
    by (inr e) = inl e.0

few_named : (m : ℕ) (r : ℕ → ℕ) (f : Forest) → HasFewOutputs m f → HasFewOutputs m (named_by r f)
few_named m r Bare h = tt
few_named m r (Grow l kids rest) h =
    (h.0, few_named 0 r kids h.1, few_named (l.at + 1) r rest h.2)

few_kept : (m : ℕ) (k : ℕ → Bool) (f : Forest) → HasFewOutputs m f → HasFewOutputs m (kept_by k f)
few_kept m k Bare h = tt
few_kept m k (Grow l kids rest) h =
    (h.0, few_kept 0 k kids h.1, few_kept (l.at + 1) k rest h.2)

few_beside : (m : ℕ) (f h : Forest) → HasFewOutputs m f → HasFewOutputs 0 h
    → HasFewOutputs m (beside f h)
few_beside m Bare h a b = few_behind m h b
few_beside m (Grow l kids rest) h a b = (a.0, a.1, few_beside (l.at + 1) rest h a.2 b)

few_grafted : (m j : ℕ) (f h : Forest) → HasFewOutputs m f → HasFewOutputs 0 h
    → HasFewOutputs m (grafted j h f)
few_grafted m j Bare h a b = tt
few_grafted m j (Grow l kids rest) h a b =
    elim (is_out l.out j) as (λ s. HasFewOutputs m
    (cond s (Grow l (beside kids h) rest) (Grow l (grafted j h kids) (grafted j h rest)))) [
      | true ↦ (a.0, few_beside 0 kids h a.1 b, a.2)
      | false ↦ (a.0, few_grafted 0 j kids h a.1 b, few_grafted (l.at + 1) j rest h a.2 b)
    ]

pub steady_narrow : IsSteady IsNarrow (HasFewOutputs 0)
steady_narrow = record {
  flat = λ ins. tt;
  into = λ c f i. i;
  from = λ c f i. i;
  read = λ r x. read r x;
  mark = λ h x. mark h x;
  name = λ r f i. few_named 0 r f i;
  keep = λ k f i. few_kept 0 k f i;
  count = λ f i. numbered_few 0 0 f i;
  both = λ f h i j. few_beside 0 f h i j;
  graft = λ j f h i k. few_grafted 0 j f h i k;
}
  where
    read : (r : Place → Place) (x : Node) → IsNarrow x → IsNarrow (reread r x)
    read r (Pdo c f) i = i
    read r _ i = tt

    mark : (h : Option Comb → Option Comb) (x : Node) → IsNarrow x → IsNarrow (marked h x)
    mark h (Pdo c f) i = i
    mark h _ i = tt
