-- What a list of rewrites leads to, and where it stops.
use Rattle.std.proofs.Common.{◌≡◌, ℕ, ◌+◌, ◌<◌, ◌≤◌, ◌^◌, inl, inr, false, List, [], ◌∷◌, ◌++◌, length, refl, sym, ap, ◌∙◌, subst, arith}
use Rattle.std.specs.List.{AllByRecursion}
use Rattle.graph_bounds.specs.of_exec_graph.Meaning.{IsThere, SameMeaning, node_at, place}
use Rattle.graph_bounds.specs.of_exec_graph.ObjectFree.{IsObjectFree}
use Rattle.graph_bounds.specs.of_exec_graph.Forests.{Forest}
use Rattle.graph_bounds.specs.of_exec_graph.Wellformed.{IsBlockedOk, IsGraphOk, is_lifted}
use Rattle.graph_bounds.specs.of_exec_graph.declared.graph.Blocked.{Blocked}
use Rattle.graph_bounds.specs.of_exec_graph.declared.graph.Graph.{Graph}
use Rattle.graph_bounds.specs.of_exec_graph.declared.graph.Node.{Node}
use Rattle.graph_bounds.specs.of_exec_graph.declared.graph.Place.{Place}
use Rattle.graph_bounds.proofs.of_exec_graph.Soundness.{SameMeaning-kept}
use Rattle.fusion_blocks.specs.Blocks.{unmarked}
use Rattle.fusion_blocks.proofs.Blocking.{mark_ok}
use Rattle.graph_bounds.specs.Sources.{AreOfKinds, OfSource}
use Rattle.graph_bounds.proofs.Bounding.{IsFree, below_such, free_such, kinds_agree, such_below, such_free}
use Rattle.graph_bounds.specs.of_plan_rules.Fitting.{HasFewOutputs, HasSourcesBelow, IsInBounds, IsNarrow}
use Rattle.graph_rewrites.specs.Replays.{CanFollow, HasNarrowForests, Leads, StopsAt, rewrite_group}
use Rattle.graph_rewrites.specs.Rewrites.{applied, rewritten}
use Rattle.graph_rewrites.specs.declared.rewrite.Rewrite.{Rewrite}
use Rattle.graph_rewrites.specs.declared.rewrite.Rewrite.TheVariants.{Merge, Sink, Lift, Kid, Sibling, Mark}
use Rattle.graph_rewrites.proofs.Keeping.{IsAsGood, apply_good, as_self, as_then}
use Rattle.graph_rewrites.proofs.Narrow.{Free, steady_narrow, steady_such}
use Rattle.graph_rewrites.proofs.Steady.{IsSteady, all_rewritten}

-- ---- where rewrites lead

-- the marks are on what is there, and on no lifted group
abbrev AreMarks : Graph → List Place → Type 0
AreMarks g marks =
    AllByRecursion (IsThere g.nodes) marks
    × AllByRecursion (λ c. is_lifted (node_at g.nodes c.node) ≡ false) marks

-- as good as g; and before the last group nothing is marked
record Stands (g : Graph) (group : ℕ) (b : Blocked) : Type 0 where
  pub good : IsAsGood g b.graph
  pub marks : AreMarks b.graph b.marks
  pub clear : group < 3 → b.marks ≡ []

blocked_ok : (g : Graph) (group : ℕ) (b : Blocked) → Stands g group b → IsBlockedOk b
blocked_ok g group b s = record { ok = s.good.ok; marked = s.marks.0; unlifted = s.marks.1 }

-- a rewrite that marks nothing, where nothing is marked
unmarked_stands : (g : Graph) (group : ℕ) (b : Blocked) (h : Graph) (next : ℕ)
    → Stands g group b → group ≤ next → next < 3 → IsAsGood b.graph h
    → Stands g next (record { graph = h; marks = b.marks })
unmarked_stands g group b h next s le few a =
    let none : b.marks ≡ [] = s.clear (omega arith) in
    record {
      good = as_then IsGraphOk g b.graph h s.good a;
      marks = subst (AreMarks h) (sym none) (tt, tt);
      clear = λ _. none;
    }

stands : (g : Graph) (group : ℕ) (b : Blocked) (r : Rewrite) → Stands g group b
    → CanFollow group b r → Stands g (rewrite_group r) (applied b r)
stands g group b (Mark node output) s f =
    let a : IsBlockedOk (applied b (Mark node output)) =
    mark_ok b (place node output) (blocked_ok g group b s) f.1 in
    record {
      good = s.good;
      marks = (a.marked, a.unlifted);
      clear = λ few. let no : ⊥ = omega arith in absurd no;
    }
stands g group b r s f =
    unmarked_stands g group b (rewritten b.graph r) (rewrite_group r) s f.0 (omega arith)
    (apply_good b r s.good.ok f.1)

leads_stand : (g : Graph) (group : ℕ) (rs : List Rewrite) (a b : Blocked) → Stands g group a
    → Leads group rs a b → (last : ℕ) × Stands g last b
leads_stand g group [] a b s l =
    (group, subst (λ (x : Blocked). Stands g group x) l s)
leads_stand g group (r ∷ rs) a b s l =
    leads_stand g (rewrite_group r) rs (applied a r) b (stands g group a r s l.0) l.1

begun : (g : Graph) → IsGraphOk g → Stands g 0 (unmarked g)
begun g ok = record { good = as_self IsGraphOk g ok; marks = (tt, tt); clear = λ _. refl }

pub leads_ok : (rs : List Rewrite) (g : Graph) (b : Blocked) → IsGraphOk g
    → Leads 0 rs (unmarked g) b → IsBlockedOk b
leads_ok rs g b ok l =
    let s = leads_stand g 0 rs (unmarked g) b (begun g ok) l in blocked_ok g s.0 b s.1

pub leads_good : (rs : List Rewrite) (g : Graph) (b : Blocked) → IsGraphOk g
    → Leads 0 rs (unmarked g) b → IsAsGood g b.graph
leads_good rs g b ok l = (leads_stand g 0 rs (unmarked g) b (begun g ok) l).1.good

pub leads_same : (rs : List Rewrite) (g : Graph) (b : Blocked) → IsGraphOk g
    → Leads 0 rs (unmarked g) b → SameMeaning g b.graph
leads_same rs g b ok l =
    let a = leads_good rs g b ok l in SameMeaning-kept g b.graph ok a.ok a.keeps

-- what holds of each node by itself
leads_all : (Q : Node → Type 0) (F : Forest → Type 0) → IsSteady Q F → (group : ℕ)
    (rs : List Rewrite) (a b : Blocked) → Leads group rs a b
    → AllByRecursion (λ e. Q e.node) a.graph.nodes → AllByRecursion (λ e. Q e.node) b.graph.nodes
leads_all Q F steady group [] a b l h =
    subst (λ (x : Blocked). AllByRecursion (λ e. Q e.node) x.graph.nodes) l h
leads_all Q F steady group (r ∷ rs) a b l h =
    leads_all Q F steady (rewrite_group r) rs (applied a r) b l.1
    (all_rewritten Q F steady a r l.0.1 h)

pub leads_free : (rs : List Rewrite) (g : Graph) (b : Blocked) → Leads 0 rs (unmarked g) b
    → IsObjectFree g → IsObjectFree b.graph
leads_free rs g b l h =
    such_free b.graph.nodes
    (leads_all _ Free (steady_such IsFree) 0 rs (unmarked g) b l (free_such g.nodes h))

pub leads_bounded : (sources : ℕ) (rs : List Rewrite) (g : Graph) (b : Blocked) → IsGraphOk g
    → Leads 0 rs (unmarked g) b → HasSourcesBelow sources g → AreOfKinds g → HasNarrowForests g
    → b.graph.next < 2 ^ 32 → IsInBounds sources b.graph
leads_bounded sources rs g b ok l below kinds narrow few = record {
  below = below_such sources b.graph.nodes
      (leads_all _ Free (steady_such (OfSource (λ r. r.number < sources))) 0 rs (unmarked g) b l
      (such_below sources g.nodes below));
  agree = kinds_agree kinds.0 b.graph
      (leads_all _ Free (steady_such (OfSource (λ r. r.is_object ≡ kinds.0 r.number))) 0 rs
      (unmarked g) b l kinds.1);
  numbers = few;
  narrow = leads_all IsNarrow (HasFewOutputs 0) steady_narrow 0 rs (unmarked g) b l narrow;
}

-- ---- one answer

pub leads_one : (group : ℕ) (rs : List Rewrite) (a b c : Blocked) → Leads group rs a b
    → Leads group rs a c → b ≡ c
leads_one group [] a b c l m = sym l ∙ m
leads_one group (r ∷ rs) a b c l m = leads_one (rewrite_group r) rs (applied a r) b c l.1 m.1

pub leads_on : (group : ℕ) (rs : List Rewrite) (a b : Blocked) (i : ℕ) → Leads group rs a b
    → StopsAt group rs a i → ⊥
leads_on group [] a b i l s = s
leads_on group (r ∷ rs) a b i l (inl s) = s.1 l.0
leads_on group (r ∷ rs) a b i l (inr s) =
    leads_on (rewrite_group r) rs (applied a r) b s.1.0 l.1 s.1.2

pub stops_once : (group : ℕ) (rs : List Rewrite) (a : Blocked) (i j : ℕ) → StopsAt group rs a i
    → StopsAt group rs a j → i ≡ j
stops_once group [] a i j s t = absurd s
stops_once group (r ∷ rs) a i j (inl s) (inl t) = s.0 ∙ sym t.0
stops_once group (r ∷ rs) a i j (inl s) (inr t) = absurd (s.1 t.0)
stops_once group (r ∷ rs) a i j (inr s) (inl t) = absurd (t.1 s.0)
stops_once group (r ∷ rs) a i j (inr s) (inr t) =
    let e : s.1.0 ≡ t.1.0 =
    stops_once (rewrite_group r) rs (applied a r) s.1.0 t.1.0 s.1.2 t.1.2 in
    s.1.1 ∙ ap (λ n. n + 1) e ∙ sym t.1.1

-- ---- one more

-- the group of the last of them
abbrev pub last_group : ℕ → List Rewrite → ℕ
last_group group [] = group
last_group group (r ∷ rs) = last_group (rewrite_group r) rs

pub leads_more : (group : ℕ) (rs : List Rewrite) (r : Rewrite) (a b : Blocked)
    → Leads group rs a b → CanFollow (last_group group rs) b r
    → Leads group (rs ++ r ∷ []) a (applied b r)
leads_more group [] r a b l f =
    subst (λ (x : Blocked). CanFollow group x r × (applied x r ≡ applied b r)) (sym l) (f, refl)
leads_more group (s ∷ rs) r a b l f =
    (l.0, leads_more (rewrite_group s) rs r (applied a s) b l.1 f)

pub last_more : (group : ℕ) (rs : List Rewrite) (r : Rewrite)
    → last_group group (rs ++ r ∷ []) ≡ rewrite_group r
last_more group [] r = refl
last_more group (s ∷ rs) r = last_more (rewrite_group s) rs r

pub stops_here : (group : ℕ) (rs : List Rewrite) (r : Rewrite) (rest : List Rewrite)
    (a b : Blocked) → Leads group rs a b → (CanFollow (last_group group rs) b r → ⊥)
    → StopsAt group (rs ++ r ∷ rest) a (length rs + 1)
stops_here group [] r rest a b l f =
    inl (refl, λ i. f (subst (λ (x : Blocked). CanFollow group x r) l i))
stops_here group (s ∷ rs) r rest a b l f =
    inr (
      l.0,
      (length rs + 1, omega arith, stops_here (rewrite_group s) rs r rest (applied a s) b l.1 f),
    )
