-- What is next in the chain can be done, and what stands where nothing is next.
use Rattle.std.proofs.Common.{◌≡◌, ℕ, ◌≤◌, Bool, true, false, cond, leb, List, [], ◌∷◌, length, Option, Some, None, refl, sym, ap, ◌∙◌, subst, inl, inr, ◌⊎◌}
use Rattle.std.proofs.lemmas.Bool.{eqb-true, leb-true, leb-false}
use Rattle.std.specs.List.{AllByRecursion}
use Rattle.flume_value.proofs.EachLemmas.{Each-both, Each-weaker}
use Rattle.graph_laws.specs.of_exec_graph.Forests.{Forest}
use Rattle.graph_laws.specs.of_exec_graph.Meaning.{place, node_at, reads, IsThere}
use Rattle.graph_laws.specs.of_exec_graph.Readers.{among}
use Rattle.graph_laws.specs.of_exec_graph.Wellformed.{IsGraphOk, most_nodes, total_size}
use Rattle.graph_laws.specs.of_exec_graph.declared.graph.Place.{Place}
use Rattle.graph_laws.specs.of_exec_graph.declared.graph.Node.{Node}
use Rattle.graph_laws.specs.of_exec_graph.declared.graph.Node.TheVariants.{Source, Flatten, Pdo, Gbk, Barrier}
use Rattle.graph_laws.specs.of_exec_graph.declared.graph.Entry.{Entry}
use Rattle.graph_laws.specs.of_exec_graph.declared.graph.Graph.{Graph}
use Rattle.graph_laws.proofs.of_exec_graph.Solving.{each_found}
use Rattle.graph_laws.proofs.of_exec_graph.Soundness.{differ_ascends}
use Rattle.graph_laws.proofs.ReadPlaces.{all_among}
use Rattle.graph_laws.proofs.Wellness.{gives_of}
use Rattle.sink_laws.specs.declared.pair.Pair.{Pair}
use Rattle.sink_laws.specs.Kept.{KeepsTypesAndSteps, IsOfPdo}
use Rattle.sink_laws.specs.Merging.{spliced, merged_flattens, CanMerge}
use Rattle.sink_laws.specs.Sinking.{sunk_once}
use Rattle.sink_laws.specs.Chain.{is_before, lesser_pair, least_pair, ins_of, forest_of, nest_of, nest_at, next_nest, after_nest, call_of, call_at, next_call, after_call, CanSinkPdo, CanNest, has_room, sink_next, next_by, next_graph, SinksTo, stay, go, ReadsNoFlatten, NoPdoReadsFlatten, IsFull}
use Rattle.sink_laws.proofs.Steps.{IsGood-trans, IsGood-merge_step, IsGood-sink_step}
use Rattle.sink_laws.proofs.TypesKept.{IsTyped-sunk, IsTyped-merged, IsTyped-tidied, AllSteps-sink_step, AllSteps-merge_step, AllSteps-kept, KeepsSteps-self}

-- P holds of what is there.
abbrev pub Only : {X : Type 0} → (X → Type 0) → Option X → Type 0
Only {X} P o = (x : X) → o ≡ Some x → P x

pick : (P : Pair → Type 0) (a b : Pair) (t : Bool) → P a → P b → (x : Pair)
    → cond t (Some b) (Some a) ≡ Some x → P x
pick P a b true p q x h = let e : b ≡ x = cc in subst P e q
pick P a b false p q x h = let e : a ≡ x = cc in subst P e p

lesser_only : (P : Pair → Type 0) (a b : Option Pair) → Only P a → Only P b
    → Only P (lesser_pair a b)
lesser_only P None b p q = q
lesser_only P (Some a) None p q = p
lesser_only P (Some a) (Some b) p q = pick P a b (is_before b a) (p a refl) (q b refl)

least_only : {Y : Type 0} (P : Pair → Type 0) (f : Y → Option Pair) (b : Option Pair) (ys : List Y)
    → Only P b → AllByRecursion (λ y. Only P (f y)) ys → Only P (least_pair f b ys)
least_only P f b [] p a = p
least_only P f b (y ∷ ys) p a =
    least_only P f (lesser_pair b (f y)) ys (lesser_only P b (f y) p a.0) a.1

none_only : (P : Pair → Type 0) → Only P None
none_only P x h = let bad : ⊥ = cc in absurd bad

some_only : (P : Pair → Type 0) (x : Pair) → P x → Only P (Some x)
some_only P x p y h = let e : x ≡ y = cc in subst P e p

-- ---- a step that is next

call_can : (g : Graph) (n p : ℕ) (f : Forest) (o : Option Node) → node_at g.nodes n ≡ o
    → node_at g.nodes p ≡ Some (Pdo (place n 0) f) → Only (CanSinkPdo g) (call_of n p o)
call_can g n p f (Some (Flatten ins)) e h =
    some_only (CanSinkPdo g) (record { flatten = n; other = p })
    (record {
      flatten = e ∙ ap (λ (l : List Place). Some (Flatten l)) (sym (ap ins_of e));
      pdo = h ∙ ap (λ (k : Forest). Some (Pdo (place n 0) k)) (sym (ap forest_of h));
    })
call_can g n p f _ e h = none_only (CanSinkPdo g)

call_can_at : (g : Graph) (p : ℕ) (x : Node) → node_at g.nodes p ≡ Some x
    → AllByRecursion (IsThere g.nodes) (reads x) → Only (CanSinkPdo g) (call_at g.nodes p x)
call_can_at g p (Source r) h t = none_only (CanSinkPdo g)
call_can_at g p (Flatten ins) h t = none_only (CanSinkPdo g)
call_can_at g p (Pdo c f) h t = by (node_at g.nodes c.node) refl
  where
    first : (ins : List Place) → node_at g.nodes c.node ≡ Some (Flatten ins) → c ≡ place c.node 0
    first ins e = ap (λ (j : ℕ). place c.node j)
        (eqb-true c.out 0 (gives_of g.nodes c c.node (Flatten ins) refl e t.0))

    by : (o : Option Node) → node_at g.nodes c.node ≡ o → Only (CanSinkPdo g) (call_of c.node p o)
    by (Some (Flatten ins)) e = call_can g c.node p f (Some (Flatten ins)) e
        (h ∙ ap (λ (d : Place). Some (Pdo d f)) (first ins e))
    by _ e = none_only (CanSinkPdo g)
call_can_at g p (Gbk c o l k) h t = none_only (CanSinkPdo g)
call_can_at g p (Barrier ins o l a) h t = none_only (CanSinkPdo g)

-- what holds of the pairs of each node holds of the least
least_node : (P : Pair → Type 0) (g : Graph) (f : ℕ → Node → Option Pair) → IsGraphOk g
    → ((n : ℕ) (x : Node) → node_at g.nodes n ≡ Some x
    → AllByRecursion (IsThere g.nodes) (reads x) → Only P (f n x))
    → Only P (least_pair (λ (e : Entry). f e.number e.node) None g.nodes)
least_node P g f ok one =
    least_only P (λ (e : Entry). f e.number e.node) None g.nodes (none_only P)
    (Each-both (λ (e : Entry). node_at g.nodes e.number ≡ Some e.node)
    (λ (e : Entry). AllByRecursion (IsThere g.nodes) (reads e.node))
    (λ (e : Entry). Only P (f e.number e.node)) (λ e a b. one e.number e.node a b) g.nodes
    (each_found g.nodes (differ_ascends g.nodes ok.founded.ascends)) ok.founded.there)

pub next_call_can : (g : Graph) → IsGraphOk g → Only (CanSinkPdo g) (next_call g.nodes)
next_call_can g ok =
    least_node (CanSinkPdo g) g (call_at g.nodes) ok (call_can_at g)

-- ---- a merge that is next

nest_room : (g : Graph) (n e : ℕ) (ins es : List Place) (b : Bool)
    → leb (length (spliced e es ins)) most_nodes ≡ b → node_at g.nodes n ≡ Some (Flatten ins)
    → node_at g.nodes e ≡ Some (Flatten es) → among (place e 0) ins ≡ true
    → Only (CanNest g) (cond b (Some (record { flatten = n; other = e })) None)
nest_room g n e ins es true i a b r =
    let p : ins_of (node_at g.nodes n) ≡ ins = ap ins_of a in
    let q : ins_of (node_at g.nodes e) ≡ es = ap ins_of b in
    some_only (CanNest g) (record { flatten = n; other = e })
    (subst (λ (l : List Place). CanMerge g n l e (ins_of (node_at g.nodes e))) (sym p)
    (subst (λ (l : List Place). CanMerge g n ins e l) (sym q) (record {
      outer = a;
      inner = b;
      nested = r;
      room = leb-true (length (spliced e es ins)) most_nodes i;
    })))
nest_room g n e ins es false i a b r = none_only (CanNest g)

nest_can : (g : Graph) (n : ℕ) (ins : List Place) (c : Place) (o : Option Node)
    → node_at g.nodes c.node ≡ o → node_at g.nodes n ≡ Some (Flatten ins) → among c ins ≡ true
    → IsThere g.nodes c → Only (CanNest g) (nest_of n ins c.node o)
nest_can g n ins c (Some (Flatten es)) h a r t =
    let first : c ≡ place c.node 0 = ap (λ (j : ℕ). place c.node j)
    (eqb-true c.out 0 (gives_of g.nodes c c.node (Flatten es) refl h t)) in
    nest_room g n c.node ins es (leb (length (spliced c.node es ins)) most_nodes) refl a h
    (subst (λ (d : Place). among d ins ≡ true) first r)
nest_can g n ins c _ h a r t = none_only (CanNest g)

nest_can_at : (g : Graph) (n : ℕ) (x : Node) → node_at g.nodes n ≡ Some x
    → AllByRecursion (IsThere g.nodes) (reads x) → Only (CanNest g) (nest_at g.nodes n x)
nest_can_at g n (Flatten ins) h t =
    least_only (CanNest g) (λ (c : Place). nest_of n ins c.node (node_at g.nodes c.node)) None ins
    (none_only (CanNest g))
    (Each-both (λ (c : Place). among c ins ≡ true) (IsThere g.nodes)
    (λ (c : Place). Only (CanNest g) (nest_of n ins c.node (node_at g.nodes c.node)))
    (λ c r u. nest_can g n ins c (node_at g.nodes c.node) refl h r u) ins
    (all_among (λ c. among c ins ≡ true) ins (λ c i. i)) t)
nest_can_at g n _ h t = none_only (CanNest g)

pub next_nest_can : (g : Graph) → IsGraphOk g → Only (CanNest g) (next_nest g.nodes)
next_nest_can g ok =
    least_node (CanNest g) g (nest_at g.nodes) ok (nest_can_at g)

-- ---- the chain

pub IsKept-trans : (g h i : Graph) → KeepsTypesAndSteps g h → KeepsTypesAndSteps h i
    → KeepsTypesAndSteps g i
IsKept-trans g h i a b = record {
  good = IsGood-trans g h i a.good b.good;
  types = λ s t. b.types s (a.types s t);
  steps = AllSteps-kept (IsOfPdo g) h i b.steps a.steps;
}

pub IsKept-refl : (g : Graph) → IsGraphOk g → KeepsTypesAndSteps g g
IsKept-refl g ok = record {
  good = record {
    ok = ok;
    keeps = λ w m h. (m, h, record { outputs = refl; own = λ i. refl; traps = refl });
  };
  types = λ s t. t;
  steps = KeepsSteps-self g ok;
}

pub IsKept-nest : (g : Graph) (n : Pair) → IsGraphOk g → CanNest g n
    → KeepsTypesAndSteps g (after_nest g n)
IsKept-nest g n ok can =
    let ins : List Place = ins_of (node_at g.nodes n.flatten) in
    let es : List Place = ins_of (node_at g.nodes n.other) in
    record {
      good = IsGood-merge_step g n.flatten ins n.other es ok can;
      types = λ s t. IsTyped-tidied s (merged_flattens g n.flatten ins n.other es) n.other
          (IsTyped-merged s g n.flatten ins n.other es can t);
      steps = AllSteps-merge_step (IsOfPdo g) g n.flatten ins n.other es (KeepsSteps-self g ok);
    }

pub IsKept-call : (g : Graph) (p : Pair) → IsGraphOk g → CanSinkPdo g p
    → total_size (after_call g p).nodes ≤ most_nodes → KeepsTypesAndSteps g (after_call g p)
IsKept-call g p ok can room =
    let ins : List Place = ins_of (node_at g.nodes p.flatten) in
    let f : Forest = forest_of (node_at g.nodes p.other) in
    record {
      good = IsGood-sink_step g p.flatten p.other f ins ok can room;
      types = λ s t. IsTyped-tidied s (sunk_once g p.other f ins) p.flatten
          (IsTyped-sunk s g p.flatten p.other f ins ok.founded.below ok.founded.there can t);
      steps = AllSteps-sink_step (IsOfPdo g) g p.flatten p.other f ins can
          (KeepsSteps-self g ok);
    }

pub Leads-trans : (g h i : Graph) → SinksTo g h → SinksTo h i → SinksTo g i
Leads-trans g h i a (stay x) = a
Leads-trans g h i a (go x y z b e) = go g y z (Leads-trans g x y a b) e

pub next_is_nest : (g : Graph) (n : Pair) → next_nest g.nodes ≡ Some n
    → next_graph g ≡ Some (after_nest g n)
unfolding next_graph
next_is_nest g n h = ap (next_by g) h

pub next_is_call : (g : Graph) (p : Pair) → next_nest g.nodes ≡ None
    → next_call g.nodes ≡ Some p → has_room g p ≡ true → next_graph g ≡ Some (after_call g p)
unfolding next_graph
next_is_call g p a b c = ap (next_by g) a ∙ ap (sink_next g) b ∙ rw c refl

pub next_is_none : (g : Graph) → next_nest g.nodes ≡ None → next_call g.nodes ≡ None
    → next_graph g ≡ None
unfolding next_graph
next_is_none g a b = ap (next_by g) a ∙ ap (sink_next g) b

pub next_has_no_room : (g : Graph) (p : Pair) → next_nest g.nodes ≡ None
    → next_call g.nodes ≡ Some p → has_room g p ≡ false → next_graph g ≡ None
unfolding next_graph
next_has_no_room g p a b c = ap (next_by g) a ∙ ap (sink_next g) b ∙ rw c refl

-- ---- the normal form

lesser_none : (a b : Option Pair) → lesser_pair a b ≡ None → (a ≡ None) × (b ≡ None)
lesser_none None b h = (refl, h)
lesser_none (Some a) None h = let bad : ⊥ = cc in absurd bad
lesser_none (Some a) (Some b) h = absurd (by (is_before b a) h)
  where
    by : (t : Bool) → cond t (Some b) (Some a) ≡ None → ⊥
    by true k = cc
    by false k = cc

least_none : {Y : Type 0} (f : Y → Option Pair) (b : Option Pair) (ys : List Y)
    → least_pair f b ys ≡ None → (b ≡ None) × AllByRecursion (λ y. f y ≡ None) ys
least_none f b [] h = (h, tt)
least_none f b (y ∷ ys) h =
    let r = least_none f (lesser_pair b (f y)) ys h in
    let p = lesser_none b (f y) r.0 in
    (p.0, (p.1, r.1))

no_call_of : (n p : ℕ) (ins : List Place) (o : Option Node) → call_of n p o ≡ None
    → o ≡ Some (Flatten ins) → ⊥
no_call_of n p ins o h e =
    let i : call_of n p (Some (Flatten ins)) ≡ None = ap (call_of n p) (sym e) ∙ h in cc

no_call : (es : List Entry) (p : ℕ) (x : Node) → call_at es p x ≡ None → ReadsNoFlatten es x
no_call es p (Pdo c f) h = λ ins e. no_call_of c.node p ins (node_at es c.node) h e
no_call es p _ h = tt

no_room : (g h : Graph) (b : Bool) → cond b (Some h) None ≡ None → b ≡ false
no_room g h true e = let bad : ⊥ = cc in absurd bad
no_room g h false e = refl

normal_by : (g : Graph) (o : Option Pair) → next_call g.nodes ≡ o → sink_next g o ≡ None
    → NoPdoReadsFlatten g ⊎ IsFull g
normal_by g None h e = inl (Each-weaker (λ (e : Entry). call_at g.nodes e.number e.node ≡ None)
    (λ (e : Entry). ReadsNoFlatten g.nodes e.node) (λ e i. no_call g.nodes e.number e.node i)
    g.nodes (least_none (λ (e : Entry). call_at g.nodes e.number e.node) None g.nodes h).1)
normal_by g (Some p) h e = inr (
  p,
  h,
  leb-false (total_size (after_call g p).nodes) most_nodes
      (no_room g (after_call g p) (has_room g p) e),
)

pub normal_form : (g : Graph) → next_nest g.nodes ≡ None → next_graph g ≡ None
    → NoPdoReadsFlatten g ⊎ IsFull g
unfolding next_graph
normal_form g n h = normal_by g (next_call g.nodes) refl (ap (next_by g) (sym n) ∙ h)
