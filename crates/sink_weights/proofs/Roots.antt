-- Over each node there is one that nothing reads, or that a script output reads.
use Rattle.std.proofs.Common.{◌≡◌, ℕ, ◌+◌, ◌<◌, ◌≤◌, Bool, true, false, eqb, List, [], ◌∷◌, Some, length, zero, suc, refl, sym, ap, subst, arith, inl, inr, ◌⊎◌}
use Rattle.std.proofs.lemmas.Bool.{eqb-true, eq-eqb, false≢true}
use Rattle.std.specs.List.{AllByRecursion}
use Rattle.sink_laws.specs.of_exec_graph.Meaning.{node_at, reads, IsRankedBy}
use Rattle.sink_laws.specs.of_exec_graph.Readers.{any_node, same_place, among, uses, is_read}
use Rattle.sink_laws.specs.of_exec_graph.Wellformed.{IsFounded}
use Rattle.sink_laws.specs.of_exec_graph.declared.graph.Place.{Place}
use Rattle.sink_laws.specs.of_exec_graph.declared.graph.Node.{Node}
use Rattle.sink_laws.specs.of_exec_graph.declared.graph.Node.TheVariants.{Gbk}
use Rattle.sink_laws.specs.of_exec_graph.declared.graph.Entry.{Entry}
use Rattle.sink_laws.specs.of_exec_graph.declared.graph.Graph.{Graph}
use Rattle.sink_laws.proofs.of_exec_graph.Bools.{or_cases, or_left, or_right, no_or}
use Rattle.sink_laws.proofs.of_exec_graph.Solving.{each_found, lower_most, place_of, ranked_at, short_ranked}
use Rattle.sink_laws.proofs.of_exec_graph.Soundness.{differ_ascends}
use Rattle.sink_laws.proofs.of_graph_laws.Reading.{any_here}
use Rattle.sink_laws.proofs.Unread.{same_true}
use Rattle.sink_weights.specs.Weights.{is_of, is_node_read}

-- ---- who reads a node

-- A node that passes a test.
pub record IsPassing (t : Node → Bool) (es : List Entry) : Type 0 where
  pub number : ℕ
  pub node : Node
  pub at : node_at es number ≡ Some node
  pub passes : t node ≡ true

passing_one : (t : Node → Bool) (all es : List Entry)
    → AllByRecursion (λ e. node_at all e.number ≡ Some e.node) es → any_node t es ≡ true
    → IsPassing t all
passing_one t all [] a h = absurd (false≢true h)
passing_one t all (e ∷ es) a h =
    elim (or_cases (t e.node) (any_node t es) h) [
      | inl i ↦ record { number = e.number; node = e.node; at = a.0; passes = i }
      | inr i ↦ passing_one t all es a.1 i
    ]

pub reader_of : (g : Graph) (t : Node → Bool) → IsFounded g → any_node t g.nodes ≡ true
    → IsPassing t g.nodes
reader_of g t ok h =
    passing_one t g.nodes g.nodes (each_found g.nodes (differ_ascends g.nodes ok.ascends)) h

abbrev pub reads_of : ℕ → Node → Bool
reads_of q x = is_of q (reads x)

pub read_by_node : (g : Graph) (q r : ℕ) (x : Node) → node_at g.nodes r ≡ Some x
    → is_of q (reads x) ≡ true → is_node_read g q ≡ true
read_by_node g q r x at h =
    or_left (any_node (reads_of q) g.nodes) (is_of q g.outputs)
    (any_here (reads_of q) g.nodes r x at h)

pub read_by_output : (g : Graph) (q : ℕ) → is_of q g.outputs ≡ true → is_node_read g q ≡ true
read_by_output g q h = or_right (any_node (reads_of q) g.nodes) (is_of q g.outputs) h

-- What holds of all that is read holds of what is read of a node.
pub lower_read : (s : ℕ → ℕ) (q k : ℕ) (cs : List Place) → AllByRecursion (λ c. s c.node < k) cs
    → is_of q cs ≡ true → s q < k
lower_read s q k [] a h = absurd (false≢true h)
lower_read s q k (c ∷ cs) a h =
    elim (or_cases (eqb c.node q) (is_of q cs) h) [
      | inl e ↦ subst (λ (n : ℕ). s n < k) (eqb-true c.node q e) a.0
      | inr e ↦ lower_read s q k cs a.1 e
    ]

pub ranked_over : (s : ℕ → ℕ) (es : List Entry) (q r : ℕ) (x : Node) → IsRankedBy s es
    → node_at es r ≡ Some x → is_of q (reads x) ≡ true → s q < s r
ranked_over s es q r x a at h = lower_read s q (s r) (reads x) (ranked_at s es r x a at) h

-- ---- by places

pub among_is_of : (c : Place) (cs : List Place) → among c cs ≡ true → is_of c.node cs ≡ true
among_is_of c [] h = absurd (false≢true h)
among_is_of c (d ∷ ds) h =
    elim (or_cases (same_place c d) (among c ds) h) [
      | inl i ↦ or_left (eqb d.node c.node) (is_of c.node ds)
          (eq-eqb d.node c.node (sym (ap (λ (e : Place). e.node) (same_true c d i))))
      | inr i ↦ or_right (eqb d.node c.node) (is_of c.node ds) (among_is_of c ds i)
    ]

pub uses_among : (c : Place) (x : Node) → uses c x ≡ true → among c (reads x) ≡ true
uses_among c (Gbk d o l k) h = or_left (same_place c d) false h
uses_among c _ h = h

any_up : (s t : Node → Bool) (es : List Entry) → ((x : Node) → s x ≡ true → t x ≡ true)
    → any_node s es ≡ true → any_node t es ≡ true
any_up s t [] f h = h
any_up s t (e ∷ es) f h =
    elim (or_cases (s e.node) (any_node s es) h) [
      | inl i ↦ or_left (t e.node) (any_node t es) (f e.node i)
      | inr i ↦ or_right (t e.node) (any_node t es) (any_up s t es f i)
    ]

-- A node of which a collection is read is read.
pub node_of_place : (g : Graph) (c : Place) → is_read g c ≡ true
    → is_node_read g c.node ≡ true
node_of_place g c h =
    elim (or_cases (any_node (uses c) g.nodes) (among c g.outputs) h) [
      | inl i ↦ or_left (any_node (reads_of c.node) g.nodes) (is_of c.node g.outputs)
          (any_up (uses c) (reads_of c.node) g.nodes
          (λ x k. among_is_of c (reads x) (uses_among c x k)) i)
      | inr i ↦ read_by_output g c.node (among_is_of c g.outputs i)
    ]

-- ---- the way up

-- A node for which P holds, and over which there is none.
pub record IsRoot (g : Graph) (P : ℕ → Type 0) : Type 0 where
  pub number : ℕ
  pub node : Node
  pub at : node_at g.nodes number ≡ Some node
  pub holds : P number
  pub root : (is_of number g.outputs ≡ true) ⊎ (is_node_read g number ≡ false)

climb : (g : Graph) (P : ℕ → Type 0) (ok : IsFounded g)
    → ((q r : ℕ) (x : Node) → P q → node_at g.nodes r ≡ Some x → is_of q (reads x) ≡ true → P r)
    → (fuel q : ℕ) (y : Node) → node_at g.nodes q ≡ Some y → P q
    → length g.nodes < place_of ok.ranked.0 g.nodes q + fuel → IsRoot g P
climb g P ok up zero q y at h l =
    let top : place_of ok.ranked.0 g.nodes q ≤ length g.nodes =
    lower_most ok.ranked.0 g.nodes (ok.ranked.0 q) in absurd (omega arith)
climb g P ok up (suc fuel) q y at h l =
    by (λ r. over r (λ x a b. climb g P ok up fuel r.number x a b))
    (any_node (reads_of q) g.nodes) (is_of q g.outputs) refl refl
  where
    over : (r : IsPassing (reads_of q) g.nodes)
        → ((x : Node) → node_at g.nodes r.number ≡ Some x → P r.number
        → length g.nodes < place_of ok.ranked.0 g.nodes r.number + fuel → IsRoot g P)
        → IsRoot g P
    over r next =
        let s : ℕ → ℕ = place_of ok.ranked.0 g.nodes in
        let sa : IsRankedBy s g.nodes =
        short_ranked ok.ranked.0 g.nodes g.nodes ok.there ok.ranked.1 in
        let higher : s q < s r.number = ranked_over s g.nodes q r.number r.node sa r.at r.passes in
        next r.node r.at (up q r.number r.node h r.at r.passes) (omega arith)

    by : (IsPassing (reads_of q) g.nodes → IsRoot g P) → (a b : Bool)
        → any_node (reads_of q) g.nodes ≡ a → is_of q g.outputs ≡ b → IsRoot g P
    by f a true i j = record { number = q; node = y; at = at; holds = h; root = inl j }
    by f true false i j = f (reader_of g (reads_of q) ok i)
    by f false false i j = record {
      number = q;
      node = y;
      at = at;
      holds = h;
      root = inr (no_or (any_node (reads_of q) g.nodes) (is_of q g.outputs) i j);
    }

pub root_over : (g : Graph) (P : ℕ → Type 0) → IsFounded g
    → ((q r : ℕ) (x : Node) → P q → node_at g.nodes r ≡ Some x → is_of q (reads x) ≡ true → P r)
    → (q : ℕ) (y : Node) → node_at g.nodes q ≡ Some y → P q → IsRoot g P
root_over g P ok up q y at h = climb g P ok up (suc (length g.nodes)) q y at h (omega arith)
