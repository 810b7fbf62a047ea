-- Nodes that pass a test: some one, and the only one.
use Rattle.std.proofs.Common.{◌≡◌, ℕ, Bool, true, false, cond, eqb, ◌||◌, List, [], ◌∷◌, Some, refl, sym, ap, ◌∙◌}
use Rattle.std.specs.List.{AllByRecursion as Each}
use Rattle.std.proofs.lemmas.Bool.{eqb-true, eq-eqb, false≢true}
use Rattle.exec_graph.specs.Meaning.{AllDiffer, node_at}
use Rattle.exec_graph.specs.Readers.{any_node, those}
use Rattle.exec_graph.specs.declared.graph.Node.{Node}
use Rattle.exec_graph.specs.declared.graph.Entry.{Entry}
use Rattle.exec_graph.proofs.Bools.{not_true}
use Rattle.exec_graph.proofs.Entries.{all_found}

-- a node that passes
pub record Found (t : Node → Bool) (es : List Entry) : Type 0 where
  pub number : ℕ
  pub node : Node
  pub at : node_at es number ≡ Some node
  pub passes : t node ≡ true

-- a node behind the first has another number
apart_first : (e : Entry) (es : List Entry) (n : ℕ) (z : Node)
    → Each (λ d. d.number ≡ e.number → ⊥) es → node_at es n ≡ Some z → e.number ≡ n → ⊥
apart_first e es n z d at i =
    all_found (λ d. d.number ≡ e.number → ⊥) es n z at d (sym i)

later_at : (e : Entry) (es : List Entry) (n : ℕ) (z : Node)
    → Each (λ d. d.number ≡ e.number → ⊥) es → node_at es n ≡ Some z
    → node_at (e ∷ es) n ≡ Some z
later_at e es n z d at =
    rw (not_true (eqb e.number n) (λ i. apart_first e es n z d at (eqb-true e.number n i))) at

pub any_found : (t : Node → Bool) (es : List Entry) → AllDiffer es → any_node t es ≡ true
    → Found t es
any_found t [] d h = absurd (false≢true h)
any_found t (e ∷ es) d h = by (t e.node) refl h (any_found t es d.1)
  where
    by : (b : Bool) → t e.node ≡ b → (b || any_node t es) ≡ true
        → (any_node t es ≡ true → Found t es) → Found t (e ∷ es)
    by true i j rest = record {
      number = e.number;
      node = e.node;
      at = rw (eq-eqb e.number e.number refl) refl;
      passes = i;
    }
    by false i j rest =
        let u = rest j in
        record {
          number = u.number;
          node = u.node;
          at = later_at e es u.number u.node d.0 u.at;
          passes = u.passes;
        }

-- where there are numbers of those that pass, some node passes
pub any_listed : (t : Node → Bool) (es : List Entry) (n : ℕ) (ns : List ℕ)
    → those t es ≡ n ∷ ns → any_node t es ≡ true
any_listed t [] n ns h = let no : ⊥ = cc in absurd no
any_listed t (e ∷ es) n ns h = by (t e.node) h (any_listed t es n ns)
  where
    by : (b : Bool) → cond b (e.number ∷ those t es) (those t es) ≡ n ∷ ns
        → (those t es ≡ n ∷ ns → any_node t es ≡ true) → (b || any_node t es) ≡ true
    by true i rest = refl
    by false i rest = rest i

those_none : (t : Node → Bool) (es : List Entry) → AllDiffer es
    → ((m : ℕ) (z : Node) → node_at es m ≡ Some z → t z ≡ true → ⊥) → those t es ≡ []
those_none t [] d none = refl
those_none t (e ∷ es) d none =
    ap (λ b. cond b (e.number ∷ those t es) (those t es))
    (not_true (t e.node) (none e.number e.node (rw (eq-eqb e.number e.number refl) refl)))
    ∙ those_none t es d.1 (λ m z at. none m z (later_at e es m z d.0 at))

-- the only node that passes
pub those_single : (t : Node → Bool) (es : List Entry) (n : ℕ) (y : Node) → AllDiffer es
    → node_at es n ≡ Some y → t y ≡ true
    → ((m : ℕ) (z : Node) → node_at es m ≡ Some z → t z ≡ true → m ≡ n) → those t es ≡ n ∷ []
those_single t [] n y d h passes only = let no : ⊥ = cc in absurd no
those_single t (e ∷ es) n y d h passes only =
    by (eqb e.number n) refl h (λ j. those_single t es n y d.1 j passes behind)
  where
    behind : (m : ℕ) (z : Node) → node_at es m ≡ Some z → t z ≡ true → m ≡ n
    behind m z at i = only m z (later_at e es m z d.0 at) i

    by : (b : Bool) → eqb e.number n ≡ b → cond b (Some e.node) (node_at es n) ≡ Some y
        → (node_at es n ≡ Some y → those t es ≡ n ∷ [])
        → cond (t e.node) (e.number ∷ those t es) (those t es) ≡ n ∷ []
    by true i j rest =
        let same : e.node ≡ y = cc in
        let is : e.number ≡ n = eqb-true e.number n i in
        let none : those t es ≡ [] =
        those_none t es d.1 (λ m z at k. apart_first e es m z d.0 at (is ∙ sym (behind m z at k)))
        in
        ap (λ b. cond b (e.number ∷ those t es) (those t es)) (ap t same ∙ passes)
        ∙ ap (λ (l : List ℕ). e.number ∷ l) none ∙ ap (λ (m : ℕ). m ∷ []) is
    by false i j rest =
        ap (λ b. cond b (e.number ∷ those t es) (those t es))
        (not_true (t e.node) (λ k. false≢true (sym i ∙ eq-eqb e.number n
        (only e.number e.node (rw (eq-eqb e.number e.number refl) refl) k))))
        ∙ rest j
