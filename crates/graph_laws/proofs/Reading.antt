-- Who reads a collection, where one node is another, reads elsewhere, or is gone.
use Rattle.std.proofs.Common.{◌≡◌, ℕ, ◌+◌, ◌<◌, Bool, true, false, cond, eqb, ◌||◌, List, [], ◌∷◌, map, Some, refl, sym, ap, ◌∙◌, subst, arith}
use Rattle.std.specs.List.{AllByRecursion as Each}
use Rattle.std.proofs.lemmas.Bool.{eqb-true, eq-eqb, false≢true}
use Rattle.exec_graph.specs.declared.graph.Place.{Place}
use Rattle.exec_graph.specs.declared.graph.Node.{Node}
use Rattle.exec_graph.specs.declared.graph.Node.TheVariants.{Source}
use Rattle.exec_graph.specs.declared.graph.Entry.{Entry}
use Rattle.exec_graph.specs.Meaning.{AllDiffer, node_at}
use Rattle.exec_graph.specs.Readers.{any_node, those}
use Rattle.exec_graph.specs.Wellformed.{Ascends, size, total_size}
use Rattle.exec_graph.proofs.Entries.{all_found, all_map, entry}
use Rattle.exec_graph.proofs.Bools.{or_left, or_right}
use Rattle.exec_graph.proofs.Rooted.{those_differ}
use Rattle.graph_laws.specs.Joining.{reread, reread_entry, set_node, without}
use Rattle.graph_laws.proofs.Changes.{all_set, all_without}

-- ---- some node
pub any_map : (t : Node → Bool) (r : Place → Place) → ((x : Node) → t (reread r x) ≡ t x)
    → (es : List Entry) → any_node t (map (reread_entry r) es) ≡ any_node t es
any_map t r h [] = refl
any_map t r h (e ∷ es) = let i = any_map t r h es in let j = h e.node in cc

pub any_map_to : (t u : Node → Bool) (r : Place → Place)
    → ((x : Node) → t x ≡ true → u (reread r x) ≡ true) → (es : List Entry)
    → any_node t es ≡ true → any_node u (map (reread_entry r) es) ≡ true
any_map_to t u r h [] a = a
any_map_to t u r h (e ∷ es) a = by (t e.node) refl a (any_map_to t u r h es)
  where
    by : (b : Bool) → t e.node ≡ b → (b || any_node t es) ≡ true
        → (any_node t es ≡ true → any_node u (map (reread_entry r) es) ≡ true)
        → (u (reread r e.node) || any_node u (map (reread_entry r) es)) ≡ true
    by true q i f = rw (h e.node q) refl
    by false q i f = or_right (u (reread r e.node)) (any_node u (map (reread_entry r) es)) (f i)

pub any_set : (t : Node → Bool) (es : List Entry) (n : ℕ) (x y : Node) → node_at es n ≡ Some y
    → t x ≡ t y → any_node t (set_node es n x) ≡ any_node t es
any_set t [] n x y h e = let bad : ⊥ = cc in absurd bad
any_set t (d ∷ es) n x y h e = by (eqb d.number n) h (λ i. any_set t es n x y i e)
  where
    by : (b : Bool) → cond b (Some d.node) (node_at es n) ≡ Some y
        → (node_at es n ≡ Some y → any_node t (set_node es n x) ≡ any_node t es)
        → any_node t (cond b (entry n x ∷ es) (d ∷ set_node es n x))
        ≡ (t d.node || any_node t es)
    by true i f = let same : d.node ≡ y = cc in
        ap (λ b. b || any_node t es) (e ∙ ap t (sym same))
    by false i f = ap (λ b. t d.node || b) (f i)

pub any_without : (t : Node → Bool) (es : List Entry) (n : ℕ) (y : Node) → node_at es n ≡ Some y
    → t y ≡ false → any_node t (without es n) ≡ any_node t es
any_without t [] n y h e = refl
any_without t (d ∷ es) n y h e = by (eqb d.number n) h (λ i. any_without t es n y i e)
  where
    by : (b : Bool) → cond b (Some d.node) (node_at es n) ≡ Some y
        → (node_at es n ≡ Some y → any_node t (without es n) ≡ any_node t es)
        → any_node t (cond b es (d ∷ without es n)) ≡ (t d.node || any_node t es)
    by true i f = let same : d.node ≡ y = cc in
        sym (ap (λ b. b || any_node t es) (ap t same ∙ e))
    by false i f = ap (λ b. t d.node || b) (f i)

pub any_here : (t : Node → Bool) (es : List Entry) (n : ℕ) (y : Node) → node_at es n ≡ Some y
    → t y ≡ true → any_node t es ≡ true
any_here t [] n y h e = let bad : ⊥ = cc in absurd bad
any_here t (d ∷ es) n y h e = by (eqb d.number n) h (λ i. any_here t es n y i e)
  where
    by : (b : Bool) → cond b (Some d.node) (node_at es n) ≡ Some y
        → (node_at es n ≡ Some y → any_node t es ≡ true) → (t d.node || any_node t es) ≡ true
    by true i f = let same : d.node ≡ y = cc in or_left (t d.node) (any_node t es) (ap t same ∙ e)
    by false i f = or_right (t d.node) (any_node t es) (f i)

-- ---- the nodes that pass a test
pub those_map : (t : Node → Bool) (r : Place → Place) → ((x : Node) → t (reread r x) ≡ t x)
    → (es : List Entry) → those t (map (reread_entry r) es) ≡ those t es
those_map t r h [] = refl
those_map t r h (e ∷ es) = let i = those_map t r h es in let j = h e.node in cc

pub those_set : (t : Node → Bool) (es : List Entry) (n : ℕ) (x y : Node) → node_at es n ≡ Some y
    → t x ≡ t y → those t (set_node es n x) ≡ those t es
those_set t [] n x y h e = let bad : ⊥ = cc in absurd bad
those_set t (d ∷ es) n x y h e = by (eqb d.number n) refl h (λ i. those_set t es n x y i e)
  where
    by : (b : Bool) → eqb d.number n ≡ b → cond b (Some d.node) (node_at es n) ≡ Some y
        → (node_at es n ≡ Some y → those t (set_node es n x) ≡ those t es)
        → those t (cond b (entry n x ∷ es) (d ∷ set_node es n x))
        ≡ cond (t d.node) (d.number ∷ those t es) (those t es)
    by true q i f = let same : d.node ≡ y = cc in
        let is : t x ≡ t d.node = e ∙ ap t (sym same) in
        ap (λ b. cond b (n ∷ those t es) (those t es)) is
        ∙ ap (λ (m : ℕ). cond (t d.node) (m ∷ those t es) (those t es)) (sym
        (eqb-true d.number n q))
    by false q i f = ap (λ l. cond (t d.node) (d.number ∷ l) l) (f i)

pub those_without : (t : Node → Bool) (es : List Entry) (n : ℕ) (y : Node)
    → node_at es n ≡ Some y → t y ≡ false → those t (without es n) ≡ those t es
those_without t [] n y h e = refl
those_without t (d ∷ es) n y h e = by (eqb d.number n) h (λ i. those_without t es n y i e)
  where
    by : (b : Bool) → cond b (Some d.node) (node_at es n) ≡ Some y
        → (node_at es n ≡ Some y → those t (without es n) ≡ those t es)
        → those t (cond b es (d ∷ without es n))
        ≡ cond (t d.node) (d.number ∷ those t es) (those t es)
    by true i f = let same : d.node ≡ y = cc in
        sym (ap (λ b. cond b (d.number ∷ those t es) (those t es)) (ap t same ∙ e))
    by false i f = ap (λ l. cond (t d.node) (d.number ∷ l) l) (f i)

-- what holds of all that pass holds of one that does
pub those_has : (P : ℕ → Type 0) (t : Node → Bool) (es : List Entry) (n : ℕ) (y : Node)
    → node_at es n ≡ Some y → t y ≡ true → Each P (those t es) → P n
those_has P t [] n y h e a = let bad : ⊥ = cc in absurd bad
those_has P t (d ∷ es) n y h e a =
    by (eqb d.number n) refl h a (λ i b. those_has P t es n y i e b)
  where
    by : (b : Bool) → eqb d.number n ≡ b → cond b (Some d.node) (node_at es n) ≡ Some y
        → Each P (cond (t d.node) (d.number ∷ those t es) (those t es))
        → (node_at es n ≡ Some y → Each P (those t es) → P n) → P n
    by true q i c f = let same : d.node ≡ y = cc in
        let yes : t d.node ≡ true = ap t same ∙ e in
        subst P (eqb-true d.number n q)
        (subst (λ b. Each P (cond b (d.number ∷ those t es) (those t es))) yes c).0
    by false q i c f = f i (later (t d.node) c)
      where
        later : (b : Bool) → Each P (cond b (d.number ∷ those t es) (those t es))
            → Each P (those t es)
        later true z = z.1
        later false z = z

-- one that does not pass is not among those that do
pub those_not : (t : Node → Bool) (es : List Entry) (n : ℕ) (y : Node) → AllDiffer es
    → node_at es n ≡ Some y → t y ≡ false → Each (λ m. m ≡ n → ⊥) (those t es)
those_not t [] n y d h e = tt
those_not t (x ∷ es) n y d h e =
    by (eqb x.number n) refl h (λ i. those_not t es n y d.1 i e) (t x.node) refl
  where
    by : (b : Bool) → eqb x.number n ≡ b → cond b (Some x.node) (node_at es n) ≡ Some y
        → (node_at es n ≡ Some y → Each (λ m. m ≡ n → ⊥) (those t es)) → (c : Bool)
        → t x.node ≡ c → Each (λ m. m ≡ n → ⊥) (cond c (x.number ∷ those t es) (those t es))
    by true q i f true z =
        let same : x.node ≡ y = cc in absurd (false≢true (sym e ∙ ap t (sym same) ∙ z))
    by true q i f false z =
        subst (λ (k : ℕ). Each (λ m. m ≡ k → ⊥) (those t es)) (eqb-true x.number n q)
        (those_differ t es x.number d.0)
    by false q i f true z = ((λ j. false≢true (sym q ∙ eq-eqb x.number n j)), f i)
    by false q i f false z = f i

-- ---- how many
pub size_reread : (r : Place → Place) (x : Node) → size (reread r x) ≡ size x
size_reread r (Source s) = refl
size_reread r _ = refl

pub size_map : (r : Place → Place) (es : List Entry)
    → total_size (map (reread_entry r) es) ≡ total_size es
size_map r [] = refl
size_map r (e ∷ es) = let i = size_map r es in let j = size_reread r e.node in cc

pub size_set : (es : List Entry) (n : ℕ) (x y : Node) → node_at es n ≡ Some y
    → total_size (set_node es n x) + size y ≡ total_size es + size x
size_set [] n x y h = let bad : ⊥ = cc in absurd bad
size_set (d ∷ es) n x y h = by (eqb d.number n) h (size_set es n x y)
  where
    by : (b : Bool) → cond b (Some d.node) (node_at es n) ≡ Some y
        → (node_at es n ≡ Some y → total_size (set_node es n x) + size y ≡ total_size es + size x)
        → total_size (cond b (entry n x ∷ es) (d ∷ set_node es n x)) + size y
        ≡ size d.node + total_size es + size x
    by true i f = let same : d.node ≡ y = cc in
        let e : size d.node ≡ size y = ap size same in omega (arith, e)
    by false i f = let e = f i in omega (arith, e)

pub size_without : (es : List Entry) (n : ℕ) (y : Node) → node_at es n ≡ Some y
    → total_size (without es n) + size y ≡ total_size es
size_without [] n y h = let bad : ⊥ = cc in absurd bad
size_without (d ∷ es) n y h = by (eqb d.number n) h (size_without es n y)
  where
    by : (b : Bool) → cond b (Some d.node) (node_at es n) ≡ Some y
        → (node_at es n ≡ Some y → total_size (without es n) + size y ≡ total_size es)
        → total_size (cond b es (d ∷ without es n)) + size y ≡ size d.node + total_size es
    by true i f = let same : d.node ≡ y = cc in
        let e : size d.node ≡ size y = ap size same in omega (arith, e)
    by false i f = let e = f i in omega (arith, e)

-- ---- numbers
pub ascends_map : (r : Place → Place) (es : List Entry) → Ascends es
    → Ascends (map (reread_entry r) es)
ascends_map r [] a = tt
ascends_map r (e ∷ es) a = (
  all_map (reread_entry r) (λ d. e.number < d.number) (λ d. e.number < d.number) (λ d h. h) es a.0,
  ascends_map r es a.1,
)

pub ascends_set : (es : List Entry) (n : ℕ) (x y : Node) → node_at es n ≡ Some y → Ascends es
    → Ascends (set_node es n x)
ascends_set [] n x y h a = tt
ascends_set (e ∷ es) n x y h a =
    by (eqb e.number n) refl h (λ i. ascends_set es n x y i a.1)
  where
    by : (b : Bool) → eqb e.number n ≡ b → cond b (Some e.node) (node_at es n) ≡ Some y
        → (node_at es n ≡ Some y → Ascends (set_node es n x))
        → Ascends (cond b (entry n x ∷ es) (e ∷ set_node es n x))
    by true q i f = (
      subst (λ (k : ℕ). Each (λ d. k < d.number) es) (eqb-true e.number n q) a.0,
      a.1,
    )
    by false q i f = (
      all_set (λ d. e.number < d.number) es n x a.0
          (all_found (λ d. e.number < d.number) es n y i a.0),
      f i,
    )

pub ascends_without : (es : List Entry) (n : ℕ) → Ascends es → Ascends (without es n)
ascends_without [] n a = tt
ascends_without (e ∷ es) n a =
    elim (eqb e.number n) as (λ b. Ascends (cond b es (e ∷ without es n))) [
      | true ↦ a.1
      | false ↦ (all_without (λ d. e.number < d.number) es n a.0, ascends_without es n a.1)
    ]
