-- What a kid or a sibling does to the Pdos that stay, and to the one that goes.
use Rattle.std.proofs.Common.{◌≡◌, ℕ, Bool, true, false, cond, eqb, List, [], ◌∷◌, map, Some, None, refl, sym, ap, ◌∙◌, subst}
use Rattle.std.proofs.lemmas.Bool.{eqb-true, eq-eqb, false≢true, ne_eqb}
use Rattle.std.specs.List.{AllByRecursion as Each}
use Rattle.exec_graph.specs.Forests.{Forest, numbered}
use Rattle.exec_graph.specs.Meaning.{AllDiffer, node_at, place}
use Rattle.exec_graph.specs.Readers.{is_read}
use Rattle.exec_graph.specs.declared.graph.Entry.{Entry}
use Rattle.exec_graph.specs.declared.graph.Graph.{Graph}
use Rattle.exec_graph.specs.declared.graph.Node.TheVariants.{Pdo}
use Rattle.exec_graph.specs.declared.graph.Place.{Place}
use Rattle.pass_rewrites.proofs.of_fuse_chain.NextStates.{set_other, without_other}
use Rattle.graph_laws.specs.Joining.{joined_into, moved, reread_entry, set_node, without}
use Rattle.graph_laws.specs.Kids.{apart, even, kept_by, moved_out, named_by, number_after, odd, refitted, renewed, same_number}
use Rattle.graph_laws.proofs.Wellness.{differ_map, differ_set, mapped, node_at-map, node_at-set_same}

-- the Pdo of that number reads c
abbrev pub Calls : Graph → ℕ → Place → Type 0
Calls g n c = (f : Forest) × (node_at g.nodes n ≡ Some (Pdo c f))

-- ---- a Pdo with other steps, and all by a rule

module _ (es : List Entry) (n : ℕ) (c : Place) (f : Forest) (r : Place → Place)
    (here : (i : Forest) × (node_at es n ≡ Some (Pdo c i))) where
  abbrev with_it : List Entry
  with_it = set_node es n (Pdo c f)

  set_calls : (m : ℕ) (d : Place) (i : Forest) → node_at es m ≡ Some (Pdo d i)
      → (j : Forest) × (node_at (map (reread_entry r) with_it) m ≡ Some (Pdo (r d) j))
  set_calls m d i h = by (eqb m n) refl
    where
      by : (b : Bool) → eqb m n ≡ b
          → (j : Forest) × (node_at (map (reread_entry r) with_it) m ≡ Some (Pdo (r d) j))
      by true k =
          let same : m ≡ n = eqb-true m n k in
          let both : Some (Pdo d i) ≡ Some (Pdo c here.0) =
          sym h ∙ ap (node_at es) same ∙ here.1 in
          let is : c ≡ d = cc in (
            f,
            node_at-map r with_it m
                ∙ ap (mapped r) (ap (node_at with_it) same
                ∙ node_at-set_same es n (Pdo c f) (Pdo c here.0) here.1)
                ∙ ap (λ (x : Place). Some (Pdo (r x) f)) is,
          )
      by false k = (
        i,
        node_at-map r with_it m
            ∙ ap (mapped r)
            (set_other es n m (Pdo c f) (λ e. false≢true (sym k ∙ eq-eqb m n e)) ∙ h),
      )

  set_absent : (m : ℕ) → node_at es m ≡ None → node_at (map (reread_entry r) with_it) m ≡ None
  set_absent m h =
      node_at-map r with_it m
      ∙ ap (mapped r) (set_other es n m (Pdo c f) (λ e.
      let both : None ≡ Some (Pdo c here.0) = sym h ∙ ap (node_at es) e ∙ here.1 in
      let bad : ⊥ = cc in bad) ∙ h)

-- ---- other numbers of outputs

module _ (g : Graph) (n : ℕ) (c : Place) (f : Forest) (r : ℕ → ℕ) (here : Calls g n c) where
  abbrev set : List Entry
  set = set_node g.nodes n (Pdo c f)

  refit_calls : (m : ℕ) (d : Place) → Calls g m d
      → Calls (refitted g n c f r) m (moved_out n r d)
  refit_calls m d h = set_calls g.nodes n c f (moved_out n r) here m d h.0 h.1

  refit_absent : (m : ℕ) → node_at g.nodes m ≡ None
      → node_at (refitted g n c f r).nodes m ≡ None
  refit_absent m h = set_absent g.nodes n c f (moved_out n r) here m h

  refit_differ : AllDiffer g.nodes → AllDiffer (refitted g n c f r).nodes
  refit_differ a =
      differ_map (moved_out n r) set (differ_set g.nodes n (Pdo c f) (Pdo c here.0) here.1 a)

-- ---- two that become one

not_there : (n : ℕ) (es : List Entry) → Each (λ d. d.number ≡ n → ⊥) es → node_at es n ≡ None
not_there n [] a = refl
not_there n (e ∷ es) a =
    ap (λ b. cond b (Some e.node) (node_at es n)) (ne_eqb e.number n a.0) ∙ not_there n es a.1

without_gone : (es : List Entry) (q : ℕ) → AllDiffer es → node_at (without es q) q ≡ None
without_gone [] q a = refl
without_gone (e ∷ es) q a = by (eqb e.number q) refl (without_gone es q a.1)
  where
    by : (b : Bool) → eqb e.number q ≡ b → node_at (without es q) q ≡ None
        → node_at (cond b es (e ∷ without es q)) q ≡ None
    by true i f =
        not_there q es (subst (λ (n : ℕ). Each (λ d. d.number ≡ n → ⊥) es)
        (eqb-true e.number q i) a.0)
    by false i f = ap (λ b. cond b (Some e.node) (node_at (without es q) q)) i ∙ f

module _ (g : Graph) (p q : ℕ) (c : Place) (f : Forest) (here : Calls g p c)
    (differ : p ≡ q → ⊥) where
  abbrev left : List Entry
  left = without g.nodes q

  abbrev kept : List Entry
  kept = set_node left p (Pdo c f)

  here_left : node_at left p ≡ Some (Pdo c here.0)
  here_left = without_other g.nodes q p differ ∙ here.1

  join_calls : (m : ℕ) (d : Place) → Calls g m d → (m ≡ q → ⊥)
      → Calls (joined_into g p q c f) m (moved p q d)
  join_calls m d h other =
      set_calls left p c f (moved p q) (here.0, here_left) m d h.0
      (without_other g.nodes q m other ∙ h.1)

  join_absent : (m : ℕ) → (m ≡ q → ⊥) → node_at g.nodes m ≡ None
      → node_at (joined_into g p q c f).nodes m ≡ None
  join_absent m other h =
      set_absent left p c f (moved p q) (here.0, here_left) m
      (without_other g.nodes q m other ∙ h)

  join_gone : AllDiffer g.nodes → node_at (joined_into g p q c f).nodes q ≡ None
  join_gone a =
      node_at-map (moved p q) kept q
      ∙ ap (mapped (moved p q)) (set_other left p q (Pdo c f) (λ e. differ (sym e))
      ∙ without_gone g.nodes q a)

moved_other : (n : ℕ) (r : ℕ → ℕ) (c : Place) → (c.node ≡ n → ⊥) → moved_out n r c ≡ c
moved_other n r c h = ap (λ b. cond b (place n (r c.out)) c) (ne_eqb c.node n h)

joined_other : (p q : ℕ) (c : Place) → (c.node ≡ q → ⊥) → moved p q c ≡ c
joined_other p q c h = ap (λ b. cond b (place p c.out) c) (ne_eqb c.node q h)

-- ---- the whole of it

-- The Pdo p of c takes in the Pdo q of d, and is of another collection than both give.
pub record Takes (g : Graph) (p q : ℕ) (c d : Place) : Type 0 where
  pub keeper : Calls g p c
  pub other : Calls g q d
  pub differ : p ≡ q → ⊥
  pub not_own : c.node ≡ p → ⊥
  pub not_other : c.node ≡ q → ⊥

module _ (g : Graph) (p q : ℕ) (c d : Place) (f h new : Forest) (t : Takes g p q c d) where
  abbrev near : Forest
  near = named_by even f

  abbrev far : Forest
  far = named_by odd h

  abbrev g1 : Graph
  g1 = refitted g p c near even

  abbrev d1 : Place
  d1 = moved_out p even d

  abbrev g2 : Graph
  g2 = refitted g1 q d1 far odd

  abbrev g3 : Graph
  g3 = joined_into g2 p q c new

  abbrev k : Forest
  k = kept_by (λ j. is_read g3 (place p j)) new

  abbrev g4 : Graph
  g4 = refitted g3 p c k same_number

  abbrev g5 : Graph
  g5 = refitted g4 p c (numbered 0 k) (λ j. number_after 0 k j)

  -- where what is read is read then
  abbrev pub shift : Place → Place
  shift x = moved_out p (λ j. number_after 0 k j)
      (moved_out p same_number (moved p q (moved_out q odd (moved_out p even x))))

  other1 : Calls g1 q d1
  other1 = refit_calls g p c near even t.keeper q d t.other

  keeper2 : Calls g2 p c
  keeper2 =
      subst (Calls g2 p)
      (ap (moved_out q odd) (moved_other p even c t.not_own) ∙ moved_other q odd c t.not_other)
      (refit_calls g1 q d1 far odd other1 p (moved_out p even c)
      (refit_calls g p c near even t.keeper p c t.keeper))

  keeper3 : Calls g3 p c
  keeper3 =
      subst (Calls g3 p) (joined_other p q c t.not_other)
      (join_calls g2 p q c new keeper2 t.differ p c keeper2 t.differ)

  keeper4 : Calls g4 p c
  keeper4 =
      subst (Calls g4 p) (moved_other p same_number c t.not_own)
      (refit_calls g3 p c k same_number keeper3 p c keeper3)

  pub taken_calls : (m : ℕ) (x : Place) → Calls g m x → (m ≡ q → ⊥)
      → Calls (renewed (joined_into (apart g p q c d f h) p q c new) p c new) m (shift x)
  taken_calls m x a other =
      refit_calls g4 p c (numbered 0 k) (λ j. number_after 0 k j) keeper4 m
      (moved_out p same_number (moved p q (moved_out q odd (moved_out p even x))))
      (refit_calls g3 p c k same_number keeper3 m
      (moved p q (moved_out q odd (moved_out p even x)))
      (join_calls g2 p q c new keeper2 t.differ m (moved_out q odd (moved_out p even x))
      (refit_calls g1 q d1 far odd other1 m (moved_out p even x)
      (refit_calls g p c near even t.keeper m x a)) other))

  -- what is not there before the last three changes is not there after them
  last_absent : (m : ℕ) → node_at g3.nodes m ≡ None → node_at g5.nodes m ≡ None
  last_absent m a =
      refit_absent g4 p c (numbered 0 k) (λ j. number_after 0 k j) keeper4 m
      (refit_absent g3 p c k same_number keeper3 m a)

  pub taken_absent : (m : ℕ) → node_at g.nodes m ≡ None
      → node_at (renewed (joined_into (apart g p q c d f h) p q c new) p c new).nodes m ≡ None
  taken_absent m a =
      last_absent m (join_absent g2 p q c new keeper2 t.differ m (λ e.
      let both : None ≡ Some (Pdo d t.other.0) =
      sym a ∙ ap (node_at g.nodes) e ∙ t.other.1 in
      let bad : ⊥ = cc in bad)
      (refit_absent g1 q d1 far odd other1 m (refit_absent g p c near even t.keeper m a)))

  pub taken_gone : AllDiffer g.nodes
      → node_at (renewed (joined_into (apart g p q c d f h) p q c new) p c new).nodes q ≡ None
  taken_gone a =
      last_absent q (join_gone g2 p q c new keeper2 t.differ
      (refit_differ g1 q d1 far odd other1 (refit_differ g p c near even t.keeper a)))
