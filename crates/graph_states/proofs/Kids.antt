-- A kid under names.
use Rattle.std.proofs.Common.{◌≡◌, ℕ, Bool, true, false, cond, eqb, ◌||◌, ◌&&◌, List, Option, Some, None, refl, sym, ap, ap₂, ◌∙◌}
use Rattle.std.proofs.lemmas.Bool.{eqb-true, eq-eqb, false≢true, ne_eqb}
use Rattle.std.specs.List.{AllByRecursion}
use Rattle.flume_value.proofs.EachLemmas.{Each-both}
use Rattle.exec_graph.specs.Forests.{Forest, Bare, Grow, with_out}
use Rattle.exec_graph.specs.Meaning.{HasOuts, IsSound, OutsDiffer, has_out, is_out, node_at, place}
use Rattle.exec_graph.specs.Readers.{among, any_node, is_read, same_place, uses}
use Rattle.exec_graph.specs.declared.graph.Entry.{Entry}
use Rattle.exec_graph.specs.declared.graph.Graph.{Graph}
use Rattle.exec_graph.specs.declared.graph.Node.TheVariants.{Pdo}
use Rattle.exec_graph.specs.declared.graph.Place.{Place}
use Rattle.exec_graph.specs.declared.graph.Node.{Node}
use Rattle.exec_graph.proofs.Bools.{or_else, or_left, or_right}
use Rattle.exec_graph.proofs.Entries.{all_found}
use Rattle.exec_graph.proofs.Solving.{each_found}
use Rattle.graph_laws.specs.Joining.{HasOne, grafted, set_node, without}
use Rattle.graph_laws.specs.Kids.{kept_by, number_after, out_kept}
use Rattle.graph_laws.proofs.Changes.{all_set, all_without, node_at-without_other}
use Rattle.graph_laws.proofs.Disjoint.{differ_grafted, has_out-grafted}
use Rattle.graph_laws.proofs.Renaming.{has_one}
use Rattle.graph_laws.proofs.Roots.{was_kept}
use Rattle.graph_laws.proofs.Wellness.{node_at-set_same}
use Rattle.fuse_chain.specs.Rewrites.{IsKid}
use Rattle.fuse_chain.proofs.NextStates.{IsJoin, any_split, next_state}
use Rattle.fuse_chain.proofs.Rewriting.{kid_differ, kid_step}
use Rattle.fuse_chain.proofs.Setting.{without_set}
use Rattle.fuse_chain.proofs.States as states
use Rattle.fuse_chain.specs.of_pardo_fuse.Fusing.{holds_out}
use Rattle.graph_names.specs.Names.{unnamed}
use Rattle.graph_states.specs.States.{Stands, all_but, still_read, taken_in}
use Rattle.graph_states.proofs.Siblings.{stands_by, state_of}

-- ---- what is kept is so by another rule that says the same of it

out_alike : (r t : ℕ → Bool) (o : Option ℕ) → ((j : ℕ) → is_out o j ≡ true → r j ≡ t j)
    → out_kept r o ≡ out_kept t o
out_alike r t None e = refl
out_alike r t (Some j) e =
    ap (λ (b : Bool). cond b (Some j) None) (e j (eq-eqb j j refl))

kept_alike : (r t : ℕ → Bool) (f : Forest) → ((j : ℕ) → has_out j f ≡ true → r j ≡ t j)
    → kept_by r f ≡ kept_by t f
kept_alike r t Bare e = refl
kept_alike r t (Grow l kids rest) e =
    ap (λ (o : Option ℕ). Grow (with_out o l) (kept_by r kids) (kept_by r rest))
    (out_alike r t l.out
    (λ j x. e j (or_left (is_out l.out j) (has_out j kids || has_out j rest) x)))
    ∙ ap₂ (λ (k m : Forest). Grow (with_out (out_kept t l.out) l) k m)
    (kept_alike r t kids (λ j x. e j (or_right (is_out l.out j) (has_out j kids || has_out j rest)
    (or_left (has_out j kids) (has_out j rest) x))))
    (kept_alike r t rest (λ j x. e j (or_right (is_out l.out j) (has_out j kids || has_out j rest)
    (or_right (has_out j kids) (has_out j rest) x))))

module _ (h : Graph) (p q n : ℕ) (c : Place) (f i : Forest) (s : Stands h)
    (at : node_at h.nodes p ≡ Some (Pdo c f)) (bt : node_at h.nodes q ≡ Some (Pdo (place n 0) i))
    (has : has_out n f ≡ true) (sound : IsSound (unnamed h)) where
  differ : p ≡ q → ⊥
  differ =
      kid_differ h.nodes h.outputs h.next p q n c f i (state_of h s) sound at bt has

  at_less : node_at (without h.nodes q) p ≡ Some (Pdo c f)
  at_less = node_at-without_other h.nodes q p (Pdo c f) differ at

  uses_left : (v : Place) (x : Forest)
      → any_node (uses v) (set_node (without h.nodes q) p (Pdo c x))
      ≡ ((same_place v c || false) || any_node (uses v) (without (without h.nodes q) p))
  uses_left v x =
      any_split (uses v) (set_node (without h.nodes q) p (Pdo c x)) p (Pdo c x)
      (node_at-set_same (without h.nodes q) p (Pdo c x) (Pdo c f) at_less)
      ∙ ap (λ (l : List Entry). (same_place v c || false) || any_node (uses v) l)
      (without_set (without h.nodes q) p (Pdo c x))

  -- the forest says nothing of what is read
  reads_alike : (v : Place) (x y : Forest)
      → is_read (taken_in h p q c x) v ≡ is_read (taken_in h p q c y) v
  reads_alike v x y =
      ap (λ (b : Bool). b || among v h.outputs) (uses_left v x ∙ sym (uses_left v y))

  pub kid_is : IsKid (unnamed h) p (number_after 0 f n) q
      (unnamed (taken_in h p q c (kept_by (still_read h p q c) (grafted n i f))))
  kid_is =
      kid_step h.nodes h.outputs h.next p q n c f i (still_read h p q c) (state_of h s) sound at
      bt has
      (λ j x. reads_alike (place j 0) Bare (kept_by (still_read h p q c) (grafted n i f)))

  -- ---- what comes of it stands

  abbrev kept : Forest
  kept = kept_by (still_read h p q c) (grafted n i f)

  own_p : (j : ℕ) → has_out j f ≡ true → s.owner j ≡ p
  own_p j x =
      all_found (λ (e : Entry). (k : ℕ) → holds_out k e.node ≡ true → s.owner k ≡ e.number)
      h.nodes p (Pdo c f) at s.owned j x

  own_q : (j : ℕ) → has_out j i ≡ true → s.owner j ≡ q
  own_q j x =
      all_found (λ (e : Entry). (k : ℕ) → holds_out k e.node ≡ true → s.owner k ≡ e.number)
      h.nodes q (Pdo (place n 0) i) bt s.owned j x

  differ_f : OutsDiffer f
  differ_f = all_found (λ (e : Entry). HasOuts e.node) h.nodes p (Pdo c f) at s.apart

  differ_i : OutsDiffer i
  differ_i = all_found (λ (e : Entry). HasOuts e.node) h.nodes q (Pdo (place n 0) i) bt s.apart

  one : HasOne n f
  one = has_one n f differ_f has

  join : IsJoin h.nodes p q c (place n 0) f i (grafted n i f)
  join = record {
    keeper = at;
    other = bt;
    differ = differ;
    has = λ j. has_out-grafted j n f i one;
    outs = differ_grafted n f i one differ_f differ_i
        (λ j x y. differ (sym (own_p j x) ∙ own_q j y));
  }

  next : states.IsState (taken_in h p q c kept).nodes h.outputs
  next =
      next_state h.nodes h.outputs p q c (place n 0) f i (grafted n i f) (still_read h p q c)
      (state_of h s) join (λ j x y. reads_alike (place j 0) Bare kept ∙ y)

  -- q read nothing else
  read_left : (j : ℕ) → (j ≡ n → ⊥) → is_read h (place j 0) ≡ true
      → is_read (taken_in h p q c kept) (place j 0) ≡ true
  read_left j other x =
      ap (λ (b : Bool). b || among (place j 0) h.outputs)
      (uses_left (place j 0) kept
      ∙ sym (any_split (uses (place j 0)) (without h.nodes q) p (Pdo c f) at_less)
      ∙ sym (any_split (uses (place j 0)) h.nodes q (Pdo (place n 0) i) bt
      ∙ ap (λ (b : Bool). ((b && eqb 0 0) || false)
      || any_node (uses (place j 0)) (without h.nodes q)) (ne_eqb j n other)))
      ∙ x

  abbrev IsRead : Entry → Type 0
  IsRead e = (j : ℕ) → holds_out j e.node ≡ true → is_read h (place j 0) ≡ true

  abbrev IsOwned : Entry → Type 0
  IsOwned e = (j : ℕ) → holds_out j e.node ≡ true → s.owner j ≡ e.number

  abbrev IsReadThen : Entry → Type 0
  IsReadThen e = (j : ℕ) → holds_out j e.node ≡ true
      → is_read (taken_in h p q c kept) (place j 0) ≡ true

  others_read : AllByRecursion (λ e. (e.number ≡ p → ⊥) → IsReadThen e)
      (taken_in h p q c kept).nodes
  others_read =
      all_set (λ (e : Entry). (e.number ≡ p → ⊥) → IsReadThen e) (without h.nodes q) p (Pdo c kept)
      (all_without (λ (e : Entry). (e.number ≡ p → ⊥) → IsReadThen e) h.nodes q
      (Each-both IsOwned IsRead (λ (e : Entry). (e.number ≡ p → ⊥) → IsReadThen e)
      (λ e a b other j x. read_left j (λ z. other (sym (a j x) ∙ ap s.owner z ∙ own_p n has))
      (b j x)) h.nodes s.owned s.read))
      (λ other. absurd (other refl))

  pub stands_then : Stands (taken_in h p q c kept)
  stands_then =
      stands_by (taken_in h p q c kept) next
      (Each-both (λ (e : Entry). (e.number ≡ p → ⊥) → IsReadThen e)
      (λ (e : Entry). node_at (taken_in h p q c kept).nodes e.number ≡ Some e.node) IsReadThen
      (λ e a b. each e.number e.node (eqb e.number p) refl a b)
      (taken_in h p q c kept).nodes others_read
      (each_found (taken_in h p q c kept).nodes next.differ))
    where
      own : (x : Node) → Some x ≡ Some (Pdo c kept) → (j : ℕ) → holds_out j x ≡ true
          → is_read (taken_in h p q c kept) (place j 0) ≡ true
      own x e j y =
          let same : x ≡ Pdo c kept = cc in
          reads_alike (place j 0) kept Bare
          ∙ was_kept (still_read h p q c) (grafted n i f) j
          (ap (λ (z : Node). holds_out j z) (sym same) ∙ y)

      each : (k : ℕ) (x : Node) (b : Bool) → eqb k p ≡ b
          → ((k ≡ p → ⊥) → (j : ℕ) → holds_out j x ≡ true
          → is_read (taken_in h p q c kept) (place j 0) ≡ true)
          → node_at (taken_in h p q c kept).nodes k ≡ Some x → (j : ℕ) → holds_out j x ≡ true
          → is_read (taken_in h p q c kept) (place j 0) ≡ true
      each k x true e a at_k =
          own x (sym at_k ∙ ap (λ (m : ℕ). node_at (taken_in h p q c kept).nodes m)
          (eqb-true k p e) ∙ node_at-set_same (without h.nodes q) p (Pdo c kept) (Pdo c f) at_less)
      each k x false e a at_k = a (λ z. false≢true (sym e ∙ eq-eqb k p z))

  -- ---- all but n is read still

  abbrev IsReadBefore : Entry → Type 0
  IsReadBefore e = (j : ℕ) → holds_out j e.node ≡ true → is_read h (place j 0) ≡ true

  read_before : (j : ℕ) → has_out j (grafted n i f) ≡ true → is_read h (place j 0) ≡ true
  read_before j x =
      or_else (is_read h (place j 0) ≡ true) (has_out j f) (has_out j i)
      (sym (has_out-grafted j n f i one) ∙ x)
      (λ y. all_found IsReadBefore h.nodes p (Pdo c f) at s.read j y)
      (λ y. all_found IsReadBefore h.nodes q (Pdo (place n 0) i) bt s.read j y)

  but_alike : (j : ℕ) → has_out j (grafted n i f) ≡ true
      → still_read h p q c j ≡ all_but n (still_read h p q c n) j
  but_alike j x = by (eqb j n) refl
    where
      by : (b : Bool) → eqb j n ≡ b → still_read h p q c j ≡ cond b (still_read h p q c n) true
      by true e = ap (still_read h p q c) (eqb-true j n e)
      by false e =
          reads_alike (place j 0) Bare kept
          ∙ read_left j (λ z. false≢true (sym e ∙ eq-eqb j n z)) (read_before j x)

  pub kept_is : kept_by (still_read h p q c) (grafted n i f)
      ≡ kept_by (all_but n (still_read h p q c n)) (grafted n i f)
  kept_is =
      kept_alike (still_read h p q c) (all_but n (still_read h p q c n)) (grafted n i f) but_alike
