-- One collection more whose readers are fused: a kid.
use Rattle.std.proofs.Common.{◌≡◌, ℕ, ◌≤◌, Bool, true, false, cond, eqb, ◌||◌, ◌&&◌, List, [], ◌∷◌, Option, Some, None, refl, sym, ap, ◌∙◌, subst, arith, zero, suc}
use Rattle.std.proofs.lemmas.Bool.{eqb-true, eq-eqb, false≢true, ne_eqb}
use Rattle.std.specs.List.{AllByRecursion as Each}
use Rattle.exec_graph.specs.Forests.{Forest, Bare, Grow, numbered, with_out}
use Rattle.exec_graph.specs.declared.graph.Place.{Place}
use Rattle.exec_graph.specs.declared.graph.Node.{Node}
use Rattle.exec_graph.specs.declared.graph.Node.TheVariants.{Pdo}
use Rattle.exec_graph.specs.declared.graph.Entry.{Entry}
use Rattle.exec_graph.specs.Meaning.{place, node_at, AllDiffer, has_out, is_out}
use Rattle.exec_graph.specs.Readers.{among, any_node, calls_on, collects, is_read, readers, same_place}
use Rattle.exec_graph.proofs.Bools.{or_else, or_right, not_true}
use Rattle.exec_graph.proofs.Solving.{each_found}
use Rattle.graph_laws.specs.Joining.{beside, grafted}
use Rattle.graph_laws.specs.Kids.{kept_by, number_after, out_kept}
use Rattle.graph_laws.proofs.Joining.{lacks_grafted}
use Rattle.pardo_fuse.specs.Readers.{Cut, is_outer, is_pdo}
use Rattle.pardo_fuse.specs.Fusing.{holds_out, is_first, leads}
use Rattle.pardo_fuse.specs.SingleFusing.{CanFuse, forest_reading, fused_by, joined_nodes, keeps_output}
use Rattle.pardo_fuse.proofs.Chaining.{more_inner, next_trees}
use Rattle.pardo_fuse.proofs.Counting.{times}
use Rattle.pardo_fuse.proofs.Finding.{IsNew, any_joined, search_place}
use Rattle.pardo_fuse.proofs.Levels.{all_grown}
use Rattle.pardo_fuse.proofs.Naming.{differ_joined, has_times, times_has}
use Rattle.pardo_fuse.proofs.Once.{AllGrown, all_of}
use Rattle.pardo_fuse.proofs.Partition.{numbers}
use Rattle.pardo_fuse.proofs.Places.{same_is, same_self}
use Rattle.pardo_fuse.proofs.Seeing.{any_at, head_few}
use Rattle.pardo_fuse.proofs.Settling.{led, now}
use Rattle.pardo_fuse.proofs.Wellness.{at_finished, done_node}
use Rattle.pardo_fuse.proofs.Reading.{IsReader, all_readers}
use Rattle.fuse_chain.specs.Cuts.{IsNextKid, with_inner}
use Rattle.fuse_chain.specs.Rewrites.{BecomesKid, IsKid}
use Rattle.fuse_chain.proofs.CutStates.{cut_sound, cut_state, joined_drawn, leader_found, leads_if, owner_in, owner_led, plan_of, read_kept}
use Rattle.fuse_chain.proofs.Names.{EachOut, beside_through, grafted_through, grow_alike, of_kids, of_label, of_rest}
use Rattle.fuse_chain.proofs.Plans.{IsNext, drawn_next}
use Rattle.fuse_chain.proofs.Rewriting.{kid_differ, kid_step}
use Rattle.fuse_chain.proofs.States.{IsState, fused_in, graph_of, named_graph}

-- ---- what is kept of a forest
out_kept_alike : (keep held : ℕ → Bool) (o : Option ℕ)
    → ((i : ℕ) → is_out o i ≡ true → keep i ≡ held i) → out_kept keep o ≡ out_kept held o
out_kept_alike keep held None h = refl
out_kept_alike keep held (Some i) h =
    ap (λ b. cond b (Some i) None) (h i (eq-eqb i i refl))

pub kept_alike : (keep held : ℕ → Bool) (f : Forest) → EachOut (λ i. keep i ≡ held i) f
    → kept_by keep f ≡ kept_by held f
kept_alike keep held Bare h = refl
kept_alike keep held (Grow l kids rest) h =
    grow_alike l (out_kept keep l.out) (out_kept held l.out) (kept_by keep kids)
    (kept_by held kids) (kept_by keep rest) (kept_by held rest)
    (out_kept_alike keep held l.out (of_label (λ i. keep i ≡ held i) l kids rest h))
    (kept_alike keep held kids (of_kids (λ i. keep i ≡ held i) l kids rest h))
    (kept_alike keep held rest (of_rest (λ i. keep i ≡ held i) l kids rest h))

out_kept_twice : (keep held : ℕ → Bool) (o : Option ℕ)
    → ((i : ℕ) → held i ≡ true → keep i ≡ true)
    → out_kept held (out_kept keep o) ≡ out_kept held o
out_kept_twice keep held None h = refl
out_kept_twice keep held (Some i) h = by (keep i) (held i) refl refl
  where
    by : (a b : Bool) → keep i ≡ a → held i ≡ b
        → out_kept held (cond a (Some i) None) ≡ cond (held i) (Some i) None
    by true b x y = refl
    by false true x y = absurd (false≢true (sym x ∙ h i y))
    by false false x y = sym (ap (λ r. cond r (Some i) None) y)

pub kept_twice : (keep held : ℕ → Bool) (f : Forest) → ((i : ℕ) → held i ≡ true → keep i ≡ true)
    → kept_by held (kept_by keep f) ≡ kept_by held f
kept_twice keep held Bare h = refl
kept_twice keep held (Grow l kids rest) h =
    grow_alike l (out_kept held (out_kept keep l.out)) (out_kept held l.out)
    (kept_by held (kept_by keep kids)) (kept_by held kids)
    (kept_by held (kept_by keep rest)) (kept_by held rest)
    (out_kept_twice keep held l.out h) (kept_twice keep held kids h) (kept_twice keep held rest h)

pub beside_kept : (keep : ℕ → Bool) (f g : Forest)
    → beside (kept_by keep f) (kept_by keep g) ≡ kept_by keep (beside f g)
beside_kept keep = beside_through (out_kept keep) (kept_by keep) refl (λ l kids rest. refl)

is_out_kept : (keep : ℕ → Bool) (n : ℕ) (o : Option ℕ) → keep n ≡ true
    → is_out (out_kept keep o) n ≡ is_out o n
is_out_kept keep n None k = refl
is_out_kept keep n (Some i) k = by (keep i) (eqb i n) refl refl
  where
    by : (a b : Bool) → keep i ≡ a → eqb i n ≡ b → is_out (cond a (Some i) None) n ≡ eqb i n
    by true b x y = refl
    by false true x y = absurd (false≢true (sym x ∙ ap keep (eqb-true i n y) ∙ k))
    by false false x y = sym y

grafted_kept : (keep : ℕ → Bool) (n : ℕ) (g f : Forest) → keep n ≡ true
    → grafted n (kept_by keep g) (kept_by keep f) ≡ kept_by keep (grafted n g f)
grafted_kept keep n g Bare k = refl
grafted_kept keep n g (Grow l kids rest) k =
    grafted_through (kept_by keep) l (with_out (out_kept keep l.out) l) g kids rest
    (grafted n g kids) (grafted n g rest) (grafted n (kept_by keep g) (kept_by keep kids))
    (grafted n (kept_by keep g) (kept_by keep rest)) (λ y z. refl) (beside_kept keep kids g)
    (is_out l.out n) (is_out (out_kept keep l.out) n) (is_out_kept keep n l.out k)
    (grafted_kept keep n g kids k) (grafted_kept keep n g rest k)

-- ---- the node with an output
pub record IsHolder (b : Cut) (n : ℕ) : Type 0 where
  pub number : ℕ
  pub from : Place
  pub old : Forest
  pub at : node_at b.graph.nodes number ≡ Some (Pdo from old)
  pub leads : leads b number from ≡ true
  pub has : has_out n (forest_reading b from) ≡ true

holder : (b : Cut) (n : ℕ) → CanFuse b → any_node (holds_out n) (joined_nodes b) ≡ true
    → IsHolder b n
holder b n can h =
    let hs : List Entry = joined_nodes b in
    let s : IsNew (λ e. node_at hs e.number ≡ Some e.node) hs (place n 0) =
    search_place (λ e. node_at hs e.number ≡ Some e.node) (place n 0) hs
    (each_found hs (differ_joined b b.graph.nodes can.ok.differ)) h in
    by s.here.number s.here.node s.holds s.keeps
  where
    by : (p : ℕ) (x : Node) → node_at (joined_nodes b) p ≡ Some x → holds_out n x ≡ true
        → IsHolder b n
    by p (Pdo c f) at h =
        let k = led b can p (now b c) (numbered 0 f) (at_finished (now b) (joined_nodes b) p
        ∙ ap (done_node (now b)) at) in
        let same : Some (Pdo c f) ≡ Some (Pdo k.from (forest_reading b k.from)) =
        sym at ∙ k.joined in
        let forest : f ≡ forest_reading b k.from = cc in
        record {
          number = p;
          from = k.from;
          old = k.leader.old;
          at = k.leader.at;
          leads = k.leader.leads;
          has = ap (has_out n) (sym forest) ∙ h;
        }
    by p _ at h = absurd (false≢true h)

first_only : (n q : ℕ) (xs : List ℕ) → is_first n xs ≡ true → is_first q xs ≡ true → n ≡ q
first_only n q [] h i = absurd (false≢true h)
first_only n q (x ∷ xs) h i = eqb-true n x h ∙ sym (eqb-true q x i)

leads_first : (b : Cut) (n : ℕ) (c : Place) → leads b n c ≡ true
    → is_first n (readers b.graph.nodes c) ≡ true
leads_first b n c h = by (b.inner c) h
  where
    by : (r : Bool) → cond r false (is_first n (readers b.graph.nodes c)) ≡ true
        → is_first n (readers b.graph.nodes c) ≡ true
    by true i = absurd (false≢true i)
    by false i = i

-- The first Pdo of those that read a collection reads it.
first_reads : (b : Cut) (c : Place) (q : ℕ) → CanFuse b
    → is_first q (readers b.graph.nodes c) ≡ true → IsReader b c q
first_reads b c q can h = by (readers b.graph.nodes c) h (all_readers b c b.graph.nodes
    (each_found b.graph.nodes can.ok.differ))
  where
    by : (ns : List ℕ) → is_first q ns ≡ true → Each (IsReader b c) ns → IsReader b c q
    by [] i a = absurd (false≢true i)
    by (n ∷ ns) i a = subst (IsReader b c) (sym (eqb-true q n i)) a.0

can_more : (b : Cut) (n : ℕ) → CanFuse b → is_pdo (node_at b.graph.nodes n) ≡ true
    → CanFuse (more_inner b n)
can_more b n can h = record {
  ok = can.ok;
  single = can.single;
  marked = can.marked;
  pdos = λ c i. or_else (is_pdo (node_at b.graph.nodes c.node) ≡ true)
      (same_place c (place n 0)) (b.inner c) i
      (λ s. ap (λ (y : Place). is_pdo (node_at b.graph.nodes y.node)) (same_is c (place n 0) s) ∙ h)
      (λ j. can.pdos c j);
}

module _ (b : Cut) (n q : ℕ) (can : CanFuse b) (more : IsNextKid b n q) where
  abbrev d : Place
  d = place n 0

  abbrev next : Cut
  next = more_inner b n

  abbrev es : List Entry
  es = b.graph.nodes

  abbrev keep : ℕ → Bool
  keep = keeps_output b

  abbrev held : ℕ → Bool
  held = keeps_output next

  g : AllGrown b
  g = all_grown b can

  can_next : CanFuse next
  can_next = can_more b n can more.pdo

  pub reader : IsReader b d q
  reader = first_reads b d q can more.first

  pub lead_q : leads b q d ≡ true
  lead_q = leads_if b q d more.outer more.first

  kept_n : keep n ≡ true
  kept_n =
      or_right (any_node (collects d) es) (among d b.graph.outputs || (is_outer b d &&
      any_node (calls_on d) es))
      (or_right (among d b.graph.outputs) (is_outer b d && any_node (calls_on d) es)
      (ap (λ r. cond r false true && any_node (calls_on d) es) more.outer
      ∙ any_at (calls_on d) es q (Pdo d reader.0) reader.1 (same_self d)))

  pub hold : IsHolder b n
  hold = holder b n can (any_joined b n can g more.pdo kept_n)

  abbrev p : ℕ
  p = hold.number

  abbrev c : Place
  c = hold.from

  state : IsState (joined_nodes b) b.graph.outputs
  state = cut_state b can g

  at_p : node_at (joined_nodes b) p ≡ Some (Pdo c (forest_reading b c))
  at_p = leader_found b p c hold.old hold.at hold.leads

  at_q : node_at (joined_nodes b) q ≡ Some (Pdo d (forest_reading b d))
  at_q = leader_found b q d reader.0 reader.1 lead_q

  pub differ : p ≡ q → ⊥
  differ = kid_differ (joined_nodes b) b.graph.outputs b.graph.next p q n c (forest_reading b c)
      (forest_reading b d) state (cut_sound b can) at_p at_q hold.has

  owner_p : owner_in b n ≡ p
  owner_p = owner_led b can g p c hold.old hold.at hold.leads n hold.has

  -- ---- no other forest has the step of n
  pub none_of : (m : ℕ) (e : Place) (f : Forest) → node_at es m ≡ Some (Pdo e f)
      → leads b m e ≡ true → (m ≡ p → ⊥) → times n (numbers (all_of b e)) ≡ 0
  none_of m e f at l none = by (times n (numbers (all_of b e))) refl
    where
      by : (k : ℕ) → times n (numbers (all_of b e)) ≡ k → k ≡ 0
      by zero i = refl
      by (suc k) i = absurd (none (sym (owner_led b can g m e f at l n
          (times_has b n kept_n (readers es e) (all_of b e) (g e) (omega arith))) ∙ owner_p))

  -- ---- what is kept
  held_other : (i : ℕ) → (i ≡ n → ⊥) → held i ≡ keep i
  held_other i none = ap (λ r. any_node (collects (place i 0)) es ||
      (among (place i 0) b.graph.outputs || (cond ((r && true) || b.inner (place i 0)) false true
      && any_node (calls_on (place i 0)) es))) (ne_eqb i n none)

  held_keeps : (i : ℕ) → held i ≡ true → keep i ≡ true
  held_keeps i h = by (eqb i n) refl
    where
      by : (r : Bool) → eqb i n ≡ r → keep i ≡ true
      by true e = ap keep (eqb-true i n e) ∙ kept_n
      by false e = sym (held_other i (λ j. false≢true (sym e ∙ eq-eqb i n j))) ∙ h

  -- ---- the forests then
  pub trees_next : (e : Place) → times n (numbers (all_of b e)) ≤ 1
      → all_of next e ≡ grafted n (all_of b d) (all_of b e)
  trees_next e few = next_trees b n e g (all_grown next can_next) more.outer
      (none_of q d reader.0 reader.1 lead_q (λ i. differ (sym i))) few

  forest_other : (m : ℕ) (e : Place) (f : Forest) → node_at es m ≡ Some (Pdo e f)
      → leads b m e ≡ true → (m ≡ p → ⊥) → forest_reading next e ≡ forest_reading b e
  forest_other m e f at l none =
      let z : times n (numbers (all_of b e)) ≡ 0 = none_of m e f at l none in
      let lacks : has_out n (all_of b e) ≡ false = not_true (has_out n (all_of b e))
      (λ h. let t = has_times n (all_of b e) h in omega arith) in
      ap (kept_by held) (trees_next e (omega arith) ∙ lacks_grafted n (all_of b e) (all_of b d)
      lacks)
      ∙ kept_alike held keep (all_of b e) (λ i h. held_other i
      (λ j. false≢true (sym lacks ∙ ap (λ (k : ℕ). has_out k (all_of b e)) (sym j) ∙ h)))

  forest_p : forest_reading next c
      ≡ kept_by held (grafted n (forest_reading b d) (forest_reading b c))
  forest_p =
      ap (kept_by held) (trees_next c (head_few b p c hold.old can g hold.at hold.leads n))
      ∙ sym (kept_twice keep held (grafted n (all_of b d) (all_of b c)) held_keeps)
      ∙ ap (kept_by held) (sym (grafted_kept keep n (all_of b d) (all_of b c) kept_n))

  -- ---- the plan then
  pub leads_next : (m : ℕ) (e : Place)
      → leads next m e ≡ cond (same_place e d) false (leads b m e)
  leads_next m e = by (same_place e d) (b.inner e)
    where
      by : (s i : Bool) → cond (s || i) false (is_first m (readers es e))
          ≡ cond s false (cond i false (is_first m (readers es e)))
      by true i = refl
      by false i = refl

  plan_other : (m : ℕ) (e : Place) (f : Forest) → node_at es m ≡ Some (Pdo e f)
      → (m ≡ p → ⊥) → (m ≡ q → ⊥) → plan_of next m e ≡ plan_of b m e
  plan_other m e f at no_p no_q =
      ap (λ r. cond r (Some (forest_reading next e)) None) (leads_next m e)
      ∙ by (same_place e d) (leads b m e) refl refl
    where
      by : (s l : Bool) → same_place e d ≡ s → leads b m e ≡ l
          → cond (cond s false l) (Some (forest_reading next e)) None
          ≡ cond l (Some (forest_reading b e)) None
      by true true i j = absurd (no_q (first_only m q (readers es d)
          (ap (λ (y : Place). is_first m (readers es y)) (sym (same_is e d i))
          ∙ leads_first b m e j) more.first))
      by true false i j = refl
      by false true i j = ap (λ (t : Forest). Some t) (forest_other m e f at j no_p)
      by false false i j = refl

  apart_p : same_place c d ≡ false
  apart_p = not_true (same_place c d) (λ s. differ (first_only p q (readers es d)
      (ap (λ (y : Place). is_first p (readers es y)) (sym (same_is c d s))
      ∙ leads_first b p c hold.leads) more.first))

  new : Forest
  new = kept_by held (grafted n (forest_reading b d) (forest_reading b c))

  is_next : IsNext es (plan_of b) (plan_of next) p q c d
      (kept_by held (grafted n (forest_reading b d) (forest_reading b c)))
  is_next = record {
    near = hold.old;
    far = reader.0;
    keeper = hold.at;
    other = reader.1;
    differ = differ;
    was = (
      forest_reading b c,
      ap (λ r. cond r (Some (forest_reading b c)) None) hold.leads,
    );
    now = ap (λ r. cond r (Some (forest_reading next c)) None) (leads_next p c
        ∙ ap (λ r. cond r false (leads b p c)) apart_p ∙ hold.leads)
        ∙ ap (λ (t : Forest). Some t) forest_p;
    gone = ap (λ r. cond r (Some (forest_reading next d)) None) (leads_next q d
        ∙ ap (λ r. cond r false (leads b q d)) (same_self d));
    others = plan_other;
  }

  next_nodes : fused_in (joined_nodes b) p q c
      (kept_by held (grafted n (forest_reading b d) (forest_reading b c))) ≡ joined_nodes next
  next_nodes =
      let new : Forest = kept_by held (grafted n (forest_reading b d) (forest_reading b c)) in
      ap (λ l. fused_in l p q c new) (joined_drawn b)
      ∙ drawn_next es (plan_of b) (plan_of next) p q c d new is_next can.ok.differ
      (subst AllDiffer (joined_drawn b) state.differ)
      ∙ sym (joined_drawn next)

  pub kid_of_cut : (p k : ℕ) × IsKid (graph_of (joined_nodes b) b.graph.outputs b.graph.next) p k
      q (graph_of (joined_nodes (more_inner b n)) b.graph.outputs b.graph.next)
  kid_of_cut = (
    p,
    number_after 0 (forest_reading b c) n,
    subst (λ l. IsKid (graph_of (joined_nodes b) b.graph.outputs b.graph.next) p
        (number_after 0 (forest_reading b c) n) q (graph_of l b.graph.outputs b.graph.next))
        next_nodes
        (kid_step (joined_nodes b) b.graph.outputs b.graph.next p q n c (forest_reading b c)
        (forest_reading b d) held state (cut_sound b can) at_p at_q hold.has
        (λ i x. sym (ap (λ l. is_read (named_graph l b.graph.outputs) (place i 0)) next_nodes
        ∙ read_kept next (place i 0) can_next))),
  )

-- the Pdo that stays is the one with the output
pub keeper_is : (b : Cut) (n q : ℕ) (can : CanFuse b) (more : IsNextKid b n q)
    → (kid_of_cut b n q can more).0 ≡ (hold b n q can more).number
unfolding kid_of_cut
keeper_is b n q can more = refl

pub kid_lead : (b : Cut) (n q : ℕ) → CanFuse b → IsNextKid b n q
    → BecomesKid q (fused_by b).graph (fused_by (with_inner b n)).graph
unfolding fused_by
kid_lead b n q can more = kid_of_cut b n q can more
