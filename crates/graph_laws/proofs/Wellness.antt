-- What a join of two nodes leaves is sound.
use Rattle.std.proofs.Common.{◌≡◌, ℕ, ◌<◌, ◌≤◌, Bool, true, false, cond, eqb, min, List, [], ◌∷◌, Option, Some, None, map, refl, sym, ap, ◌∙◌, subst, arith}
use Rattle.std.proofs.lemmas.Bool.{eqb-true, eq-eqb, false≢true}
use Rattle.std.specs.List.{AllByRecursion}
use Rattle.exec_graph.specs.Forests.{Forest}
use Rattle.graph_laws.specs.Joining.{beside, grafted, HasOne, set_node, without, moved, reread, reread_entry, joined_into, CanJoin, as_kid, as_sibling}
use Rattle.exec_graph.specs.Meaning.{place, node_at, reads, has_out, gives, gives_at, IsThere, AllDiffer, OutsDiffer, HasOuts, IsRankedBy, IsSound, KeepsMeaning}
use Rattle.exec_graph.proofs.Entries.{entry, all_map, all_found}
use Rattle.graph_laws.proofs.Changes.{all_set, all_without, all_set_others, differ_without, node_at-without_other}
use Rattle.exec_graph.proofs.Bools.{or_left, or_right, not_true}
use Rattle.graph_laws.proofs.Joining.{KeepsMeaning-as_kid, KeepsMeaning-as_sibling}
use Rattle.exec_graph.specs.declared.graph.Place.{Place}
use Rattle.exec_graph.specs.declared.graph.Node.{Node}
use Rattle.exec_graph.specs.declared.graph.Node.TheVariants.{Source, Flatten, Pdo, Gbk, Barrier}
use Rattle.exec_graph.specs.declared.graph.Entry.{Entry}
use Rattle.exec_graph.specs.declared.graph.Graph.{Graph}
use Rattle.exec_graph.proofs.Solving.{gives_found}
use Rattle.combine_table.proofs.of_flume_value.EachLemmas.{Each-weaker}
use Rattle.graph_laws.proofs.Disjoint.{has_out-beside, has_out-grafted, differ_beside, differ_grafted}

-- ---- graphs
abbrev pub mapped : (Place → Place) → Option Node → Option Node
mapped r None = None
mapped r (Some x) = Some (reread r x)

mapped_cond : (r : Place → Place) (b : Bool) (x : Node) (o : Option Node)
    → cond b (Some (reread r x)) (mapped r o) ≡ mapped r (cond b (Some x) o)
mapped_cond r true x o = refl
mapped_cond r false x o = refl

pub node_at-map : (r : Place → Place) (es : List Entry) (n : ℕ)
    → node_at (map (reread_entry r) es) n ≡ mapped r (node_at es n)
node_at-map r [] n = refl
node_at-map r (e ∷ es) n = ap (cond (eqb e.number n) (Some (reread r e.node))) (node_at-map r es n)
    ∙ mapped_cond r (eqb e.number n) e.node (node_at es n)

gives-reread : (r : Place → Place) (x : Node) (j : ℕ) → gives (reread r x) j ≡ gives x j
gives-reread r (Source s) j = refl
gives-reread r _ j = refl

gives_at-mapped : (r : Place → Place) (o : Option Node) (j : ℕ)
    → gives_at (mapped r o) j ≡ gives_at o j
gives_at-mapped r None j = refl
gives_at-mapped r (Some x) j = gives-reread r x j

-- a collection that is there is there among nodes that read elsewhere
pub there_mapped : (r : Place → Place) (es : List Entry) (c : Place) → IsThere es c
    → IsThere (map (reread_entry r) es) c
there_mapped r es c h = ap (λ (o : Option Node). gives_at o c.out) (node_at-map r es c.node)
    ∙ gives_at-mapped r (node_at es c.node) c.out ∙ h

pub there_by : (es : List Entry) (c : Place) (n : ℕ) (x : Node) → c.node ≡ n → node_at es n ≡ Some x
    → gives x c.out ≡ true → IsThere es c
there_by es c n x e a g = ap (λ (o : Option Node). gives_at o c.out) (ap (node_at es) e ∙ a) ∙ g

pub gives_of : (es : List Entry) (c : Place) (n : ℕ) (x : Node) → c.node ≡ n → node_at es n ≡ Some x
    → IsThere es c → gives x c.out ≡ true
gives_of es c n x e a h = sym (ap (λ (o : Option Node). gives_at o c.out) (ap (node_at es) e ∙ a))
    ∙ h

set_same : (es : List Entry) (e : Entry) (n : ℕ) (x y : Node) (b : Bool) → eqb e.number n ≡ b
    → cond b (Some e.node) (node_at es n) ≡ Some y
    → (node_at es n ≡ Some y → node_at (set_node es n x) n ≡ Some x)
    → node_at (cond b (entry n x ∷ es) (e ∷ set_node es n x)) n ≡ Some x
set_same es e n x y true i h f = rw (eq-eqb n n refl) refl
set_same es e n x y false i h f = rw i (f h)

pub node_at-set_same : (es : List Entry) (n : ℕ) (x y : Node) → node_at es n ≡ Some y
    → node_at (set_node es n x) n ≡ Some x
node_at-set_same [] n x y h = let bad : ⊥ = cc in absurd bad
node_at-set_same (e ∷ es) n x y h = set_same es e n x y (eqb e.number n) refl h
    (λ i. node_at-set_same es n x y i)

other_here : (e : Entry) (es : List Entry) (p n : ℕ) (x y : Node) (b d : Bool) → eqb e.number p ≡ b
    → eqb e.number n ≡ d → (n ≡ p → ⊥) → cond d (Some e.node) (node_at es n) ≡ Some y
    → (node_at es n ≡ Some y → node_at (set_node es p x) n ≡ Some y)
    → node_at (cond b (entry p x ∷ es) (e ∷ set_node es p x)) n ≡ Some y
other_here e es p n x y true true i j apart h f =
    absurd (apart (sym (eqb-true e.number n j) ∙ eqb-true e.number p i))
other_here e es p n x y true false i j apart h f = rw (← eqb-true e.number p i) (rw j h)
other_here e es p n x y false true i j apart h f = rw j h
other_here e es p n x y false false i j apart h f = rw j (f h)

pub node_at-set_other : (es : List Entry) (p n : ℕ) (x y : Node) → (n ≡ p → ⊥)
    → node_at es n ≡ Some y → node_at (set_node es p x) n ≡ Some y
node_at-set_other [] p n x y apart h = h
node_at-set_other (e ∷ es) p n x y apart h = other_here e es p n x y (eqb e.number p)
    (eqb e.number n) refl refl apart h (λ i. node_at-set_other es p n x y apart i)

-- the new forest keeps the outputs of both
pub record Keeps (f h new : Forest) : Type 0 where
  pub left : (i : ℕ) → has_out i f ≡ true → has_out i new ≡ true
  pub right : (i : ℕ) → has_out i h ≡ true → has_out i new ≡ true
  pub differ : OutsDiffer new

there_set : (g : Graph) (p q : ℕ) (c d : Place) (f h new : Forest) → CanJoin g p q c d f h
    → Keeps f h new → (x : Place) (a b : Bool) → eqb x.node q ≡ a → eqb x.node p ≡ b
    → IsThere g.nodes x → IsThere (set_node (without g.nodes q) p (Pdo c new))
    (cond a (place p x.out) x)
there_set g p q c d f h new can k x true b i j t =
    let at_p : node_at (set_node (without g.nodes q) p (Pdo c new)) p ≡ Some (Pdo c new) =
    node_at-set_same (without g.nodes q) p (Pdo c new) (Pdo c f)
    (node_at-without_other g.nodes q p (Pdo c f) can.apart can.keeper) in
    there_by (set_node (without g.nodes q) p (Pdo c new)) (place p x.out) p (Pdo c new) refl at_p
    (k.right x.out (gives_of g.nodes x q (Pdo d h) (eqb-true x.node q i) can.other t))
there_set g p q c d f h new can k x false true i j t =
    let at_p : node_at (set_node (without g.nodes q) p (Pdo c new)) p ≡ Some (Pdo c new) =
    node_at-set_same (without g.nodes q) p (Pdo c new) (Pdo c f)
    (node_at-without_other g.nodes q p (Pdo c f) can.apart can.keeper) in
    there_by (set_node (without g.nodes q) p (Pdo c new)) x p (Pdo c new) (eqb-true x.node p j) at_p
    (k.left x.out (gives_of g.nodes x p (Pdo c f) (eqb-true x.node p j) can.keeper t))
there_set g p q c d f h new can k x false false i j t =
    let y = gives_found (node_at g.nodes x.node) x.out t in
    there_by (set_node (without g.nodes q) p (Pdo c new)) x x.node y.0 refl
    (node_at-set_other (without g.nodes q) p x.node (Pdo c new) y.0
    (λ e. false≢true (sym j ∙ eq-eqb x.node p e))
    (node_at-without_other g.nodes q x.node y.0 (λ e. false≢true (sym i ∙ eq-eqb x.node q e))
    y.1)) y.2

pub reads_reread : (P Q : Place → Type 0) (r : Place → Place) → ((c : Place) → P c → Q (r c))
    → (x : Node) → AllByRecursion P (reads x) → AllByRecursion Q (reads (reread r x))
reads_reread P Q r h (Source s) a = tt
reads_reread P Q r h (Flatten ins) a = all_map r P Q h ins a
reads_reread P Q r h (Pdo c f) a = (h c a.0, tt)
reads_reread P Q r h (Gbk c o l k) a = (h c a.0, tt)
reads_reread P Q r h (Barrier ins o l i) a = all_map r P Q h ins a

pub outs_reread : (r : Place → Place) (x : Node) → HasOuts x → HasOuts (reread r x)
outs_reread r (Source s) h = h
outs_reread r _ h = h

differs_set : (k : ℕ) (es : List Entry) (p : ℕ) (x y : Node) → node_at es p ≡ Some y
    → AllByRecursion (λ e. e.number ≡ k → ⊥) es
    → AllByRecursion (λ e. e.number ≡ k → ⊥) (set_node es p x)
differs_set k es p x y h a = all_set (λ e. e.number ≡ k → ⊥) es p x a
    (all_found (λ e. e.number ≡ k → ⊥) es p y h a)

set_differ : (e : Entry) (es : List Entry) (p : ℕ) (x y : Node) (b : Bool) → eqb e.number p ≡ b
    → cond b (Some e.node) (node_at es p) ≡ Some y → AllDiffer (e ∷ es)
    → (node_at es p ≡ Some y → AllDiffer (set_node es p x))
    → AllDiffer (cond b (entry p x ∷ es) (e ∷ set_node es p x))
set_differ e es p x y true i h a f = (
  subst (λ (k : ℕ). AllByRecursion (λ d. d.number ≡ k → ⊥) es)
      (eqb-true e.number p i) a.0,
  a.1,
)
set_differ e es p x y false i h a f = (differs_set e.number es p x y h a.0, f h)

pub differ_set : (es : List Entry) (p : ℕ) (x y : Node) → node_at es p ≡ Some y → AllDiffer es
    → AllDiffer (set_node es p x)
differ_set [] p x y h a = tt
differ_set (e ∷ es) p x y h a = set_differ e es p x y (eqb e.number p) refl h a
    (λ i. differ_set es p x y i a.1)

pub differ_map : (r : Place → Place) (es : List Entry) → AllDiffer es
    → AllDiffer (map (reread_entry r) es)
differ_map r [] a = tt
differ_map r (e ∷ es) a = (
  all_map (reread_entry r) (λ d. d.number ≡ e.number → ⊥)
      (λ d. d.number ≡ e.number → ⊥) (λ d h. h) es a.0,
  differ_map r es a.1,
)

-- the joined Pdo has the lower of the two ranks
abbrev rank_after : (ℕ → ℕ) → ℕ → ℕ → ℕ → ℕ
rank_after r p q n = cond (eqb n p) (min (r p) (r q)) (r n)

rank_at : (r : ℕ → ℕ) (p q : ℕ) → rank_after r p q p ≡ min (r p) (r q)
rank_at r p q = rw (eq-eqb p p refl) refl

rank_le : (r : ℕ → ℕ) (p q n : ℕ) (b : Bool) → eqb n p ≡ b → cond b (min (r p) (r q)) (r n) ≤ r n
rank_le r p q n true i = let e : r n ≡ r p = ap r (eqb-true n p i) in omega arith
rank_le r p q n false i = omega arith

rank_other : (r : ℕ → ℕ) (p q n : ℕ) → (n ≡ p → ⊥) → rank_after r p q n ≡ r n
rank_other r p q n h = rw (not_true (eqb n p) (λ i. h (eqb-true n p i))) refl

-- what was read of q is read of p, which is no higher
rank_moved : (r : ℕ → ℕ) (p q k : ℕ) (x : Place) (b : Bool) → eqb x.node q ≡ b → r x.node < k
    → rank_after r p q (cond b (place p x.out) x).node < k
rank_moved r p q k x true i l = let e : r x.node ≡ r q = ap r (eqb-true x.node q i) in
    let m : rank_after r p q p ≡ min (r p) (r q) = rank_at r p q in omega arith
rank_moved r p q k x false i l = let m : rank_after r p q x.node ≤ r x.node =
    rank_le r p q x.node (eqb x.node p) refl in omega arith

IsSound-joined : (g : Graph) (p q : ℕ) (c d : Place) (f h new : Forest) → (ok : IsSound g)
    → CanJoin g p q c d f h → Keeps f h new → ((r : ℕ → ℕ) → IsRankedBy r g.nodes → r c.node < r q)
    → IsSound (joined_into g p q c new)
IsSound-joined g p q c d f h new ok can k lower =
    let es : List Entry = without g.nodes q in
    let z : Node = Pdo c new in
    let set : List Entry = set_node es p z in
    let r : Place → Place = moved p q in
    let left : node_at es p ≡ Some (Pdo c f) =
    node_at-without_other g.nodes q p (Pdo c f) can.apart can.keeper in
    let here : (x : Place) → IsThere g.nodes x
    → IsThere (map (reread_entry r) set) (r x) =
    λ x t. there_mapped r set (r x) (there_set g p q c d f h new can k x (eqb x.node q)
    (eqb x.node p) refl refl t) in
    let all_here : (cs : List Place) → AllByRecursion (IsThere g.nodes) cs
    → AllByRecursion (IsThere (map (reread_entry r) set)) (map r cs) =
    λ cs a. all_map r (IsThere g.nodes) (IsThere (map (reread_entry r) set)) here cs a in
    let there : AllByRecursion (λ e. AllByRecursion (IsThere g.nodes) (reads e.node)) set =
    all_set (λ e. AllByRecursion (IsThere g.nodes) (reads e.node)) es p z
    (all_without (λ e. AllByRecursion (IsThere g.nodes) (reads e.node)) g.nodes q ok.there)
    (all_found (λ e. AllByRecursion (IsThere g.nodes) (reads e.node)) g.nodes p (Pdo c f)
    can.keeper ok.there) in
    let ra : ℕ → ℕ = ok.ranked.0 in
    let rb : ℕ → ℕ = rank_after ra p q in
    let low : ra c.node < ra q = lower ra ok.ranked.1 in
    let low_p : ra c.node < ra p = (all_found
    (λ e. AllByRecursion (λ (x : Place). ra x.node < ra e.number) (reads e.node)) g.nodes p
    (Pdo c f) can.keeper ok.ranked.1).0 in
    let R : Entry → Type 0 = λ e. AllByRecursion (λ (x : Place). rb x.node < rb e.number)
    (reads (reread r e.node)) in
    let others : AllByRecursion (λ e. (e.number ≡ p → ⊥) → R e) es =
    Each-weaker (λ (e : Entry). AllByRecursion (λ (x : Place). ra x.node < ra e.number)
    (reads e.node))
    (λ e. (e.number ≡ p → ⊥) → R e) (λ e a apart. rw (rank_other ra p q e.number apart)
    (reads_reread (λ (x : Place). ra x.node < ra e.number)
    (λ (x : Place). rb x.node < ra e.number) r
    (λ x l. rank_moved ra p q (ra e.number) x (eqb x.node q) refl l) e.node a)) es
    (all_without (λ (e : Entry). AllByRecursion (λ (x : Place). ra x.node < ra e.number)
    (reads e.node)) g.nodes q ok.ranked.1) in
    record {
      differ = differ_map r set (differ_set es p z (Pdo c f) left
          (differ_without g.nodes q ok.differ));
      there = all_map (reread_entry r) (λ e. AllByRecursion (IsThere g.nodes) (reads e.node))
          (λ e. AllByRecursion (IsThere (map (reread_entry r) set)) (reads e.node))
          (λ e a. reads_reread (IsThere g.nodes) (IsThere (map (reread_entry r) set)) r here e.node
          a) set there;
      told = all_here g.outputs ok.told;
      outs = all_map (reread_entry r) (λ e. HasOuts e.node) (λ e. HasOuts e.node)
          (λ e a. outs_reread r e.node a) set
          (all_set (λ e. HasOuts e.node) es p z
          (all_without (λ e. HasOuts e.node) g.nodes q ok.outs) k.differ);
      ranked = (
        rb,
        all_map (reread_entry r) R (λ e. AllByRecursion (λ (x : Place). rb x.node < rb e.number)
            (reads e.node)) (λ e a. a) set (all_set_others R es p z
            (differ_without g.nodes q ok.differ) others
            (rw (rank_at ra p q) (
              rank_moved ra p q (min (ra p) (ra q)) c (eqb c.node q) refl
                  (omega arith),
              tt,
            ))),
      );
    }

-- ---- the two joins
pub record IsGood (g h : Graph) : Type 0 where
  pub ok : IsSound h
  pub keeps : KeepsMeaning g h

pub reads_lower : (g : Graph) (n : ℕ) (c : Place) (f : Forest) (r : ℕ → ℕ)
    → node_at g.nodes n ≡ Some (Pdo c f) → IsRankedBy r g.nodes → r c.node < r n
reads_lower g n c f r h a = (all_found (λ e. AllByRecursion (λ (x : Place). r x.node < r e.number)
    (reads e.node)) g.nodes n (Pdo c f) h a).0

pub IsGood-as_kid : (g : Graph) (p q : ℕ) (c : Place) (j : ℕ) (f h : Forest) → IsSound g
    → CanJoin g p q c (place p j) f h → HasOne j f → has_out j f ≡ true
    → IsGood g (as_kid g p q c j f h)
IsGood-as_kid g p q c j f h ok can one has =
    record {
      ok = IsSound-joined g p q c (place p j) f h (grafted j h f) ok can
          (record {
            left = λ i e. has_out-grafted i j f h one ∙ or_left (has_out i f) (has_out i h) e;
            right = λ i e. has_out-grafted i j f h one ∙ or_right (has_out i f) (has_out i h) e;
            differ = differ_grafted j f h one
                (all_found (λ e. HasOuts e.node) g.nodes p (Pdo c f) can.keeper ok.outs)
                (all_found (λ e. HasOuts e.node) g.nodes q (Pdo (place p j) h) can.other ok.outs)
                can.disjoint;
          })
          (λ r a. let low : r c.node < r p = reads_lower g p c f r can.keeper a in
          let high : r p < r q = reads_lower g q (place p j) h r can.other a in omega arith);
      keeps = KeepsMeaning-as_kid g p q c j f h ok can one has;
    }

pub IsGood-as_sibling : (g : Graph) (p q : ℕ) (c : Place) (f h : Forest) → IsSound g
    → CanJoin g p q c c f h → IsGood g (as_sibling g p q c f h)
IsGood-as_sibling g p q c f h ok can =
    record {
      ok = IsSound-joined g p q c c f h (beside f h) ok can
          (record {
            left = λ i e. has_out-beside i f h ∙ or_left (has_out i f) (has_out i h) e;
            right = λ i e. has_out-beside i f h ∙ or_right (has_out i f) (has_out i h) e;
            differ = differ_beside f h (all_found (λ e. HasOuts e.node) g.nodes p (Pdo c f)
                can.keeper ok.outs) (all_found (λ e. HasOuts e.node) g.nodes q (Pdo c h) can.other
                ok.outs) can.disjoint;
          })
          (λ r a. reads_lower g q c h r can.other a);
      keeps = KeepsMeaning-as_sibling g p q c f h ok can;
    }
