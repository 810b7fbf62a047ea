-- A kid under the lesser number: the least numbers of the classes before and after it.
use Rattle.std.proofs.Common.{◌≡◌, ℕ, ◌≤◌, Bool, true, false, cond, eqb, ltb, List, [], ◌∷◌, Some, refl, sym, ap, ◌∙◌, subst, arith}
use Rattle.std.proofs.lemmas.Bool.{eqb-true, eq-eqb, false≢true}
use Rattle.exec_graph.specs.Forests.{Forest}
use Rattle.exec_graph.specs.Meaning.{has_out, node_at, place}
use Rattle.exec_graph.specs.Readers.{readers, same_place}
use Rattle.exec_graph.specs.declared.graph.Place.{Place}
use Rattle.exec_graph.specs.declared.graph.Node.TheVariants.{Pdo}
use Rattle.exec_graph.proofs.Bools.{not_true}
pub use Rattle.graph_laws.proofs.Exchanging.{other_twice as two_twice}
use Rattle.graph_laws.proofs.Exchanging.{other_far, other_left}
use Rattle.graph_laws.proofs.Joining.{lacks_grafted}
use Rattle.pardo_fuse.specs.Readers.{Cut, is_pdo}
use Rattle.pardo_fuse.specs.Fusing.{is_first, leads, least_number, lesser_number}
use Rattle.pardo_fuse.specs.SingleFusing.{CanFuse, Grown, keeps_output}
use Rattle.pardo_fuse.proofs.Chaining.{more_inner}
use Rattle.pardo_fuse.proofs.Counting.{times}
use Rattle.pardo_fuse.proofs.Levels.{all_grown}
use Rattle.pardo_fuse.proofs.Naming.{has_pruned, has_times}
use Rattle.pardo_fuse.proofs.Once.{AllGrown, all_of}
use Rattle.pardo_fuse.proofs.Partition.{numbers}
use Rattle.pardo_fuse.proofs.Places.{same_self}
use Rattle.pardo_fuse.proofs.Seeing.{head_few}
use Rattle.fuse_chain.specs.Cuts.{IsNextKid}
use Rattle.fuse_chain.specs.Numbers.{numbers_after_kid, other_of_two}
use Rattle.fuse_chain.proofs.KidSteps.{IsHolder, differ, hold, lead_q, leads_next, none_of, reader, trees_next}
use Rattle.fuse_chain.proofs.Minima.{grown_first, least_grafted, least_joined, lesser_same}

-- each Pdo that leads has the least number of its class, and what is no Pdo its own
pub record IsNumbering (b : Cut) (l : ℕ → ℕ) : Type 0 where
  pub least : (m : ℕ) (e : Place) (f : Forest) → node_at b.graph.nodes m ≡ Some (Pdo e f)
      → leads b m e ≡ true → l m ≡ least_number m (numbers (all_of b e))
  pub others : (m : ℕ) → is_pdo (node_at b.graph.nodes m) ≡ false → l m ≡ m
  pub apart : (m i : ℕ) → l m ≡ l i → m ≡ i

-- ---- one kid
module _ (b : Cut) (n q : ℕ) (can : CanFuse b) (more : IsNextKid b n q) where
  abbrev d : Place
  d = place n 0

  abbrev held : IsHolder b n
  held = hold b n q can more

  abbrev p : ℕ
  p = held.number

  abbrev c : Place
  c = held.from

  abbrev next : Cut
  next = more_inner b n

  g : AllGrown b
  g = all_grown b can

  here : has_out n (all_of b c) ≡ true
  here = has_pruned (keeps_output b) (all_of b c) n held.has

  few : times n (numbers (all_of b c)) ≤ 1
  few = head_few b p c held.old can g held.at held.leads n

  -- the class of d begins with q
  first_q : (xs : List ℕ) × (numbers (all_of b d) ≡ q ∷ xs)
  first_q = by (readers b.graph.nodes d) more.first (g d)
    where
      by : (ns : List ℕ) → is_first q ns ≡ true → Grown b ns (all_of b d)
          → (xs : List ℕ) × (numbers (all_of b d) ≡ q ∷ xs)
      by [] i w = absurd (false≢true i)
      by (m ∷ ns) i w =
          subst (λ (k : ℕ). (xs : List ℕ) × (numbers (all_of b d) ≡ k ∷ xs))
          (sym (eqb-true q m i)) (grown_first b m ns (all_of b d) w)

  -- the class of both
  class_joined : least_number p (numbers (all_of next c))
      ≡ lesser_number (least_number p (numbers (all_of b c)))
      (least_number q (numbers (all_of b d)))
  class_joined =
      let xs : List ℕ = first_q.0 in
      let A : ℕ = least_number p (numbers (all_of b c)) in
      ap (λ (f : Forest). least_number p (numbers f)) (trees_next b n q can more c few)
      ∙ least_grafted n (all_of b d) (all_of b c) p here few
      ∙ ap (least_number A) first_q.1
      ∙ least_joined A q xs
      ∙ ap (lesser_number A) (sym (ap (least_number q) first_q.1
      ∙ ap (λ (m : ℕ). least_number m xs) (lesser_same q)))

  -- another class
  class_other : (m : ℕ) (e : Place) (f : Forest) → node_at b.graph.nodes m ≡ Some (Pdo e f)
      → leads b m e ≡ true → (m ≡ p → ⊥) → all_of next e ≡ all_of b e
  class_other m e f at l none =
      let z : times n (numbers (all_of b e)) ≡ 0 = none_of b n q can more m e f at l none in
      let lacks : has_out n (all_of b e) ≡ false = not_true (has_out n (all_of b e))
      (λ h. let t = has_times n (all_of b e) h in omega arith) in
      trees_next b n q can more e (omega arith)
      ∙ lacks_grafted n (all_of b e) (all_of b d) lacks

  module _ (l : ℕ → ℕ) (num : IsNumbering b l) where
    abbrev new : ℕ → ℕ
    new = numbers_after_kid l p q

    l_differ : l p ≡ l q → ⊥
    l_differ e = differ b n q can more (num.apart p q e)

    new_p : new p ≡ lesser_number (l p) (l q)
    new_p = ap (λ (x : ℕ). cond (ltb (l q) (l p)) x (l p)) (other_left (l p) (l q))

    new_other : (m : ℕ) → (m ≡ p → ⊥) → (m ≡ q → ⊥) → new m ≡ l m
    new_other m x y =
        ap (λ (k : ℕ). cond (ltb (l q) (l p)) k (l m))
        (other_far (l p) (l q) (l m) (λ e. x (num.apart m p e)) (λ e. y (num.apart m q e)))
        ∙ both (ltb (l q) (l p))
      where
        both : (t : Bool) → cond t (l m) (l m) ≡ l m
        both true = refl
        both false = refl

    new_least : (m : ℕ) (e : Place) (f : Forest) → node_at b.graph.nodes m ≡ Some (Pdo e f)
        → leads next m e ≡ true → new m ≡ least_number m (numbers (all_of next e))
    new_least m e f at lead = by (same_place e d) refl (sym (leads_next b n q can more m e) ∙ lead)
      where
        by : (s : Bool) → same_place e d ≡ s → cond s false (leads b m e) ≡ true
            → new m ≡ least_number m (numbers (all_of next e))
        by true i j = absurd (false≢true j)
        by false i j = at_m (eqb m p) refl
          where
            at_m : (t : Bool) → eqb m p ≡ t → new m ≡ least_number m (numbers (all_of next e))
            at_m true k =
                let is : m ≡ p = eqb-true m p k in
                let both : Some (Pdo e f) ≡ Some (Pdo c held.old) =
                sym at ∙ ap (node_at b.graph.nodes) is ∙ held.at in
                let same : e ≡ c = cc in
                ap new is ∙ new_p
                ∙ ap (λ (x : ℕ). lesser_number x (l q)) (num.least p c held.old held.at held.leads)
                ∙ ap (lesser_number (least_number p (numbers (all_of b c))))
                (num.least q d (reader b n q can more).0 (reader b n q can more).1
                (lead_q b n q can more))
                ∙ sym class_joined
                ∙ ap (λ (x : ℕ). least_number x (numbers (all_of next c))) (sym is)
                ∙ ap (λ (x : Place). least_number m (numbers (all_of next x))) (sym same)
            at_m false k =
                let no_p : m ≡ p → ⊥ = λ x. false≢true (sym k ∙ eq-eqb m p x) in
                let no_q : m ≡ q → ⊥ = λ x.
                let both : Some (Pdo e f) ≡ Some (Pdo d (reader b n q can more).0) =
                sym at ∙ ap (node_at b.graph.nodes) x ∙ (reader b n q can more).1 in
                let same : e ≡ d = cc in
                false≢true (sym i ∙ ap (λ (y : Place). same_place y d) same ∙ same_self d) in
                new_other m no_p no_q ∙ num.least m e f at j
                ∙ ap (λ (x : Forest). least_number m (numbers x))
                (sym (class_other m e f at j no_p))

    no_pdo_apart : (m i : ℕ) (e : Place) (f : Forest) → is_pdo (node_at b.graph.nodes m) ≡ false
        → node_at b.graph.nodes i ≡ Some (Pdo e f) → m ≡ i → ⊥
    no_pdo_apart m i e f none at x =
        false≢true (sym none ∙ ap (λ (k : ℕ). is_pdo (node_at b.graph.nodes k)) x ∙ ap is_pdo at)

    pub next_numbering : IsNumbering next new
    next_numbering = record {
      least = new_least;
      others = λ m none.
          new_other m (no_pdo_apart m p c held.old none held.at)
          (no_pdo_apart m q d (reader b n q can more).0 none (reader b n q can more).1)
          ∙ num.others m none;
      apart = λ m i e. num.apart m i (back (ltb (l q) (l p)) m i e);
    }
      where
        back : (t : Bool) (m i : ℕ)
            → cond t (other_of_two (l p) (l q) (l m)) (l m)
            ≡ cond t (other_of_two (l p) (l q) (l i)) (l i)
            → l m ≡ l i
        back true m i e =
            sym (two_twice (l p) (l q) (l m) l_differ)
            ∙ ap (other_of_two (l p) (l q)) e
            ∙ two_twice (l p) (l q) (l i) l_differ
        back false m i e = e
