-- What is read is given: three conditions hold of each collection that an operation or a script
-- output reads.
use Rattle.std.proofs.Common.{◌≡◌, ◌⊎◌, ℕ, Bool, true, false, not, eqb, ◌&&◌, ◌||◌, List, [], ◌∷◌, Option, Some, None, suc, refl, sym, ap, ◌∙◌, subst, inl, inr}
use Rattle.std.proofs.lemmas.Bool.{eqb-true, eq-eqb, false≢true}
use Rattle.flume_value.proofs.BoolLemmas.{and_both}
use Rattle.combine_table.specs.declared.comb.Comb.{Comb}
use Rattle.exec_graph.specs.Forests.{Forest}
use Rattle.exec_graph.specs.Meaning.{node_at, place, reads, gives}
use Rattle.exec_graph.specs.Readers.{among, same_place}
use Rattle.exec_graph.specs.declared.graph.Act.{Act}
use Rattle.exec_graph.specs.declared.graph.Place.{Place}
use Rattle.exec_graph.specs.declared.graph.Node.{Node}
use Rattle.exec_graph.specs.declared.graph.Node.TheVariants.{Source, Flatten, Pdo, Gbk, Barrier}
use Rattle.exec_graph.specs.declared.graph.Entry.{Entry}
use Rattle.exec_graph.specs.declared.graph.Blocked.{Blocked}
use Rattle.exec_graph.proofs.Bools.{or_left, or_right, not_true}
use Rattle.plan_roles.specs.of_fusion_blocks.Feeding.{is_flatten_of}
use Rattle.plan_laws.specs.Operations.{inputs_at, read_through}
use Rattle.plan_roles.specs.Levels.{level}
use Rattle.plan_roles.specs.Reading.{feeds_other, goes_on, takes}
use Rattle.plan_roles.specs.Mappers.{is_mapper, is_just_number, is_reducer, is_stage, is_staged, passes, reducer_of, reduces}
use Rattle.form_laws.proofs.Basics.{among_one, any_found, one_among}
use Rattle.form_laws.proofs.Reading.{is_flatten, is_gbk, reducer_only, stage_read, told_alone}

-- the three conditions
pub record IsMet (b : Blocked) (c : Place) (x : Node) : Type 0 where
  pub flatten : is_flatten x ≡ true → is_stage b c.node ≡ true
  pub gbk : is_gbk x ≡ true → reducer_of b c.node ≡ None
  pub mapper : is_mapper b c.node ≡ true → passes b c ≡ true

none_or : (o : Option ℕ) → ((r : ℕ) → o ≡ Some r → ⊥) → o ≡ None
none_or None f = refl
none_or (Some r) f = absurd (f r refl)

-- a Flatten and a Gbk have output 0 alone
zero_flat : (x : Node) (c : Place) → is_flatten x ≡ true → gives x c.out ≡ true
    → place c.node 0 ≡ c
zero_flat (Source r) c i g = absurd (false≢true i)
zero_flat (Flatten ins) c i g =
    ap (λ (j : ℕ). place c.node j) (sym (eqb-true c.out 0 g))
zero_flat (Pdo d f) c i g = absurd (false≢true i)
zero_flat (Gbk d o l k) c i g = absurd (false≢true i)
zero_flat (Barrier ins o l a) c i g = absurd (false≢true i)

zero_gbk : (x : Node) (c : Place) → is_gbk x ≡ true → gives x c.out ≡ true → place c.node 0 ≡ c
zero_gbk (Source r) c i g = absurd (false≢true i)
zero_gbk (Flatten ins) c i g = absurd (false≢true i)
zero_gbk (Pdo d f) c i g = absurd (false≢true i)
zero_gbk (Gbk d o l k) c i g = ap (λ (j : ℕ). place c.node j) (sym (eqb-true c.out 0 g))
zero_gbk (Barrier ins o l a) c i g = absurd (false≢true i)

pub some_is : (o : Option ℕ) (n : ℕ) → o ≡ Some n → is_just_number o n ≡ true
some_is None n h = let bad : ⊥ = cc in absurd bad
some_is (Some k) n h = let e : k ≡ n = cc in eq-eqb k n e

pub is_some_of : (o : Option ℕ) (n : ℕ) → is_just_number o n ≡ true → o ≡ Some n
is_some_of None n h = absurd (false≢true h)
is_some_of (Some k) n h = ap (λ (i : ℕ). Some i) (eqb-true k n h)

reduces_by : (b : Blocked) (m n : ℕ) (x : Node) → is_gbk x ≡ true → reducer_of b m ≡ Some n
    → reduces b m x n ≡ true
reduces_by b m n (Source r) g h = absurd (false≢true g)
reduces_by b m n (Flatten ins) g h = absurd (false≢true g)
reduces_by b m n (Pdo c f) g h = absurd (false≢true g)
reduces_by b m n (Gbk c o l k) g h = some_is (reducer_of b m) n h
reduces_by b m n (Barrier ins o l a) g h = absurd (false≢true g)

-- the reducer of a Gbk of the graph is a reducer
pub reducer_found : (b : Blocked) (m n : ℕ) (x : Node) → node_at b.graph.nodes m ≡ Some x
    → is_gbk x ≡ true → reducer_of b m ≡ Some n → is_reducer b n ≡ true
reducer_found b m n x e g h =
    any_found (λ e. reduces b e.number e.node n) b.graph.nodes m x e (reduces_by b m n x g h)

-- ---- who reads

-- a Pdo that is no reducer
pub pdo_met : (b : Blocked) (p : ℕ) (c : Place) (f : Forest) (x : Node)
    → node_at b.graph.nodes p ≡ Some (Pdo c f) → node_at b.graph.nodes c.node ≡ Some x
    → gives x c.out ≡ true → is_reducer b p ≡ false ⊎ is_mapper b p ≡ true
    → ((is_mapper b c.node ≡ true) → ⊥) → IsMet b c x
pdo_met b p c f x h e g free nm =
    let reads_it : (n : ℕ) → place n 0 ≡ c → among (place n 0) (reads (Pdo c f)) ≡ true =
    λ n i. ap (λ (d : Place). among d (c ∷ [])) i ∙ one_among c [] in
    record {
      flatten = λ i. stage_read b c.node p (Pdo c f) h (reads_it c.node (zero_flat x c i g)) refl;
      gbk = λ i. none_or (reducer_of b c.node) (λ r j.
          let o = reducer_only b c.node r p (Pdo c f) j h
          (reads_it c.node (zero_gbk x c i g)) in
          elim free [
            | inl q ↦ false≢true (sym q ∙ reducer_found b c.node p x e i
                (j ∙ ap (λ (k : ℕ). Some k) (sym o.same)))
            | inr q ↦ false≢true (sym o.mapper ∙ ap (is_mapper b) (sym o.same) ∙ q)
          ]);
      mapper = λ i. absurd (nm i);
    }

-- a Flatten that is a stage
pub flat_met : (b : Blocked) (n : ℕ) (ins : List Place) (c : Place) (x : Node)
    → node_at b.graph.nodes n ≡ Some (Flatten ins) → is_stage b n ≡ true → among c ins ≡ true
    → gives x c.out ≡ true → IsMet b c x
flat_met b n ins c x h s r g =
    let es : List Entry = b.graph.nodes in
    record {
      flatten = λ i. stage_read b c.node n (Flatten ins) h
          (ap (λ (d : Place). among d ins) (zero_flat x c i g) ∙ r) refl;
      gbk = λ i. none_or (reducer_of b c.node) (λ k j. false≢true
          (reducer_only b c.node k n (Flatten ins) j h
          (ap (λ (d : Place). among d ins) (zero_gbk x c i g) ∙ r)).pdo);
      mapper = λ i. or_right (among c b.graph.outputs) (is_staged b c || feeds_other es c)
          (or_left (is_staged b c) (feeds_other es c)
          (any_found (λ e. is_flatten_of c e.node && is_stage b e.number) es n (Flatten ins) h
          (and_both (among c ins) (is_stage b n) r s)));
    }

-- what takes collections whole
pub barrier_met : (b : Blocked) (n : ℕ) (ins : List Place) (o : ℕ) (l : Bool) (a : Act) (c : Place)
    (x : Node) → node_at b.graph.nodes n ≡ Some (Barrier ins o l a) → among c ins ≡ true
    → gives x c.out ≡ true → ((is_mapper b c.node ≡ true) → ⊥) → IsMet b c x
barrier_met b n ins o l a c x h r g nm = record {
  flatten = λ i. stage_read b c.node n (Barrier ins o l a) h
      (ap (λ (d : Place). among d ins) (zero_flat x c i g) ∙ r) refl;
  gbk = λ i. none_or (reducer_of b c.node) (λ k j. false≢true
      (reducer_only b c.node k n (Barrier ins o l a) j h
      (ap (λ (d : Place). among d ins) (zero_gbk x c i g) ∙ r)).pdo);
  mapper = λ i. absurd (nm i);
}

-- a script output
pub output_met : (b : Blocked) (c : Place) (x : Node) → among c b.graph.outputs ≡ true
    → gives x c.out ≡ true → IsMet b c x
output_met b c x r g =
    let es : List Entry = b.graph.nodes in
    let told : (d : Place) → d ≡ c → among d b.graph.outputs ≡ true =
    λ d i. ap (λ (d : Place). among d b.graph.outputs) i ∙ r in
    record {
      flatten = λ i. or_left (among (place c.node 0) b.graph.outputs)
          (goes_on es (place c.node 0))
          (told (place c.node 0) (zero_flat x c i g));
      gbk = λ i. none_or (reducer_of b c.node)
          (λ k j. told_alone b c.node k j (told (place c.node 0) (zero_gbk x c i g)));
      mapper = λ i. or_left (among c b.graph.outputs) (is_staged b c || feeds_other es c) r;
    }

-- ---- what a Gbk takes
abbrev pub NotFlat : Option Node → Type 0
NotFlat None = Unit {0}
NotFlat (Some x) = is_flatten x ≡ false

-- a Gbk of d takes c: c is d, and no Flatten's, or d is a Flatten's that reads c
pub whole_reader : (es : List Entry) (d c : Place) (o : Option Node) → node_at es d.node ≡ o
    → among c (inputs_at d o) ≡ true → ((d ≡ c) × NotFlat (node_at es d.node))
    ⊎ ((ins : List Place) × (node_at es d.node ≡ Some (Flatten ins)) × (among c ins ≡ true))
whole_reader es d c None e h = inl (among_one c d h, subst NotFlat (sym e) tt)
whole_reader es d c (Some (Source r)) e h = inl (among_one c d h, subst NotFlat (sym e) refl)
whole_reader es d c (Some (Flatten ins)) e h = inr (ins, e, h)
whole_reader es d c (Some (Pdo y f)) e h = inl (among_one c d h, subst NotFlat (sym e) refl)
whole_reader es d c (Some (Gbk y o l k)) e h = inl (among_one c d h, subst NotFlat (sym e) refl)
whole_reader es d c (Some (Barrier ins o l a)) e h =
    inl (among_one c d h, subst NotFlat (sym e) refl)

pub not_flat : (x : Node) (d c : Place) (es : List Entry) → (d ≡ c) × NotFlat (node_at es d.node)
    → node_at es c.node ≡ Some x → is_flatten x ≡ true → ⊥
not_flat x d c es s e i =
    let at : node_at es d.node ≡ Some x = ap (λ (y : Place). node_at es y.node) s.0 ∙ e in
    let n : is_flatten x ≡ false = subst NotFlat at s.1 in
    false≢true (sym n ∙ i)

differs : (a b : ℕ) → (a ≡ b → ⊥) → not (eqb a b) ≡ true
differs a b f = let e : eqb a b ≡ false = not_true (eqb a b) (λ h. f (eqb-true a b h)) in rw e refl

-- a Gbk that takes c whole: it is of another level than a mapper's next
pub whole_met : (b : Blocked) (n : ℕ) (d : Place) (o : ℕ) (last : Bool) (k : Option Comb)
    (c : Place) (x : Node) → node_at b.graph.nodes n ≡ Some (Gbk d o last k)
    → among c (read_through b.graph.nodes d) ≡ true → node_at b.graph.nodes c.node ≡ Some x
    → gives x c.out ≡ true
    → (is_mapper b c.node ≡ true → suc (level b.graph.nodes c.node) ≡ level b.graph.nodes n → ⊥)
    → IsMet b c x
whole_met b n d o last k c x h r e g other =
    let es : List Entry = b.graph.nodes in
    let reader = whole_reader es d c (node_at es d.node) refl r in
    record {
      flatten = λ i. elim reader [
        | inl s ↦ absurd (not_flat x d c es s e i)
        | inr s ↦ stage_read b c.node d.node (Flatten s.0) s.1
            (ap (λ (y : Place). among y s.0) (zero_flat x c i g) ∙ s.2) refl
      ];
      gbk = λ i. none_or (reducer_of b c.node) (λ q j. elim reader [
        | inl s ↦ false≢true (reducer_only b c.node q n (Gbk d o last k) j h
            (ap (λ (y : Place). among y (d ∷ [])) (zero_gbk x c i g)
            ∙ ap (λ (y : Place). among c (y ∷ [])) s.0 ∙ one_among c [])).pdo
        | inr s ↦ false≢true (reducer_only b c.node q d.node (Flatten s.0) j s.1
            (ap (λ (y : Place). among y s.0) (zero_gbk x c i g) ∙ s.2)).pdo
      ]);
      mapper = λ i. or_right (among c b.graph.outputs) (is_staged b c || feeds_other es c)
          (or_right (is_staged b c) (feeds_other es c)
          (any_found
          (λ e. takes es c e.node && not (eqb (level es e.number) (suc (level es c.node)))) es n
          (Gbk d o last k) h
          (and_both (same_place c d || among c (read_through es d))
          (not (eqb (level es n) (suc (level es c.node))))
          (or_right (same_place c d) (among c (read_through es d)) r)
          (differs (level es n) (suc (level es c.node)) (λ u. other i (sym u))))));
    }
