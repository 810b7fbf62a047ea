-- The only Pdo that reads a collection, and its combiner.
use Rattle.std.proofs.Common.{◌≡◌, ℕ, Bool, true, false, cond, eqb, List, [], ◌∷◌, Option, Some, None, refl, sym, ap, ◌∙◌, subst}
use Rattle.std.specs.List.{AllByRecursion as Each}
use Rattle.std.proofs.lemmas.Bool.{eqb-true, eq-eqb}
use Rattle.combine_table.specs.declared.comb.Comb.{Comb}
use Rattle.exec_graph.specs.declared.graph.Place.{Place}
use Rattle.exec_graph.specs.declared.graph.Entry.{Entry}
use Rattle.exec_graph.specs.Meaning.{AllDiffer, node_at}
use Rattle.exec_graph.specs.Readers.{calls_on, readers}
use Rattle.exec_graph.specs.Wellformed.{comb_at}
use Rattle.exec_graph.proofs.Bools.{not_true}
use Rattle.exec_graph.proofs.Rooted.{those_differ}
use Rattle.graph_checks.specs.declared.callers.Callers.{Callers}
use Rattle.graph_checks.specs.declared.callers.Callers.TheVariants.{One, Several}
use Rattle.graph_checks.specs.inner.Checks.{callers_from, more_callers}

-- several stay several
still_several : (es : List Entry) (c : Place) → callers_from (Some Several) es c ≡ Some Several
still_several [] c = refl
still_several (e ∷ es) c = by (calls_on c e.node) (still_several es c)
  where
    by : (b : Bool) → callers_from (Some Several) es c ≡ Some Several
        → callers_from (cond b (Some Several) (Some Several)) es c ≡ Some Several
    by true h = h
    by false h = h

-- where no other follows, what was seen stays
stays_seen : (seen : Option Callers) (es : List Entry) (c : Place) → readers es c ≡ []
    → callers_from seen es c ≡ seen
stays_seen seen [] c h = refl
stays_seen seen (e ∷ es) c h = by (calls_on c e.node) h (stays_seen seen es c)
  where
    by : (b : Bool) → cond b (e.number ∷ readers es c) (readers es c) ≡ []
        → (readers es c ≡ [] → callers_from seen es c ≡ seen)
        → callers_from (cond b (Some (more_callers seen (comb_at (Some e.node)))) seen) es c ≡ seen
    by true i f = let bad : ⊥ = cc in absurd bad
    by false i f = f i

-- what is still one was one, and no other follows
still_one : (s r : Option Comb) (es : List Entry) (c : Place)
    → callers_from (Some (One s)) es c ≡ Some (One r) → (readers es c ≡ []) × (s ≡ r)
still_one s r [] c h = (refl, cc)
still_one s r (e ∷ es) c h = by (calls_on c e.node) h (still_one s r es c)
  where
    by : (b : Bool) → callers_from (cond b (Some Several) (Some (One s))) es c ≡ Some (One r)
        → (callers_from (Some (One s)) es c ≡ Some (One r) → (readers es c ≡ []) × (s ≡ r))
        → (cond b (e.number ∷ readers es c) (readers es c) ≡ []) × (s ≡ r)
    by true i f =
        let j : Some Several ≡ Some (One r) = sym (still_several es c) ∙ i in
        let bad : ⊥ = cc in absurd bad
    by false i f = f i

-- one Pdo alone reads a collection, and its root combines like that or not at all
pub record IsOnly (es : List Entry) (c : Place) (r : Option Comb) : Type 0 where
  pub reader : ℕ
  pub alone : readers es c ≡ reader ∷ []
  pub root : comb_at (node_at es reader) ≡ r

pub only_from : (es : List Entry) (c : Place) (r : Option Comb) → AllDiffer es
    → callers_from None es c ≡ Some (One r) → IsOnly es c r
only_from [] c r d h = let bad : ⊥ = cc in absurd bad
only_from (e ∷ es) c r d h = by (calls_on c e.node) refl h (only_from es c r d.1)
  where
    by : (b : Bool) → calls_on c e.node ≡ b
        → callers_from (cond b (Some (One (comb_at (Some e.node)))) None) es c ≡ Some (One r)
        → (callers_from None es c ≡ Some (One r) → IsOnly es c r) → IsOnly (e ∷ es) c r
    by true q i f =
        let s = still_one (comb_at (Some e.node)) r es c i in
        record {
          reader = e.number;
          alone = rw q (ap (λ l. e.number ∷ l) s.0);
          root = rw (eq-eqb e.number e.number refl) s.1;
        }
    by false q i f =
        let o = f i in
        let apart : o.reader ≡ e.number → ⊥ =
        (subst (Each (λ m. m ≡ e.number → ⊥)) o.alone
        (those_differ (calls_on c) es e.number d.0)).0 in
        record {
          reader = o.reader;
          alone = rw q o.alone;
          root = rw (not_true (eqb e.number o.reader)
              (λ z. apart (sym (eqb-true e.number o.reader z)))) o.root;
        }

pub only_to : (es : List Entry) (c : Place) (r : Option Comb) → AllDiffer es → IsOnly es c r
    → callers_from None es c ≡ Some (One r)
only_to [] c r d o = let bad : ⊥ = (let a = o.alone in cc) in absurd bad
only_to (e ∷ es) c r d o = by (calls_on c e.node) refl o.alone (only_to es c r d.1)
  where
    by : (b : Bool) → calls_on c e.node ≡ b
        → cond b (e.number ∷ readers es c) (readers es c) ≡ o.reader ∷ []
        → (IsOnly es c r → callers_from None es c ≡ Some (One r))
        → callers_from (cond b (Some (One (comb_at (Some e.node)))) None) es c ≡ Some (One r)
    by true q i f =
        let same : e.number ≡ o.reader = cc in
        let none : readers es c ≡ [] = cc in
        let here : comb_at (Some e.node) ≡ r =
        sym (rw (eq-eqb e.number o.reader same) refl) ∙ o.root in
        stays_seen (Some (One (comb_at (Some e.node)))) es c none
        ∙ ap (λ (x : Option Comb). Some (One x)) here
    by false q i f =
        let apart : o.reader ≡ e.number → ⊥ =
        (subst (Each (λ m. m ≡ e.number → ⊥)) i
        (those_differ (calls_on c) es e.number d.0)).0 in
        f (record {
          reader = o.reader;
          alone = i;
          root = sym (rw (not_true (eqb e.number o.reader)
              (λ z. apart (sym (eqb-true e.number o.reader z)))) refl) ∙ o.root;
        })
