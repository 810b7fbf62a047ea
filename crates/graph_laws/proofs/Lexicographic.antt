-- The order of pairs of numbers in which the first decides, and then the second.
use Rattle.std.proofs.Common.{◌≡◌, ℕ, ◌<◌, ◌≤◌, ◌⊎◌, ltb, eqb, Bool, true, false, ◌&&◌, ◌||◌, refl, sym, ◌∙◌, arith, inl, inr}
use Rattle.std.proofs.lemmas.Bool.{eqb-true, eq-eqb, false≢true, le-ltb, ltb-true, ltb-false}
use Rattle.combine_table.proofs.of_flume_value.BoolLemmas.{both_true}
use Rattle.exec_graph.proofs.Bools.{no_or, not_true, or_cases, or_false}

-- (a, b) is before (c, d)
abbrev pub less : ℕ → ℕ → ℕ → ℕ → Bool
less a b c d = ltb a c || (eqb a c && ltb b d)

-- (a, b) is not behind (c, d)
abbrev pub Le : ℕ → ℕ → ℕ → ℕ → Type 0
Le a b c d = (a < c) ⊎ ((a ≡ c) × (b ≤ d))

second_false : (a b : Bool) → (a && b) ≡ false → a ≡ true → b ≡ false
second_false true b h e = h
second_false false b h e = absurd (false≢true e)

first_false : (a b : Bool) → a ≡ false → (a && b) ≡ false
first_false true b h = absurd (false≢true (sym h))
first_false false b h = refl

none_second : (a b : Bool) → b ≡ false → (a && b) ≡ false
none_second true b h = h
none_second false b h = refl

le_by : (a b c d : ℕ) (t : Bool) → ltb a c ≡ t → a ≤ c → (eqb c a && ltb d b) ≡ false
    → Le a b c d
le_by a b c d true i l h = inl (ltb-true a c i)
le_by a b c d false i l h =
    let m : c ≤ a = ltb-false a c i in
    let e : c ≡ a = omega arith in
    inr (sym e, ltb-false d b (second_false (eqb c a) (ltb d b) h (eq-eqb c a e)))

pub not_less : (a b c d : ℕ) → less c d a b ≡ false → Le a b c d
not_less a b c d h =
    let p = or_false (ltb c a) (eqb c a && ltb d b) h in
    le_by a b c d (ltb a c) refl (ltb-false c a p.0) p.1

pub le_not : (a b c d : ℕ) → Le a b c d → less c d a b ≡ false
le_not a b c d (inl l) =
    no_or (ltb c a) (eqb c a && ltb d b) (le-ltb c a (omega arith))
    (first_false (eqb c a) (ltb d b) (not_true (eqb c a) (λ i.
    let e : c ≡ a = eqb-true c a i in omega arith)))
le_not a b c d (inr p) =
    let e : a ≡ c = p.0 in
    no_or (ltb c a) (eqb c a && ltb d b) (le-ltb c a (omega arith))
    (none_second (eqb c a) (ltb d b) (le-ltb d b p.1))

pub less_le : (a b c d : ℕ) → less a b c d ≡ true → Le a b c d
less_le a b c d h =
    elim (or_cases (ltb a c) (eqb a c && ltb b d) h) [
      | inl e ↦ inl (ltb-true a c e)
      | inr e ↦ (let p = both_true (eqb a c) (ltb b d) e in
          let l : b < d = ltb-true b d p.1 in
          inr (eqb-true a c p.0, omega arith))
    ]

pub le_self : (a b : ℕ) → Le a b a b
le_self a b = inr (refl, omega arith)

pub le_trans : (a b c d e f : ℕ) → Le a b c d → Le c d e f → Le a b e f
le_trans a b c d e f (inl x) (inl y) = inl (omega arith)
le_trans a b c d e f (inl x) (inr y) = let s : c ≡ e = y.0 in inl (omega arith)
le_trans a b c d e f (inr x) (inl y) = let s : a ≡ c = x.0 in inl (omega arith)
le_trans a b c d e f (inr x) (inr y) =
    let l : b ≤ d = x.1 in
    let m : d ≤ f = y.1 in
    inr (x.0 ∙ y.0, omega arith)

-- two of which neither is behind the other are one
pub le_both : (a b c d : ℕ) → Le a b c d → Le c d a b → (a ≡ c) × (b ≡ d)
le_both a b c d (inl x) (inl y) = absurd (omega arith)
le_both a b c d (inl x) (inr y) = let s : c ≡ a = y.0 in absurd (omega arith)
le_both a b c d (inr x) (inl y) = let s : a ≡ c = x.0 in absurd (omega arith)
le_both a b c d (inr x) (inr y) =
    let l : b ≤ d = x.1 in
    let m : d ≤ b = y.1 in
    (x.0, omega arith)
