-- Two numbers that stand for each other.
use Rattle.std.proofs.Common.{◌≡◌, ℕ, Bool, true, false, cond, eqb, refl, sym, ◌∙◌}
use Rattle.std.proofs.lemmas.Bool.{eqb-true, eq-eqb, false≢true, ne_eqb}

abbrev pub other : ℕ → ℕ → ℕ → ℕ
other p q n = cond (eqb n p) q (cond (eqb n q) p n)

pub other_left : (p q : ℕ) → other p q p ≡ q
other_left p q = rw (eq-eqb p p refl) refl

pub other_right : (p q : ℕ) → (p ≡ q → ⊥) → other p q q ≡ p
other_right p q apart = rw (ne_eqb q p (λ e. apart (sym e)), eq-eqb q q refl) refl

pub other_far : (p q n : ℕ) → (n ≡ p → ⊥) → (n ≡ q → ⊥) → other p q n ≡ n
other_far p q n a b = rw (ne_eqb n p a, ne_eqb n q b) refl

pub other_twice : (p q n : ℕ) → (p ≡ q → ⊥) → other p q (other p q n) ≡ n
other_twice p q n apart = by (eqb n p) (eqb n q) refl refl
  where
    by : (a b : Bool) → eqb n p ≡ a → eqb n q ≡ b → other p q (cond a q (cond b p n)) ≡ n
    by true b i j = other_right p q apart ∙ sym (eqb-true n p i)
    by false true i j = other_left p q ∙ sym (eqb-true n q j)
    by false false i j =
        other_far p q n (λ e. false≢true (sym i ∙ eq-eqb n p e))
        (λ e. false≢true (sym j ∙ eq-eqb n q e))
