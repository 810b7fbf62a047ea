-- A test with a known answer takes its branch.
use Rattle.std.proofs.Common.{◌≡◌, ℕ, Bool, true, false, ◌==◌, if◌then◌else◌, refl, ap}
use Rattle.std.proofs.lemmas.Bool.{eqb-true}

pub first : {A : Type 0} (b : Bool) (x y : A) → b ≡ true → (if b then x else y) ≡ x
first b x y e = ap (λ t. if t then x else y) e

pub second : {A : Type 0} (b : Bool) (x y : A) → b ≡ false → (if b then x else y) ≡ y
second b x y e = ap (λ t. if t then x else y) e

-- where the first branch is another, the test fails
pub other : {A : Type 0} (t : Bool) (x y z : A) → (x ≡ z → ⊥) → (if t then x else y) ≡ z → y ≡ z
other true x y z h e = absurd (h e)
other false x y z h e = e

-- a number that passes is none that fails
pub apart : (p : ℕ → Bool) (b k : ℕ) → p b ≡ true → p k ≡ false → (b == k) ≡ false
apart p b k h g = by (b == k) refl
  where
    by : (t : Bool) → (b == k) ≡ t → t ≡ false
    by true e = let q : p b ≡ p k = ap p (eqb-true b k e) in cc
    by false e = refl
