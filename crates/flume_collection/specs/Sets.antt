-- Sets as ascending lists, made by putting in one element after another.
use Rattle.std.specs.Prelude.{◌≡◌, Bool, true, false, cond, List, [], ◌∷◌}

-- a test that puts any two elements in one order
pub record IsOrder {X : Type 0} (le : X → X → Bool) : Type 0 where
  pub total : (x y : X) → le x y ≡ false → le y x ≡ true
  pub anti : (x y : X) → le x y ≡ true → le y x ≡ true → x ≡ y
  pub trans : (x y z : X) → le x y ≡ true → le y z ≡ true → le x z ≡ true

-- one element more, where it is new
abbrev pub put_new : {X : Type 0} → (X → X → Bool) → X → List X → List X
put_new le x [] = x ∷ []
put_new le x (y ∷ ys) =
    cond (le x y) (cond (le y x) (y ∷ ys) (x ∷ (y ∷ ys))) (y ∷ put_new le x ys)

-- all of a list put in
abbrev pub gather : {X B : Type 0} → (X → B → B) → List X → B → B
gather p [] b = b
gather p (x ∷ xs) b = p x (gather p xs b)

-- the set of a list, so that two lists have the same elements where these are equal
abbrev pub set_of : {X : Type 0} → (X → X → Bool) → List X → List X
set_of le xs = gather (put_new le) xs []
