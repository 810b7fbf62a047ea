-- The longest run at the beginning of a list.
use Rattle.std.proofs.Common.{◌≡◌, ℕ, List, [], ◌∷◌, ◌++◌, Bool, true, false, refl, sym, ap, ◌∙◌, subst}
use Rattle.std.specs.Prelude.{cond, take_while}
use Rattle.std.specs.List.{All}
use Rattle.std.proofs.lemmas.List.Elements.{All-nil, All-cons, All-head, All-tail}
use Rattle.std.proofs.lemmas.List.Sums.{take_while-cons}

-- it ends before the first that fails
pub run : (p : ℕ → Bool) (s : ℕ) (xs ys : List ℕ) → All (λ b. p b ≡ true) xs → p s ≡ false
    → take_while p (xs ++ s ∷ ys) ≡ xs
run p s [] ys h e = take_while-cons p s ys ∙ ap (λ b. cond b (s ∷ take_while p ys) []) e
run p s (x ∷ xs) ys h e =
    take_while-cons p x (xs ++ s ∷ ys)
    ∙ ap (λ b. cond b (x ∷ take_while p (xs ++ s ∷ ys)) []) (All-head (λ b. p b ≡ true) x xs h)
    ∙ ap (λ zs. x ∷ zs) (run p s xs ys (All-tail (λ b. p b ≡ true) x xs h) e)

-- all of it pass
pub passes : (p : ℕ → Bool) (xs : List ℕ) → All (λ b. p b ≡ true) (take_while p xs)
passes p [] = All-nil (λ b. p b ≡ true)
passes p (x ∷ xs) =
    subst (λ (zs : List ℕ). All (λ b. p b ≡ true) zs) (sym (take_while-cons p x xs))
    (by (p x) refl (passes p xs))
  where
    by : (t : Bool) → p x ≡ t → All (λ b. p b ≡ true) (take_while p xs)
        → All (λ b. p b ≡ true) (cond t (x ∷ take_while p xs) [])
    by true e h = All-cons (λ b. p b ≡ true) x (take_while p xs) e h
    by false e h = All-nil (λ b. p b ≡ true)

-- it begins with the first, where that passes
pub begins : (p : ℕ → Bool) (x : ℕ) (xs : List ℕ) → p x ≡ true
    → take_while p (x ∷ xs) ≡ x ∷ take_while p xs
begins p x xs e = take_while-cons p x xs ∙ ap (λ b. cond b (x ∷ take_while p xs) []) e
