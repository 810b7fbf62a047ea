-- What functions of objects take.
use Rattle.std.proofs.Common.{◌≡◌, suc, Bool, true, false, ◌&&◌, List, [], ◌∷◌, length, map, refl, ap}
use Rattle.script_rules.specs.Arguments.{pairwise}

both-false : (a b : Bool) → false ≡ b → false ≡ (a && b)
both-false true b e = e
both-false false b e = refl

-- more of the one than of the other, or fewer: whatever is seen of them
pub not-fitting : {A B X Y : Type 0} (fits : A → B → Bool) (f : X → A) (g : Y → B)
    (ones : List X) (others : List Y) → (length ones ≡ length others → ⊥)
    → false ≡ pairwise fits (map f ones) (map g others)
not-fitting fits f g [] [] unlike = absurd (unlike refl)
not-fitting fits f g [] (other ∷ others) unlike = refl
not-fitting fits f g (one ∷ ones) [] unlike = refl
not-fitting fits f g (one ∷ ones) (other ∷ others) unlike =
    both-false (fits (f one) (g other)) (pairwise fits (map f ones) (map g others))
    (not-fitting fits f g ones others (λ same. unlike (ap suc same)))
