-- Parts that are read one after another, as a loop does.
use Rattle.std.proofs.Common.{◌≡◌, ℕ, suc, ◌-◌, ◌+◌, ◌≤◌, ◌<◌, List, [], ◌∷◌, ◌++◌, Some, None, refl, sym, ap, ◌∙◌, append_assoc, arith}
use Rattle.std.proofs.lemmas.List.{append-nil}
use Rattle.value_reading.specs.inner.Reading.{Out, bind, made, parts_at}

module _ {A : Type 0} (part : List ℕ → Out A) where
  -- what was read before, and what is still read
  abbrev pub with_front : List A → Out (List A) → Out (List A)
  with_front front read = made (λ xs. front ++ xs) read

  regroup : (front : List A) (x : A) (read : Out (List A))
      → with_front front (made (λ xs. x ∷ xs) read) ≡ with_front (front ++ x ∷ []) read
  regroup front x None = refl
  regroup front x (Some y) =
      ap (λ (xs : List A). Some (xs, y.1)) (sym (append_assoc front (x ∷ []) y.0))

  one_more : (count i : ℕ) (bytes : List ℕ) → i < count
      → parts_at part (count - i) bytes
      ≡ bind (part bytes) (λ x rest. made (λ xs. x ∷ xs) (parts_at part (count - (i + 1)) rest))
  unfolding parts_at
  one_more count i bytes lt =
      let k : count - i ≡ suc (count - (i + 1)) = omega arith in
      ap (λ j. parts_at part j bytes) k

  pub goes_on : (front : List A) (count i : ℕ) (bytes : List ℕ) (x : A) (after : List ℕ)
      (whole : Out (List A)) → i < count → part bytes ≡ Some (x, after)
      → with_front front (parts_at part (count - i) bytes) ≡ whole
      → with_front (front ++ x ∷ []) (parts_at part (count - (i + 1)) after) ≡ whole
  goes_on front count i bytes x after whole lt h so_far =
      sym (ap (with_front front) (one_more count i bytes lt
      ∙ ap (λ o. bind o (λ x rest. made (λ xs. x ∷ xs) (parts_at part (count - (i + 1)) rest))) h)
      ∙ regroup front x (parts_at part (count - (i + 1)) after))
      ∙ so_far

  pub stops : (front : List A) (count i : ℕ) (bytes : List ℕ) (whole : Out (List A))
      → i < count → part bytes ≡ None
      → with_front front (parts_at part (count - i) bytes) ≡ whole → whole ≡ None
  stops front count i bytes whole lt h so_far =
      sym so_far
      ∙ ap (with_front front) (one_more count i bytes lt
      ∙ ap (λ o. bind o (λ x rest. made (λ xs. x ∷ xs) (parts_at part (count - (i + 1)) rest))) h)

  pub is_done : (front : List A) (count i : ℕ) (bytes : List ℕ) (whole : Out (List A))
      → count ≤ i → with_front front (parts_at part (count - i) bytes) ≡ whole
      → whole ≡ Some (front, bytes)
  unfolding parts_at
  is_done front count i bytes whole le so_far =
      let k : count - i ≡ 0 = omega arith in
      sym so_far
      ∙ ap (λ j. with_front front (parts_at part j bytes)) k
      ∙ ap (λ (xs : List A). Some (xs, bytes)) (append-nil front)
