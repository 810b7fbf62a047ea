-- What later takes get once a list has been taken away.
use Rattle.std.proofs.Common.{◌≡◌, ◌<◌, ◌-◌, ◌==◌, ℕ, Bool, true, false, ◌&&◌, ◌||◌, cond, List, [], ◌∷◌, ◌++◌, map, length, slice_get, ◌+◌, add-one, append_assoc, drop, get_or, take, refl, sym, ap, ◌∙◌, subst, arith}
use Rattle.std.specs.List.{list_any}
use Rattle.std.proofs.Math.Seq.{drop-cons}
use Rattle.std.proofs.lemmas.List.{length-drop, take_all}
use Rattle.flume_value.specs.declared.value.Value.{Value}
use Rattle.flume_collection.specs.Calls.{or_none}
use Rattle.exec_plan.specs.declared.plan.Take.{Take}
use Rattle.map_shard.specs.inner.Sending.{taken_by}
use Rattle.map_shard.specs.inner.Takes.{is_of}

pub drop_at : {A : Type 0} (xs : List A) (i : ℕ) (x : A) → i < length xs
    → drop i xs ≡ get_or xs i x ∷ drop (i + 1) xs
drop_at xs i x h = drop-cons xs i x h ∙ ap (λ n. get_or xs i x ∷ drop n xs) (sym (add-one i))

-- what is behind a place is all that is left
pub behind : {A : Type 0} (xs : List A) (n : ℕ) → take (length xs - n) (drop n xs) ≡ drop n xs
behind xs n =
    let long = length-drop n xs in take_all (length xs - n) (drop n xs) (omega (arith, long))

module _ {A B : Type 0} (f g : A → B) where
  -- where f and g differ at some, and none of these is among the others
  pub kept_lists : (same : A → Bool) → ((q : A) → same q ≡ false → g q ≡ f q) → (qs : List A)
      → list_any same qs ≡ false → map g qs ≡ map f qs
  kept_lists same kept [] none = refl
  kept_lists same kept (q ∷ qs) none =
      by (same q) refl none (kept_lists same kept qs) where
        by : (b : Bool) → same q ≡ b → b || list_any same qs ≡ false
            → (list_any same qs ≡ false → map g qs ≡ map f qs) → map g (q ∷ qs) ≡ map f (q ∷ qs)
        by true e none rest = absurd (cc)
        by false e none rest = λ i. kept q e i ∷ rest none i

  -- the same where they differ only if a test holds
  pub kept_if : (test : Bool) (same : A → Bool)
      → ((q : A) → (test ≡ true → same q ≡ false) → g q ≡ f q) → (qs : List A)
      → (test ≡ true → list_any same qs ≡ false) → map g qs ≡ map f qs
  kept_if true same kept qs none = kept_lists same (λ q e. kept q (λ t. e)) qs (none refl)
  kept_if false same kept [] none = refl
  kept_if false same kept (q ∷ qs) none =
      λ i. kept q (λ t. absurd (cc)) i ∷ kept_if false same kept qs (λ t. absurd (cc)) i

  -- the next one's list stands behind the others, and the lists of later ones are as before
  pub lists_on : (all : List A) (k : ℕ) (other : A) (lists next whole : List B) (x : B)
      → k < length all → x ≡ f (get_or all k other) → next ≡ lists ++ x ∷ []
      → map g (drop (k + 1) all) ≡ map f (drop (k + 1) all)
      → lists ++ map f (drop k all) ≡ whole → next ++ map g (drop (k + 1) all) ≡ whole
  lists_on all k other lists next whole x below list push kept so_far =
      (λ i. push i ++ kept i) ∙ append_assoc lists (x ∷ []) (map f (drop (k + 1) all))
      ∙ ap (λ v. lists ++ v ∷ map f (drop (k + 1) all)) list
      ∙ ap (λ l. lists ++ map f l) (sym (drop_at all k other below)) ∙ so_far

  -- the same where the later ones are a part of all
  pub lists_more : (all : List A) (k : ℕ) (other : A) (lists next whole : List B) (x : B)
      → k < length all → x ≡ f (get_or all k other) → next ≡ lists ++ x ∷ []
      → map g (take (length all - (k + 1)) (drop (k + 1) all))
      ≡ map f (take (length all - (k + 1)) (drop (k + 1) all))
      → lists ++ map f (drop k all) ≡ whole → next ++ map g (drop (k + 1) all) ≡ whole
  lists_more all k other lists next whole x below list push kept =
      lists_on all k other lists next whole x below list push
      (subst (λ l. map g l ≡ map f l) (behind all (k + 1)) kept)

-- a take of another list of input channel m than list n gets what it got
pub others_taken : (m n : ℕ) (old new : List (List Value))
    → ((i : ℕ) → (i ≡ n → ⊥) → or_none (slice_get new i) ≡ or_none (slice_get old i))
    → (q : Take) → is_of m n q ≡ false → taken_by m new q ≡ taken_by m old q
others_taken m n old new kept q apart =
    elim (q.channel == m) as (λ b. b && (q.out == n) ≡ false
    → cond b (or_none (slice_get new q.out)) [] ≡ cond b (or_none (slice_get old q.out)) []) [
      | true ↦ λ e. kept q.out (λ f. grind (arith, e, f))
      | false ↦ λ e. refl
    ] apart
