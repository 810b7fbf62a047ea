-- The loops over runs, step by step.
use Rattle.std.proofs.Common.{◌≡◌, ◌<◌, ◌≤◌, ◌+◌, ℕ, zero, suc, Some, List, [], ◌∷◌, ◌++◌, get_or, length, take, sym, ap, ◌∙◌, subst, arith}
use Rattle.std.specs.Prelude.{All, slice_get}
use Rattle.std.proofs.lemmas.List.{take_more}
use Rattle.std.proofs.lemmas.List.Elements.{All-more}
use Rattle.std.proofs.lemmas.Option.{get_or_from_slice_get}
use Rattle.flume_value.specs.declared.value.Value.{Value}
use Rattle.keyed_steps.specs.of_bag_groups.Pairs.{value_of}
use Rattle.keyed_steps.proofs.of_bag_groups.PairLemmas.{held-push}
use Rattle.bag_steps.specs.inner.Runs.{IsRun, held_by}

-- ---- runs

pub run_more : {A : Type 0} (f : Value → A) (k : A) (xs : List Value) (n : ℕ) (x : Value)
    → n < length xs → x ≡ get_or xs n x → f x ≡ k → All (λ v. f v ≡ k) (take n xs)
    → All (λ v. f v ≡ k) (take (n + 1) xs)
run_more f k xs n x within at e all =
    All-more (λ v. f v ≡ k) xs n x within all (subst (λ v. f v ≡ k) at e)

pub run_ends : {A : Type 0} (f : Value → A) (k : A) (xs : List Value) (n : ℕ) (x : Value)
    → n < length xs → x ≡ get_or xs n x → (f x ≡ k → ⊥) → All (λ v. f v ≡ k) (take n xs)
    → IsRun f k xs n
run_ends f k xs n x within at other all = record {
  within = omega arith;
  same = all;
  ends = λ v e h. other (ap f (at ∙ get_or_from_slice_get xs n v x e) ∙ h);
}

past_end : (xs : List Value) (n : ℕ) (v : Value) → length xs ≤ n → slice_get xs n ≡ Some v → ⊥
past_end [] n v h e = cc e
past_end (x ∷ xs) zero v h e = omega arith
past_end (x ∷ xs) (suc n) v h e = past_end xs n v (omega arith) e

pub run_whole : {A : Type 0} (f : Value → A) (k : A) (xs : List Value) (n : ℕ)
    → length xs ≤ n → n ≤ length xs → All (λ v. f v ≡ k) (take n xs) → IsRun f k xs n
run_whole f k xs n end within all = record {
  within = within;
  same = all;
  ends = λ v e h. past_end xs n v end e;
}

-- ---- the values of pairs

pub held_more : (xs : List Value) (i : ℕ) (p v : Value) (values grown : List Value)
    → i < length xs → p ≡ get_or xs i p → value_of p ≡ Some v → values ≡ held_by (take i xs)
    → grown ≡ values ++ v ∷ [] → grown ≡ held_by (take (i + 1) xs)
held_more xs i p v values grown within at e all push =
    push ∙ ap (λ l. l ++ v ∷ []) all ∙ sym (held-push (take i xs) p v e)
    ∙ ap (λ q. held_by (take i xs ++ q ∷ [])) at ∙ ap held_by (sym (take_more xs i p within))
