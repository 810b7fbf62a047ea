-- Sizes that grow, one after another.
use Rattle.std.proofs.Common.{◌≡◌, ℕ, ◌+◌, ◌-◌, ◌<◌, ◌^◌, min, List, length, slice_index, refl, ap, ◌∙◌, arith}
use Rattle.task_lists.specs.Runs.{kept_count}
use Rattle.step_counts.specs.Sizes.{HaveGrown}

pub grown_not : (olds : List ℕ) → ((i : ℕ) → slice_index olds i < 2 ^ 64)
    → HaveGrown (λ i. 0) olds olds
grown_not olds fits = record {
  count = refl;
  sizes = λ i below. let fit = fits i in omega arith;
}

twice : (size n m : ℕ) → kept_count (kept_count (size + n) + m) ≡ kept_count (size + (n + m))
twice size n m = omega arith

pub grown_then : (f g : ℕ → ℕ) (first next last : List ℕ) → HaveGrown f first next
    → HaveGrown g next last → HaveGrown (λ i. f i + g i) first last
grown_then f g first next last h k = record {
  count = k.count ∙ h.count;
  sizes = λ i below.
      let count = h.count in
      k.sizes i (omega arith) ∙ ap (λ n. kept_count (n + g i)) (h.sizes i below)
      ∙ twice (slice_index first i) (f i) (g i);
}

pub grown_as : (f g : ℕ → ℕ) (olds news : List ℕ) → ((i : ℕ) → f i ≡ g i)
    → HaveGrown f olds news → HaveGrown g olds news
grown_as f g olds news e h = record {
  count = h.count;
  sizes = λ i below. h.sizes i below ∙ ap (λ n. kept_count (slice_index olds i + n)) (e i);
}
