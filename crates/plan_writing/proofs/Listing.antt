-- Lists side by side, from a place on.
use Rattle.std.proofs.Common.{◌≡◌, ℕ, zero, suc, ◌+◌, ◌<◌, ◌≤◌, List, [], ◌∷◌, ◌++◌, length, drop, refl, sym, ap, ◌∙◌, arith, add-one, append_assoc, drop-cons, min, inl, inr}
use Rattle.std.specs.Prelude.{Some, slice_get, ◌⊎◌}
use Rattle.std.proofs.lemmas.List.{drop_all}
use Rattle.std.proofs.lemmas.Option.{get_or_from_slice_get, slice_get_within}
use Rattle.std.proofs.lemmas.Bool.{cases_lt}
use Rattle.plan_writing.specs.Lists.{one_text, paired}

-- the member of a place, in front of those behind it
head_of : {A : Type 0} (xs : List A) (i : ℕ) (x : A) → slice_get xs i ≡ Some x
    → drop i xs ≡ x ∷ drop (suc i) xs
head_of xs i x found =
    drop-cons xs i x (slice_get_within xs i x found)
    ∙ ap (λ (y : _). y ∷ drop (suc i) xs) (get_or_from_slice_get xs i x x found)

-- the members of a place, in front of those behind them
pub cut : {X Y Z : Type 0} (make : X → Y → Z) (xs : List X) (ys : List Y) (i : ℕ) (x : X) (y : Y)
    → slice_get xs i ≡ Some x → slice_get ys i ≡ Some y
    → paired make (drop i xs) (drop i ys)
    ≡ make x y ∷ paired make (drop (suc i) xs) (drop (suc i) ys)
cut make xs ys i x y here there = rw (head_of xs i x here, head_of ys i y there) refl

-- a text more
texts_next : {X Y : Type 0} (make : X → Y → List ℕ) (text more all : List ℕ) (xs : List X)
    (ys : List Y) (i : ℕ) (x : X) (y : Y)
    → slice_get xs i ≡ Some x → slice_get ys i ≡ Some y → more ≡ text ++ make x y
    → text ++ one_text (paired make (drop i xs) (drop i ys)) ≡ all
    → more ++ one_text (paired make (drop (i + 1) xs) (drop (i + 1) ys)) ≡ all
texts_next make text more all xs ys i x y here there pushed so_far =
    rw (pushed, add-one)
    (append_assoc text (make x y) (one_text (paired make (drop (suc i) xs) (drop (suc i) ys)))
    ∙ ap (λ texts. text ++ one_text texts) (sym (cut make xs ys i x y here there)) ∙ so_far)

pub member_at : {X : Type 0} (xs : List X) (i : ℕ) → i < length xs
    → (x : X) × (slice_get xs i ≡ Some x)
member_at [] i h = absurd (omega arith)
member_at (x ∷ xs) zero h = (x, refl)
member_at (x ∷ xs) (suc i) h = member_at xs i (omega arith)

-- a text more, whichever the member of the first list is
pub text_beside : {X Y : Type 0} (make : X → Y → List ℕ) (text more all : List ℕ) (xs : List X)
    (ys : List Y) (i : ℕ) (y : Y) → i < length xs → slice_get ys i ≡ Some y
    → ((x : X) → slice_get xs i ≡ Some x → more ≡ text ++ make x y)
    → text ++ one_text (paired make (drop i xs) (drop i ys)) ≡ all
    → more ++ one_text (paired make (drop (i + 1) xs) (drop (i + 1) ys)) ≡ all
text_beside make text more all xs ys i y within there pushed so_far =
    let x = member_at xs i within in
    texts_next make text more all xs ys i x.0 y x.1 there (pushed x.0 x.1) so_far

none_beside : {X Y Z : Type 0} (make : X → Y → Z) (xs : List X) → paired make xs [] ≡ []
none_beside make [] = refl
none_beside make (x ∷ xs) = refl

either_end : (m n i : ℕ) → min m n ≤ i → (m ≤ i) ⊎ (n ≤ i)
either_end m n i h =
    elim (cases_lt m n) [ inl p ↦ inl (omega arith) | inr p ↦ inr (omega arith) ]

at_end : {X Y Z : Type 0} (make : X → Y → Z) (xs : List X) (ys : List Y) (i : ℕ)
    → (length xs ≤ i) ⊎ (length ys ≤ i) → paired make (drop i xs) (drop i ys) ≡ []
at_end make xs ys i (inl h) = rw (drop_all i xs h) refl
at_end make xs ys i (inr h) = rw (drop_all i ys h) (none_beside make (drop i xs))

-- nothing stands beside each other where either list is at its end
pub paired_end : {X Y Z : Type 0} (make : X → Y → Z) (xs : List X) (ys : List Y) (i : ℕ)
    → min (length xs) (length ys) ≤ i → paired make (drop i xs) (drop i ys) ≡ []
paired_end make xs ys i end = at_end make xs ys i (either_end (length xs) (length ys) i end)
