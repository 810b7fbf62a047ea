-- Pairs that ascend on both sides are told by either number, and what is told number by number is
-- told pair by pair.
use Rattle.std.proofs.Common.{◌≡◌, ◌⊎◌, inl, inr, ℕ, zero, suc, ◌+◌, ◌-◌, ◌<◌, ◌≤◌, List, [], ◌∷◌, ◌++◌, refl, sym, ap, ◌∙◌, arith, ⊎_elim, append_assoc, append-nil}
use Rattle.std.specs.List.{Contains, flat_map}
use Rattle.std.proofs.lemmas.List.Elements.{Contains-append_cases}
use Rattle.flume_collection.proofs.Members.{at_head, at_tail, not_in_none}
use Rattle.key_meaning.proofs.Alike.{Paired, Pairs}
use Rattle.key_meaning.proofs.Courses.{Rises, more, none}
use Rattle.key_meaning.proofs.Lists.{along, along_from}

-- ---- below, and told by either

rises_below : {pairs : Pairs} {k l : ℕ} → Rises pairs k l → (a b : ℕ) → Paired pairs a b
    → (a < k) × (b < l)
rises_below none a b among = absurd (not_in_none (a, b) among)
rises_below (more {pairs} {k} {l} {m} {n} {above} {above_} j rises x y p q) a b among =
    ⊎_elim
    (λ (old : Paired pairs a b).
    let below = rises_below rises a b old in
    (omega (arith, below.0, x, p), omega (arith, below.1, y, q)))
    (λ (new : Paired (along m n j) a b).
    let at = along_from m n j a b new in
    (omega (arith, at.here, at.below, p), omega (arith, at.there, at.below, q)))
    (Contains-append_cases pairs (along m n j) (a, b) among)

-- of two pairs, each number is that of the other where one is
pub rises_same : {pairs : Pairs} {k l : ℕ} → Rises pairs k l → (a b c d : ℕ) → Paired pairs a b
    → Paired pairs c d → (a ≡ c → b ≡ d) × (b ≡ d → a ≡ c)
rises_same none a b c d among also = absurd (not_in_none (a, b) among)
rises_same (more {pairs} {k} {l} {m} {n} {above} {above_} j rises x y p q) a b c d among also =
    ⊎_elim
    (λ (old : Paired pairs a b).
    let below = rises_below rises a b old in
    ⊎_elim (λ (old_ : Paired pairs c d). rises_same rises a b c d old old_)
    (λ (new : Paired (along m n j) c d).
    let at = along_from m n j c d new in (
      (λ e. absurd (omega (arith, e, below.0, x, at.here))),
      λ e. absurd (omega (arith, e, below.1, y, at.there)),
    ))
    (Contains-append_cases pairs (along m n j) (c, d) also))
    (λ (new : Paired (along m n j) a b).
    let at = along_from m n j a b new in
    ⊎_elim
    (λ (old_ : Paired pairs c d).
    let below = rises_below rises c d old_ in (
      (λ e. absurd (omega (arith, e, below.0, x, at.here))),
      λ e. absurd (omega (arith, e, below.1, y, at.there)),
    ))
    (λ (new_ : Paired (along m n j) c d).
    let at_ = along_from m n j c d new_ in (
      (λ e. omega (arith, e, at.here, at.there, at_.here, at_.there)),
      λ e. omega (arith, e, at.here, at.there, at_.here, at_.there),
    ))
    (Contains-append_cases pairs (along m n j) (c, d) also))
    (Contains-append_cases pairs (along m n j) (a, b) among)

-- ---- number by number

-- the lists of so many numbers, from one on
abbrev pub gathered : {A : Type 0} → (ℕ → List A) → ℕ → ℕ → List A
gathered g from zero = []
gathered g from (suc many) = g from ++ gathered g (suc from) many

gathered_more : {A : Type 0} (g : ℕ → List A) (from many rest at : ℕ) → from + many ≡ at
    → gathered g from (many + rest) ≡ gathered g from many ++ gathered g at rest
gathered_more g from zero rest at is =
    let here : 0 + rest ≡ rest = omega arith in
    let there : from ≡ at = omega (arith, is) in
    ap (gathered g from) here ∙ ap (λ n. gathered g n rest) there
gathered_more g from (suc many) rest at is =
    let here : suc many + rest ≡ suc (many + rest) = omega arith in
    ap (gathered g from) here
    ∙ ap (λ l. g from ++ l) (gathered_more g (suc from) many rest at (omega (arith, is)))
    ∙ sym (append_assoc (g from) (gathered g (suc from) many) (gathered g at rest))

gathered_none : {A : Type 0} (g : ℕ → List A) (from many : ℕ)
    → ((n : ℕ) → from ≤ n → n < from + many → g n ≡ []) → gathered g from many ≡ []
gathered_none g from zero each = refl
gathered_none g from (suc many) each =
    λ i. each from (omega arith) (omega arith) i
    ++ gathered_none g (suc from) many (λ n above below. each n (omega arith) (omega arith)) i

-- the lists of pairs that follow one another, by the numbers of a side
along_first : {A : Type 0} (g : ℕ → List A) (m n j : ℕ)
    → flat_map (λ (p : ℕ × ℕ). g p.0) (along m n j) ≡ gathered g m j
along_first g m n zero = refl
along_first g m n (suc j) = ap (λ l. g m ++ l) (along_first g (suc m) (suc n) j)

along_second : {A : Type 0} (g : ℕ → List A) (m n j : ℕ)
    → flat_map (λ (p : ℕ × ℕ). g p.1) (along m n j) ≡ gathered g n j
along_second g m n zero = refl
along_second g m n (suc j) = ap (λ l. g n ++ l) (along_second g (suc m) (suc n) j)

flat_append : {A B : Type 0} (f : A → List B) (xs ys : List A)
    → flat_map f (xs ++ ys) ≡ flat_map f xs ++ flat_map f ys
flat_append f [] ys = refl
flat_append f (x ∷ xs) ys =
    ap (λ l. f x ++ l) (flat_append f xs ys)
    ∙ sym (append_assoc (f x) (flat_map f xs) (flat_map f ys))

-- three parts of which the two at the seams are empty
seams : {A : Type 0} (g : ℕ → List A) (k m j above : ℕ) → k ≤ m → m + j ≤ above
    → ((n : ℕ) → k ≤ n → n < m → g n ≡ []) → ((n : ℕ) → m + j ≤ n → n < above → g n ≡ [])
    → gathered g 0 above ≡ gathered g 0 k ++ gathered g m j
seams g k m j above first second between behind =
    let left = above - (m + j) in
    let whole : above ≡ k + ((m - k) + (j + left)) = omega (arith, first, second) in
    ap (gathered g 0) whole
    ∙ gathered_more g 0 k ((m - k) + (j + left)) k (omega arith)
    ∙ ap (λ l. gathered g 0 k ++ l)
    (gathered_more g k (m - k) (j + left) m (omega (arith, first))
    ∙ ap (λ l. l ++ gathered g m (j + left))
    (gathered_none g k (m - k) (λ n up down. between n up (omega (arith, down, first))))
    ∙ gathered_more g m j left (m + j) refl
    ∙ ap (λ l. gathered g m j ++ l)
    (gathered_none g (m + j) left (λ n up down. behind n up (omega (arith, down, second))))
    ∙ append-nil (gathered g m j))

-- ---- by a side

abbrev pub left_of : ℕ × ℕ → ℕ
left_of p = p.0

abbrev pub right_of : ℕ × ℕ → ℕ
right_of p = p.1

module _ {A : Type 0} (side : ℕ × ℕ → ℕ) (g : ℕ → List A) where
  abbrev pub told_by : Pairs → List A
  told_by = flat_map (λ (p : ℕ × ℕ). g (side p))

  -- a number is that of a pair
  abbrev pub IsOf : Pairs → ℕ → Type 0
  IsOf pairs n = (p : ℕ × ℕ) × Contains pairs p × (side p ≡ n)

  -- or nothing is told of it
  abbrev pub Covers : Pairs → ℕ → Type 0
  Covers pairs k = (n : ℕ) → n < k → IsOf pairs n ⊎ (g n ≡ [])

  all_none : (k : ℕ) → Covers [] k → gathered g 0 k ≡ []
  all_none k covers =
      gathered_none g 0 k
      (λ n up down.
      ⊎_elim (λ (it : IsOf [] n). absurd (not_in_none it.0 it.1)) (λ e. e)
      (covers n (omega (arith, down))))

  -- pairs more, whose numbers stand behind those of the others
  module _ (pairs last : Pairs) (k m j above : ℕ) (x : k ≤ m) (p : m + j ≤ above)
      (low : (it : ℕ × ℕ) → Contains pairs it → side it < k)
      (high : (it : ℕ × ℕ) → Contains last it → (m ≤ side it) × (side it < m + j)) where
    abbrev IsSorted : ℕ → Type 0
    IsSorted n = IsOf pairs n ⊎ (((m ≤ n) × (n < m + j)) ⊎ (g n ≡ []))

    sorted : (n : ℕ) → IsOf (pairs ++ last) n ⊎ (g n ≡ []) → IsSorted n
    sorted n (inr e) = inr (inr e)
    sorted n (inl it) =
        ⊎_elim (λ (old : Contains pairs it.0). inl (it.0, old, it.2))
        (λ (new : Contains last it.0).
        let at = high it.0 new in
        inr (inl (omega (arith, at.0, it.2), omega (arith, at.1, it.2))))
        (Contains-append_cases pairs last it.0 it.1)

    neither : (n : ℕ) → (n < k → ⊥) → (m ≤ n → n < m + j → ⊥) → IsSorted n → g n ≡ []
    neither n old new (inl it) =
        let below = low it.0 it.1 in absurd (old (omega (arith, below, it.2)))
    neither n old new (inr (inl at)) = absurd (new at.0 at.1)
    neither n old new (inr (inr e)) = e

    in_front : (n : ℕ) → n < m → IsSorted n → IsOf pairs n ⊎ (g n ≡ [])
    in_front n below (inl it) = inl it
    in_front n below (inr (inl at)) = absurd (omega (arith, at.0, below))
    in_front n below (inr (inr e)) = inr e

    one_more : told_by last ≡ gathered g m j
        → (Covers pairs k → gathered g 0 k ≡ told_by pairs) → Covers (pairs ++ last) above
        → gathered g 0 above ≡ told_by (pairs ++ last)
    one_more told others covers =
        seams g k m j above x p
        (λ n up down.
        neither n (λ less. omega (arith, less, up)) (λ from to. omega (arith, from, down))
        (sorted n (covers n (omega (arith, down, p)))))
        (λ n up down.
        neither n (λ less. omega (arith, less, up, x)) (λ from to. omega (arith, to, up))
        (sorted n (covers n (omega (arith, down)))))
        ∙ (λ i. others
        (λ n down.
        in_front n (omega (arith, down, x)) (sorted n (covers n (omega (arith, down, x, p))))) i
        ++ sym told i)
        ∙ sym (flat_append (λ (it : ℕ × ℕ). g (side it)) pairs last)

pub by_left : {A : Type 0} (g : ℕ → List A) {pairs : Pairs} {k l : ℕ} → Rises pairs k l
    → Covers left_of g pairs k → gathered g 0 k ≡ told_by left_of g pairs
by_left g (none {k} {l}) covers = all_none left_of g k covers
by_left g (more {pairs} {k} {l} {m} {n} {above} {above_} j rises x y p q) covers =
    one_more left_of g pairs (along m n j) k m j above x p
    (λ it among. (rises_below rises it.0 it.1 among).0)
    (λ it among.
    let at = along_from m n j it.0 it.1 among in
    (omega (arith, at.here), omega (arith, at.here, at.below)))
    (along_first g m n j) (by_left g rises) covers

pub by_right : {A : Type 0} (g : ℕ → List A) {pairs : Pairs} {k l : ℕ} → Rises pairs k l
    → Covers right_of g pairs l → gathered g 0 l ≡ told_by right_of g pairs
by_right g (none {k} {l}) covers = all_none right_of g l covers
by_right g (more {pairs} {k} {l} {m} {n} {above} {above_} j rises x y p q) covers =
    one_more right_of g pairs (along m n j) l n j above_ y q
    (λ it among. (rises_below rises it.0 it.1 among).1)
    (λ it among.
    let at = along_from m n j it.0 it.1 among in
    (omega (arith, at.there), omega (arith, at.there, at.below)))
    (along_second g m n j) (by_right g rises) covers

-- two that tell the same of each pair
pub same_flat : {A : Type 0} (f g : ℕ × ℕ → List A) (pairs : Pairs)
    → ((a b : ℕ) → Paired pairs a b → f (a, b) ≡ g (a, b)) → flat_map f pairs ≡ flat_map g pairs
same_flat f g [] each = refl
same_flat f g (p ∷ pairs) each =
    λ i. each p.0 p.1 (at_head p pairs) i
    ++ same_flat f g pairs (λ a b is. each a b (at_tail p pairs (a, b) is)) i
