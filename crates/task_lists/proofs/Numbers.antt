-- Lists by number, and by two numbers.
use Rattle.std.proofs.Common.{◌≡◌, ◌<◌, ◌+◌, ◌*◌, ◌/◌, ◌%◌, ℕ, zero, suc, List, [], ◌∷◌, ◌++◌, length, Option, None, Some, refl, sym, ap, ◌∙◌, subst, arith, append-nil, append_assoc}
use Rattle.std.specs.List.{flat_map, slice_get, AllZip}
use Rattle.std.specs.Option.{option_map_or, IsSomeAnd}
use Rattle.std.proofs.lemmas.Nat.{div-mul-add, mod-mul-add}
use Rattle.shards.specs.Shards.{concatenated}
use Rattle.exec_plan.specs.of_exec_graph.World.{World}
use Rattle.exec_plan.specs.declared.plan.Grouping.{Grouping}
use Rattle.exec_plan.specs.declared.plan.InChannel.{InChannel}
use Rattle.exec_plan.specs.declared.plan.Mscr.{Mscr}
use Rattle.task_lists.specs.Tasks.{Split, Lists, Task, world_for, no_task, map_task, map_task_of, map_task_at, map_count, map_phase, reduce_task, reduce_task_at, reduce_count, reduce_phase, grouping_at, groupings}

pub joined_below : {A : Type 0} (f g : ℕ → List A) (n : ℕ) → ((i : ℕ) → i < n → f i ≡ g i)
    → concatenated f n ≡ concatenated g n
joined_below f g zero h = refl
joined_below f g (suc n) h =
    let before = joined_below f g n (λ i below. h i (omega arith)) in
    let last = h n (omega arith) in λ k. before k ++ last k

joined_sum : {A : Type 0} (f : ℕ → List A) (a b : ℕ)
    → concatenated f (a + b) ≡ concatenated f a ++ concatenated (λ j. f (a + j)) b
joined_sum f a zero =
    let none : a + 0 ≡ a =
    omega arith in ap (concatenated f) none ∙ sym (append-nil (concatenated f a))
joined_sum f a (suc b) =
    let more : a + suc b ≡ suc (a + b) = omega arith in
    ap (concatenated f) more ∙ ap (λ l. l ++ f (a + b)) (joined_sum f a b)
    ∙ append_assoc (concatenated f a) (concatenated (λ j. f (a + j)) b) (f (a + b))

-- by the number i * s + j, or by i and then by j
pub joined_two : {A : Type 0} (f : ℕ → ℕ → List A) (m s : ℕ) → 0 < s
    → concatenated (λ k. f (k / s) (k % s)) (m * s) ≡ concatenated (λ i. concatenated (f i) s) m
joined_two f zero s some =
    let none : 0 * s ≡ 0 = omega arith in ap (concatenated (λ k. f (k / s) (k % s))) none
joined_two f (suc m) s some =
    let at = λ (k : ℕ). f (k / s) (k % s) in
    let more : suc m * s ≡ m * s + s = omega arith in
    ap (concatenated at) more ∙ joined_sum at (m * s) s
    ∙ ap (λ l. l ++ concatenated (λ j. at (m * s + j)) s) (joined_two f m s some)
    ∙ ap (λ l. concatenated (λ i. concatenated (f i) s) m ++ l)
    (joined_below (λ j. at (m * s + j)) (f m) s
    (λ j below. λ k. f (div-mul-add m s j below k) (mod-mul-add m s j below k)))

joined_front : {A : Type 0} (f : ℕ → List A) (n : ℕ)
    → concatenated f (suc n) ≡ f 0 ++ concatenated (λ k. f (suc k)) n
joined_front f zero = sym (append-nil (f 0))
joined_front f (suc n) =
    ap (λ l. l ++ f (suc n)) (joined_front f n)
    ∙ append_assoc (f 0) (concatenated (λ k. f (suc k)) n) (f (suc n))

-- by place, or member by member
joined_places : {X Y : Type 0} (f : Option X → List Y) (xs : List X)
    → concatenated (λ k. f (slice_get xs k)) (length xs) ≡ flat_map (λ x. f (Some x)) xs
joined_places f [] = refl
joined_places f (x ∷ xs) =
    joined_front (λ k. f (slice_get (x ∷ xs) k)) (length xs)
    ∙ ap (λ l. f (Some x) ++ l) (joined_places f xs)

-- the lists one by one
abbrev pub listed : {A : Type 0} → (ℕ → A) → ℕ → List A
listed f n = concatenated (λ k. f k ∷ []) n

pub zip_listed : {A B : Type 0} (R : A → B → Type 0) (xs : List A) (f : ℕ → B)
    → ((k : ℕ) → k < length xs → IsSomeAnd (slice_get xs k) (λ x. R x (f k)))
    → AllZip R xs (listed f (length xs))
zip_listed R [] f h = tt
zip_listed R (x ∷ xs) f h =
    subst (AllZip R (x ∷ xs)) (sym (joined_front (λ k. f k ∷ []) (length xs))) (
      h 0 (omega arith),
      zip_listed R xs (λ k. f (suc k)) (λ k below. h (suc k) (omega arith)),
    )

-- ---- the tasks of a phase

pub maps_numbered : {Y : Type 0} (f : Task → List Y) (n : Split) (t : Lists) (s : Mscr)
    → 0 < n.shards → map_phase f n t s ≡ concatenated (λ k. f (map_task_at n t s k)) (map_count n s)
maps_numbered {Y} f n t s some =
    let of : Option InChannel → List Y =
    λ o. concatenated (λ i. f (option_map_or (λ c. map_task n t c i) o no_task)) n.shards in
    sym (joined_two (λ m i. f (map_task_of n t s.inputs m i)) (length s.inputs) n.shards some
    ∙ joined_places of s.inputs)

pub reduces_numbered : {Y : Type 0} (f : Grouping → Task → List Y) (w : World) (n : Split)
    (t : Lists) (s : Mscr) → 0 < n.partitions → reduce_phase f w n t s
    ≡ concatenated (λ k. option_map_or (λ g. f g (reduce_task_at w n t s k)) (grouping_at n s k) [])
    (reduce_count n s)
reduces_numbered {Y} f w n t s some =
    let gs : List Grouping = groupings s.outputs in
    let at : Option Grouping → ℕ → List Y = λ o p. option_map_or
    (λ g. f g (option_map_or (λ d. reduce_task w n t s.inputs d p) o no_task)) o [] in
    sym (joined_two (λ r p. at (slice_get gs r) p) (length gs) n.partitions some
    ∙ joined_places (λ o. concatenated (at o) n.partitions) gs)
