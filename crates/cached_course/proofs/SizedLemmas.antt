-- Sizes of collections, by their numbers and by their names.
use Rattle.std.proofs.Common.{◌≡◌, ◌∙◌, ◌⊎◌, inl, inr, ℕ, suc, ◌+◌, ◌<◌, ◌≤◌, Bool, true, false, cond, eqb, List, [], ◌∷◌, ◌++◌, length, map, Option, Some, None, if◌then◌else◌, is_some, refl, sym, ap, subst, arith, true≢false}
use Rattle.std.specs.List.{AllByRecursion as Each, filter, flat_map}
use Rattle.std.proofs.lemmas.Bool.{eq-eqb, eqb-true}
use Rattle.flume_collection.specs.Collection.{Collection}
use Rattle.kept_results.specs.of_direct_meaning.Direct.{made_at, size_of, sizes_from}
use Rattle.kept_results.specs.Sizes.{size_pairs, named_only, size_at}
use Rattle.key_meaning.specs.Rested.{name_sized}
use Rattle.run_course.specs.Written.{CollectionTable}
use Rattle.script_program.specs.Needed.{collections_numbered}
use Rattle.script_program.specs.Script.{Node}
use Rattle.written_types.specs.Named.{Named}

abbrev pub Numbered : Type 0
Numbered = List (ℕ × (List ℕ × Node))

-- the size of what is made, if anything is
abbrev pub size_in : Option Collection → ℕ
size_in None = 0
size_in (Some c) = size_of c

-- ---- by name

-- the name and the size of a collection, by its number
abbrev pub named_size : (ℕ → Option Collection) → ℕ × (List ℕ × Node) → List ℕ × ℕ
named_size f it = (it.1.0, size_in (f it.0))

module _ (p : ℕ → Bool) (f : ℕ → Option Collection) where
  next_size : (entry : List ℕ × Node) (nodes : Named Node) (table : CollectionTable) (n : ℕ)
      → sizes_from nodes table
      ≡ map (named_size f) (filter (λ it. p it.0) (collections_numbered (suc n) nodes))
      → (o : Option Collection) (b : Bool) → is_some o ≡ b → o ≡ f n
      → sizes_from (entry ∷ nodes) (o ∷ table)
      ≡ map (named_size f)
      (cond b ((n, entry) ∷ filter (λ it. p it.0) (collections_numbered (suc n) nodes))
      (filter (λ it. p it.0) (collections_numbered (suc n) nodes)))
  next_size entry nodes table n rest None true some is = cc
  next_size entry nodes table n rest None false some is = rest
  next_size entry nodes table n rest (Some c) true some is =
      λ i. (entry.0, size_in (is i)) ∷ rest i
  next_size entry nodes table n rest (Some c) false some is = cc

  -- the sizes of what is made, which is what is told by p
  pub sizes_by : (nodes : Named Node) (table : CollectionTable) (n : ℕ)
      → length nodes ≡ length table
      → ((k : ℕ) → k < length nodes → made_at table k ≡ f (n + k))
      → ((k : ℕ) → k < length nodes → is_some (made_at table k) ≡ p (n + k))
      → sizes_from nodes table
      ≡ map (named_size f) (filter (λ it. p it.0) (collections_numbered n nodes))
  sizes_by [] table n size at some = refl
  sizes_by (entry ∷ nodes) [] n size at some = absurd (omega (arith, size))
  sizes_by (entry ∷ nodes) (o ∷ table) n size at some =
      let here : n + 0 ≡ n = omega arith in
      next_size entry nodes table n
      (sizes_by nodes table (suc n) (omega (arith, size))
      (λ k below.
      let on : n + suc k ≡ suc n + k = omega arith in
      at (suc k) (omega (arith, below)) ∙ ap f on)
      (λ k below.
      let on : n + suc k ≡ suc n + k = omega arith in
      some (suc k) (omega (arith, below)) ∙ ap p on))
      o (p n) (some 0 (omega arith) ∙ ap p here) (at 0 (omega arith) ∙ ap f here)

  -- of some collections that are all made
  pub sized_all : (xs : Numbered) → Each (λ it. is_some (f it.0) ≡ true) xs
      → flat_map (λ it. name_sized it.1.0 (f it.0)) xs ≡ map (named_size f) xs
  sized_all [] made = refl
  sized_all (it ∷ xs) made = one_sized (f it.0) made.0 (sized_all xs made.1)
    where
      one_sized : (o : Option Collection) → is_some o ≡ true
          → flat_map (λ x. name_sized x.1.0 (f x.0)) xs ≡ map (named_size f) xs
          → name_sized it.1.0 o ++ flat_map (λ x. name_sized x.1.0 (f x.0)) xs
          ≡ (it.1.0, size_in o) ∷ map (named_size f) xs
      one_sized None some rest = cc
      one_sized (Some c) some rest = ap (λ l. (it.1.0, size_of c) ∷ l) rest

-- ---- by number

abbrev pub numbered_size : (ℕ → Option Collection) → ℕ × (List ℕ × Node) → ℕ × ℕ
numbered_size f it = (it.0, size_in (f it.0))

pub beside_sizes : (f : ℕ → Option Collection) (xs : Numbered)
    → size_pairs (map named_only xs) (map (λ (line : List ℕ × ℕ). line.1) (map (named_size f) xs))
    ≡ map (numbered_size f) xs
beside_sizes f [] = refl
beside_sizes f (it ∷ xs) = ap (λ l. numbered_size f it ∷ l) (beside_sizes f xs)

-- a number has a size beside it
abbrev pub HasNumber : List (ℕ × ℕ) → ℕ → Type 0
HasNumber [] n = ⊥
HasNumber (it ∷ known) n = (it.0 ≡ n) ⊎ HasNumber known n

pub has_left : (xs ys : List (ℕ × ℕ)) (n : ℕ) → HasNumber xs n → HasNumber (xs ++ ys) n
has_left [] ys n has = absurd has
has_left (it ∷ xs) ys n (inl same) = inl same
has_left (it ∷ xs) ys n (inr behind) = inr (has_left xs ys n behind)

pub has_right : (xs ys : List (ℕ × ℕ)) (n : ℕ) → HasNumber ys n → HasNumber (xs ++ ys) n
has_right [] ys n has = has
has_right (it ∷ xs) ys n has = inr (has_right xs ys n has)

-- the first size beside a number is right where all that stand beside it are
module _ (n s : ℕ) where
  size_first : (it : ℕ × ℕ) (known : List (ℕ × ℕ)) → (it.0 ≡ n → it.1 ≡ s)
      → (HasNumber known n → size_at known n ≡ s) → HasNumber (it ∷ known) n → (b : Bool)
      → eqb it.0 n ≡ b → (if b then it.1 else size_at known n) ≡ s
  size_first it known own others has true same = own (eqb-true it.0 n same)
  size_first it known own others (inl same) false apart =
      absurd (true≢false (sym (eq-eqb it.0 n same) ∙ apart))
  size_first it known own others (inr behind) false apart = others behind

  pub size_there : (known : List (ℕ × ℕ)) → Each (λ it. it.0 ≡ n → it.1 ≡ s) known
      → HasNumber known n → size_at known n ≡ s
  size_there [] all has = absurd has
  size_there (it ∷ known) all has =
      size_first it known all.0 (size_there known all.1) has (eqb it.0 n) refl

-- of collections in order, those that are told by p
module _ (p : ℕ → Bool) (f : ℕ → Option Collection) where
  abbrev sizes_in : Numbered → List (ℕ × ℕ)
  sizes_in xs = map (numbered_size f) xs

  head_has : (it : ℕ × (List ℕ × Node)) (rest : Numbered) (b : Bool) → b ≡ true
      → HasNumber (sizes_in (cond b (it ∷ rest) rest)) it.0
  head_has it rest true is = inl refl
  head_has it rest false is = cc

  behind_has : (it : ℕ × (List ℕ × Node)) (rest : Numbered) (n : ℕ) → HasNumber (sizes_in rest) n
      → (b : Bool) → HasNumber (sizes_in (cond b (it ∷ rest) rest)) n
  behind_has it rest n has true = inr has
  behind_has it rest n has false = has

  here_or_behind : (entry : List ℕ × Node) (rest : Numbered) (k n : ℕ) → k ≤ n → p n ≡ true
      → (suc k ≤ n → HasNumber (sizes_in rest) n) → (b : Bool) → eqb k n ≡ b
      → HasNumber (sizes_in (cond (p k) ((k, entry) ∷ rest) rest)) n
  here_or_behind entry rest k n low is others true same =
      let e : k ≡ n = eqb-true k n same in
      subst (HasNumber (sizes_in (cond (p k) ((k, entry) ∷ rest) rest))) e
      (head_has (k, entry) rest (p k) (ap p e ∙ is))
  here_or_behind entry rest k n low is others false apart =
      let other : k ≡ n → ⊥ = λ e. true≢false (sym (eq-eqb k n e) ∙ apart) in
      behind_has (k, entry) rest n (others (omega (arith, low, other))) (p k)

  pub numbered_has : (nodes : Named Node) (k n : ℕ) → k ≤ n → n < k + length nodes
      → p n ≡ true → HasNumber (sizes_in (filter (λ it. p it.0) (collections_numbered k nodes))) n
  numbered_has [] k n low high is = absurd (omega (arith, low, high))
  numbered_has (entry ∷ nodes) k n low high is =
      here_or_behind entry (filter (λ it. p it.0) (collections_numbered (suc k) nodes)) k n low is
      (λ more. numbered_has nodes (suc k) n more (omega (arith, high)) is) (eqb k n) refl

-- ---- told

pub told_same : (known : List (ℕ × ℕ)) (f : ℕ → Option Collection) (xs : Numbered)
    → Each (λ it. size_at known it.0 ≡ size_in (f it.0)) xs
    → map (λ (it : ℕ × List ℕ). (it.1, size_at known it.0)) (map named_only xs)
    ≡ map (named_size f) xs
told_same known f [] same = refl
told_same known f (it ∷ xs) same =
    λ i. (it.1.0, same.0 i) ∷ told_same known f xs same.1 i

-- what holds of those that a test picks, and of all, by their numbers
one_picked : (P : ℕ → Type 0) (it : ℕ × (List ℕ × Node)) (rest : Numbered) (b : Bool)
    → (b ≡ true → P it.0) → Each (λ (x : ℕ × (List ℕ × Node)). P x.0) rest
    → Each (λ (x : ℕ × (List ℕ × Node)). P x.0) (cond b (it ∷ rest) rest)
one_picked P it rest true own others = (own refl, others)
one_picked P it rest false own others = others

pub picked : (p : ℕ → Bool) (P : ℕ → Type 0) (nodes : Named Node) (k : ℕ)
    → ((n : ℕ) → k ≤ n → n < k + length nodes → p n ≡ true → P n)
    → Each (λ it. P it.0) (filter (λ it. p it.0) (collections_numbered k nodes))
picked p P [] k holds = tt
picked p P (entry ∷ nodes) k holds =
    one_picked P (k, entry) (filter (λ it. p it.0) (collections_numbered (suc k) nodes)) (p k)
    (holds k (omega arith) (omega arith))
    (picked p P nodes (suc k)
    (λ n low high is. holds n (omega (arith, low)) (omega (arith, high)) is))
