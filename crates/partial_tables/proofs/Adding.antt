-- One accumulator more.
use Rattle.std.proofs.Common.{◌≡◌, ◌<◌, ℕ, zero, suc, true, false, cond, Bool, ◌||◌, not, ◌+◌, [], ◌∷◌, ◌++◌, map, length, get_or, Some, None, refl, sym, ap, ◌∙◌, subst, arith, is_some}
use Rattle.std.specs.List.{AllByRecursion as Each, IsDistinct, position, position_or_len, slice_get}
use Rattle.std.specs.Map.{keys_of, lookup}
use Rattle.std.specs.List.Sorted.{IsPermutation}
use Rattle.std.proofs.lemmas.List.Elements.{All-from_recursion, recursion_from_All}
use Rattle.std.proofs.lemmas.List.Quantifiers.{position-Some}
use Rattle.std.proofs.lemmas.List.Sorted.{All-permutation, IsPermutation-map}
use Rattle.std.proofs.lemmas.Map.Keys.{IsDistinct-IsPermutation}
use Rattle.flume_value.specs.declared.value.Value.{Value}
use Rattle.flume_value.specs.contracts.value.ValuePartialEq.TheImpl as equality
use Rattle.flume_value.specs.Equality.{value_eq}
use Rattle.combine_table.specs.declared.comb.Comb.{Comb}
use Rattle.combine_table.specs.Accumulators.{HasShape, merged}
use Rattle.combine_table.proofs.Merging.{merged-HasShape}
use Rattle.indexmap.specs.IndexMap.{set_value_at, insert_entry}
use Rattle.partial_tables.specs.declared.table.AddFault.{AddFault}
use Rattle.partial_tables.specs.declared.table.AddFault.TheVariants.{Full, Memory}
use Rattle.partial_tables.specs.Tables.{Pairs, Table, IsRefusedAdd, has_key, added, HaveShape, HaveDistinctKeys}
use Rattle.partial_tables.proofs.Equals.{value_eq-turned, finds, derived_eq-finds}

-- ---- where the key stands

abbrev IsFirstAt : Value → Pairs → ℕ → Type 0
IsFirstAt k ps i =
    (i < length (keys_of ps)) × (finds k (get_or (keys_of ps) i k) ≡ true)
    × ((j : ℕ) → j < i → finds k (get_or (keys_of ps) j k) ≡ false)

first_at : (k : Value) (ps : Pairs) (i : ℕ)
    → position ((equality.ghosts).eq k) (keys_of ps) ≡ Some i → IsFirstAt k ps i
first_at k ps i h =
    position-Some (finds k) (keys_of ps) i k
    (subst (λ (E : Value → Value → Bool). position (E k) (keys_of ps) ≡ Some i) derived_eq-finds h)

set_at : (c : Comb) (k a : Value) (ps : Pairs) (i : ℕ) (v w : Value) → IsFirstAt k ps i
    → slice_get (map (λ p. p.1) ps) i ≡ Some v → w ≡ merged c v a
    → set_value_at ps i w ≡ added c ps k a
set_at c k a [] i v w f at is = absurd (omega (arith, f.0))
set_at c k a (p ∷ ps) zero v w f at is =
    let same : p.1 ≡ v = cc in
    (λ j. (p.0, (is ∙ ap (λ x. merged c x a) (sym same)) j) ∷ ps)
    ∙ ap (λ b. cond b ((p.0, merged c p.1 a) ∷ ps) (p ∷ added c ps k a)) (sym f.1)
set_at c k a (p ∷ ps) (suc i) v w f at is =
    let first : value_eq p.0 k ≡ false = f.2 0 (omega arith) in
    ap (λ l. p ∷ l)
    (set_at c k a ps i v w (omega (arith, f.0), f.1, λ j l. f.2 (suc j) (omega (arith, l))) at is)
    ∙ ap (λ b. cond b ((p.0, merged c p.1 a) ∷ ps) (p ∷ added c ps k a)) (sym first)

has_first : (k : Value) (ps : Pairs) (i : ℕ) → IsFirstAt k ps i → has_key k ps ≡ true
has_first k [] i f = absurd (omega (arith, f.0))
has_first k (p ∷ ps) zero f = ap (λ b. b || has_key k ps) f.1
has_first k (p ∷ ps) (suc i) f =
    ap (λ b. b || has_key k ps) (f.2 0 (omega arith))
    ∙ has_first k ps i (omega (arith, f.0), f.1, λ j l. f.2 (suc j) (omega (arith, l)))

pub merged_in : (c : Comb) (k a : Value) (ps : Pairs) (i : ℕ) (v w : Value)
    → Some i ≡ position ((equality.ghosts).eq k) (keys_of ps)
    → slice_get (map (λ p. p.1) ps) i ≡ Some v → w ≡ merged c v a
    → set_value_at ps i w ≡ added c ps k a
merged_in c k a ps i v w p at is = set_at c k a ps i v w (first_at k ps i (sym p)) at is

pub is_there : (k : Value) (ps : Pairs) (i : ℕ)
    → Some i ≡ position ((equality.ghosts).eq k) (keys_of ps) → has_key k ps ≡ true
is_there k ps i p = has_first k ps i (first_at k ps i (sym p))

-- a key that a look-up does not find is not there
none : (k : Value) (ps : Pairs) → is_some (lookup (finds k) ps) ≡ false → has_key k ps ≡ false
none k [] h = refl
none k (p ∷ ps) h =
    elim (value_eq p.0 k) as
    (λ b. is_some (cond b (Some p.1) (lookup (finds k) ps)) ≡ false
    → (b || has_key k ps) ≡ false) [
      | true ↦ λ g. cc
      | false ↦ λ g. none k ps g
    ] h

pub not_there : (k : Value) (ps : Pairs)
    → is_some (lookup ((equality.ghosts).eq k) ps) ≡ false → has_key k ps ≡ false
not_there k ps h =
    none k ps (subst (λ (E : Value → Value → Bool). is_some (lookup (E k) ps) ≡ false)
    derived_eq-finds h)

-- ---- what is put in by one look-up

-- its place is that of its key
abbrev place_for : Value → Pairs → ℕ
place_for k ps = position_or_len (finds k) (keys_of ps)

slot_has : (k a s : Value) (ps : Pairs)
    → slice_get (map (λ p. p.1) (insert_entry finds ps k a)) (place_for k ps) ≡ Some s → s ≡ a
slot_has k a s [] h = cc
slot_has k a s (p ∷ ps) h =
    let more : 1 + place_for k ps ≡ suc (place_for k ps) = omega arith in
    elim (value_eq p.0 k) as
    (λ b. slice_get (map (λ p. p.1) (cond b ((p.0, a) ∷ ps) (p ∷ insert_entry finds ps k a)))
    (cond (not b) (suc (place_for k ps)) 0) ≡ Some s → s ≡ a) [
      | true ↦ λ g. cc
      | false ↦ λ g. slot_has k a s ps g
    ] (
    subst (λ (n : ℕ). slice_get (map (λ p. p.1) (insert_entry finds (p ∷ ps) k a))
    (cond (not (value_eq p.0 k)) n 0) ≡ Some s) more h
    )

merged_there : (c : Comb) (k a v w : Value) (ps : Pairs) → lookup (finds k) ps ≡ Some v
    → w ≡ merged c v a
    → set_value_at (insert_entry finds ps k a) (place_for k ps) w ≡ added c ps k a
merged_there c k a v w [] h is = let bad : ⊥ = cc in absurd bad
merged_there c k a v w (p ∷ ps) h is =
    let more : 1 + place_for k ps ≡ suc (place_for k ps) = omega arith in
    ap (λ (n : ℕ). set_value_at (insert_entry finds (p ∷ ps) k a)
    (cond (not (value_eq p.0 k)) n 0) w) more
    ∙ elim (value_eq p.0 k) as
    (λ b. cond b (Some p.1) (lookup (finds k) ps) ≡ Some v
    → set_value_at (cond b ((p.0, a) ∷ ps) (p ∷ insert_entry finds ps k a))
    (cond (not b) (suc (place_for k ps)) 0) w
    ≡ cond b ((p.0, merged c p.1 a) ∷ ps) (p ∷ added c ps k a)) [
      | true ↦ λ g.
          let same : p.1 ≡ v = cc in
          λ j. (p.0, (is ∙ ap (λ x. merged c x a) (sym same)) j) ∷ ps
      | false ↦ λ g. ap (λ l. p ∷ l) (merged_there c k a v w ps g is)
    ] h

-- how a map tells it, with the test of its keys
abbrev Tested : (Value → Value → Bool) → Value → Value → Pairs → ℕ → Pairs → Type 0
Tested E k a ps at grown =
    (at ≡ position_or_len (E k) (keys_of ps)) × (grown ≡ insert_entry E ps k a)

found_so : (k a : Value) (ps : Pairs) (at : ℕ) (grown : Pairs)
    → at ≡ position_or_len ((equality.ghosts).eq k) (keys_of ps)
    → grown ≡ insert_entry (equality.ghosts).eq ps k a → Tested finds k a ps at grown
found_so k a ps at grown i e =
    subst (λ (E : Value → Value → Bool). Tested E k a ps at grown) derived_eq-finds (i, e)

pub slot_is : (k a s : Value) (ps : Pairs) (at : ℕ) (grown : Pairs)
    → at ≡ position_or_len ((equality.ghosts).eq k) (keys_of ps)
    → grown ≡ insert_entry (equality.ghosts).eq ps k a
    → slice_get (map (λ p. p.1) grown) at ≡ Some s → s ≡ a
slot_is k a s ps at grown i e h =
    let t = found_so k a ps at grown i e in
    slot_has k a s ps
    (ap (λ (n : ℕ). slice_get (map (λ p. p.1) (insert_entry finds ps k a)) n) (sym t.0)
    ∙ ap (λ (l : Pairs). slice_get (map (λ p. p.1) l) at) (sym t.1) ∙ h)

pub merged_at : (c : Comb) (k a v w : Value) (ps : Pairs) (at : ℕ) (grown : Pairs)
    → at ≡ position_or_len ((equality.ghosts).eq k) (keys_of ps)
    → grown ≡ insert_entry (equality.ghosts).eq ps k a
    → lookup ((equality.ghosts).eq k) ps ≡ Some v → w ≡ merged c v a
    → set_value_at grown at w ≡ added c ps k a
merged_at c k a v w ps at grown i e h is =
    let t = found_so k a ps at grown i e in
    ap (λ (l : Pairs). set_value_at l at w) t.1
    ∙ ap (λ (n : ℕ). set_value_at (insert_entry finds ps k a) n w) t.0
    ∙ merged_there c k a v w ps
    (subst (λ (E : Value → Value → Bool). lookup (E k) ps ≡ Some v) derived_eq-finds h) is

-- ---- shapes

pub shape_at : (c : Comb) (ps : Pairs) (i : ℕ) (v : Value) → HaveShape c ps
    → slice_get (map (λ p. p.1) ps) i ≡ Some v → HasShape c v
shape_at c [] i v s e = cc
shape_at c (p ∷ ps) zero v s e = let same : p.1 ≡ v = cc in subst (HasShape c) same s.0
shape_at c (p ∷ ps) (suc i) v s e = shape_at c ps i v s.1 e

shape_in : (c : Comb) (k v : Value) (ps : Pairs) → HaveShape c ps → lookup (finds k) ps ≡ Some v
    → HasShape c v
shape_in c k v [] s h = let bad : ⊥ = cc in absurd bad
shape_in c k v (p ∷ ps) s h =
    elim (value_eq p.0 k) as
    (λ b. cond b (Some p.1) (lookup (finds k) ps) ≡ Some v → HasShape c v) [
      | true ↦ λ g. let same : p.1 ≡ v = cc in subst (HasShape c) same s.0
      | false ↦ λ g. shape_in c k v ps s.1 g
    ] h

pub shape_found : (c : Comb) (k v : Value) (ps : Pairs) → HaveShape c ps
    → lookup ((equality.ghosts).eq k) ps ≡ Some v → HasShape c v
shape_found c k v ps s h =
    shape_in c k v ps s
    (subst (λ (E : Value → Value → Bool). lookup (E k) ps ≡ Some v) derived_eq-finds h)

shapes_more : (c : Comb) (ps : Pairs) (k a : Value) → HasShape c a → HaveShape c ps
    → HaveShape c (added c ps k a)
shapes_more c [] k a h s = (h, tt)
shapes_more c (p ∷ ps) k a h s =
    elim (value_eq p.0 k) as
    (λ b. HaveShape c (cond b ((p.0, merged c p.1 a) ∷ ps) (p ∷ added c ps k a))) [
      | true ↦ (merged-HasShape c p.1 a, s.1)
      | false ↦ (s.0, shapes_more c ps k a h s.1)
    ]

-- ---- keys

keys_all : (P : Value → Type 0) (c : Comb) (ps : Pairs) (k a : Value) → P k
    → Each P (keys_of ps) → Each P (keys_of (added c ps k a))
keys_all P c [] k a h e = (h, tt)
keys_all P c (p ∷ ps) k a h e =
    elim (value_eq p.0 k) as
    (λ b. Each P (keys_of (cond b ((p.0, merged c p.1 a) ∷ ps) (p ∷ added c ps k a)))) [
      | true ↦ e
      | false ↦ (e.0, keys_all P c ps k a h e.1)
    ]

keys_more : (c : Comb) (ps : Pairs) (k a : Value) → HaveDistinctKeys ps
    → HaveDistinctKeys (added c ps k a)
unfolding IsDistinct
keys_more c [] k a d = (tt, d)
keys_more c (p ∷ ps) k a d =
    elim (value_eq p.0 k) as
    (λ b. value_eq p.0 k ≡ b
    → HaveDistinctKeys (cond b ((p.0, merged c p.1 a) ∷ ps) (p ∷ added c ps k a))) [
      | true ↦ λ e. d
      | false ↦ λ e. (
        keys_all (λ v. value_eq p.0 v ≡ false) c ps k a e d.0,
        keys_more c ps k a d.1,
      )
    ] refl

-- ---- what a table keeps

abbrev pub Kept : Comb → Pairs → Type 0
Kept c ps = HaveShape c ps × HaveDistinctKeys ps

pub kept_none : (c : Comb) (ps : Pairs) → ps ≡ [] → Kept c ps
unfolding IsDistinct
kept_none c ps e = subst (Kept c) (sym e) (tt, tt)

pub kept_more : (c : Comb) (ps now : Pairs) (k a : Value) → now ≡ added c ps k a → HasShape c a
    → Kept c ps → Kept c now
kept_more c ps now k a e h kept =
    subst (Kept c) (sym e) (shapes_more c ps k a h kept.0, keys_more c ps k a kept.1)

-- in another order
pub kept_moved : (c : Comb) (ps now rest : Pairs) → IsPermutation ps now → rest ≡ now → Kept c ps
    → Kept c rest
kept_moved c ps now rest moved same kept =
    let P = λ (p : Value × Value). HasShape c p.1 in
    subst (Kept c) (sym same) (
      recursion_from_All P now
          (All-permutation P ps now moved (All-from_recursion P ps kept.0)),
      IsDistinct-IsPermutation value_eq value_eq-turned (keys_of ps) (keys_of now)
          (IsPermutation-map (λ p. p.0) ps now moved) kept.1,
    )

-- ---- a new key

pub put_last_is : (c : Comb) (ps : Pairs) (k a : Value) → has_key k ps ≡ false
    → added c ps k a ≡ ps ++ (k, a) ∷ []
put_last_is c [] k a h = refl
put_last_is c (p ∷ ps) k a h =
    elim (value_eq p.0 k) as
    (λ b. (b || has_key k ps) ≡ false
    → cond b ((p.0, merged c p.1 a) ∷ ps) (p ∷ added c ps k a)
    ≡ p ∷ (ps ++ (k, a) ∷ [])) [
      | true ↦ λ g. cc
      | false ↦ λ g. ap (λ l. p ∷ l) (put_last_is c ps k a g)
    ] h

inserted : (ps : Pairs) (k a : Value) → has_key k ps ≡ false
    → insert_entry finds ps k a ≡ ps ++ (k, a) ∷ []
inserted [] k a h = refl
inserted (p ∷ ps) k a h =
    elim (value_eq p.0 k) as
    (λ b. (b || has_key k ps) ≡ false
    → cond b ((p.0, a) ∷ ps) (p ∷ insert_entry finds ps k a) ≡ p ∷ (ps ++ (k, a) ∷ [])) [
      | true ↦ λ g. cc
      | false ↦ λ g. ap (λ l. p ∷ l) (inserted ps k a g)
    ] h

pub inserted_is : (ps grown : Pairs) (k a : Value) → has_key k ps ≡ false
    → grown ≡ insert_entry (equality.ghosts).eq ps k a → grown ≡ ps ++ (k, a) ∷ []
inserted_is ps grown k a h e =
    e ∙ ap (λ (E : Value → Value → Bool). insert_entry E ps k a) derived_eq-finds
    ∙ inserted ps k a h

pub new_is : (c : Comb) (ps grown : Pairs) (k a : Value)
    → lookup ((equality.ghosts).eq k) ps ≡ None
    → grown ≡ insert_entry (equality.ghosts).eq ps k a → grown ≡ added c ps k a
new_is c ps grown k a h e =
    let none : has_key k ps ≡ false = not_there k ps (ap is_some h) in
    inserted_is ps grown k a none e ∙ sym (put_last_is c ps k a none)

-- ---- a refusal

-- where there is room, memory was wanting
pub room_left : (old : Table) (k a : Value) (new : Table) (fault : AddFault)
    → IsRefusedAdd old k a new fault → length old.partials < old.room → fault ≡ Memory
room_left old k a new (Full _ _) h room = absurd (omega (arith, h.3, room))
room_left old k a new Memory h room = refl
