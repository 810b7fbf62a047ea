-- Entries that are right for each collection with their key, and what is kept behind them.
use Rattle.std.proofs.Common.{◌≡◌, ◌∙◌, ◌⊎◌, inl, inr, ℕ, Bool, true, false, List, [], ◌∷◌, ◌++◌, Option, Some, None, if◌then◌else◌, refl, sym, ap, subst}
use Rattle.std.specs.Prelude.{IfSome, IsSomeAnd}
use Rattle.std.specs.List.{AllByRecursion as Each}
use Rattle.std.specs.Str.{bytes_eq}
use Rattle.std.proofs.lemmas.Slice.Eq.{bytes_eq-Decides}
use Rattle.cache_store.specs.Entries.{found_in, with_cache_entry}
use Rattle.cache_store.specs.declared.entry.CacheEntry.{CacheEntry}
use Rattle.kept_results.specs.Keeping.{KeptUnlessFailed, WereKept}
use Rattle.kept_results.proofs.FoundLemmas.{firsts}
use Rattle.key_meaning.specs.Keyed.{Keyed, key}
use Rattle.outside.specs.Told.{WhereTold}
use Rattle.saved_results.specs.declared.saved.Saved.{Saved}
use Rattle.cached_course.specs.Looked.{missing_as, not_found}
use Rattle.cached_course.specs.Sound.{AreSound, IsValueOf}

-- an entry is right for each collection with its key
abbrev pub IsSoundEntry : CacheEntry → Type 0
IsSoundEntry entry = (it : Keyed) → key it ≡ entry.key → IsValueOf it entry.value

-- what is found under a key behind an entry more: that, or what was found before
abbrev FindsBehind : List CacheEntry → List ℕ → List ℕ → List ℕ → Type 0
FindsBehind entries own value name =
    ((found_in (with_cache_entry entries own value) name ≡ Some value) × (name ≡ own))
    ⊎ (found_in (with_cache_entry entries own value) name ≡ found_in entries name)

module _ (own value name : List ℕ) where
  last_found : (b : Bool) → bytes_eq own name ≡ b
      → (((if b then Some value else None) ≡ Some value) × (name ≡ own))
      ⊎ ((if b then Some value else None) ≡ None)
  last_found true is = inl (refl, sym ((bytes_eq-Decides own name).0 is))
  last_found false is = inr refl

  -- in place of an entry of its key
  placed_found : (entry : CacheEntry) (entries : List CacheEntry) → entry.key ≡ own → (b : Bool)
      → bytes_eq own name ≡ b
      → (((if b then Some value else found_in entries name) ≡ Some value) × (name ≡ own))
      ⊎ ((if b then Some value else found_in entries name) ≡ found_in (entry ∷ entries) name)
  placed_found entry entries same true is = inl (refl, sym ((bytes_eq-Decides own name).0 is))
  placed_found entry entries same false is =
      inr
      (sym
      (ap (λ k. if bytes_eq k name then Some entry.value else found_in entries name) same
      ∙ ap (λ b. if b then Some entry.value else found_in entries name) is))

  -- behind an entry of another
  behind_found : (entry : CacheEntry) (entries : List CacheEntry)
      → FindsBehind entries own value name → (b : Bool)
      → (((if b then Some entry.value else found_in (with_cache_entry entries own value) name)
      ≡ Some value) × (name ≡ own))
      ⊎ ((if b then Some entry.value else found_in (with_cache_entry entries own value) name)
      ≡ (if b then Some entry.value else found_in entries name))
  behind_found entry entries rest true = inr refl
  behind_found entry entries rest false = rest

  either_found : (entry : CacheEntry) (entries : List CacheEntry)
      → FindsBehind entries own value name → (b : Bool) → bytes_eq entry.key own ≡ b
      → ((found_in
      (if b then record { key = own; value = value } ∷ entries
      else entry ∷ with_cache_entry entries own value) name ≡ Some value) × (name ≡ own))
      ⊎ (found_in
      (if b then record { key = own; value = value } ∷ entries
      else entry ∷ with_cache_entry entries own value) name ≡ found_in (entry ∷ entries) name)
  either_found entry entries rest true is =
      placed_found entry entries ((bytes_eq-Decides entry.key own).0 is) (bytes_eq own name) refl
  either_found entry entries rest false is =
      behind_found entry entries rest (bytes_eq entry.key name)

  found_behind : (entries : List CacheEntry) → FindsBehind entries own value name
  found_behind [] = last_found (bytes_eq own name) refl
  found_behind (entry ∷ entries) =
      either_found entry entries (found_behind entries) (bytes_eq entry.key own) refl

value_with : (entries : List CacheEntry) (entry : CacheEntry) → AreSound entries
    → IsSoundEntry entry → (it : Keyed) → FindsBehind entries entry.key entry.value (key it)
    → IfSome (found_in (with_cache_entry entries entry.key entry.value) (key it)) (IsValueOf it)
value_with entries entry sound own it (inl here) =
    subst (λ (o : Option (List ℕ)). IfSome o (IsValueOf it)) (sym here.0) (own it here.1)
value_with entries entry sound own it (inr before) =
    subst (λ (o : Option (List ℕ)). IfSome o (IsValueOf it)) (sym before) (sound it)

with_sound : (entries : List CacheEntry) (entry : CacheEntry) → AreSound entries
    → IsSoundEntry entry → AreSound (with_cache_entry entries entry.key entry.value)
with_sound entries entry sound own = λ it.
    value_with entries entry sound own it (found_behind entry.key entry.value (key it) entries)

kept_sound : (lost : ℕ) (entries kept after : List CacheEntry) → AreSound entries
    → Each IsSoundEntry kept → WereKept lost entries kept after → AreSound after
kept_sound lost entries [] after sound own are = subst AreSound (sym are) sound
kept_sound lost entries (entry ∷ kept) after sound own (inl are) =
    kept_sound lost (with_cache_entry entries entry.key entry.value) kept after
    (with_sound entries entry sound own.0) own.1 are
kept_sound lost entries (entry ∷ kept) after sound own (inr are) =
    kept_sound are.0 entries kept after sound own.1 are.2

pub told_sound : (first last : ℕ) (kept entries : List CacheEntry) → AreSound entries
    → Each IsSoundEntry kept → (o : Option (List CacheEntry))
    → WhereTold (Some entries) o (λ old new. KeptUnlessFailed first last old kept new)
    → IsSomeAnd o AreSound
told_sound first last kept entries sound own None are = absurd are
told_sound first last kept entries sound own (Some after) are =
    kept_sound are.0 entries kept after sound own are.2

-- what holds of numbers holds of what stands beside them
pub each_first : (P : ℕ → Type 0) (asked : List (ℕ × List ℕ)) → Each P (firsts asked)
    → Each (λ (it : ℕ × List ℕ). P it.0) asked
each_first P [] all = tt
each_first P (it ∷ asked) all = (all.0, each_first P asked all.1)

-- those that were not found are among those that are asked for
missing_among : (P : ℕ × List ℕ → Type 0) (it : ℕ × List ℕ) (rest : List (ℕ × List ℕ)) → P it
    → Each P rest → (o : Option Saved) → Each P (missing_as it o ++ rest)
missing_among P it rest own all None = (own, all)
missing_among P it rest own all (Some saved) = all

pub not_found_all : (P : ℕ × List ℕ → Type 0) (asked : List (ℕ × List ℕ))
    (looked : List (Option Saved)) → Each P asked → Each P (not_found asked looked)
not_found_all P [] looked all = tt
not_found_all P (it ∷ asked) [] all = tt
not_found_all P (it ∷ asked) (o ∷ looked) all =
    missing_among P it (not_found asked looked) all.0 (not_found_all P asked looked all.1) o
