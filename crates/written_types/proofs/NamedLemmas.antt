-- Names in memory, as contracts see them: look-ups, one name more, and what stays as types are
-- added.
use Rattle.std.proofs.Common.{◌≡◌, ℕ, ◌<◌, Bool, true, false, cond, List, [], ◌∷◌, ◌++◌, length, map, Option, Some, None, refl, sym, ap, ◌∙◌, subst, arith}
use Rattle.std.specs.List.{All, AllByRecursion}
use Rattle.std.specs.Option.{option_map}
use Rattle.std.specs.Str.{bytes_eq}
use Rattle.std.specs.Map.{lookup, keys_of}
use Rattle.std.proofs.lemmas.List.{map_push}
use Rattle.std.proofs.lemmas.List.Elements.{recursion_from_All, All-push, All-same}
use Rattle.flume_types.specs.declared.types.Ty.{Ty}
use Rattle.indexmap.specs.IndexMap.{IndexMap, insert_entry}
use Rattle.indexmap.proofs.CallerLemmas.{insert_entry-new}
use Rattle.type_table.specs.Table.{Extends}
use Rattle.written_types.specs.Named.{Named, find}
use Rattle.written_types.specs.inner.Held.{type_of, AreHeld}

-- ---- names with mapped meanings

abbrev pub mapped : {A B : Type 0} → (A → B) → List ℕ × A → List ℕ × B
mapped f entry = (entry.0, f entry.1)

cond-mapped : {A B : Type 0} (f : A → B) (b : Bool) (x : A) (r : Option A) (s : Option B)
    → s ≡ option_map f r → cond b (Some (f x)) s ≡ option_map f (cond b (Some x) r)
cond-mapped f true x r s e = refl
cond-mapped f false x r s e = e

pub find-mapped : {A B : Type 0} (f : A → B) (name : List ℕ) (names : Named A)
    → find name (map (mapped f) names) ≡ option_map f (find name names)
find-mapped f name [] = refl
find-mapped f name (e ∷ names) =
    cond-mapped f (bytes_eq name e.0) e.1 (find name names) (find name (map (mapped f) names))
    (find-mapped f name names)

pub keys-mapped : {A B : Type 0} (f : A → B) (names : Named A)
    → keys_of (map (mapped f) names) ≡ keys_of names
keys-mapped f [] = refl
keys-mapped f (e ∷ names) = ap (λ rest. e.0 ∷ rest) (keys-mapped f names)

none-mapped : {A B : Type 0} (f : A → B) (o : Option A) → option_map f o ≡ None → o ≡ None
none-mapped f None e = refl
none-mapped f (Some x) e = cc

-- ---- what holds of all meanings holds of the one that is found

within-by : {A : Type 0} (P : A → Type 0) (b : Bool) (y : A) (rest : Option A) (x : A)
    → P y → (rest ≡ Some x → P x) → cond b (Some y) rest ≡ Some x → P x
within-by P true y rest x here there e =
    let same : y ≡ x = cc in
    subst P same here
within-by P false y rest x here there e = there e

found-by : {A : Type 0} (P : A → Type 0) (test : List ℕ → Bool) (names : Named A) (x : A)
    → AllByRecursion (λ (e : List ℕ × A). P e.1) names → lookup test names ≡ Some x → P x
found-by P test [] x h e = cc
found-by P test (entry ∷ names) x h e =
    within-by P (test entry.0) entry.1 (lookup test names) x h.0 (found-by P test names x h.1) e

pub found-within : {A : Type 0} (P : A → Type 0) (name : List ℕ) (names : Named A) (x : A)
    → All (λ (e : List ℕ × A). P e.1) names → find name names ≡ Some x → P x
found-within {A = A} P name names x h e =
    found-by P (bytes_eq name) names x (recursion_from_All (λ (e : List ℕ × A). P e.1) names h) e

-- ---- more types

pub same-map : {X Y : Type 0} (f g : X → Y) (P : X → Type 0) → ((x : X) → P x → f x ≡ g x)
    → (xs : List X) → All P xs → map f xs ≡ map g xs
same-map {X = X} {Y = Y} f g P same xs all = by-recursion xs (recursion_from_All P xs all)
  where
    by-recursion : (xs : List X) → AllByRecursion P xs → map f xs ≡ map g xs
    by-recursion [] h = refl
    by-recursion (x ∷ xs) h = λ i. same x h.0 i ∷ by-recursion xs h.1 i

pub push-same : {X Y : Type 0} (f g : X → Y) (P : X → Type 0) → ((x : X) → P x → f x ≡ g x)
    → (xs after : List X) (x : X) → after ≡ xs ++ x ∷ [] → All P xs
    → map f after ≡ map g xs ++ f x ∷ []
push-same f g P same xs after x put all =
    ap (map f) put ∙ map_push f xs x ∙ ap (λ ys. ys ++ f x ∷ []) (same-map f g P same xs all)

-- what has a type, and one more
pub below-push : {X : Type 0} (type : X → ℕ) (old new : List Ty) → Extends old new
    → (xs after : List X) (x : X) → after ≡ xs ++ x ∷ [] → All (λ y. type y < length old) xs
    → type x < length new → All (λ y. type y < length new) after
below-push type old new more xs after x put all in_ =
    All-same (λ y. type y < length new) after (xs ++ x ∷ []) put
    (All-push (λ y. type y < length new) xs x
    (λ k d k_in. omega (arith, all k d k_in, more.longer)) in_)

pub names-kept : (old new : List Ty) → Extends old new → (names : Named ℕ) → AreHeld old names
    → map (type_of new) names ≡ map (type_of old) names
names-kept old new more names held =
    same-map (type_of new) (type_of old) (λ (e : List ℕ × ℕ). e.1 < length old)
    (λ e in_ i. (e.0, more.same e.1 in_ i)) names held

-- ---- one name more

module _ {A B S : Type 0} (f : A → B) (old new : IndexMap (List ℕ) A S) (name : List ℕ) (x : A)
    (absent : find name (map (mapped f) old.entries) ≡ None)
    (put : new.entries ≡ insert_entry bytes_eq old.entries name x) where
  entries-put : new.entries ≡ old.entries ++ (name, x) ∷ []
  entries-put =
      put
      ∙ insert_entry-new bytes_eq old name x
      (none-mapped f (find name old.entries) (sym (find-mapped f name old.entries) ∙ absent))

  pub mapped-put : map (mapped f) new.entries ≡ map (mapped f) old.entries ++ (name, f x) ∷ []
  mapped-put = ap (map (mapped f)) entries-put ∙ map_push (mapped f) old.entries (name, x)

  pub within-put : (P : List ℕ × A → Type 0) → All P old.entries → P (name, x)
      → All P new.entries
  within-put P all here =
      All-same P new.entries (old.entries ++ (name, x) ∷ []) entries-put
      (All-push P old.entries (name, x) all here)
