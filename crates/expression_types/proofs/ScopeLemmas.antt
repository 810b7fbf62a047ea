-- What is in sight, from what is in memory.
use Rattle.std.proofs.Common.{◌≡◌, ℕ, ◌+◌, ◌-◌, ◌<◌, Bool, true, false, cond, Option, Some, None, is_some, List, [], ◌∷◌, ◌++◌, length, map, reverse, take, drop, refl, sym, ap, ◌∙◌, subst}
use Rattle.std.specs.List.{All, AllByRecursion}
use Rattle.std.specs.Option.{option_map}
use Rattle.std.specs.Map.{keys_of}
use Rattle.std.specs.Str.{bytes_eq}
use Rattle.std.proofs.lemmas.List.{reverse-append, length-reverse, length-map, length-drop, take-append-drop, drop_at, drop-map}
use Rattle.std.proofs.lemmas.List.Elements.{recursion_from_All, All-cons, All-same, All-drop}
use Rattle.indexmap.specs.IndexMap.{IndexMap, insert_entry}
use Rattle.indexmap.proofs.CallerLemmas.{insert_entry-new}
use Rattle.flume_types.specs.declared.types.Ty.{Ty}
use Rattle.type_table.specs.Table.{type_at, Extends}
use Rattle.written_types.specs.Named.{Named, find}
use Rattle.written_types.specs.Known.{Known}
use Rattle.written_types.specs.inner.Held.{type_of}
use Rattle.written_types.proofs.NamedLemmas.{names-kept, find-mapped}
use Rattle.expression_types.specs.declared.scope.Found.{Found}
use Rattle.expression_types.specs.Sight.{Newest}
use Rattle.expression_types.specs.Held.{in_sight, AreInSight}
use Rattle.expression_types.specs.Places.{further, place_in, place_found}
use Rattle.expression_types.proofs.PlaceLemmas.{absent}

-- ---- types more

pub sight-kept : (old new : Known) (entries : Named ℕ) → Extends old.types new.types
    → new.names ≡ old.names → AreInSight old.types entries
    → (in_sight new entries).sight ≡ (in_sight old entries).sight
sight-kept old new entries more same held =
    λ i. record {
      known = same i;
      names = names-kept old.types new.types more
          (reverse entries) held i;
    }

-- ---- names

abbrev pub at_type : List Ty → ℕ × ℕ → ℕ × Ty
at_type types at = (at.0, type_at types at.1)

further-mapped : (types : List Ty) (o : Option (ℕ × ℕ))
    → further 1 (option_map (at_type types) o) ≡ option_map (at_type types) (further 1 o)
further-mapped types None = refl
further-mapped types (Some at) = refl

pub place_in-mapped : (types : List Ty) (name : List ℕ) (names : Newest ℕ)
    → place_in name (map (type_of types) names) ≡ option_map (at_type types) (place_in name names)
place_in-mapped types name [] = refl
place_in-mapped types name (x ∷ names) =
    by_test (bytes_eq name x.0) (place_in-mapped types name names)
  where
    by_test : (b : Bool)
        → place_in name (map (type_of types) names) ≡ option_map (at_type types)
        (place_in name names)
        → cond b (Some (0, type_at types x.1)) (further 1 (place_in name (map
        (type_of types) names)))
        ≡ option_map (at_type types) (cond b (Some (0, x.1)) (further 1 (place_in name names)))
    by_test true rest = refl
    by_test false rest = ap (further 1) rest ∙ further-mapped types (place_in name names)

module _ {A : Type 0} (P : A → Type 0) (name : List ℕ) where
  further-within : (o : Option (ℕ × A)) (place : ℕ) (x : A)
      → ((p : ℕ) → o ≡ Some (p, x) → P x) → further 1 o ≡ Some (place, x) → P x
  further-within None place x h e = cc
  further-within (Some (p, y)) place x h e =
      let is : ◌≡◌ {A = ℕ × A} (p + 1, y) (place, x) = cc in
      h p (ap (λ q. Some (p, q.1)) is)

  by_test : (b : Bool) (y : A) (names : Newest A) (place : ℕ) (x : A) → P y
      → ((p : ℕ) → place_in name names ≡ Some (p, x) → P x)
      → cond b (Some (0, y)) (further 1 (place_in name names)) ≡ Some (place, x) → P x
  by_test true y names place x here rest e =
      let is : ◌≡◌ {A = ℕ × A} (0, y) (place, x) = cc in
      subst P (ap (λ q. q.1) is) here
  by_test false y names place x here rest e =
      further-within (place_in name names) place x rest e

  placed-by : (names : Newest A) (place : ℕ) (x : A)
      → AllByRecursion (λ (e : List ℕ × A). P e.1) names → place_in name names ≡ Some (place, x)
      → P x
  placed-by [] place x all e = cc
  placed-by (y ∷ names) place x all e =
      by_test (bytes_eq name y.0) y.1 names place x all.0 (λ p. placed-by names p x all.1) e

  -- what holds of what all names stand for holds of what is found
  pub placed-within : (names : Newest A) (place : ℕ) (x : A)
      → All (λ (e : List ℕ × A). P e.1) names → place_in name names ≡ Some (place, x) → P x
  placed-within names place x all e =
      placed-by names place x (recursion_from_All (λ (e : List ℕ × A). P e.1) names all) e

module _ {A : Type 0} (name : List ℕ) where
  abbrev Lacks : Named A → Type 0
  Lacks names = AllByRecursion (λ k. bytes_eq name k ≡ false) (keys_of names)

  lacks_by : (b : Bool) (x : List ℕ × A) (names : Named A) → bytes_eq name x.0 ≡ b
      → (find name names ≡ None → Lacks names) → cond b (Some x.1) (find name names) ≡ None
      → Lacks (x ∷ names)
  lacks_by true x names is rest e = cc
  lacks_by false x names is rest e = (is, rest e)

  lacks : (names : Named A) → find name names ≡ None → Lacks names
  lacks [] e = tt
  lacks (x ∷ names) e = lacks_by (bytes_eq name x.0) x names refl (lacks names) e

  -- a name that is not in a map has no place among its entries, the newest first
  pub not-placed : (entries : Named A) → find name entries ≡ None
      → place_in name (reverse entries) ≡ None
  not-placed entries e = absent name entries (lacks entries e)

  both_by : (b : Bool) (x : A) (xs ys : Newest A)
      → (find name (xs ++ ys) ≡ None → (find name xs ≡ None) × (find name ys ≡ None))
      → cond b (Some x) (find name (xs ++ ys)) ≡ None
      → (cond b (Some x) (find name xs) ≡ None) × (find name ys ≡ None)
  both_by true x xs ys rest e = cc
  both_by false x xs ys rest e = rest e

  none-both : (xs ys : Newest A) → find name (xs ++ ys) ≡ None
      → (find name xs ≡ None) × (find name ys ≡ None)
  none-both [] ys e = (refl, e)
  none-both (x ∷ xs) ys e = both_by (bytes_eq name x.0) x.1 xs ys (none-both xs ys) e

  last_by : (b : Bool) (x : A) (o : Option A) → cond b (Some x) None ≡ None → o ≡ None
      → cond b (Some x) o ≡ None
  last_by true x o e rest = cc
  last_by false x o e rest = rest

  none-reversed : (entries : Named A) → find name (reverse entries) ≡ None
      → find name entries ≡ None
  none-reversed [] e = refl
  none-reversed (x ∷ entries) e =
      let p = none-both (reverse entries) (x ∷ [])
      (sym (ap (find name) (reverse-append (x ∷ []) entries)) ∙ e) in
      last_by (bytes_eq name x.0) x.1 (find name entries) p.1 (none-reversed entries p.0)

pub found-some : (types : List Ty) (o : Option Found) → is_some o ≡ is_some (place_found types o)
found-some types None = refl
found-some types (Some at) = refl

none-mapped : {A B : Type 0} (f : A → B) (o : Option A) → option_map f o ≡ None → o ≡ None
none-mapped f None e = refl
none-mapped f (Some x) e = cc

not-held : (types : List Ty) (name : List ℕ) (entries : Named ℕ)
    → find name (map (type_of types) (reverse entries)) ≡ None → find name entries ≡ None
not-held types name entries e =
    none-reversed name entries
    (none-mapped (type_at types) (find name (reverse entries))
    (sym (find-mapped (type_at types) name (reverse entries)) ∙ e))

-- ---- one name more

module _ {S : Type 0} (types : List Ty) (old new : IndexMap (List ℕ) ℕ S) (name : List ℕ)
    (id : ℕ) (absent : find name (map (type_of types) (reverse old.entries)) ≡ None)
    (put : new.entries ≡ insert_entry bytes_eq old.entries name id) where
  pub newest-put : reverse new.entries ≡ (name, id) ∷ reverse old.entries
  newest-put =
      ap reverse (put ∙ insert_entry-new bytes_eq old name id
      (not-held types name old.entries absent))
      ∙ reverse-append old.entries ((name, id) ∷ [])

  pub held-put : AreInSight types old.entries → id < length types → AreInSight types new.entries
  held-put held within =
      All-same (λ (e : List ℕ × ℕ). e.1 < length types) (reverse new.entries)
      ((name, id) ∷ reverse old.entries) newest-put
      (All-cons (λ (e : List ℕ × ℕ). e.1 < length types) (name, id)
      (reverse old.entries) within held)

-- ---- the oldest names

reverse-take : {A : Type 0} (n : ℕ) (xs : List A)
    → reverse (take n xs) ≡ drop (length xs - n) (reverse xs)
reverse-take n xs =
    sym (ap (λ ys. drop (length xs - n) (reverse ys)) (sym (take-append-drop n xs))
    ∙ ap (drop (length xs - n)) (reverse-append (take n xs) (drop n xs))
    ∙ drop_at (reverse (drop n xs)) (reverse (take n xs)) (length xs - n) far)
  where
    far : length (reverse (drop n xs)) ≡ length xs - n
    far = length-reverse (drop n xs) ∙ length-drop n xs

module _ (types : List Ty) (n : ℕ) (old new : Named ℕ) (left : new ≡ take n old) where
  oldest-are : reverse new ≡ drop (length old - n) (reverse old)
  oldest-are = ap reverse left ∙ reverse-take n old

  pub held-left : AreInSight types old → AreInSight types new
  held-left held =
      All-same (λ (e : List ℕ × ℕ). e.1 < length types) (reverse new)
      (drop (length old - n) (reverse old)) oldest-are
      (All-drop (λ (e : List ℕ × ℕ). e.1 < length types) (length old - n) (reverse old) held)

  pub names-left : map (type_of types) (reverse new)
      ≡ drop (length (map (type_of types) (reverse old)) - n) (map (type_of types) (reverse old))
  names-left =
      ap (map (type_of types)) oldest-are
      ∙ sym (drop-map (type_of types) (length old - n) (reverse old))
      ∙ ap (λ len. drop (len - n) (map (type_of types) (reverse old)))
      (sym (length-map (reverse old) (type_of types) ∙ length-reverse old))
