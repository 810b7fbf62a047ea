-- Places among names with the newest first, from places in a map.
use Rattle.std.proofs.Common.{◌≡◌, ℕ, zero, suc, ◌+◌, ◌-◌, Bool, true, false, cond, Option, Some, None, is_some, List, [], ◌∷◌, ◌++◌, length, reverse, slice_get, arith, refl, sym, ap, ◌∙◌, subst}
use Rattle.std.specs.List.{AllByRecursion, IsDistinct}
use Rattle.std.specs.Map.{keys_of, lookup_key}
use Rattle.std.specs.Str.{bytes_eq}
use Rattle.std.specs.Cmp.Lexicographic.{same_text}
use Rattle.std.proofs.lemmas.List.{reverse-append, length-reverse}
use Rattle.written_types.specs.Named.{find}
use Rattle.expression_types.specs.Sight.{Newest}
use Rattle.expression_types.specs.Places.{further, place_in}

-- found among the newer ones, or else behind them
abbrev or_behind : {A : Type 0} → ℕ → Option (ℕ × A) → Option (ℕ × A) → Option (ℕ × A)
or_behind newer (Some at) older = Some at
or_behind newer None older = further newer older

module _ {A : Type 0} where
  farther : (n : ℕ) (o p : Option (ℕ × A))
      → further 1 (or_behind n o p) ≡ or_behind (suc n) (further 1 o) p
  farther n (Some at) p = refl
  farther n None None = refl
  farther n None (Some at) =
      let e : at.0 + n + 1 ≡ at.0 + suc n = omega arith in
      ap (λ i. Some (i, at.1)) e

  none_newer : (p : Option (ℕ × A)) → p ≡ further 0 p
  none_newer None = refl
  none_newer (Some at) =
      let e : at.0 ≡ at.0 + 0 = omega arith in
      ap (λ i. Some (i, at.1)) e

  place_in-append : (name : List ℕ) (newer older : Newest A)
      → place_in name (newer ++ older)
      ≡ or_behind (length newer) (place_in name newer) (place_in name older)
  place_in-append name [] older = none_newer (place_in name older)
  place_in-append name ((other, t) ∷ newer) older =
      elim (bytes_eq name other) as
      (λ b. cond b (Some (0, t)) (further 1 (place_in name (newer ++ older)))
      ≡ or_behind (suc (length newer)) (cond b (Some (0, t)) (further 1 (place_in name newer)))
      (place_in name older)) [
        | true ↦ refl
        | false ↦ ap (further 1) (place_in-append name newer older)
            ∙ farther (length newer) (place_in name newer) (place_in name older)
      ]

  -- the key that is found passes
  pub key_passes : (test : List ℕ → Bool) (es : Newest A) (k : List ℕ)
      → Some k ≡ lookup_key test es → test k ≡ true
  key_passes test [] k e = cc
  key_passes test (x ∷ es) k e = passes_by (test x.0) refl (key_passes test es k) e
    where
      passes_by : (b : Bool) → test x.0 ≡ b → (Some k ≡ lookup_key test es → test k ≡ true)
          → Some k ≡ cond b (Some x.0) (lookup_key test es) → test k ≡ true
      passes_by true is rest e =
          let same : k ≡ x.0 = cc in
          ap test same ∙ is
      passes_by false is rest e = rest e

  oldest : (name : List ℕ) (x : List ℕ × A) (es : Newest A)
      → place_in name (reverse (x ∷ es))
      ≡ or_behind (length (reverse es)) (place_in name (reverse es)) (place_in name (x ∷ []))
  oldest name x es =
      ap (place_in name) (reverse-append (x ∷ []) es) ∙ place_in-append name (reverse es) (x ∷ [])

  pub absent : (name : List ℕ) (es : Newest A)
      → AllByRecursion (λ k. bytes_eq name k ≡ false) (keys_of es)
      → place_in name (reverse es) ≡ None
  absent name [] h = refl
  absent name (x ∷ es) h =
      oldest name x es
      ∙ ap (λ o. or_behind (length (reverse es)) o (place_in name (x ∷ []))) (absent name es h.1)
      ∙ ap (λ b. further (length (reverse es)) (cond b (Some (0, x.1)) None)) h.0

  pub placed_in : (name : List ℕ) (es : Newest A) (i : ℕ) (k : List ℕ) (t : A)
      → IsDistinct bytes_eq (keys_of es) → slice_get es i ≡ Some (k, t) → bytes_eq name k ≡ true
      → place_in name (reverse es) ≡ Some (length es - 1 - i, t)
  unfolding IsDistinct
  placed_in name [] i k t d e p = cc
  placed_in name (x ∷ es) zero k t d e p =
      let key : x.0 ≡ k = cc in
      let type : x.1 ≡ t = cc in
      let same : name ≡ x.0 = same_text name k (sym p) ∙ sym key in
      let none : place_in name (reverse es) ≡ None =
      absent name es
      (subst (λ n. AllByRecursion (λ y. bytes_eq n y ≡ false) (keys_of es)) (sym same) d.0) in
      let test : bytes_eq name x.0 ≡ true = ap (bytes_eq name) key ∙ p in
      let far : 0 + length (reverse es) ≡ length (x ∷ es) - 1 - 0 =
      omega (arith, length-reverse es) in
      oldest name x es
      ∙ ap (λ o. or_behind (length (reverse es)) o (place_in name (x ∷ []))) none
      ∙ ap (λ b. further (length (reverse es)) (cond b (Some (0, x.1)) None)) test
      ∙ (λ i. Some (far i, type i))
  placed_in name (x ∷ es) (suc j) k t d e p =
      let far : length es - 1 - j ≡ length (x ∷ es) - 1 - suc j = omega arith in
      oldest name x es
      ∙ ap (λ o. or_behind (length (reverse es)) o (place_in name (x ∷ [])))
      (placed_in name es j k t d.1 e p)
      ∙ ap (λ n. Some (n, t)) far

module _ {A : Type 0} (name : List ℕ) where
  far : (o : Option (ℕ × A)) → is_some (further 1 o) ≡ is_some o
  far None = refl
  far (Some at) = refl

  found_by : (b : Bool) (x : A) (names : Newest A)
      → is_some (place_in name names) ≡ is_some (find name names)
      → is_some (cond b (Some (0, x)) (further 1 (place_in name names)))
      ≡ is_some (cond b (Some x) (find name names))
  found_by true x names rest = refl
  found_by false x names rest = far (place_in name names) ∙ rest

  -- a name has a place exactly where it stands for something
  pub placed_is_found : (names : Newest A)
      → is_some (place_in name names) ≡ is_some (find name names)
  placed_is_found [] = refl
  placed_is_found (x ∷ names) = found_by (bytes_eq name x.0) x.1 names (placed_is_found names)
