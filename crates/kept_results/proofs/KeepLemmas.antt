-- One value more that is to be kept.
use Rattle.std.proofs.Common.{inl, inr, ◌≡◌, ℕ, suc, ◌+◌, ◌<◌, ◌≤◌, Bool, true, false, List, [], ◌∷◌, drop, get_or, length, Option, Some, None, Result, Ok, Err}
use Rattle.std.proofs.Common.{if◌then◌else◌, refl, sym, ap, ◌∙◌, subst, arith}
use Rattle.std.proofs.lemmas.List.{drop_all, drop_more}
use Rattle.std.specs.Prelude.{IfSome, is_ok, is_some}
use Rattle.std.specs.Option.{option_map}
use Rattle.cache_store.specs.Entries.{with_entries, with_cache_entry}
use Rattle.cache_store.specs.declared.entry.CacheEntry.{CacheEntry}
use Rattle.outside.specs.Cause.{HasCause, Rose, RoseBy}
use Rattle.kept_results.specs.Keeping.{KeptUnlessFailed, WereKept}

abbrev Told : Type 0
Told = Option (List CacheEntry)

-- what a cache tells behind a call that went through or not
abbrev pub after_keep : Told → Bool → CacheEntry → Told
after_keep told went entry =
    if went then option_map (λ entries. with_cache_entry entries entry.key entry.value) told else
    told

pub told_same : (told : Told) (went : Bool) (entry : CacheEntry)
    → is_some (after_keep told went entry) ≡ is_some told
told_same None true entry = refl
told_same (Some entries) true entry = refl
told_same told false entry = refl

-- ---- but for those that were lost

-- so far all were put but for some, each of which the cache has failed for: with what is put of
-- those that are left it is so of all
abbrev pub Puts : ℕ → ℕ → List CacheEntry → List CacheEntry → List CacheEntry → List CacheEntry
    → Type 0
Puts first last entries kept left now =
    (lost : ℕ) × RoseBy lost first last
    × ((after : List CacheEntry) (more : ℕ) → WereKept more now left after
    → WereKept (lost + more) entries kept after)

-- the same where entries are told
abbrev pub TellsPuts : ℕ → ℕ → List CacheEntry → List CacheEntry → Told → Told → Type 0
TellsPuts first last kept left started told =
    IfSome started (λ entries. IfSome told (Puts first last entries kept left))

pub some_start : (first : ℕ) (kept : List CacheEntry) (told : Told)
    → TellsPuts first first kept kept told told
some_start first kept None = tt
some_start first kept (Some entries) = (
  0,
  omega arith,
  λ after more put.
      let same : more ≡ 0 + more = omega arith in
      subst (λ (n : ℕ). WereKept n entries kept after) same put,
)

some_on : {T E : Type 0} (told : Told) (first old now : ℕ) (r : Result T E) (entry : CacheEntry)
    (left kept entries : List CacheEntry) → HasCause old now r
    → IfSome told (Puts first old entries kept (entry ∷ left))
    → IfSome (after_keep told (is_ok r) entry) (Puts first now entries kept left)
some_on None first old now (Ok x) entry left kept entries cause it = tt
some_on None first old now (Err e) entry left kept entries cause it = tt
some_on (Some so_far) first old now (Ok x) entry left kept entries cause it =
    let later = cause.later in
    (it.0, omega (arith, it.1, later), λ after more put. it.2 after more (inl put))
some_on (Some so_far) first old now (Err e) entry left kept entries cause it =
    let failed : Rose old now = cause.failed in (
      suc it.0,
      omega (arith, it.1, failed),
      λ after more put.
          let moved : it.0 + suc more ≡ suc it.0 + more = omega arith in
          subst (λ (n : ℕ). WereKept n entries kept after) moved
          (it.2 after (suc more) (inr (more, refl, put))),
    )

some_next : {T E : Type 0} (started told new : Told) (first old now : ℕ) (r : Result T E)
    (entry : CacheEntry) (left kept : List CacheEntry) → HasCause old now r
    → new ≡ after_keep told (is_ok r) entry → TellsPuts first old kept (entry ∷ left) started told
    → TellsPuts first now kept left started new
some_next None told new first old now r entry left kept cause is h = tt
some_next (Some entries) told new first old now r entry left kept cause is h =
    subst (λ (o : Told). IfSome o (Puts first now entries kept left)) (sym is)
    (some_on told first old now r entry left kept entries cause h)

-- ---- all of them, where it has not failed

pub all_start : (first : ℕ) (kept : List CacheEntry) (told : Told)
    → IfSome told (λ entries. (Rose first first → ⊥)
    → IfSome told (λ so_far. with_entries so_far kept ≡ with_entries entries kept))
all_start first kept None = tt
all_start first kept (Some entries) = λ calm. refl

all_on : (told : Told) (entry : CacheEntry) (left : List CacheEntry) (whole : List CacheEntry)
    → IfSome told (λ now. with_entries now (entry ∷ left) ≡ whole)
    → IfSome (after_keep told true entry) (λ now. with_entries now left ≡ whole)
all_on None entry left whole h = tt
all_on (Some now) entry left whole h = h

-- a call that was refused was counted
went_through : {T E : Type 0} (old new : ℕ) (r : Result T E) → HasCause old new r
    → (Rose old new → ⊥) → is_ok r ≡ true
went_through old new (Ok x) cause calm = refl
went_through old new (Err e) cause calm = absurd (calm cause.failed)

pub all_next : {T E : Type 0} (started told new : Told) (first old now : ℕ) (r : Result T E)
    (entry : CacheEntry) (left kept : List CacheEntry) → first ≤ old → HasCause old now r
    → new ≡ after_keep told (is_ok r) entry
    → IfSome started (λ entries. (Rose first old → ⊥)
    → IfSome told (λ so_far. with_entries so_far (entry ∷ left) ≡ with_entries entries kept))
    → IfSome started (λ entries. (Rose first now → ⊥)
    → IfSome new (λ so_far. with_entries so_far left ≡ with_entries entries kept))
all_next None told new first old now r entry left kept since cause is h = tt
all_next (Some entries) told new first old now r entry left kept since cause is h = λ calm.
    let later = cause.later in
    let before : Rose first old → ⊥ = λ rose. calm (omega (arith, rose, later)) in
    let own : Rose old now → ⊥ = λ rose. calm (omega (arith, rose, since)) in
    let went = went_through old now r cause own in
    subst (λ o. IfSome o (λ so_far. with_entries so_far left ≡ with_entries entries kept))
    (sym (is ∙ ap (λ b. after_keep told b entry) went))
    (all_on told entry left (with_entries entries kept) (h before))

-- ---- all of them

module _ (kept : List CacheEntry) (i : ℕ) (entry : CacheEntry) (within : i < length kept)
    (at : entry ≡ get_or kept i entry) where
  front : drop i kept ≡ entry ∷ drop (i + 1) kept
  front = drop_more kept i entry within ∙ ap (λ x. x ∷ drop (i + 1) kept) (sym at)

  pub some_more : {T E : Type 0} (started told new : Told) (first old now : ℕ) (r : Result T E)
      → HasCause old now r → new ≡ after_keep told (is_ok r) entry
      → TellsPuts first old kept (drop i kept) started told
      → TellsPuts first now kept (drop (i + 1) kept) started new
  some_more started told new first old now r cause is h =
      some_next started told new first old now r entry (drop (i + 1) kept) kept cause is
      (subst (λ (l : List CacheEntry). TellsPuts first old kept l started told) front h)

  pub all_more : {T E : Type 0} (started told new : Told) (first old now : ℕ) (r : Result T E)
      → first ≤ old → HasCause old now r → new ≡ after_keep told (is_ok r) entry
      → IfSome started (λ entries. (Rose first old → ⊥)
      → IfSome told (λ so_far. with_entries so_far (drop i kept) ≡ with_entries entries kept))
      → IfSome started (λ entries. (Rose first now → ⊥)
      → IfSome new (λ so_far.
      with_entries so_far (drop (i + 1) kept) ≡ with_entries entries kept))
  all_more started told new first old now r since cause is h =
      all_next started told new first old now r entry (drop (i + 1) kept) kept since cause is
      (subst (λ (l : List CacheEntry). IfSome started (λ entries. (Rose first old → ⊥)
      → IfSome told (λ so_far. with_entries so_far l ≡ with_entries entries kept))) front h)

-- at the end none is left
none_behind : (kept : List CacheEntry) (i : ℕ) → length kept ≤ i → drop i kept ≡ []
none_behind kept i past = drop_all i kept past

each_some : (first last : ℕ) (kept left : List CacheEntry) (started told : Told) → left ≡ []
    → TellsPuts first last kept left started told
    → IfSome started (λ entries. IfSome told (KeptUnlessFailed first last entries kept))
each_some first last kept left None told end h = tt
each_some first last kept left (Some entries) None end h = tt
each_some first last kept left (Some entries) (Some now) end h =
    let none : h.0 + 0 ≡ h.0 = omega arith in (
      h.0,
      h.1,
      subst (λ (n : ℕ). WereKept n entries kept now) none
          (h.2 now 0 (subst (λ (l : List CacheEntry). WereKept 0 now l now) (sym end) refl)),
    )

pub some_end : (first last : ℕ) (kept : List CacheEntry) (i : ℕ) (started told : Told)
    → length kept ≤ i → TellsPuts first last kept (drop i kept) started told
    → IfSome started (λ entries. IfSome told (KeptUnlessFailed first last entries kept))
some_end first last kept i started told past h =
    each_some first last kept (drop i kept) started told (none_behind kept i past) h

told_whole : (kept left entries : List CacheEntry) (told : Told) → left ≡ []
    → is_some told ≡ true
    → IfSome told (λ now. with_entries now left ≡ with_entries entries kept)
    → told ≡ Some (with_entries entries kept)
told_whole kept left entries None end some h = cc
told_whole kept left entries (Some now) end some h =
    ap Some (ap (with_entries now) (sym end) ∙ h)

pub all_end : (kept : List CacheEntry) (i : ℕ) (started told : Told) (first last : ℕ)
    → length kept ≤ i → is_some told ≡ is_some started
    → IfSome started (λ entries. (Rose first last → ⊥)
    → IfSome told (λ now. with_entries now (drop i kept) ≡ with_entries entries kept))
    → IfSome started (λ entries. (Rose first last → ⊥)
    → told ≡ Some (with_entries entries kept))
all_end kept i None told first last past same h = tt
all_end kept i (Some entries) told first last past same h = λ calm.
    told_whole kept (drop i kept) entries told (none_behind kept i past) same (h calm)
