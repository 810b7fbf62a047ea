-- What is found under a key.
use Rattle.std.proofs.Common.{◌≡◌, ◌⊎◌, inl, inr, ⊎_elim, ℕ, suc, ◌+◌, ◌<◌, ◌≤◌, Bool, false, List, [], ◌∷◌, ◌++◌, length, take, drop, get_or, append_assoc, append-nil}
use Rattle.std.proofs.Common.{Option, Some, None, refl, sym, ap, ◌∙◌, subst, arith}
use Rattle.std.specs.Prelude.{◌↔◌, IfSome}
use Rattle.std.specs.Bool.{IsTrue}
use Rattle.std.specs.List.{AllZip}
use Rattle.std.proofs.lemmas.Bool.{cases_lt}
use Rattle.std.proofs.lemmas.List.{drop_all, drop_more, take_more}
use Rattle.flume_value.specs.declared.value.Value.{Value}
use Rattle.cache_store.specs.declared.entry.CacheEntry.{CacheEntry}
use Rattle.saved_results.specs.Saved.{saved_value}
use Rattle.saved_results.specs.declared.saved.Saved.{Saved}
use Rattle.outside.specs.Cause.{Rose, RoseBy, raised}
use Rattle.script_program.specs.Script.{Script}
use Rattle.value_reading.specs.Written.{IsCanonical}
use Rattle.saved_meaning.proofs.of_direct_meaning.PlaceLemmas.{zip_more}
use Rattle.saved_meaning.specs.Found.{marked_ones}
use Rattle.kept_results.specs.Kept.{AreFound, AreKept, Finds, FindsBut, FindsEach, FindsUnlessFailed, IsFound, IsKeptOf}
use Rattle.kept_results.proofs.SameLemmas.{saved_same}

-- ---- these bytes

module _ (script : Script) (number : ℕ) (bytes : List ℕ) where
  -- what they keep may not be kept
  pub not_kept : ((v w : Value) (bytes : List ℕ) → IsCanonical v bytes → IsCanonical w bytes
      → v ≡ w) → (saved : Saved) (is : Bool) → IsCanonical (saved_value saved) bytes
      → (IsTrue is ↔ IsKeptOf script number saved) → is ≡ false → (other : Saved)
      → IsCanonical (saved_value other) bytes → IsKeptOf script number other → ⊥
  not_kept once saved is written tells no_ other own kept =
      let same =
      saved_same saved other (once (saved_value saved) (saved_value other) bytes written own) in
      let here = tells.1 (subst (IsKeptOf script number) (sym same) kept) in
      cc

-- ---- one after the other

pub zip_next : {A B : Type 0} (R : A → B → Type 0) (xs : List A) (i : ℕ) (x : A) (ys new : List B)
    (y : B) → i < length xs → x ≡ get_or xs i x → new ≡ ys ++ y ∷ [] → R x y
    → AllZip R (take i xs) ys → AllZip R (take (i + 1) xs) new
zip_next R xs i x ys new y within at is own so_far =
    subst (λ l. AllZip R l new)
    (sym (take_more xs i x within ∙ ap (λ z. take i xs ++ z ∷ []) (sym at)))
    (subst (AllZip R (take i xs ++ x ∷ [])) (sym is)
    (zip_more R (take i xs) ys x y so_far own))

-- what is found of one more that is asked for
module _ (script : Script) (asked : List (ℕ × List ℕ)) (i : ℕ) (it : ℕ × List ℕ)
    (looked new : List (Option Saved)) (found : Option Saved) (within : i < length asked)
    (at : it ≡ get_or asked i it) (is : new ≡ looked ++ found ∷ []) where
  pub kept_next : IfSome found (IsKeptOf script it.0) → AreKept script (take i asked) looked
      → AreKept script (take (i + 1) asked) new
  kept_next own so_far =
      zip_next (λ (x : ℕ × List ℕ) (o : Option Saved). IfSome o (IsKeptOf script x.0)) asked i it
      looked new found within at is own so_far

  pub found_next : (told first : Option (List CacheEntry)) → told ≡ first
      → IfSome told (λ entries. IfSome found (IsFound script it.0 it.1 entries))
      → IfSome first (λ entries. AreFound script entries (take i asked) looked)
      → IfSome first (λ entries. AreFound script entries (take (i + 1) asked) new)
  found_next told None same own so_far = tt
  found_next told (Some entries) same own so_far =
      zip_next
      (λ (x : ℕ × List ℕ) (o : Option Saved). IfSome o (IsFound script x.0 x.1 entries)) asked i
      it looked new found within at is
      (subst (λ (t : Option (List CacheEntry)).
      IfSome t (λ es. IfSome found (IsFound script it.0 it.1 es))) same own) so_far

  pub finds_next : (told first : Option (List CacheEntry)) (start old now : ℕ) → told ≡ first
      → start ≤ old → old ≤ now
      → IfSome told (λ entries. (Rose old now → ⊥) → Finds script it.0 it.1 entries found)
      → IfSome first (λ entries. (Rose start old → ⊥)
      → FindsEach script entries (take i asked) looked)
      → IfSome first (λ entries. (Rose start now → ⊥)
      → FindsEach script entries (take (i + 1) asked) new)
  finds_next told None start old now same since later own so_far = tt
  finds_next told (Some entries) start old now same since later own so_far = λ calm.
      let here = subst (λ (t : Option (List CacheEntry)).
      IfSome t (λ es. (Rose old now → ⊥) → Finds script it.0 it.1 es found)) same own in
      zip_next (λ (x : ℕ × List ℕ) (o : Option Saved). Finds script x.0 x.1 entries o) asked i it
      looked new found within at is
      (here (λ rose. calm (omega (arith, rose, since))))
      (so_far (λ rose. calm (omega (arith, rose, later))))

pub found_start : (script : Script) (told : Option (List CacheEntry))
    → IfSome told (λ entries. AreFound script entries [] [])
found_start script None = tt
found_start script (Some entries) = tt

pub finds_start : (script : Script) (first : ℕ) (told : Option (List CacheEntry))
    → IfSome told (λ entries. (Rose first first → ⊥) → FindsEach script entries [] [])
finds_start script first None = tt
finds_start script first (Some entries) = λ calm. tt

-- ---- but for those for which the cache has failed

-- so far just what may be kept was found, but for some: with what is found of those that are left
-- it is so of all
abbrev pub Looks : ℕ → ℕ → Script → List CacheEntry → List (ℕ × List ℕ) → List (ℕ × List ℕ)
    → List (Option Saved) → Type 0
Looks first last script entries asked left looked =
    (lost : ℕ) × RoseBy lost first last
    × ((rest : List (Option Saved)) (more : ℕ) → FindsBut more script entries left rest
    → FindsBut (lost + more) script entries asked (looked ++ rest))

-- the same where entries are told
abbrev pub TellsLooks : ℕ → ℕ → Script → List (ℕ × List ℕ) → List (ℕ × List ℕ)
    → Option (List CacheEntry) → List (Option Saved) → Type 0
TellsLooks first last script asked left told looked =
    IfSome told (λ entries. Looks first last script entries asked left looked)

pub looks_start : (first : ℕ) (script : Script) (asked : List (ℕ × List ℕ))
    (told : Option (List CacheEntry)) → TellsLooks first first script asked asked told []
looks_start first script asked None = tt
looks_start first script asked (Some entries) = (
  0,
  omega arith,
  λ rest more finds.
      let same : more ≡ 0 + more = omega arith in
      subst (λ (n : ℕ). FindsBut n script entries asked rest) same finds,
)

-- what was found of one is just what may be kept, or nothing, and the cache has failed
found_or_failed : (script : Script) (it : ℕ × List ℕ) (entries : List CacheEntry)
    (found : Option Saved) (old now : ℕ) → IfSome found (IsFound script it.0 it.1 entries)
    → ((Rose old now → ⊥) → Finds script it.0 it.1 entries found)
    → Finds script it.0 it.1 entries found ⊎ ((found ≡ None) × Rose old now)
found_or_failed script it entries (Some saved) old now is finds =
    inl (record { some = is; none = tt })
found_or_failed script it entries None old now is finds =
    ⊎_elim (λ past. inl (finds (λ rose. omega (arith, rose, past))))
    (λ rose. inr (refl, rose)) (cases_lt now (raised old))

looks_on : (script : Script) (entries : List CacheEntry) (asked left : List (ℕ × List ℕ))
    (it : ℕ × List ℕ) (looked : List (Option Saved)) (found : Option Saved) (first old now : ℕ)
    → old ≤ now → Finds script it.0 it.1 entries found ⊎ ((found ≡ None) × Rose old now)
    → Looks first old script entries asked (it ∷ left) looked
    → Looks first now script entries asked left (looked ++ found ∷ [])
looks_on script entries asked left it looked found first old now later (inl finds) so_far = (
  so_far.0,
  omega (arith, so_far.1, later),
  λ rest more is.
      subst (FindsBut (so_far.0 + more) script entries asked)
      (sym (append_assoc looked (found ∷ []) rest))
      (so_far.2 (found ∷ rest) more (inl (finds, is))),
)
looks_on script entries asked left it looked found first old now later (inr failed) so_far =
    let rose : Rose old now = failed.1 in (
      suc so_far.0,
      omega (arith, so_far.1, rose),
      λ rest more is.
          let moved : so_far.0 + suc more ≡ suc so_far.0 + more = omega arith in
          subst (λ (n : ℕ). FindsBut n script entries asked ((looked ++ found ∷ []) ++ rest)) moved
          (subst (FindsBut (so_far.0 + suc more) script entries asked)
          (sym (append_assoc looked (found ∷ []) rest))
          (so_far.2 (found ∷ rest) (suc more) (inr (more, refl, failed.0, is)))),
    )

module _ (script : Script) (asked : List (ℕ × List ℕ)) (i : ℕ) (it : ℕ × List ℕ)
    (looked new : List (Option Saved)) (found : Option Saved) (within : i < length asked)
    (at : it ≡ get_or asked i it) (is : new ≡ looked ++ found ∷ []) where
  pub looks_next : (told first : Option (List CacheEntry)) (start old now : ℕ) → told ≡ first
      → old ≤ now → IfSome told (λ entries. IfSome found (IsFound script it.0 it.1 entries))
      → IfSome told (λ entries. (Rose old now → ⊥) → Finds script it.0 it.1 entries found)
      → TellsLooks start old script asked (drop i asked) first looked
      → TellsLooks start now script asked (drop (i + 1) asked) first new
  looks_next told None start old now same later own finds so_far = tt
  looks_next told (Some entries) start old now same later own finds so_far =
      let found_here = subst (λ (t : Option (List CacheEntry)).
      IfSome t (λ es. IfSome found (IsFound script it.0 it.1 es))) same own in
      let finds_here = subst (λ (t : Option (List CacheEntry)).
      IfSome t (λ es. (Rose old now → ⊥) → Finds script it.0 it.1 es found)) same finds in
      let front : drop i asked ≡ it ∷ drop (i + 1) asked
      = drop_more asked i it within ∙ ap (λ x. x ∷ drop (i + 1) asked) (sym at) in
      subst (Looks start now script entries asked (drop (i + 1) asked)) (sym is)
      (looks_on script entries asked (drop (i + 1) asked) it looked found start old now later
      (found_or_failed script it entries found old now found_here finds_here)
      (subst (λ (l : List (ℕ × List ℕ)). Looks start old script entries asked l looked) front
      so_far))

looks_all : (first last : ℕ) (script : Script) (asked left : List (ℕ × List ℕ))
    (told : Option (List CacheEntry)) (looked : List (Option Saved)) → left ≡ []
    → TellsLooks first last script asked left told looked
    → IfSome told (λ entries. FindsUnlessFailed first last script entries asked looked)
looks_all first last script asked left None looked none so_far = tt
looks_all first last script asked left (Some entries) looked none so_far =
    let same : so_far.0 + 0 ≡ so_far.0 = omega arith in (
      so_far.0,
      so_far.1,
      subst (λ (n : ℕ). FindsBut n script entries asked looked) same
          (subst (FindsBut (so_far.0 + 0) script entries asked) (append-nil looked)
          (so_far.2 [] 0
          (subst (λ (l : List (ℕ × List ℕ)). FindsBut 0 script entries l []) (sym none) tt))),
    )

pub looks_end : (first last : ℕ) (script : Script) (asked : List (ℕ × List ℕ)) (i : ℕ)
    (told : Option (List CacheEntry)) (looked : List (Option Saved)) → length asked ≤ i
    → TellsLooks first last script asked (drop i asked) told looked
    → IfSome told (λ entries. FindsUnlessFailed first last script entries asked looked)
looks_end first last script asked i told looked past so_far =
    looks_all first last script asked (drop i asked) told looked (drop_all i asked past) so_far

-- ---- the next rows

none_left : {X : Type 0} (marks : List Bool) (xs : List X) → xs ≡ [] → marked_ones marks xs ≡ []
none_left [] xs e = refl
none_left (mark ∷ marks) [] e = refl
none_left (mark ∷ marks) (x ∷ xs) e = cc

pub none_given : {X : Type 0} (needed : Bool) (marks : List Bool) (old before rest : List X)
    → before ≡ [] → rest ≡ []
    → old ++ marked_ones marks rest ≡ old ++ marked_ones (needed ∷ marks) before
none_given needed marks old before rest a b =
    ap (λ l. old ++ l) (none_left marks rest b ∙ sym (none_left (needed ∷ marks) before a))
