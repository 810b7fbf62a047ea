-- Which entries a drill may have.
use Rattle.std.proofs.Common.{◌≡◌, ◌∙◌, ◌&&◌, ◌||◌, ℕ, Bool, true, false, not, List, [], ◌∷◌, length, refl, sym, ap, arith}
use Rattle.std.specs.Prelude.{nat_le}
use Rattle.std.specs.Bool.{Decides}
use Rattle.std.specs.List.{AllByRecursion, IsDistinct, list_any}
use Rattle.std.proofs.lemmas.Bool.Decides.{Decides-eqb, nat_tests}
use Rattle.std.proofs.lemmas.Map.Made.{AllPairs-from_IsDistinct, IsDistinct-from_AllPairs}
use Rattle.outside.specs.declared.host.Phase.{Phase}
use Rattle.outside.specs.declared.host.Phase.TheVariants.{Map, Reduce}
use Rattle.crew.specs.declared.drill.Entry.{Entry}
use Rattle.crew.specs.Drills.{names, same_phase}
use Rattle.run_settings.specs.Limits.{IsDrill, most_entries}
use Rattle.drill_text.specs.Drills.{are_apart, is_drill}
use Rattle.drill_text.proofs.NumberLemmas.{at_most, both}

-- ---- an entry names itself alone

phases_decide : (a b : Phase) → Decides (same_phase a b) (a ≡ b)
phases_decide Map Map = (λ e. refl, λ e. refl)
phases_decide Map Reduce = (λ e. cc e, λ e. cc e)
phases_decide Reduce Map = (λ e. cc e, λ e. cc e)
phases_decide Reduce Reduce = (λ e. refl, λ e. refl)

abbrev entry : ℕ → Phase → ℕ → ℕ → Entry
entry s p t a = record { stage = s; phase = p; task = t; attempt = a }

entry_by : (a b : Entry) → b.stage ≡ a.stage → b.phase ≡ a.phase → b.task ≡ a.task
    → b.attempt ≡ a.attempt → a ≡ b
entry_by a b stage phase task attempt =
    ap (λ s. entry s a.phase a.task a.attempt) (sym stage)
    ∙ ap (λ p. entry b.stage p a.task a.attempt) (sym phase)
    ∙ ap (λ t. entry b.stage b.phase t a.attempt) (sym task)
    ∙ ap (entry b.stage b.phase b.task) (sym attempt)

named : (a b : Entry) → names a b ≡ true → a ≡ b
named a b is =
    let halves = both _ _ is in
    let first = both _ _ halves.0 in
    let second = both _ _ halves.1 in
    entry_by a b ((Decides-eqb b.stage a.stage).0 first.0)
    ((phases_decide b.phase a.phase).0 first.1)
    ((Decides-eqb b.task a.task).0 second.0) ((Decides-eqb b.attempt a.attempt).0 second.1)

all_true : (a b c d : Bool) → a ≡ true → b ≡ true → c ≡ true → d ≡ true
    → ((a && b) && (c && d)) ≡ true
all_true a b c d p q r s = rw (p, q, r, s) refl

names_itself : (a : Entry) → names a a ≡ true
names_itself a = all_true _ _ _ _ ((Decides-eqb a.stage a.stage).1 refl)
    ((phases_decide a.phase a.phase).1 refl) ((Decides-eqb a.task a.task).1 refl)
    ((Decides-eqb a.attempt a.attempt).1 refl)

names_decide : (a b : Entry) → Decides (names a b) (a ≡ b)
names_decide a b = (named a b, λ e. ap (names a) (sym e) ∙ names_itself a)

-- ---- none comes again

-- neither of two tests
pub neither : (a b : Bool) → (a || b) ≡ false → (a ≡ false) × (b ≡ false)
neither true b h = cc h
neither false b h = (refl, h)

passes_none : {A : Type 0} (p : A → Bool) (xs : List A) → list_any p xs ≡ false
    → AllByRecursion (λ x. p x ≡ false) xs
passes_none p [] none = tt
passes_none p (x ∷ xs) none =
    let apart = neither _ _ none in (apart.0, passes_none p xs apart.1)

none_passes : {A : Type 0} (p : A → Bool) (xs : List A) → AllByRecursion (λ x. p x ≡ false) xs
    → list_any p xs ≡ false
none_passes p [] none = refl
none_passes p (x ∷ xs) none = rw none.0 (none_passes p xs none.1)

is_not : (b : Bool) → not b ≡ true → b ≡ false
is_not true e = cc e
is_not false e = refl

apart_distinct : (es : List Entry) → are_apart es ≡ true → IsDistinct names es
unfolding IsDistinct
apart_distinct [] is = tt
apart_distinct (e ∷ es) is =
    let parts = both _ _ is in
    (passes_none (names e) es (is_not _ parts.0), apart_distinct es parts.1)

distinct_apart : (es : List Entry) → IsDistinct names es → are_apart es ≡ true
unfolding IsDistinct
distinct_apart [] is = refl
distinct_apart (e ∷ es) is = rw (none_passes (names e) es is.0) (distinct_apart es is.1)

-- ---- the test is what it says

pub drill_may : (es : List Entry) → is_drill es ≡ true → IsDrill es
drill_may es is =
    let parts = both _ _ is in
    record {
      few = at_most _ _ parts.0;
      differ = AllPairs-from_IsDistinct names_decide es (apart_distinct es parts.1);
    }

pub may_drill : (es : List Entry) → IsDrill es → is_drill es ≡ true
may_drill es may =
    let few : nat_le (length es) most_entries ≡ true = grind (arith, nat_tests, may.few) in
    rw few (distinct_apart es (IsDistinct-from_AllPairs names_decide es may.differ))
