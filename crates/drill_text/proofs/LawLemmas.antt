-- Which texts spell which drill.
use Rattle.std.proofs.Common.{◌≡◌, ◌≢◌, ◌∙◌, ◌<◌, ◌≤◌, ◌^◌, ◌==◌, ◌++◌, ◌⊎◌, ℕ, true, false, List, [], ◌∷◌, length, map, Option, Some, None, refl, sym, ap, ap₂, subst, inl, inr, arith}
use Rattle.std.specs.Prelude.{decimal, if◌then◌else◌}
use Rattle.std.specs.Char.{is_ascii_digit}
use Rattle.std.specs.List.{All, join_with_byte, position_or_len}
use Rattle.std.specs.Option.{option_or}
use Rattle.std.specs.Str.{all_ascii_digits}
use Rattle.std.proofs.lemmas.Fmt.{digits_decimal}
use Rattle.std.proofs.lemmas.List.{length-map}
use Rattle.std.proofs.lemmas.List.Elements.{All-append, All-cons, All-head, All-nil, All-tail}
use Rattle.std.proofs.lemmas.List.Splits.{join_with_byte-slice_split, length-slice_split, slice_split_at, slice_split_none}
use Rattle.outside.specs.declared.host.Phase.{Phase}
use Rattle.outside.specs.declared.host.Phase.TheVariants.{Map, Reduce}
use Rattle.crew.specs.declared.drill.Entry.{Entry}
use Rattle.run_settings.specs.Limits.{most_tries}
use Rattle.int_text.proofs.IntFacts.{own}
use Rattle.drill_text.specs.Numbers.{most_number, number_in, number_up_to}
use Rattle.drill_text.specs.Drills.{◌>>=◌, until_sign, beyond_sign, comma, dot, drill_in, entries_in, entry_in, entry_of, is_drill, letter_of, drill_parts}
use Rattle.drill_text.specs.Spelled.{IsNamed, Spells, drill_text, entry_text}
use Rattle.drill_text.proofs.CutLemmas.{around_sign, before_sign, behind_sign, no_digit}
use Rattle.drill_text.proofs.DrillLemmas.{drill_may, may_drill}
use Rattle.drill_text.proofs.EntryLemmas.{no_dot, nothing_behind}
use Rattle.drill_text.proofs.NumberLemmas.{both, chosen, number_spelled, spelled_number, spelled_up_to, up_to_spelled}

-- what was made of something
binds : {A B : Type 0} (m : Option A) (f : A → Option B) (y : B) → (m >>= f) ≡ Some y
    → (x : A) × (m ≡ Some x) × (f x ≡ Some y)
binds (Some x) f y is = (x, refl, is)
binds None f y is = cc is

digits : (n : ℕ) → n < 10 ^ 9 → all_ascii_digits (decimal n) ≡ true
digits n small = digits_decimal own n (omega arith)

letter_no_digit : (phase : Phase) → is_ascii_digit (letter_of phase) ≡ false
letter_no_digit Map = refl
letter_no_digit Reduce = refl

-- ---- an entry from its parts

abbrev made : Phase → ℕ → ℕ → ℕ → Entry
made phase s t a = record { stage = s; phase = phase; task = t; attempt = a }

abbrev with_attempt : Phase → List ℕ → ℕ → ℕ → Option Entry
with_attempt phase attempt s t =
    number_up_to most_tries attempt >>= (λ a. Some (made phase s t a))

abbrev with_task : Phase → List ℕ → List ℕ → ℕ → Option Entry
with_task phase task attempt s = number_in task >>= with_attempt phase attempt s

abbrev entry_from : Phase → List ℕ → List ℕ → List ℕ → Option Entry
entry_from phase stage task attempt =
    number_up_to most_number stage >>= with_task phase task attempt

-- the numbers that the parts spell
record IsFrom (phase : Phase) (stage task attempt : List ℕ) (e : Entry) : Type 0 where
  named : IsNamed e
  is_phase : e.phase ≡ phase
  is_stage : stage ≡ decimal e.stage
  is_task : task ≡ decimal e.task
  is_attempt : attempt ≡ decimal e.attempt
  some : attempt ≢ []

some_number : (text : List ℕ) (n : ℕ) → number_in text ≡ Some n → text ≢ []
some_number text n is none = cc (ap number_in none, is)

from_parts : (phase : Phase) (stage task attempt : List ℕ) (e : Entry)
    → entry_from phase stage task attempt ≡ Some e → IsFrom phase stage task attempt e
from_parts phase stage task attempt e is =
    let s = binds (number_up_to most_number stage) (with_task phase task attempt) e is in
    let t = binds (number_in task) (with_attempt phase attempt s.0) e s.2 in
    let a = binds (number_up_to most_tries attempt) (λ a. Some (made phase s.0 t.0 a)) e t.2 in
    let whole : made phase s.0 t.0 a.0 ≡ e = cc a.2 in
    let of_stage = spelled_up_to most_number stage s.0 s.1 in
    let of_attempt = spelled_up_to most_tries attempt a.0 a.1 in
    let of_task = spelled_number task t.0 t.1 in
    subst (IsFrom phase stage task attempt) whole (record {
      named = record {
        stage = of_stage.1;
        task = omega (arith, of_task.1);
        attempt = of_attempt.1;
      };
      is_phase = refl;
      is_stage = (spelled_number stage s.0 of_stage.0).0;
      is_task = of_task.0;
      is_attempt = (spelled_number attempt a.0 of_attempt.0).0;
      some = some_number attempt a.0 of_attempt.0;
    })

to_parts : (e : Entry) → IsNamed e
    → entry_from e.phase (decimal e.stage) (decimal e.task) (decimal e.attempt) ≡ Some e
to_parts e named =
    rw (
      up_to_spelled most_number e.stage named.stage (omega (arith, named.stage.1)),
      number_spelled e.task (omega (arith, named.task)),
      up_to_spelled most_tries e.attempt named.attempt (omega (arith, named.attempt.1)),
    ) refl

-- ---- a sign that a text lacks

abbrev Lacks : ℕ → List ℕ → Type 0
Lacks sign = All (λ b. (b == sign) ≡ false)

nowhere : (sign : ℕ) (text : List ℕ) → Lacks sign text
    → position_or_len (λ b. b == sign) text ≡ length text
nowhere sign [] lacks = refl
nowhere sign (b ∷ text) lacks =
    let rest = nowhere sign text (All-tail (λ b. (b == sign) ≡ false) b text lacks) in
    rw (All-head (λ b. (b == sign) ≡ false) b text lacks) (omega (arith, rest))

digits_lack : (sign : ℕ) (ds : List ℕ) → is_ascii_digit sign ≡ false → all_ascii_digits ds ≡ true
    → Lacks sign ds
digits_lack sign [] other is = All-nil (λ b. (b == sign) ≡ false)
digits_lack sign (d ∷ ds) other is =
    let halves = both _ _ is in
    All-cons (λ b. (b == sign) ≡ false) d ds (no_digit sign d other halves.0)
    (digits_lack sign ds other halves.1)

text_lacks : (sign : ℕ) (e : Entry) → IsNamed e → is_ascii_digit sign ≡ false
    → (letter_of e.phase == sign) ≡ false → (dot == sign) ≡ false → Lacks sign (entry_text e)
text_lacks sign e named other no_letter no_dot =
    let P = λ (b : ℕ). (b == sign) ≡ false in
    let stage : Lacks sign (decimal e.stage) =
    digits_lack sign _ other (digits e.stage (omega (arith, named.stage.1))) in
    let task : Lacks sign (decimal e.task) =
    digits_lack sign _ other (digits e.task (omega (arith, named.task))) in
    let attempt : Lacks sign (decimal e.attempt) =
    digits_lack sign _ other (digits e.attempt (omega (arith, named.attempt.1))) in
    All-append P (decimal e.stage) _ stage
    (All-cons P (letter_of e.phase) _ no_letter
    (All-append P (decimal e.task) _ task (All-cons P dot (decimal e.attempt) no_dot attempt)))

letter_no_comma : (p : Phase) → (letter_of p == comma) ≡ false
letter_no_comma Map = refl
letter_no_comma Reduce = refl

comma_lacks : (e : Entry) → IsNamed e → Lacks comma (entry_text e)
comma_lacks e named = text_lacks comma e named refl (letter_no_comma e.phase) refl

-- ---- the text of an entry

spelled_of : (phase : Phase) (text : List ℕ) (e : Entry) → entry_of phase text ≡ Some e
    → (text ≡ entry_text e) × IsNamed e
spelled_of phase text e is =
    let sign = letter_of phase in
    let rest = beyond_sign sign text in
    let from =
    from_parts phase (until_sign sign text) (until_sign dot rest) (beyond_sign dot rest) e is in
    let dots = around_sign dot rest from.some in
    let signs = around_sign sign text (λ none. from.some (ap (beyond_sign dot) none)) in (
      signs
          ∙ ap₂ (λ (x y : List ℕ). x ++ sign ∷ y) from.is_stage
          (dots ∙ ap₂ (λ (x y : List ℕ). x ++ dot ∷ y) from.is_task from.is_attempt)
          ∙ ap (λ p. decimal e.stage ++ letter_of p ∷ (decimal e.task ++ dot ∷ decimal e.attempt))
          (sym from.is_phase),
      from.named,
    )

of_spelled : (e : Entry) → IsNamed e → entry_of e.phase (entry_text e) ≡ Some e
of_spelled e named =
    let sign = letter_of e.phase in
    let rest = decimal e.task ++ dot ∷ decimal e.attempt in
    let no_sign = letter_no_digit e.phase in
    let stage = digits e.stage (omega (arith, named.stage.1)) in
    let task = digits e.task (omega (arith, named.task)) in
    let there = behind_sign sign (decimal e.stage) rest no_sign stage in
    ap₂ (λ (x y : List ℕ). entry_from e.phase x (until_sign dot y) (beyond_sign dot y))
    (before_sign sign (decimal e.stage) rest no_sign stage) there
    ∙ ap₂ (entry_from e.phase (decimal e.stage))
    (before_sign dot (decimal e.task) (decimal e.attempt) refl task)
    (behind_sign dot (decimal e.task) (decimal e.attempt) refl task)
    ∙ to_parts e named

-- the text of a reduce task's attempt has no letter of a map task's
not_of_map : (e : Entry) → IsNamed e → e.phase ≡ Reduce → entry_of Map (entry_text e) ≡ None
not_of_map e named reduce =
    let lacks = text_lacks (letter_of Map) e named refl
    (ap (λ (p : Phase). letter_of p == letter_of Map) reduce) refl in
    no_dot Map (entry_text e) []
    (sym (nothing_behind (letter_of Map) (entry_text e)
    (nowhere (letter_of Map) (entry_text e) lacks)))
    refl

either : {A : Type 0} (m n : Option A) (y : A) → option_or m n ≡ Some y
    → (m ≡ Some y) ⊎ (n ≡ Some y)
either (Some x) n y is = inl is
either None n y is = inr is

entry_spelled : (text : List ℕ) (e : Entry) → entry_in text ≡ Some e
    → (text ≡ entry_text e) × IsNamed e
entry_spelled text e is = elim (either (entry_of Map text) (entry_of Reduce text) e is) [
  | inl map ↦ spelled_of Map text e map
  | inr reduce ↦ spelled_of Reduce text e reduce
]

of_phase : (p : Phase) → (p ≡ Map) ⊎ (p ≡ Reduce)
of_phase Map = inl refl
of_phase Reduce = inr refl

spelled_entry : (e : Entry) → IsNamed e → entry_in (entry_text e) ≡ Some e
spelled_entry e named = elim (of_phase e.phase) [
  | inl map ↦
      ap (λ m. option_or m (entry_of Reduce (entry_text e)))
      (subst (λ (p : Phase). entry_of p (entry_text e) ≡ Some e) map (of_spelled e named))
  | inr reduce ↦
      ap₂ option_or (not_of_map e named reduce)
      (subst (λ (p : Phase). entry_of p (entry_text e) ≡ Some e) reduce (of_spelled e named))
]

-- ---- the texts of entries

texts_of : (ts : List (List ℕ)) (es : List Entry) → entries_in ts ≡ Some es
    → (ts ≡ map entry_text es) × All IsNamed es
texts_of [] [] is = (refl, All-nil IsNamed)
texts_of [] (e ∷ es) is = cc is
texts_of (t ∷ ts) es is =
    let first = binds (entry_in t) (λ e. entries_in ts >>= (λ rest. Some (e ∷ rest))) es is in
    let rest = binds (entries_in ts) (λ rest. Some (first.0 ∷ rest)) es first.2 in
    let whole : first.0 ∷ rest.0 ≡ es = cc rest.2 in
    let one = entry_spelled t first.0 first.1 in
    let more = texts_of ts rest.0 rest.1 in
    subst (λ (all : List Entry). (t ∷ ts ≡ map entry_text all) × All IsNamed all) whole (
      ap₂ (λ (x : List ℕ) (xs : List (List ℕ)). x ∷ xs) one.0 more.0,
      All-cons IsNamed first.0 rest.0 one.1 more.1,
    )

of_texts : (es : List Entry) → All IsNamed es → entries_in (map entry_text es) ≡ Some es
of_texts [] named = refl
of_texts (e ∷ es) named =
    let first = spelled_entry e (All-head IsNamed e es named) in
    rw (first, of_texts es (All-tail IsNamed e es named)) refl

-- ---- the parts between commas

parts_joined : (es : List Entry) → All IsNamed es → 1 ≤ length es
    → drill_parts (drill_text es) ≡ map entry_text es
parts_joined [] named some = absurd (omega arith)
parts_joined (e ∷ []) named some =
    slice_split_none (λ b. b == comma) (entry_text e) (comma_lacks e (All-head IsNamed e [] named))
parts_joined (e ∷ f ∷ es) named some =
    slice_split_at (λ b. b == comma) (entry_text e) comma (drill_text (f ∷ es))
    (comma_lacks e (All-head IsNamed e (f ∷ es) named)) refl
    ∙ ap (λ (rest : List (List ℕ)). entry_text e ∷ rest)
    (parts_joined (f ∷ es) (All-tail IsNamed e (f ∷ es) named) (omega arith))

-- ---- the law

pub drill_spells : (text : List ℕ) (es : List Entry) → drill_in text ≡ Some es → Spells text es
drill_spells text es is =
    let all =
    binds (entries_in (drill_parts text)) (λ es. if is_drill es then Some es else None) es is in
    let may = chosen (is_drill all.0) all.0 es all.2 in
    let named : entries_in (drill_parts text) ≡ Some es = all.1 ∙ ap Some may.1 in
    let texts = texts_of (drill_parts text) es named in
    record {
      is = sym (join_with_byte-slice_split comma text) ∙ ap (join_with_byte comma) texts.0;
      some = omega (
        arith,
        length-slice_split (λ b. b == comma) text,
        ap length texts.0,
        length-map es entry_text,
      );
      named = texts.1;
      drill = drill_may es (subst (λ (xs : List Entry). is_drill xs ≡ true) may.1 may.0);
    }

pub spells_drill : (text : List ℕ) (es : List Entry) → Spells text es → drill_in text ≡ Some es
spells_drill text es spells =
    rw spells.is
    (rw (parts_joined es spells.named spells.some, of_texts es spells.named)
    (rw (may_drill es spells.drill) refl))
