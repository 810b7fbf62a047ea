-- Which entries texts name.
use Rattle.std.proofs.Common.{◌≡◌, ◌∙◌, ◌<◌, ◌+◌, ◌==◌, ◌++◌, ℕ, List, [], ◌∷◌, length, Option, Some, None, refl, sym, ap, arith, lit<, zero, suc, slice_index_or}
use Rattle.std.specs.List.{position_or_len}
use Rattle.std.proofs.lemmas.List.{drop_all}
use Rattle.outside.specs.declared.host.Phase.{Phase}
use Rattle.outside.specs.declared.host.Phase.TheVariants.{Map, Reduce}
use Rattle.crew.specs.declared.drill.Entry.{Entry}
use Rattle.run_settings.specs.Limits.{most_tries}
use Rattle.drill_text.specs.Numbers.{most_number, number_in, number_up_to}
use Rattle.drill_text.specs.Drills.{◌>>=◌, until_sign, beyond_sign, dot, entries_in, entry_in, entry_of, letter_of}

-- behind a sign that a text lacks there is nothing
pub nothing_behind : (sign : ℕ) (text : List ℕ)
    → position_or_len (λ byte. byte == sign) text ≡ length text → beyond_sign sign text ≡ []
nothing_behind sign text lacks = rw lacks (drop_all (length text + 1) text (omega arith))

no_attempt : {A B C D : Type 0} (stage : Option A) (task : Option B) (make : A → B → C → Option D)
    → (stage >>= (λ s. task >>= (λ t. None >>= make s t))) ≡ None
no_attempt (Some s) (Some t) make = refl
no_attempt (Some s) None make = refl
no_attempt None task make = refl

-- without a dot behind the letter a text names no attempt
pub no_dot : (phase : Phase) (text rest : List ℕ) → rest ≡ beyond_sign (letter_of phase) text
    → position_or_len (λ byte. byte == dot) rest ≡ length rest → entry_of phase text ≡ None
no_dot phase text rest is lacks =
    let stage = number_up_to most_number (until_sign (letter_of phase) text) in
    let task = number_in (until_sign dot (beyond_sign (letter_of phase) text)) in
    let make : ℕ → ℕ → ℕ → Option Entry =
    λ s t a. Some (record { stage = s; phase = phase; task = t; attempt = a }) in
    ap (λ (attempt : List ℕ). stage >>= (λ s. task >>= (λ t.
    number_up_to most_tries attempt >>= make s t)))
    (ap (beyond_sign dot) (sym is) ∙ nothing_behind dot rest lacks)
    ∙ no_attempt stage task make

pub letter_small : (phase : Phase) → letter_of phase < 128
letter_small Map = lit< tt
letter_small Reduce = lit< tt

-- ---- the entries of texts

-- what stands before is put before
joined : {A : Type 0} (m : Option A) (xs ys : Option (List A))
    → (m >>= (λ x. (xs >>= (λ a. ys >>= (λ b. Some (a ++ b)))) >>= (λ rest. Some (x ∷ rest))))
    ≡ ((m >>= (λ x. xs >>= (λ rest. Some (x ∷ rest)))) >>= (λ a. ys >>= (λ b. Some (a ++ b))))
joined (Some x) (Some a) (Some b) = refl
joined (Some x) (Some a) None = refl
joined (Some x) None ys = refl
joined None xs ys = refl

all_of : {A : Type 0} (m : Option A) → (m >>= (λ x. Some x)) ≡ m
all_of (Some x) = refl
all_of None = refl

entries_append : (texts more : List (List ℕ)) → entries_in (texts ++ more)
    ≡ (entries_in texts >>= (λ a. entries_in more >>= (λ b. Some (a ++ b))))
entries_append [] more = sym (all_of (entries_in more))
entries_append (text ∷ texts) more =
    ap (λ (rest : Option (List Entry)). entry_in text >>= (λ x. rest >>= (λ rest. Some (x ∷ rest))))
    (entries_append texts more)
    ∙ joined (entry_in text) (entries_in texts) (entries_in more)

pub entries_push : (texts : List (List ℕ)) (text : List ℕ) (entries : List Entry) (entry : Entry)
    → entries_in texts ≡ Some entries → entry_in text ≡ Some entry
    → entries_in (texts ++ text ∷ []) ≡ Some (entries ++ entry ∷ [])
entries_push texts text entries entry is named =
    entries_append texts (text ∷ []) ∙ rw (is, named) refl

none_behind : {A B : Type 0} (m : Option A) (make : A → B → Option B)
    → (m >>= (λ a. None >>= make a)) ≡ None
none_behind (Some a) make = refl
none_behind None make = refl

-- a text that names no attempt
pub entries_stop : (texts : List (List ℕ)) (k : ℕ) (text : List ℕ) → k < length texts
    → text ≡ slice_index_or texts k text → entry_in text ≡ None → entries_in texts ≡ None
entries_stop [] k text within at unnamed = absurd (omega arith)
entries_stop (first ∷ texts) zero text within at unnamed = rw (← at) (rw unnamed refl)
entries_stop (first ∷ texts) (suc k) text within at unnamed =
    rw (entries_stop texts k text (omega arith) at unnamed)
    (none_behind (entry_in first) (λ entry entries. Some (entry ∷ entries)))
