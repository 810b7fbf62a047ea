-- The records of a text are those of its front and then those of its back.
use Rattle.std.proofs.Common.{◌≡◌, ◌<◌, ◌≤◌, ◌⊎◌, ◌+◌, ◌∷◌, ◌++◌, ◌∙◌, ℕ, zero, suc, Bool, true, false, List, [], length, get_or, take, drop, Option, Some, None, refl, sym, ap, subst, arith, inl, inr, length-take-le, le_of_lt, take-append-drop}
use Rattle.std.specs.Prelude.{◌==◌, if◌then◌else◌}
use Rattle.std.specs.List.{list_any, slice_get}
use Rattle.std.proofs.lemmas.Bool.{cases_Bool, or_parts}
use Rattle.std.proofs.lemmas.List.{take_more}
use Rattle.csv.specs.Machine.{Read, after_end, ends_at_end, ends_with, field_after, fields_after, in_field, is_end, next_record, start_field, start_record, step}
use Rattle.csv.specs.Reading.{default_config, is_bom, strip_bom}
use Rattle.csv.specs.declared.parser.Action.{Action}
use Rattle.csv.specs.declared.parser.Action.TheVariants as act
use Rattle.csv.specs.declared.parser.State.{State}
use Rattle.csv.specs.declared.parser.State.TheVariants as st
use Rattle.csv.specs.declared.parser.Terminator.TheVariants as term
use Rattle.csv_rows.specs.Records.{records_of}
use Rattle.csv_rows.specs.inner.Readers.{Fields, records_at}
use Rattle.csv_rows.proofs.RecordFacts.{Shrinks, none-left, records_at-end, records_at-step, shrinks}

-- the state after bytes
abbrev pub state_from : State → List ℕ → State
state_from s [] = s
state_from s (c ∷ rest) = state_from (step default_config s c).0 rest

-- any state but that inside a comment, of which the default has none
abbrev pub IsRead : State → Type 0
IsRead st.InComment = ⊥
IsRead _ = Unit {0}

-- a step that ends no record goes on inside one, or passes over a byte between two
abbrev pub Goes : Bool → State × Action → Type 0
Goes inside p = IsRead p.0
    × (is_end p.1 ≡ false → ends_at_end p.0 ≡ false → (inside ≡ false) × (p.1 ≡ act.Skip))

goes-if : (inside b : Bool) (p q : State × Action) → Goes inside p → Goes inside q
    → Goes inside (if b then p else q)
goes-if inside true p q x y = x
goes-if inside false p q x y = y

read-end : (b : Bool) → IsRead (if b then st.AfterCr else st.StartRecord)
read-end true = tt
read-end false = tt

goes-field : (inside : Bool) (c : ℕ) → Goes inside (in_field default_config c)
goes-field inside c =
    goes-if inside (c == 44) (st.StartField, act.EndField)
    (if ends_with term.CRLF c then (after_end term.CRLF c, act.EndRecord)
    else (st.InField, act.Copy)) (tt, λ e out. cc out)
    (goes-if inside (ends_with term.CRLF c) (after_end term.CRLF c, act.EndRecord)
    (st.InField, act.Copy) (read-end (c == 13), λ e out. cc e) (tt, λ e out. cc out))

goes-start : (inside : Bool) (c : ℕ) → Goes inside (start_field default_config c)
goes-start inside c =
    goes-if inside (c == 34) (st.InQuoted, act.Skip) (in_field default_config c)
    (tt, λ e out. cc out) (goes-field inside c)

goes-record : (c : ℕ) → Goes false (start_record default_config c)
goes-record c =
    goes-if false (ends_with term.CRLF c) (st.StartRecord, act.Skip) (start_field default_config c)
    (tt, λ e out. (refl, refl)) (goes-start false c)

goes : (s : State) (c : ℕ) → IsRead s → Goes (ends_at_end s) (step default_config s c)
goes st.StartRecord c ok = goes-record c
goes st.StartField c ok = goes-start true c
goes st.InField c ok = goes-field true c
goes st.InQuoted c ok =
    goes-if true (c == 34) (st.AfterQuote, act.Skip) (st.InQuoted, act.Copy)
    (tt, λ e out. cc out) (tt, λ e out. cc out)
goes st.AfterQuote c ok =
    goes-if true (c == 34) (st.InQuoted, act.Copy) (in_field default_config c)
    (tt, λ e out. cc out) (goes-field true c)
goes st.InEscape c ok = (tt, λ e out. cc out)
goes st.InComment c ok = absurd ok
goes st.AfterCr c ok =
    goes-if false (c == 10) (st.StartRecord, act.Skip) (start_record default_config c)
    (tt, λ e out. (refl, refl)) (goes-record c)

-- a record ends inside the front, before any back
abbrev pub EndsInside : State → Fields → List ℕ → List ℕ → List ℕ → Type 0
EndsInside s f p a b = (r : Fields) × (t : State) × (rest : List ℕ)
    × (next_record default_config s f p a ≡ Some (r, t, rest))
    × (next_record default_config s f p (a ++ b) ≡ Some (r, t, rest ++ b))
    × IsRead t × (state_from t rest ≡ st.StartRecord)

-- the front has no record
abbrev pub IsPassed : State → Fields → List ℕ → List ℕ → List ℕ → Type 0
IsPassed s f p a b = (ends_at_end s ≡ false) × (next_record default_config s f p a ≡ None)
    × (next_record default_config s f p (a ++ b) ≡ next_record default_config st.StartRecord f p b)

onward : (s : State) (f : Fields) (p : List ℕ) (c : ℕ) (a b : List ℕ)
    → is_end (step default_config s c).1 ≡ false
    → Goes (ends_at_end s) (step default_config s c)
    → EndsInside (step default_config s c).0 (fields_after (step default_config s c).1 f p)
    (field_after (step default_config s c).1 c p) a b
    ⊎ IsPassed (step default_config s c).0 (fields_after (step default_config s c).1 f p)
    (field_after (step default_config s c).1 c p) a b
    → EndsInside s f p (c ∷ a) b ⊎ IsPassed s f p (c ∷ a) b
unfolding next_record
onward s f p c a b on g (inl h) =
    let (r, t, rest, front, all, ok, e) = h in inl (r, t, rest, rw on front, rw on all, ok, e)
onward s f p c a b on g (inr h) =
    let (out, none, same) = h in
    let (before, skip) = g.1 on out in
    inr (before, rw on none, rw skip (rw skip at same))

-- the next record of a text whose front ends where one may begin
next : (s : State) (f : Fields) (p a b : List ℕ) → IsRead s
    → state_from s a ≡ st.StartRecord → EndsInside s f p a b ⊎ IsPassed s f p a b
unfolding next_record
next s f p [] b ok e = rw e (inr (refl, refl, refl))
next s f p (c ∷ a) b ok e =
    elim (cases_Bool (is_end (step default_config s c).1)) [
      | inl end ↦ inl (
        fields_after (step default_config s c).1 f p,
        (step default_config s c).0,
        a,
        rw end refl,
        rw end refl,
        (goes s c ok).0,
        e,
      )
      | inr on ↦ onward s f p c a b on (goes s c ok)
          (next (step default_config s c).0 (fields_after (step default_config s c).1 f p)
          (field_after (step default_config s c).1 c p) a b (goes s c ok).0 e)
    ]

-- the records of a text whose front ends in a state
abbrev pub IsSplit : State → List ℕ → List ℕ → Type 0
IsSplit s a b = records_at s (a ++ b) ≡ records_at s a ++ records_at st.StartRecord b

later : (r : Fields) (t : State) (a rest b : List ℕ) → Shrinks a (Some (r, t, rest))
    → (length rest < length a → IsSplit t rest b) → IsSplit t rest b
later r t a rest b (inl h) more =
    rw (h.0, h.1) (sym (ap (λ (xs : List Fields). xs ++ records_at st.StartRecord b) (none-left 1)))
later r t a rest b (inr lt) more = more lt

passed : (s : State) (a b : List ℕ) (o : Option Read)
    → next_record default_config s [] [] a ≡ o
    → next_record default_config st.StartRecord [] [] b ≡ o
    → records_at s a ≡ records_at st.StartRecord b
passed s a b None e f = records_at-end s a e ∙ sym (records_at-end st.StartRecord b f)
passed s a b (Some p) e f =
    records_at-step s a p e ∙ sym (records_at-step st.StartRecord b p f)

split-by : (s : State) (a b : List ℕ)
    → ((t : State) (rest : List ℕ) → IsRead t → state_from t rest ≡ st.StartRecord
    → length rest < length a → IsSplit t rest b)
    → EndsInside s [] [] a b ⊎ IsPassed s [] [] a b → IsSplit s a b
split-by s a b more (inl h) =
    let (r, t, rest, front, all, ok, e) = h in
    let smaller : Shrinks a (Some (r, t, rest)) =
    rw front at (shrinks default_config s [] [] a) in
    records_at-step s (a ++ b) (r, t, rest ++ b) all
    ∙ ap (λ (xs : List Fields). r ∷ xs) (later r t a rest b smaller (more t rest ok e))
    ∙ sym (ap (λ (xs : List Fields). xs ++ records_at st.StartRecord b)
    (records_at-step s a (r, t, rest) front))
split-by s a b more (inr h) =
    passed s (a ++ b) b (next_record default_config st.StartRecord [] [] b) h.2 refl
    ∙ sym (ap (λ (xs : List Fields). xs ++ records_at st.StartRecord b) (records_at-end s a h.1))

split-within : (n : ℕ) (s : State) (a b : List ℕ) → length a < n → IsRead s
    → state_from s a ≡ st.StartRecord → IsSplit s a b
split-within zero s a b lt ok e = absurd (omega arith)
split-within (suc n) s a b lt ok e =
    split-by s a b (λ t rest ok2 e2 lt2. split-within n t rest b (omega arith) ok2 e2)
    (next s [] [] a b ok e)

-- the states of a text without quotes
abbrev pub IsUnquoted : State → Type 0
IsUnquoted st.StartRecord = Unit {0}
IsUnquoted st.StartField = Unit {0}
IsUnquoted st.InField = Unit {0}
IsUnquoted st.InQuoted = ⊥
IsUnquoted st.AfterQuote = ⊥
IsUnquoted st.InEscape = ⊥
IsUnquoted st.InComment = ⊥
IsUnquoted st.AfterCr = Unit {0}

unquoted-if : (b : Bool) (p q : State × Action) → IsUnquoted p.0 → IsUnquoted q.0
    → IsUnquoted (if b then p else q).0
unquoted-if true p q x y = x
unquoted-if false p q x y = y

unquoted-end : (b : Bool) → IsUnquoted (if b then st.AfterCr else st.StartRecord)
unquoted-end true = tt
unquoted-end false = tt

unquoted-field : (c : ℕ) → IsUnquoted (in_field default_config c).0
unquoted-field c =
    unquoted-if (c == 44) (st.StartField, act.EndField)
    (if ends_with term.CRLF c then (after_end term.CRLF c, act.EndRecord)
    else (st.InField, act.Copy)) tt
    (unquoted-if (ends_with term.CRLF c) (after_end term.CRLF c, act.EndRecord)
    (st.InField, act.Copy) (unquoted-end (c == 13)) tt)

unquoted-start : (c : ℕ) → (c == 34) ≡ false → IsUnquoted (start_field default_config c).0
unquoted-start c e = rw e (unquoted-field c)

unquoted-record : (c : ℕ) → (c == 34) ≡ false → IsUnquoted (start_record default_config c).0
unquoted-record c e =
    unquoted-if (ends_with term.CRLF c) (st.StartRecord, act.Skip) (start_field default_config c)
    tt (unquoted-start c e)

unquoted : (s : State) (c : ℕ) → (c == 34) ≡ false → IsUnquoted s
    → IsUnquoted (step default_config s c).0
unquoted st.StartRecord c e ok = unquoted-record c e
unquoted st.StartField c e ok = unquoted-start c e
unquoted st.InField c e ok = unquoted-field c
unquoted st.InQuoted c e ok = absurd ok
unquoted st.AfterQuote c e ok = absurd ok
unquoted st.InEscape c e ok = absurd ok
unquoted st.InComment c e ok = absurd ok
unquoted st.AfterCr c e ok =
    unquoted-if (c == 10) (st.StartRecord, act.Skip) (start_record default_config c) tt
    (unquoted-record c e)

-- a line feed outside of quotes ends a record, or a line with none
fed : (s : State) → IsUnquoted s → (step default_config s 10).0 ≡ st.StartRecord
fed st.StartRecord ok = refl
fed st.StartField ok = refl
fed st.InField ok = refl
fed st.InQuoted ok = absurd ok
fed st.AfterQuote ok = absurd ok
fed st.InEscape ok = absurd ok
fed st.InComment ok = absurd ok
fed st.AfterCr ok = refl

-- whether a text has a quote
abbrev pub has_quote : List ℕ → Bool
has_quote bytes = list_any (λ c. c == 34) bytes

line_from : (s : State) (m : List ℕ) → IsUnquoted s → has_quote m ≡ false
    → state_from s (m ++ (10 ∷ [])) ≡ st.StartRecord
line_from s [] ok e = fed s ok
line_from s (c ∷ m) ok e =
    let h = or_parts (c == 34) (has_quote m) e in
    line_from (step default_config s c).0 m (unquoted s c h.0 ok) h.1

whole : (m b : List ℕ) → has_quote m ≡ false → IsSplit st.StartRecord (m ++ (10 ∷ [])) b
whole m b e =
    split-within (length (m ++ (10 ∷ [])) + 1) st.StartRecord (m ++ (10 ∷ [])) b (omega arith) tt
    (line_from st.StartRecord m tt e)

-- lines without quotes, and then a text with no byte order mark of its own
lines_first : (m b : List ℕ) → 3 ≤ length m → has_quote m ≡ false → strip_bom b ≡ b
    → records_of ((m ++ (10 ∷ [])) ++ b) ≡ records_of (m ++ (10 ∷ [])) ++ records_of b
unfolding strip_bom
lines_first [] b size e mark = absurd (omega arith)
lines_first (x ∷ []) b size e mark = absurd (omega arith)
lines_first (x ∷ y ∷ []) b size e mark = absurd (omega arith)
lines_first (x ∷ y ∷ z ∷ m) b size e mark =
    let one = or_parts (x == 34) (has_quote (y ∷ z ∷ m)) e in
    let two = or_parts (y == 34) (has_quote (z ∷ m)) one.1 in
    let three = or_parts (z == 34) (has_quote m) two.1 in
    elim (cases_Bool (is_bom x y z)) [
      | inl yes_mark ↦ rw (yes_mark, mark) (whole m b three.1)
      | inr no_mark ↦ rw (no_mark, mark) (whole (x ∷ y ∷ z ∷ m) b e)
    ]

-- a text that is cut behind a line feed
pub cut_behind : (bytes : List ℕ) (at d : ℕ) → at < length bytes → get_or bytes at d ≡ 10
    → 3 ≤ at → has_quote (take at bytes) ≡ false
    → strip_bom (drop (at + 1) bytes) ≡ drop (at + 1) bytes
    → records_of bytes ≡ records_of (take (at + 1) bytes) ++ records_of (drop (at + 1) bytes)
cut_behind bytes at d lt feed size quotes mark =
    let front : take (at + 1) bytes ≡ take at bytes ++ (10 ∷ []) =
    rw feed at (take_more bytes at d lt) in
    let both : take (at + 1) bytes ++ drop (at + 1) bytes ≡ bytes =
    take-append-drop (at + 1) bytes in
    let long : 3 ≤ length (take at bytes) = rw (length-take-le at bytes (le_of_lt lt)) size in
    let law = lines_first (take at bytes) (drop (at + 1) bytes) long quotes mark in
    let told : records_of (take (at + 1) bytes ++ drop (at + 1) bytes)
    ≡ records_of (take (at + 1) bytes) ++ records_of (drop (at + 1) bytes) =
    rw front law in
    subst (λ (xs : List ℕ). records_of xs ≡ records_of (take (at + 1) bytes)
    ++ records_of (drop (at + 1) bytes)) both told

-- a text whose first byte begins no byte order mark
pub unmarked : (bytes : List ℕ) (x : ℕ) → Some x ≡ slice_get bytes 0 → (x == 239) ≡ false
    → strip_bom bytes ≡ bytes
unfolding strip_bom
unmarked [] x first e = refl
unmarked (a ∷ []) x first e = refl
unmarked (a ∷ b ∷ []) x first e = refl
unmarked (a ∷ b ∷ c ∷ rest) x first e = let same : x ≡ a = cc in rw (rw same at e) refl

pub nothing_marked : (bytes : List ℕ) → None ≡ slice_get bytes 0 → strip_bom bytes ≡ bytes
unfolding strip_bom
nothing_marked [] none = refl
nothing_marked (a ∷ rest) none = cc none
