-- How one read follows the records that a reader has left.
use Rattle.std.proofs.Common.{◌≡◌, ◌≢◌, ◌⊎◌, ◌<◌, ◌+◌, ◌∷◌, ◌∙◌, ℕ, zero, suc, true, false, List, [], length, Option, Some, None, refl, sym, ap, arith, inl, inr, add-one}
use Rattle.std.specs.Prelude.{IfSome, option_map}
use Rattle.std.proofs.lemmas.Bool.{cases_Bool}
use Rattle.csv.specs.Machine.{Read, ends_at_end, field_after, fields_after, is_end, next_record, step}
use Rattle.csv.specs.Reading.{NextIs, ReadRecord, ReadsNext, TookRecord, default_config, pending_of, records_from, records_next, source_of}
use Rattle.csv.specs.declared.parser.Config.{Config}
use Rattle.csv.specs.declared.parser.State.{State}
use Rattle.csv.specs.declared.parser.State.TheVariants as st
use Rattle.csv.specs.declared.reader.Reader.{Reader}
use Rattle.csv_rows.specs.inner.Readers.{NoneLeft, OtherLengthNext, Takes, left_of, records_at}

-- what is left after a record: nothing but the start of a text, or fewer bytes
abbrev pub Shrinks : List ℕ → Option Read → Type 0
Shrinks xs None = Unit {0}
Shrinks xs (Some p) = ((p.1 ≡ st.StartRecord) × (p.2 ≡ [])) ⊎ (length p.2 < length xs)

shrinks-more : (x : ℕ) (xs : List ℕ) (o : Option Read) → Shrinks xs o → Shrinks (x ∷ xs) o
shrinks-more x xs None h = tt
shrinks-more x xs (Some p) (inl e) = inl e
shrinks-more x xs (Some p) (inr lt) = inr (omega arith)

pub shrinks : (cfg : Config) (s : State) (fields : List (List ℕ)) (field xs : List ℕ)
    → Shrinks xs (next_record cfg s fields field xs)
unfolding next_record
shrinks cfg s fields field [] =
    elim (cases_Bool (ends_at_end s)) [
      | inl e ↦ rw e (inl (refl, refl))
      | inr e ↦ rw e tt
    ]
shrinks cfg s fields field (c ∷ rest) =
    elim (cases_Bool (is_end (step cfg s c).1)) [
      | inl e ↦ rw e (inr (omega arith))
      | inr e ↦ rw e
          (shrinks-more c rest _
          (shrinks cfg (step cfg s c).0 (fields_after (step cfg s c).1 fields field)
          (field_after (step cfg s c).1 c field) rest))
    ]

-- the start of a text with no byte has no record
pub none-left : (n : ℕ) → records_from default_config n st.StartRecord [] ≡ []
unfolding records_from next_record
none-left zero = refl
none-left (suc n) = refl

turns-next : (f g : State → List ℕ → List (List (List ℕ))) (xs : List ℕ) (o : Option Read)
    → Shrinks xs o
    → ((s : State) (ys : List ℕ) → length ys < length xs → f s ys ≡ g s ys)
    → f st.StartRecord [] ≡ g st.StartRecord []
    → records_next f o ≡ records_next g o
turns-next f g xs None h more start = refl
turns-next f g xs (Some p) (inl e) more start =
    rw (e.0, e.1) (ap (λ (t : List (List (List ℕ))). p.0 ∷ t) start)
turns-next f g xs (Some p) (inr lt) more start =
    ap (λ (t : List (List (List ℕ))). p.0 ∷ t) (more p.1 p.2 lt)

-- enough turns are as good as more
pub turns : (n m : ℕ) (s : State) (xs : List ℕ) → length xs < n → length xs < m
    → records_from default_config n s xs ≡ records_from default_config m s xs
unfolding records_from
turns zero m s xs a b = absurd (omega arith)
turns (suc n) zero s xs a b = absurd (omega arith)
turns (suc n) (suc m) s xs a b =
    turns-next (records_from default_config n) (records_from default_config m) xs
    (next_record default_config s [] [] xs) (shrinks default_config s [] [] xs)
    (λ s2 ys lt. turns n m s2 ys (omega arith) (omega arith)) (none-left n ∙ sym (none-left m))

left-turns : (n : ℕ) (xs : List ℕ) (p : Read) → n ≡ length xs → Shrinks xs (Some p)
    → records_from default_config n p.1 p.2 ≡ records_at p.1 p.2
left-turns n xs p e (inl h) = rw (h.0, h.1) (none-left n ∙ sym (none-left _))
left-turns n xs p e (inr lt) = turns n (length p.2 + 1) p.1 p.2 (omega arith) (omega arith)

-- the first record of those that are left, and then the others
pub records_at-step : (s : State) (xs : List ℕ) (p : Read)
    → next_record default_config s [] [] xs ≡ Some p → records_at s xs ≡ p.0 ∷ records_at p.1 p.2
unfolding records_from
records_at-step s xs p e =
    let smaller = rw e at (shrinks default_config s [] [] xs) in
    rw (add-one, e)
    (ap (λ (t : List (List (List ℕ))). p.0 ∷ t) (left-turns (length xs) xs p refl smaller))

pub records_at-end : (s : State) (xs : List ℕ) → next_record default_config s [] [] xs ≡ None
    → records_at s xs ≡ []
unfolding records_from
records_at-end s xs e = rw (add-one, e) refl

some-go : (s s2 : State) (xs ys : List ℕ) (f : List (List ℕ)) (o : Option Read)
    → next_record default_config s [] [] xs ≡ o → NextIs o true f s2 ys
    → records_at s xs ≡ f ∷ records_at s2 ys
some-go s s2 xs ys f None e n = cc n
some-go s s2 xs ys f (Some p) e n = rw (n.1, n.2, n.3) (records_at-step s xs p e)

none-go : (s s2 : State) (xs ys : List ℕ) (f : List (List ℕ)) (o : Option Read)
    → next_record default_config s [] [] xs ≡ o → NextIs o false f s2 ys → records_at s xs ≡ []
none-go s s2 xs ys f None e n = records_at-end s xs e
none-go s s2 xs ys f (Some p) e n = cc n.0

takes-go : (s s2 : State) (old new : Option (List ℕ)) (f : List (List ℕ))
    → ReadsNext default_config s old new true f s2
    → Takes (option_map (records_at s) old) f (option_map (records_at s2) new)
takes-go s s2 None new f h = tt
takes-go s s2 (Some xs) None f h = absurd h
takes-go s s2 (Some xs) (Some ys) f h = some-go s s2 xs ys f _ refl h

ends-go : (s s2 : State) (old new : Option (List ℕ)) (f : List (List ℕ))
    → ReadsNext default_config s old new false f s2 → NoneLeft (option_map (records_at s) old)
ends-go s s2 None new f h = tt
ends-go s s2 (Some xs) None f h = absurd h
ends-go s s2 (Some xs) (Some ys) f h = none-go s s2 xs ys f _ refl h

-- a read of a record takes it from those that are left
pub takes : {R : Type 0} (rem : R → Option (List ℕ)) (a b : Reader R) (f : List (List ℕ))
    → a.config ≡ default_config → ReadRecord rem a b true f
    → Takes (left_of rem a) f (left_of rem b)
takes rem a b f plain r =
    let h =
    takes-go a.state b.state (source_of rem a) (pending_of (rem b.rdr) b) f (rw plain at r.0) in
    rw r.1 h

-- a read that finds no record shows that none is left
pub ends : {R : Type 0} (rem : R → Option (List ℕ)) (a b : Reader R) (f : List (List ℕ))
    → a.config ≡ default_config → ReadRecord rem a b false f → NoneLeft (left_of rem a)
ends rem a b f plain r =
    ends-go a.state b.state (source_of rem a) (pending_of (rem b.rdr) b) f (rw plain at r.0)

other-go : (old new : Option (List (List (List ℕ)))) (f : List (List ℕ)) (width : ℕ)
    → Takes old f new → length f ≢ width → OtherLengthNext old (Some width)
other-go None new f width h w = tt
other-go (Some xs) None f width h w = absurd h
other-go (Some xs) (Some ys) f width h w = (f, ys, h, w)

-- a record of another length
pub other_length : {R : Type 0} (rem : R → Option (List ℕ)) (a b : Reader R)
    (f : List (List ℕ)) (expected len : ℕ)
    → a.config ≡ default_config → TookRecord rem a b f
    → a.expected ≡ Some expected → expected ≢ len → length f ≡ len
    → OtherLengthNext (left_of rem a) a.expected
other_length rem a b f expected len plain took e other same =
    rw e
    (other-go _ _ f expected
    (takes-go a.state b.state (source_of rem a) (pending_of (rem b.rdr) b) f
    (rw plain at took)) (λ w. other (sym w ∙ same)))

-- two ways to know the length that is wanted
pub same_width : (old new : Option ℕ) (n : ℕ) → IfSome old (λ e. new ≡ Some e) → new ≡ Some n
    → IfSome old (λ w. n ≡ w)
same_width None new n a b = tt
same_width (Some e) new n a b = cc
