-- Texts that are said one after the other.
use Rattle.std.proofs.Common.{◌≡◌, ℕ, ◌+◌, ◌<◌, suc, true, is_err, inl, inr, List, [], ◌∷◌, ◌++◌, length, take, drop, get_or, Option, Some, None, Result, Ok, Err, ap, sym, ◌∙◌, subst, arith, append_assoc, length-append}
use Rattle.std.specs.Option.{option_map}
use Rattle.std.proofs.lemmas.List.{take-append-le, append-nil, take-append-drop, take_more}
use Rattle.std.proofs.lemmas.Grind.{flat_map-append}
use Rattle.std.proofs.Math.Seq.{drop-cons, take-append-add}
use Rattle.std.specs.List.{flat_map}
use Rattle.outside.specs.Cause.{Rose}
use Rattle.outside.specs.Says.{HasFront, HasLine, Says}
use Rattle.outside.specs.Seen.{SeenScreen}
use Rattle.outside.specs.Told.{WhereTold}

-- the front of a piece, behind the pieces before it, is a front of the whole
longer_front : (old new done piece rest : List ℕ) → HasFront piece (old ++ done) new
    → HasFront (done ++ (piece ++ rest)) old new
longer_front old new done piece rest h = (
  length done + h.0,
  omega (arith, length-append done (piece ++ rest), length-append piece rest, h.1),
  h.2 ∙ (append_assoc old done (take h.0 piece)
      ∙ ap (λ xs. old ++ xs) (sym (take-append-add done (piece ++ rest) h.0
      ∙ ap (λ xs. done ++ xs) (take-append-le h.0 piece rest (omega (arith, h.1)))))),
)

-- a text behind another that was said
told_both : (before middle after : Option (List ℕ)) (a b : List ℕ)
    → middle ≡ option_map (λ old. old ++ a) before → after ≡ option_map (λ old. old ++ b) middle
    → after ≡ option_map (λ old. old ++ (a ++ b)) before
told_both None middle after a b first second = second ∙ ap (option_map (λ old. old ++ b)) first
told_both (Some old) middle after a b first second = second
    ∙ (ap (option_map (λ text. text ++ b)) first ∙ ap Some (append_assoc old a b))

-- a front of a text behind another that was said
front_behind : (before middle after : Option (List ℕ)) (a b : List ℕ)
    → middle ≡ option_map (λ old. old ++ a) before → WhereTold middle after (HasFront b)
    → WhereTold before after (HasFront (a ++ b))
front_behind None middle None a b first front = tt
front_behind None middle (Some new) a b first front = rw first at front
front_behind (Some old) middle None a b first front = rw first at front
front_behind (Some old) middle (Some new) a b first front =
    let shown : HasFront b (old ++ a) new = rw first at front in
    subst (λ (text : List ℕ). HasFront (a ++ text) old new) (append-nil b)
    (longer_front old new a b [] shown)

-- a front of a text is one of any longer text
front_longer : (before after : Option (List ℕ)) (a b : List ℕ)
    → WhereTold before after (HasFront a) → WhereTold before after (HasFront (a ++ b))
front_longer None None a b front = tt
front_longer None (Some new) a b front = front
front_longer (Some old) None a b front = front
front_longer (Some old) (Some new) a b front
    = (
      front.0,
      omega (arith, length-append a b, front.1),
      front.2
          ∙ ap (λ text. old ++ text) (sym (take-append-le front.0 a b (omega (arith, front.1)))),
    )

pub says_both : {T U E : Type 0} (a b : List ℕ) (before middle after : SeenScreen) (x : T)
    (r : Result U E) → Says {T = T} {E = E} a before middle (Ok x) → Says b middle after r
    → Says (a ++ b) before after r
says_both a b before middle after x (Ok y) first second = record {
  ok = told_both before.text middle.text after.text a b first.ok second.ok;
  err = tt;
  cause = record {
    later = omega (arith, first.cause.later, second.cause.later);
    ok = second.cause.ok ∙ first.cause.ok;
    failed = tt;
  };
}
says_both a b before middle after x (Err e) first second = record {
  ok = tt;
  err = front_behind before.text middle.text after.text a b first.ok second.err;
  cause = record {
    later = omega (arith, first.cause.later, second.cause.later);
    ok = tt;
    failed = subst (λ (n : ℕ). Rose n after.faults) first.cause.ok second.cause.failed;
  };
}

pub says_cut : {T U D E : Type 0} (a b : List ℕ) (before after : SeenScreen) (e : E)
    (r : Result U D) → is_err r ≡ true → Says {T = T} {E = E} a before after (Err e)
    → Says (a ++ b) before after r
says_cut a b before after e (Ok y) wrong first = absurd (cc)
says_cut a b before after e (Err f) is first = record {
  ok = tt;
  err = front_longer before.text after.text a b first.err;
  cause = record { later = first.cause.later; ok = tt; failed = first.cause.failed };
}

-- a text of parts, round the part at a place
parts_at : {X : Type 0} (f : X → List ℕ) (xs : List X) (i : ℕ) (d : X) → i < length xs
    → flat_map f (take i xs) ++ (f (get_or xs i d) ++ flat_map f (drop (suc i) xs)) ≡ flat_map f xs
parts_at f xs i d below =
    ap (λ rest. flat_map f (take i xs) ++ flat_map f rest) (sym (drop-cons xs i d below))
    ∙ (sym (flat_map-append f (take i xs) (drop i xs)) ∙ ap (flat_map f) (take-append-drop i xs))

-- the parts before a place are said, and the part there is cut short
pub cut_at : {X T U V E : Type 0} (f : X → List ℕ) (xs : List X) (i : ℕ) (d : X)
    (before middle after : SeenScreen) (x : T) (e : E) (r : Result U E)
    → i < length xs → is_err r ≡ true → Says {T = T} {E = E} (flat_map f (take i xs)) before middle
    (Ok x) → Says {T = V} {E = E} (f (get_or xs i d)) middle after (Err e)
    → Says (flat_map f xs) before after r
cut_at f xs i d before middle after x e r below is so_far cut =
    subst (λ (text : List ℕ). Says text before after r) (parts_at f xs i d below)
    (says_both (flat_map f (take i xs)) (f (get_or xs i d) ++ flat_map f (drop (suc i) xs)) before
    middle after x r so_far
    (says_cut (f (get_or xs i d)) (flat_map f (drop (suc i) xs)) middle after e r is cut))

-- what is said of a text is said of one that equals it
pub says_as : {T E : Type 0} (b a : List ℕ) (before after : SeenScreen) (r : Result T E) → b ≡ a
    → Says a before after r → Says b before after r
says_as b a before after r same said = subst (λ (text : List ℕ). Says text before after r)
    (sym same) said

-- what a line leaves, whatever became of it
pub has_line : {T E : Type 0} (line : List ℕ) (before after : SeenScreen) (r : Result T E)
    → Says line before after r → HasLine line before after
has_line line before after (Ok x) said = inl (said.ok, said.cause.ok)
has_line line before after (Err e) said = inr (said.err, said.cause.failed)
