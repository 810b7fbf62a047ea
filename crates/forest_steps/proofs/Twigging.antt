-- A step, by its outputs side by side.
use Rattle.std.proofs.Common.{◌≡◌, ◌<◌, ℕ, zero, suc, List, [], ◌∷◌, length, get_or, drop, refl, sym, ap, ◌∙◌, subst, arith}
use Rattle.std.specs.Prelude.{Ok, Err}
use Rattle.std.specs.List.{AllByRecursion, slice_get}
use Rattle.flume_value.specs.declared.value.Value.{Value}
use Rattle.flume_collection.specs.Calls.{emissions, or_none}
use Rattle.exec_graph.specs.Calls.{called}
use Rattle.exec_graph.specs.Forests.{Branch, Forest, Bare, Twig, grown, limb, twigs}
use Rattle.exec_graph.specs.World.{World}
use Rattle.forest_steps.specs.Safety.{Safe}
use Rattle.forest_steps.specs.Running.{Given, Run, and_then, below, next_behind, behind_all, run, run_answer, run_out, run_twigs, SafeTwigs}
use Rattle.forest_steps.specs.declared.fault.StepFault.TheVariants as fault

-- ---- runs one after another
pub then_twice : (r : Run) (f g : Given → Run)
    → and_then (and_then r f) g ≡ and_then r (λ more. and_then (f more) g)
then_twice (Ok given) f g = refl
then_twice (Err trap) f g = refl

pub then_alike : (r : Run) (f g : Given → Run) → ((more : Given) → f more ≡ g more)
    → and_then r f ≡ and_then r g
then_alike (Ok given) f g h = h given
then_alike (Err trap) f g h = refl

then_itself : (r : Run) → and_then r (λ more. Ok more) ≡ r
then_itself (Ok given) = refl
then_itself (Err trap) = refl

-- ---- the answers that are left
drop_one : {A : Type 0} (n : ℕ) (xs : List A) → drop 1 (drop n xs) ≡ drop (suc n) xs
drop_one zero xs = refl
drop_one (suc n) [] = refl
drop_one (suc n) (x ∷ xs) = drop_one n xs

first_left : {A : Type 0} (n : ℕ) (xs : List A) → slice_get (drop n xs) 0 ≡ slice_get xs n
first_left zero xs = refl
first_left (suc n) [] = refl
first_left (suc n) (x ∷ xs) = first_left n xs

module _ (w : World) where
  module _ (sizes : List ℕ) where
    -- ---- a step that answered
    twigs_run : (at : ℕ) (b : Branch) (n : ℕ) (ts : List Twig) (rest : Forest) (x : Value)
        (answers : List (List Value)) (given : Given) → called w b.does x ≡ Ok answers
        → run w sizes at (twigs b n ts rest) x given
        ≡ and_then (run_twigs w sizes at (drop n answers) ts given)
        (run w sizes (behind_all sizes at ts) rest x)
    twigs_run at b n [] rest x answers given e = refl
    twigs_run at b n (t ∷ ts) rest x answers given e =
        let next = next_behind sizes at in
        let last = run w sizes (behind_all sizes next ts) rest x in
        let out = λ (vs : List Value). run_out t.out at (run w sizes (below at) t.kids) vs given in
        let here : run_answer b.origin n (called w b.does x) t.out at
        (run w sizes (below at) t.kids) given ≡ out (or_none (slice_get (drop n answers) 0)) =
        ap (λ c. run_answer b.origin n c t.out at (run w sizes (below at) t.kids) given) e
        ∙ ap (λ o. out (or_none o)) (sym (first_left n answers)) in
        ap (λ r. and_then r (run w sizes next (twigs b (suc n) ts rest) x)) here
        ∙ then_alike (out (or_none (slice_get (drop n answers) 0)))
        (run w sizes next (twigs b (suc n) ts rest) x)
        (λ more. and_then (run_twigs w sizes next (drop 1 (drop n answers)) ts more) last)
        (λ more. twigs_run next b (suc n) ts rest x answers more e
        ∙ ap (λ left. and_then (run_twigs w sizes next left ts more) last)
        (sym (drop_one n answers)))
        ∙ sym (then_twice (out (or_none (slice_get (drop n answers) 0)))
        (run_twigs w sizes next (drop 1 (drop n answers)) ts) last)

    pub limb_run : (at : ℕ) (b : Branch) (x : Value) (answers : List (List Value)) (given : Given)
        → called w b.does x ≡ Ok answers
        → run w sizes at (limb b Bare) x given
        ≡ run_twigs w sizes at answers (b.first ∷ b.more) given
    limb_run at b x answers given e =
        twigs_run at b 0 (b.first ∷ b.more) Bare x answers given e
        ∙ then_itself (run_twigs w sizes at answers (b.first ∷ b.more) given)

    -- ---- steps side by side
    limb_then : (at : ℕ) (b : Branch) (n : ℕ) (ts : List Twig) (rest : Forest) (x : Value)
        (given : Given) → run w sizes at (twigs b n ts rest) x given
        ≡ and_then (run w sizes at (twigs b n ts Bare) x given)
        (run w sizes (behind_all sizes at ts) rest x)
    limb_then at b n [] rest x given = refl
    limb_then at b n (t ∷ ts) rest x given =
        let next = next_behind sizes at in
        let last = run w sizes (behind_all sizes next ts) rest x in
        let r = run_answer b.origin n (called w b.does x) t.out at
        (run w sizes (below at) t.kids) given in
        then_alike r (run w sizes next (twigs b (suc n) ts rest) x)
        (λ more. and_then (run w sizes next (twigs b (suc n) ts Bare) x more) last)
        (λ more. limb_then next b (suc n) ts rest x more)
        ∙ sym (then_twice r (run w sizes next (twigs b (suc n) ts Bare) x) last)

    pub grown_run : (at : ℕ) (b : Branch) (bs : List Branch) (x : Value) (given : Given)
        → run w sizes at (grown (b ∷ bs)) x given
        ≡ and_then (run w sizes at (limb b Bare) x given)
        (run w sizes (behind_all sizes at (b.first ∷ b.more)) (grown bs) x)
    grown_run at b bs x given = limb_then at b 0 (b.first ∷ b.more) (grown bs) x given

  -- ---- what may be called
  module _ (takes : ℕ → Value → Type 0) where
    twigs_safe : (b : Branch) (n : ℕ) (ts : List Twig) (rest : Forest) (x : Value)
        (answers : List (List Value)) → called w b.does x ≡ Ok answers
        → Safe w takes (twigs b n ts rest) x → SafeTwigs w takes (drop n answers) ts
    twigs_safe b n [] rest x answers e safe = tt
    twigs_safe b n (t ∷ ts) rest x answers e safe = (
      subst (AllByRecursion (Safe w takes t.kids))
          (ap (emissions n) e ∙ ap or_none (sym (first_left n answers))) safe.1,
      subst (λ left. SafeTwigs w takes left ts) (sym (drop_one n answers))
          (twigs_safe b (suc n) ts rest x answers e safe.2),
    )

    pub limb_safe : (b : Branch) (x : Value) (answers : List (List Value))
        → called w b.does x ≡ Ok answers → Safe w takes (limb b Bare) x
        → SafeTwigs w takes answers (b.first ∷ b.more)
    limb_safe b x answers e safe = twigs_safe b 0 (b.first ∷ b.more) Bare x answers e safe

    twigs_before : (b : Branch) (n : ℕ) (ts : List Twig) (rest : Forest) (x : Value)
        → Safe w takes (twigs b n ts rest) x
        → Safe w takes (twigs b n ts Bare) x × Safe w takes rest x
    twigs_before b n [] rest x safe = (tt, safe)
    twigs_before b n (t ∷ ts) rest x safe =
        let more = twigs_before b (suc n) ts rest x safe.2 in
        ((safe.0, safe.1, more.0), more.1)

    pub safe_member : (bs : List Branch) (x : Value) (i : ℕ) (b : Branch)
        → Safe w takes (grown bs) x → i < length bs → b ≡ get_or bs i b
        → Safe w takes (limb b Bare) x
    safe_member [] x i b safe h is = absurd (omega arith)
    safe_member (c ∷ bs) x zero b safe h is =
        subst (λ d. Safe w takes (limb d Bare) x) (sym is)
        (twigs_before c 0 (c.first ∷ c.more) (grown bs) x safe).0
    safe_member (c ∷ bs) x (suc i) b safe h is =
        safe_member bs x i b (twigs_before c 0 (c.first ∷ c.more) (grown bs) x safe).1
        (omega arith) is
