-- Steps, outputs and emissions, one after another.
use Rattle.std.proofs.Common.{◌≡◌, ◌<◌, ◌≤◌, ◌+◌, ℕ, zero, suc, List, [], ◌∷◌, length, get_or, drop, map, refl, sym, ap, ◌∙◌, subst, arith, add-one}
use Rattle.std.specs.Prelude.{Ok}
use Rattle.std.specs.List.{AllByRecursion, slice_get}
use Rattle.std.proofs.Math.Seq.{drop-cons}
use Rattle.flume_value.specs.declared.value.Value.{Value}
use Rattle.flume_collection.specs.Calls.{or_none}
use Rattle.exec_graph.specs.Forests.{Branch, Bare, Twig, grown, limb}
use Rattle.exec_graph.specs.Twigs.{twig}
use Rattle.exec_graph.specs.World.{World}
use Rattle.exec_graph.specs.declared.step.Output.{Output}
use Rattle.forest_steps.specs.Safety.{Safe}
use Rattle.forest_steps.specs.Running.{Given, Run, and_then, below, next_behind, behind_all, run, run_each, run_out, run_twigs, IsStepsFault, SafeTwigs}
use Rattle.forest_steps.specs.Turns.{StepsTurn, in_turn}
use Rattle.forest_steps.specs.declared.fault.StepFault.{StepFault}
use Rattle.forest_steps.specs.declared.fault.StepFault.TheVariants as fault
use Rattle.forest_steps.proofs.Twigging.{grown_run, then_alike}

pub drop_at : {A : Type 0} (xs : List A) (i : ℕ) (x : A) → i < length xs → x ≡ get_or xs i x
    → drop i xs ≡ x ∷ drop (i + 1) xs
drop_at xs i x h is = drop-cons xs i x h ∙ (λ k. sym is k ∷ drop (sym (add-one i) k) xs)

pub drop_past : {A : Type 0} (xs : List A) (i : ℕ) → length xs ≤ i → drop i xs ≡ []
drop_past [] zero h = refl
drop_past [] (suc i) h = refl
drop_past (x ∷ xs) zero h = absurd (omega arith)
drop_past (x ∷ xs) (suc i) h = drop_past xs i (omega arith)

pub each_member : (P : Value → Type 0) (xs : List Value) (i : ℕ) (x : Value) → AllByRecursion P xs
    → i < length xs → x ≡ get_or xs i x → P x
each_member P [] i x e h is = absurd (omega arith)
each_member P (y ∷ xs) zero x e h is = subst P (sym is) e.0
each_member P (y ∷ xs) (suc i) x e h is = each_member P xs i x e.1 (omega arith) is

-- ---- a run that goes on, and one that a fault ends
goes_on : (r whole : Run) (f : Given → Run) (g : Given) → and_then r f ≡ whole → r ≡ Ok g
    → f g ≡ whole
goes_on r whole f g e is = sym (ap (λ q. and_then q f) is) ∙ e

ends_by : (r whole : Run) (f : Given → Run) (t : StepFault) → and_then r f ≡ whole
    → IsStepsFault r t → IsStepsFault whole t
ends_by r whole f fault.Memory e h = tt
ends_by r whole f (fault.Trap trap) e h = sym e ∙ ap (λ q. and_then q f) h

-- ---- elements, one after another, each with its turn
pub turns_done : (turns : List StepsTurn) (g : Given) (whole : Run) → in_turn turns g ≡ whole
    → length turns ≡ 0 → whole ≡ Ok g
turns_done [] g whole goes h = sym goes
turns_done (t ∷ turns) g whole goes h = absurd (omega (arith, h))

-- as many are left as there were, but one
pub turns_left : (turns left : List StepsTurn) → 0 < length turns → left ≡ drop 1 turns
    → length left + 1 ≡ length turns
turns_left [] left h is = absurd (omega arith)
turns_left (t ∷ turns) left h is = let same = ap length is in omega arith

pub in_turn_each : {X : Type 0} (f : X → Given → Run) (xs : List X) (g : Given)
    → in_turn (map f xs) g ≡ run_each f xs g
in_turn_each f [] g = refl
in_turn_each f (x ∷ xs) g =
    then_alike (f x g) (in_turn (map f xs)) (run_each f xs) (in_turn_each f xs)

-- ---- emissions
module _ (w : World) (sizes : List ℕ) where
  -- ---- the outputs of a step
  -- what is emitted to an output of a step
  abbrev out_of : ℕ → Output → List Value → Given → Run
  out_of at o vs g = run_out o.number at (run w sizes (below at) (grown o.kids.items)) vs g

  abbrev rest_of : ℕ → List (List Value) → List Output → Given → Run
  rest_of at answers os g = run_twigs w sizes at answers (map twig os) g

  pub twigs_begun : (b : Branch) (o : Output) (os items : List Output) (at next : ℕ)
      (answers left : List (List Value)) (vs : List Value) (g more : Given) → b.first ≡ twig o
      → b.more ≡ map twig os → items ≡ os → vs ≡ or_none (slice_get answers 0)
      → left ≡ drop 1 answers → next ≡ next_behind sizes at → out_of at o vs g ≡ Ok more
      → rest_of next left items more
      ≡ run_twigs w sizes at answers (b.first ∷ b.more) g
  twigs_begun b o os items at next answers left vs g more first rest same given behind_it next_is e
      =
      (λ i. run_twigs w sizes (next_is i) (behind_it i) (map twig (same i)) more)
      ∙ sym (ap (λ r. and_then r (rest_of (next_behind sizes at) (drop 1 answers) os))
      (ap (λ us. out_of at o us g) (sym given) ∙ e))
      ∙ (λ i. run_twigs w sizes at answers (sym first i ∷ sym rest i) g)

  twigs_at : (items : List Output) (i : ℕ) (o : Output) (at : ℕ) (answers : List (List Value))
      (vs : List Value) (g : Given) (whole : Run) → i < length items → o ≡ get_or items i o
      → vs ≡ or_none (slice_get answers 0)
      → rest_of at answers (drop i items) g ≡ whole
      → and_then (out_of at o vs g)
      (rest_of (next_behind sizes at) (drop 1 answers) (drop (i + 1) items)) ≡ whole
  twigs_at items i o at answers vs g whole h is given goes =
      ap (λ us. and_then (out_of at o us g)
      (rest_of (next_behind sizes at) (drop 1 answers) (drop (i + 1) items))) given
      ∙ sym (ap (λ l. rest_of at answers l g) (drop_at items i o h is)) ∙ goes

  pub twigs_on : (items : List Output) (i : ℕ) (o : Output) (at next : ℕ)
      (answers left : List (List Value)) (vs : List Value) (g more : Given) (whole : Run)
      → i < length items → o ≡ get_or items i o → vs ≡ or_none (slice_get answers 0)
      → left ≡ drop 1 answers → next ≡ next_behind sizes at
      → rest_of at answers (drop i items) g ≡ whole → out_of at o vs g ≡ Ok more
      → rest_of next left (drop (i + 1) items) more ≡ whole
  twigs_on items i o at next answers left vs g more whole h is given behind_it next_is goes e =
      (λ k. run_twigs w sizes (next_is k) (behind_it k) (map twig (drop (i + 1) items)) more)
      ∙ goes_on (out_of at o vs g) whole
      (rest_of (next_behind sizes at) (drop 1 answers) (drop (i + 1) items)) more
      (twigs_at items i o at answers vs g whole h is given goes) e

  pub twigs_end : (items : List Output) (i : ℕ) (o : Output) (at : ℕ)
      (answers : List (List Value)) (vs : List Value) (g : Given) (whole : Run) (t : StepFault)
      → i < length items → o ≡ get_or items i o → vs ≡ or_none (slice_get answers 0)
      → rest_of at answers (drop i items) g ≡ whole → IsStepsFault (out_of at o vs g) t
      → IsStepsFault whole t
  twigs_end items i o at answers vs g whole t h is given goes e =
      ends_by (out_of at o vs g) whole
      (rest_of (next_behind sizes at) (drop 1 answers) (drop (i + 1) items)) t
      (twigs_at items i o at answers vs g whole h is given goes) e

  pub place_on : (items : List Output) (i : ℕ) (o : Output) (at next whole : ℕ)
      → i < length items → o ≡ get_or items i o → next ≡ next_behind sizes at
      → behind_all sizes at (map twig (drop i items)) ≡ whole
      → behind_all sizes next (map twig (drop (i + 1) items)) ≡ whole
  place_on items i o at next whole h is next_is goes =
      ap (λ k. behind_all sizes k (map twig (drop (i + 1) items))) next_is
      ∙ sym (ap (λ l. behind_all sizes at (map twig l)) (drop_at items i o h is)) ∙ goes

  pub place_begun : (b : Branch) (o : Output) (os items : List Output) (at next : ℕ)
      → b.first ≡ twig o → b.more ≡ map twig os → items ≡ os → next ≡ next_behind sizes at
      → behind_all sizes next (map twig items) ≡ behind_all sizes at (b.first ∷ b.more)
  place_begun b o os items at next first rest same next_is =
      (λ i. behind_all sizes (next_is i) (map twig (same i)))
      ∙ (λ i. behind_all sizes at (sym first i ∷ sym rest i))

  -- ---- steps
  steps_at : (bs : List Branch) (i : ℕ) (b : Branch) (at : ℕ) (x : Value) (g : Given) (whole : Run)
      → i < length bs → b ≡ get_or bs i b → run w sizes at (grown (drop i bs)) x g ≡ whole
      → and_then (run w sizes at (limb b Bare) x g)
      (run w sizes (behind_all sizes at (b.first ∷ b.more)) (grown (drop (i + 1) bs)) x) ≡ whole
  steps_at bs i b at x g whole h is goes =
      sym (grown_run w sizes at b (drop (i + 1) bs) x g)
      ∙ sym (ap (λ l. run w sizes at (grown l) x g) (drop_at bs i b h is)) ∙ goes

  pub steps_on : (bs : List Branch) (i : ℕ) (b : Branch) (at next : ℕ) (x : Value) (g more : Given)
      (whole : Run) → i < length bs → b ≡ get_or bs i b
      → next ≡ behind_all sizes at (b.first ∷ b.more)
      → run w sizes at (grown (drop i bs)) x g ≡ whole
      → run w sizes at (limb b Bare) x g ≡ Ok more
      → run w sizes next (grown (drop (i + 1) bs)) x more ≡ whole
  steps_on bs i b at next x g more whole h is next_is goes e =
      ap (λ k. run w sizes k (grown (drop (i + 1) bs)) x more) next_is
      ∙ goes_on (run w sizes at (limb b Bare) x g) whole
      (run w sizes (behind_all sizes at (b.first ∷ b.more)) (grown (drop (i + 1) bs)) x) more
      (steps_at bs i b at x g whole h is goes) e

  pub steps_end : (bs : List Branch) (i : ℕ) (b : Branch) (at : ℕ) (x : Value) (g : Given)
      (whole : Run) (t : StepFault) → i < length bs → b ≡ get_or bs i b
      → run w sizes at (grown (drop i bs)) x g ≡ whole
      → IsStepsFault (run w sizes at (limb b Bare) x g) t → IsStepsFault whole t
  steps_end bs i b at x g whole t h is goes e =
      ends_by (run w sizes at (limb b Bare) x g) whole
      (run w sizes (behind_all sizes at (b.first ∷ b.more)) (grown (drop (i + 1) bs)) x) t
      (steps_at bs i b at x g whole h is goes) e

  pub steps_done : (bs : List Branch) (i at : ℕ) (x : Value) (g : Given) (whole : Run)
      → run w sizes at (grown (drop i bs)) x g ≡ whole → length bs ≤ i → whole ≡ Ok g
  steps_done bs i at x g whole goes h =
      sym goes ∙ ap (λ l. run w sizes at (grown l) x g) (drop_past bs i h)

  -- ---- what may be called
  module _ (takes : ℕ → Value → Type 0) where
    pub safe_first : (b : Branch) (o : Output) (answers : List (List Value)) (vs : List Value)
        → b.first ≡ twig o → vs ≡ or_none (slice_get answers 0)
        → SafeTwigs w takes answers (b.first ∷ b.more)
        → AllByRecursion (Safe w takes (grown o.kids.items)) vs
    safe_first b o answers vs first given safe =
        subst (λ (t : Twig). AllByRecursion (Safe w takes t.kids) vs) first
        (subst (AllByRecursion (Safe w takes b.first.kids)) (sym given) safe.0)

    pub safe_begun : (b : Branch) (os items : List Output) (answers left : List (List Value))
        → b.more ≡ map twig os → items ≡ os → left ≡ drop 1 answers
        → SafeTwigs w takes answers (b.first ∷ b.more) → SafeTwigs w takes left (map twig items)
    safe_begun b os items answers left rest same behind_it safe =
        subst (λ (l : List (List Value)). SafeTwigs w takes l (map twig items)) (sym behind_it)
        (subst (λ (ts : List Twig). SafeTwigs w takes (drop 1 answers) ts)
        (rest ∙ ap (map twig) (sym same)) safe.1)

    safe_from : (items : List Output) (i : ℕ) (o : Output) (answers : List (List Value))
        → i < length items → o ≡ get_or items i o
        → SafeTwigs w takes answers (map twig (drop i items))
        → SafeTwigs w takes answers (twig o ∷ map twig (drop (i + 1) items))
    safe_from items i o answers h is safe =
        subst (λ (l : List Output). SafeTwigs w takes answers (map twig l)) (drop_at items i o h is)
        safe

    pub safe_here : (items : List Output) (i : ℕ) (o : Output) (answers : List (List Value))
        (vs : List Value) → i < length items → o ≡ get_or items i o
        → vs ≡ or_none (slice_get answers 0)
        → SafeTwigs w takes answers (map twig (drop i items))
        → AllByRecursion (Safe w takes (grown o.kids.items)) vs
    safe_here items i o answers vs h is given safe =
        subst (AllByRecursion (Safe w takes (grown o.kids.items))) (sym given)
        (safe_from items i o answers h is safe).0

    pub safe_on : (items : List Output) (i : ℕ) (o : Output) (answers left : List (List Value))
        → i < length items → o ≡ get_or items i o → left ≡ drop 1 answers
        → SafeTwigs w takes answers (map twig (drop i items))
        → SafeTwigs w takes left (map twig (drop (i + 1) items))
    safe_on items i o answers left h is behind_it safe =
        subst (λ (l : List (List Value)). SafeTwigs w takes l (map twig (drop (i + 1) items)))
        (sym behind_it) (safe_from items i o answers h is safe).1
