-- An outcome is sound where it is not stuck, and what it gives has the property wanted.
use Rattle.std.proofs.Common.{Option, sym, subst}
use Rattle.flume_types.proofs.PartLemmas.{Part}
use Rattle.dofn_eval.specs.Outcome.{Outcome, Gives, Traps, Stuck, then, then_both, with_part, IsSafe}

abbrev pub Sound : {A : Type 0} → (A → Type 0) → Outcome A → Type 0
Sound P (Gives a) = P a
Sound P (Traps k) = Unit {0}
Sound P Stuck = ⊥

pub sound_then : {A B : Type 0} (P : A → Type 0) (Q : B → Type 0) (o : Outcome A)
    (f : A → Outcome B) → Sound P o → ((a : A) → P a → Sound Q (f a)) → Sound Q (then o f)
sound_then P Q (Gives a) f s h = h a s
sound_then P Q (Traps k) f s h = tt
sound_then P Q Stuck f s h = absurd s

pub sound_both : {A B C : Type 0} (P : A → Type 0) (Q : B → Type 0) (R : C → Type 0) (o : Outcome A)
    (p : Outcome B) (f : A → B → Outcome C) → Sound P o → Sound Q p
    → ((a : A) (b : B) → P a → Q b → Sound R (f a b)) → Sound R (then_both o p f)
sound_both P Q R (Gives a) p f s t h = sound_then Q R p (f a) t (λ b g. h a b s g)
sound_both P Q R (Traps k) p f s t h = tt
sound_both P Q R Stuck p f s t h = absurd s

pub safe_from_sound : {A : Type 0} (P : A → Type 0) (o : Outcome A) → Sound P o → IsSafe o
safe_from_sound P (Gives a) s = tt
safe_from_sound P (Traps k) s = tt
safe_from_sound P Stuck s = absurd s

pub sound_part : {A B : Type 0} (P : A → Type 0) (Q : B → Type 0) (o : Option A) (f : A → Outcome B)
    → Part o P → ((a : A) → P a → Sound Q (f a)) → Sound Q (with_part o f)
sound_part P Q o f p h = subst (λ m. Sound Q (with_part m f)) (sym p.1) (h p.0 p.2)
