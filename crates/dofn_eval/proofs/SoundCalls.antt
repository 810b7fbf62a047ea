-- A call of a well-typed function at an argument of its type has an answer, of its types.
use Rattle.std.proofs.Common.{◌≡◌, List, [], ◌∷◌, length, refl, subst}
use Rattle.std.specs.Prelude.{Ok, Err}
use Rattle.flume_value.specs.declared.value.Value.{Value}
use Rattle.flume_types.specs.declared.types.Ty.{Ty}
use Rattle.flume_types.specs.Typing.{Has}
use Rattle.dofn_eval.specs.declared.stmt.Stmt.{Stmt}
use Rattle.dofn_eval.specs.Outcome.{Outcome, Gives, Traps, Stuck, IsSafe}
use Rattle.dofn_eval.specs.Answer.{OutputsHave, HasAnswer}
use Rattle.dofn_eval.specs.Run.{Emissions, slots_mean}
use Rattle.dofn_eval.specs.Function.{SlotFunction, FunTyped, CanBeCalledOn}
use Rattle.dofn_eval.specs.Typed.{BlockTyped}
use Rattle.dofn_eval.proofs.SoundOutcomes.{Sound, safe_from_sound}
use Rattle.dofn_eval.proofs.SoundBlocks.{none_yet, sound_block}

sound_call : (takes : Ty) (gives : List Ty) (body : List Stmt) (x : Value)
    → BlockTyped (takes ∷ []) body gives → Has takes x
    → Sound (OutputsHave gives) (slots_mean (length gives) body x)
sound_call takes gives body x d k =
    sound_block (takes ∷ []) body gives (x ∷ []) _ d (k, tt) (none_yet gives)

sound_fun : (takes : Ty) (gives : List Ty) (f : SlotFunction) (x : Value) → FunTyped takes gives f
    → Has takes x → Sound (OutputsHave gives) (slots_mean f.outputs f.body x)
sound_fun takes gives f x d k =
    subst (λ n. Sound (OutputsHave gives) (slots_mean n f.body x)) d.1
    (sound_call takes gives f.body x d.0 k)

pub safe_call : (f : SlotFunction) (x : Value) → CanBeCalledOn f x
    → IsSafe (slots_mean f.outputs f.body x)
safe_call f x a = safe_from_sound (OutputsHave a.1) _ (sound_fun a.0 a.1 f x a.2 a.3)

pub typed_call : (takes : Ty) (gives : List Ty) (f : SlotFunction) (x : Value) (lists : Emissions)
    → FunTyped takes gives f → Has takes x → slots_mean f.outputs f.body x ≡ Gives lists
    → OutputsHave gives lists
typed_call takes gives f x lists d k e =
    subst (Sound (OutputsHave gives)) e (sound_fun takes gives f x d k)

answer_from : (types : List Ty) (o : Outcome Emissions) → Sound (OutputsHave types) o
    → HasAnswer types o
answer_from types (Gives lists) h = (Ok lists, refl, h)
answer_from types (Traps kind) h = (Err kind, refl, tt)
answer_from types Stuck h = absurd h

pub answered_call : (takes : Ty) (gives : List Ty) (body : List Stmt) (x : Value)
    → BlockTyped (takes ∷ []) body gives → Has takes x
    → HasAnswer gives (slots_mean (length gives) body x)
answered_call takes gives body x d k =
    answer_from gives (slots_mean (length gives) body x) (sound_call takes gives body x d k)
