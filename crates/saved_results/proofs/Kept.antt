-- What is read of canonical bytes is what is kept in their value.
use Rattle.std.proofs.Common.{◌≡◌, ℕ, List, Option, Some, None, refl, sym, ap, ◌∙◌, subst}
use Rattle.std.specs.Prelude.{Result, Ok, Err, IfOk, IfSome, IfNone}
use Rattle.flume_value.specs.declared.value.Value.{Value}
use Rattle.value_reading.specs.Written.{IsCanonical}
use Rattle.saved_results.specs.declared.saved.Saved.{Saved}
use Rattle.saved_results.specs.Forms.{saved_of}
use Rattle.saved_results.specs.Saved.{AreCounts, saved_value}
use Rattle.saved_results.proofs.FormLemmas.{saved_again, saved_read}

pub some_kept : {E : Type 0} (r : Result (Option Saved) E) (v : Value) (bytes : List ℕ)
    → IsCanonical v bytes → IfOk r (λ found. found ≡ saved_of v)
    → IfOk r (λ found. IfSome found (λ saved. IsCanonical (saved_value saved) bytes))
some_kept (Ok None) v bytes w h = tt
some_kept (Ok (Some saved)) v bytes w h =
    subst (λ x. IsCanonical x bytes) (saved_read v saved (sym h)) w
some_kept (Err e) v bytes w h = tt

pub none_kept : {E : Type 0} (r : Result (Option Saved) E) (v : Value) (bytes : List ℕ)
    → ((x : Value) → IsCanonical x bytes → v ≡ x) → IfOk r (λ found. found ≡ saved_of v)
    → IfOk r (λ found. IfNone found ((saved : Saved) → AreCounts saved
    → IsCanonical (saved_value saved) bytes → ⊥))
none_kept (Ok None) v bytes one h = λ saved counts w.
    let clash : None ≡ Some saved
    = h ∙ ap saved_of (one (saved_value saved) w) ∙ saved_again saved counts in
    absurd (cc)
none_kept (Ok (Some saved)) v bytes one h = tt
none_kept (Err e) v bytes one h = tt
