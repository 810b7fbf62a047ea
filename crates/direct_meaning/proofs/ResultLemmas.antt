-- What holds of the value of a result, where there is one.
use Rattle.std.proofs.Common.{Result, Ok, Err}
use Rattle.std.specs.Prelude.{IfOk}

pub if_both : {A E : Type 0} (r : Result A E) (P Q R : A → Type 0)
    → ((x : A) → P x → Q x → R x) → IfOk r P → IfOk r Q → IfOk r R
if_both (Ok x) P Q R f p q = f x p q
if_both (Err e) P Q R f p q = tt

pub if_all : {A E : Type 0} (r : Result A E) (P Q R S : A → Type 0)
    → ((x : A) → P x → Q x → R x → S x) → IfOk r P → IfOk r Q → IfOk r R → IfOk r S
if_all (Ok x) P Q R S f p q s = f x p q s
if_all (Err e) P Q R S f p q s = tt
