-- What a check that finds no fault has found.
use Rattle.std.proofs.Common.{◌≡◌, ℕ, Bool, true, false, Option, Some, None, Ok, Err, refl}
use Rattle.flume_grammar.specs.declared.fault.ScriptKind.{ScriptKind}
use Rattle.script_program.specs.of_written_types.Answer.{Checked, ◌>>=◌, unless, or_fault}

abbrev pub accepted : {A : Type 0} → A → Checked A
accepted x = Ok x

pub ok-same : {A : Type 0} (x y : A) → accepted x ≡ Ok y → x ≡ y
ok-same x y e = cc

-- both parts find none
pub record Both {A B : Type 0} (r : Checked A) (f : A → Checked B) (y : B) : Type 0 where
  pub part : A
  pub first : r ≡ Ok part
  pub then : f part ≡ Ok y

pub both : {A B : Type 0} (r : Checked A) (f : A → Checked B) (y : B) → (r >>= f) ≡ Ok y
    → Both r f y
both (Ok x) f y e = record { part = x; first = refl; then = e }
both (Err fault) f y e = cc

pub holds : (line : ℕ) (kind : ScriptKind) (test : Bool) (u : Unit {0})
    → unless line kind test ≡ Ok u → test ≡ true
holds line kind true u e = refl
holds line kind false u e = cc

pub there : {A : Type 0} (line : ℕ) (kind : ScriptKind) (o : Option A) (x : A)
    → or_fault line kind o ≡ Ok x → o ≡ Some x
there line kind None x e = cc
there line kind (Some y) x e = cc
