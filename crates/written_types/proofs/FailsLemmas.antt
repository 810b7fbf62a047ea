-- Joining what checking gives.
use Rattle.std.proofs.Common.{◌≡◌, Ok, Err, refl, ap, ◌∙◌}
use Rattle.flume_grammar.specs.declared.fault.ScriptFault.{ScriptFault}
use Rattle.flume_grammar.specs.declared.fault.ScriptFault.TheVariants.{Refused, Memory}
use Rattle.written_types.specs.Answer.{Checked, ◌>>=◌, Fails}

pub bind-same : {A B : Type 0} (r : Checked A) (g h : A → Checked B) → ((x : A) → g x ≡ h x)
    → (r >>= g) ≡ (r >>= h)
bind-same (Ok x) g h same = same x
bind-same (Err e) g h same = refl

pub Fails-first : {A B : Type 0} (e : ScriptFault) (r : Checked A) (g : A → Checked B)
    → Fails e r → Fails e (r >>= g)
Fails-first Memory r g h = tt
Fails-first (Refused line kind) r g h = ap (λ r. r >>= g) h

pub Fails-same : {A : Type 0} (e : ScriptFault) (r s : Checked A) → r ≡ s → Fails e s → Fails e r
Fails-same Memory r s same h = tt
Fails-same (Refused line kind) r s same h = same ∙ h
