-- Slots among values that were named one after another.
use Rattle.std.proofs.Common.{◌≡◌, ℕ, suc, ◌+◌, ◌-◌, ◌<◌, ◌≤◌, List, [], ◌∷◌, ◌++◌, Some, length, get_or, slice_get, arith, refl, sym, ap, ◌∙◌, inl, inr}
use Rattle.std.proofs.lemmas.Bool.{cases_lt}
use Rattle.std.proofs.lemmas.Option.{slice_get-get_or}
use Rattle.flume_value.specs.declared.value.Value.{Value}
use Rattle.dofn_calls.specs.inner.Operands.{named}

pub named-push : (vs : List Value) (v : Value) (env : List Value) → named (vs ++ v ∷ []) env
    ≡ v ∷ named vs env
named-push [] v env = refl
named-push (w ∷ vs) v env = named-push vs v (w ∷ env)

pub length-named : (vs env : List Value) → length (named vs env) ≡ length vs + length env
length-named [] env = omega arith
length-named (v ∷ vs) env = let e = length-named vs (v ∷ env) in omega (arith, e)

past_cons : (v : Value) (env : List Value) (n slot : ℕ) → suc n ≤ slot
    → slice_get (v ∷ env) (slot - n) ≡ slice_get env (slot - suc n)
past_cons v env n slot h = let e : slot - n
    ≡ suc (slot - suc n) = omega arith in ap (slice_get (v ∷ env)) e

-- beyond the named ones are those from before
named_past : (vs env : List Value) (slot : ℕ) → length vs ≤ slot → slice_get (named vs env) slot
    ≡ slice_get env (slot - length vs)
named_past [] env slot h = let e : slot ≡ slot - 0 = omega arith in ap (slice_get env) e
named_past (v ∷ vs) env slot h = let k : length vs ≤ slot = omega arith in
    named_past vs (v ∷ env) slot k ∙ past_cons v env (length vs) slot h

-- the last named is the newest
named_in : (vs env : List Value) (slot : ℕ) → slot < length vs → slice_get (named vs env) slot
    ≡ slice_get vs (length vs - 1 - slot)
named_in [] env slot h = absurd (omega arith)
named_in (v ∷ vs) env slot h =
    elim (cases_lt slot (length vs)) [
      | inl lt ↦
          let e : suc (length vs) - 1 - slot ≡ suc (length vs - 1 - slot) = omega arith in
          named_in vs (v ∷ env) slot lt ∙ sym (ap (slice_get (v ∷ vs)) e)
      | inr le ↦
          let at : slot - length vs ≡ 0 = omega arith in let e : suc (length vs) - 1 - slot
          ≡ 0 = omega arith in
          named_past vs (v ∷ env) slot le ∙ ap (slice_get (v ∷ env)) at
          ∙ sym (ap (slice_get (v ∷ vs)) e)
    ]

pub named_slot : (vs env : List Value) (slot i : ℕ) (x : Value) → slot < length vs → i
    ≡ length vs - 1 - slot → x ≡ get_or vs i x → slice_get (named vs env) slot ≡ Some x
named_slot vs env slot i x h e is =
    let lt : i < length vs = omega arith in
    named_in vs env slot h ∙ ap (slice_get vs) (sym e) ∙ slice_get-get_or vs i x lt
    ∙ ap Some (sym is)

pub older_slot : (vs env : List Value) (slot j : ℕ) (x : Value) → length vs ≤ slot → j
    ≡ slot - length vs → slice_get env j ≡ Some x → slice_get (named vs env) slot ≡ Some x
older_slot vs env slot j x h e is = named_past vs env slot h ∙ ap (slice_get env) (sym e) ∙ is

pub ruleset slot_rules = (named_slot, older_slot, length-named)
