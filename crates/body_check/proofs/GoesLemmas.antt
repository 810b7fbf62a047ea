-- What statements do where names stand for values, and where slots do.
use Rattle.std.proofs.Common.{◌≡◌, ℕ, Option, Some, None, List, [], ◌∷◌, refl, ap, ◌∙◌}
use Rattle.flume_value.specs.declared.value.Value.{Value}
use Rattle.flume_value.specs.Parts.{members_of, left_of, right_of}
use Rattle.flume_types.specs.declared.types.Ty.{Ty}
use Rattle.dofn_eval.specs.Outcome.{Outcome, Gives, Traps, Stuck, then, with_part}
use Rattle.dofn_eval.specs.Run as slots
use Rattle.dofn_eval.specs.Run.{Emissions, emitted_to}
use Rattle.dofn_eval.proofs.MeaningLemmas.{then_same}
use Rattle.expression_check.specs.of_expression_types.Sight.{Newest}
use Rattle.expression_check.specs.of_expression_types.Fields.{member_type, side_types}
use Rattle.expression_check.specs.Given.{tagged, valued}
use Rattle.expression_check.specs.Right.{bound}
use Rattle.body_check.specs.Call.{NameState, state, Emits, each, for_each, side, by_side, after}

-- the names in sight stand for the values in scope
abbrev pub named : Newest Ty → Outcome slots.SlotState → Outcome NameState
named names o = then o (λ s. Gives (state (bound names s.env) s.out))

pub named_then : (names next : Newest Ty) (o : Outcome slots.SlotState)
    (f : NameState → Outcome NameState)
    (g : slots.SlotState → Outcome slots.SlotState)
    → ((vs : List Value) (out : Emissions)
    → f (state (bound names vs) out) ≡ named next (g (slots.state vs out)))
    → then (named names o) f ≡ named next (then o g)
named_then names next (Gives s) f g h = h s.env s.out
named_then names next (Traps k) f g h = refl
named_then names next Stuck f g h = refl

pub emitted_named : (names : Newest Ty) (o : Outcome slots.SlotState)
    → then (named names o) (λ s. Gives s.out) ≡ slots.emissions_at_end o
emitted_named names (Gives s) = refl
emitted_named names (Traps k) = refl
emitted_named names Stuck = refl

pub after_named : (names : Newest Ty) (vs : List Value) (o : Outcome Emissions)
    → after (bound names vs) o ≡ named names (slots.after vs o)
after_named names vs (Gives out) = refl
after_named names vs (Traps k) = refl
after_named names vs Stuck = refl

pub let_goes : (name : List ℕ) (names : Newest Ty) (t : Ty) (vs : List Value) (out : Emissions)
    (o : Outcome Value)
    → then (tagged t o) (λ x. Gives (state ((name, x) ∷ bound names vs) out))
    ≡ named ((name, t) ∷ names) (then o (λ v. Gives (slots.state (v ∷ vs) out)))
let_goes name names t vs out (Gives v) = refl
let_goes name names t vs out (Traps k) = refl
let_goes name names t vs out Stuck = refl

pub emit_goes : (names : Newest Ty) (t : Ty) (vs : List Value) (out : Emissions) (n : ℕ)
    (o : Outcome Value)
    → after (bound names vs) (then (tagged t o) (λ x. emitted_to n x.1 out))
    ≡ named names (slots.after vs (then o (λ v. emitted_to n v out)))
emit_goes names t vs out n (Gives v) = after_named names vs (emitted_to n v out)
emit_goes names t vs out n (Traps k) = refl
emit_goes names t vs out n Stuck = refl

pub valued_tagged : (t : Ty) (o : Outcome Value) → valued (tagged t o) ≡ o
valued_tagged t (Gives v) = refl
valued_tagged t (Traps k) = refl
valued_tagged t Stuck = refl

-- ---- a block for each member

module _ (f : Emits) (g : slots.Emits) (name : List ℕ) (u : Ty) (names : Newest Ty)
    (vs : List Value) (s : (v : Value) (out : Emissions)
    → f ((name, (u, v)) ∷ bound names vs) out ≡ g (v ∷ vs) out) where
  each_same : (xs : List Value) (out : Emissions)
      → each f name u xs (bound names vs) out ≡ slots.each g xs vs out
  each_same [] out = refl
  each_same (x ∷ xs) out =
      ap (λ o. then o (each f name u xs (bound names vs))) (s x out)
      ∙ then_same (g (x ∷ vs) out) _ _ (λ more. each_same xs more)

  members_same : (out : Emissions) (o : Option (List Value))
      → with_part o (λ xs. each f name u xs (bound names vs) out)
      ≡ with_part o (λ xs. slots.each g xs vs out)
  members_same out None = refl
  members_same out (Some xs) = each_same xs out

  pub for_goes : (t : Ty) (out : Emissions) → member_type t ≡ Some u → (o : Outcome Value)
      → then (tagged t o) (λ x. for_each f name x (bound names vs) out) ≡ slots.for_each g o vs out
  for_goes t out e (Gives v) =
      ap (λ o. with_part o (λ type. with_part (members_of v)
      (λ members. each f name type members (bound names vs) out))) e
      ∙ members_same out (members_of v)
  for_goes t out e (Traps k) = refl
  for_goes t out e Stuck = refl

-- ---- the block of a side

module _ (f h : Emits) (g k : slots.Emits) (left right_ : List ℕ) (sides : Ty × Ty)
    (names : Newest Ty) (vs : List Value) (out : Emissions) (s : (v : Value)
    → f ((left, (sides.0, v)) ∷ bound names vs) out ≡ g (v ∷ vs) out) (q : (v : Value) → h
    ((right_, (sides.1, v)) ∷ bound names vs) out ≡ k (v ∷ vs) out) where
  side_same : (l r : Option Value)
      → side f left h right_ sides l r (bound names vs) out ≡ slots.side_of g k l r vs out
  side_same (Some x) r = s x
  side_same None (Some y) = q y
  side_same None None = refl

  pub case_goes : (t : Ty) → side_types t ≡ Some sides → (o : Outcome Value)
      → then (tagged t o) (λ x. by_side f left h right_ x (bound names vs) out)
      ≡ slots.by_side g k o vs out
  case_goes t e (Gives v) =
      ap (λ o. with_part o (λ types. side f left h right_ types (left_of v) (right_of v)
      (bound names vs) out)) e
      ∙ side_same (left_of v) (right_of v)
  case_goes t e (Traps kind) = refl
  case_goes t e Stuck = refl
