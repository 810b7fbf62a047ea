-- When the slots of statements are right; those of a block, from those of its statements.
use Rattle.std.proofs.Common.{◌≡◌, Ok, Err, List, [], ◌∷◌, ◌++◌, sym, ap, ◌∙◌, subst, append_assoc}
use Rattle.flume_value.specs.declared.value.Value.{Value}
use Rattle.flume_types.specs.declared.types.Ty.{Ty}
use Rattle.dofn_eval.specs.declared.stmt.Stmt.{Stmt}
use Rattle.dofn_eval.specs.Outcome.{Outcome, Gives, then}
use Rattle.dofn_eval.specs.Run as slots
use Rattle.dofn_eval.specs.Run.{Emissions}
use Rattle.dofn_eval.specs.Typed.{BlockTyped}
use Rattle.expression_check.specs.of_written_types.Answer.{Checked, ◌>>=◌}
use Rattle.expression_check.specs.of_expression_types.Sight.{Sight}
use Rattle.expression_check.specs.Given.{Thing, Environment}
use Rattle.expression_check.specs.Right.{types, bound}
use Rattle.body_check.specs.Call.{NameState, state, Emits}
use Rattle.body_check.specs.inner.Slots.{Placed, InBlock}
use Rattle.body_check.proofs.GoesLemmas.{named, named_then, emitted_named}

abbrev pub Giving : Type 0
Giving = Environment → Outcome Thing

abbrev pub Doing : Type 0
Doing = NameState → Outcome NameState

-- the statement's slots are well typed in front of others, and do what it does
abbrev pub IsPlaced : List Ty → Sight → Checked Placed → Checked Sight → Doing → Type 0
IsPlaced gives s (Err f) next does = next ≡ Err f
IsPlaced gives s (Ok x) next does =
    (next ≡ Ok x.1)
    × (x.1.known ≡ s.known)
    × ((rest : List Stmt) → BlockTyped (types x.1.names) rest gives
    → BlockTyped (types s.names) (x.0 ∷ rest) gives)
    × ((vs : List Value) (out : Emissions) → does (state (bound s.names vs) out)
    ≡ named x.1.names (slots.run_one x.0 (slots.state vs out)))

-- the same of statements one after another
abbrev pub ArePlaced : List Ty → Sight → List Stmt → Checked (List Stmt × Sight) → Checked Sight
    → Doing →
    Type 0
ArePlaced gives s ks (Err f) next does = next ≡ Err f
ArePlaced gives s ks (Ok x) next does =
    (more : List Stmt) × (x.0 ≡ ks ++ more) × (next ≡ Ok x.1) × BlockTyped
    (types s.names) more gives
    × ((vs : List Value) (out : Emissions) → does (state (bound s.names vs) out)
    ≡ named x.1.names (slots.run_all slots.run_one more (slots.state vs out)))

-- a block by itself
abbrev pub IsBlock : List Ty → Sight → Checked (List Stmt) → Checked Sight → Emits → Type 0
IsBlock gives s (Err f) next emits = next ≡ Err f
IsBlock gives s (Ok ks) next emits =
    ((end : Sight) × (next ≡ Ok end)) × BlockTyped (types s.names) ks gives
    × ((vs : List Value) (out : Emissions) → emits (bound s.names vs) out ≡ slots.run_statements ks
    vs out)

-- a block in which other names are in sight
abbrev pub IsInside : List Ty → Sight → InBlock → (Sight → Checked Sight) → Emits → Type 0
IsInside gives s found next emits =
    (inner : Sight) → inner.known ≡ s.known → IsBlock gives inner (found inner) (next inner) emits

-- ---- the statements of a block

module _ (gives : List Ty) (s : Sight) (ks : List Stmt) where
  first_of : (x : Placed) (next : Checked Sight) (does : Doing)
      (found : Checked (List Stmt × Sight)) (last : Sight → Checked Sight) (rest : Doing)
      → IsPlaced gives s (Ok x) next does
      → ArePlaced gives x.1 (ks ++ x.0 ∷ []) found (last x.1) rest
      → ArePlaced gives s ks found (next >>= λ t. last t) (λ st. then (does st) rest)
  first_of x next does (Err f) last rest h r = ap (λ o. o >>= λ t. last t) h.0 ∙ r
  first_of x next does (Ok found) last rest h (more, is, has, td, same) = (
    x.0 ∷ more,
    is ∙ append_assoc ks (x.0 ∷ []) more,
    ap (λ o. o >>= λ t. last t) h.0 ∙ has,
    h.2 more td,
    λ vs out. ap (λ o. then o rest) (h.3 vs out)
        ∙ named_then x.1.names found.1.names (slots.run_one x.0 (slots.state vs out)) rest
        (slots.run_all slots.run_one more) same,
  )

  pub next_of : (o : Checked Placed) (next : Checked Sight) (does : Doing)
      (found : Sight → List Stmt → Checked (List Stmt × Sight)) (last : Sight → Checked Sight)
      (rest : Doing) → IsPlaced gives s o next does
      → ((t : Sight) (made : List Stmt) → t.known ≡ s.known
      → ArePlaced gives t made (found t made) (last t) rest)
      → ArePlaced gives s ks (o >>= λ x. found x.1 (ks ++ x.0 ∷ [])) (next >>= λ t. last t)
      (λ st. then (does st) rest)
  next_of (Err f) next does found last rest h r = ap (λ o. o >>= λ t. last t) h
  next_of (Ok x) next does found last rest h r =
      first_of x next does (found x.1 (ks ++ x.0 ∷ [])) last rest h (r x.1 (ks ++ x.0 ∷ []) h.1)

pub as_block : (gives : List Ty) (s : Sight) (o : Checked (List Stmt × Sight))
    (next : Checked Sight)
    (does : Doing) → ArePlaced gives s [] o next does
    → IsBlock gives s (o >>= λ all. Ok all.0) next
    (λ env out. then (does (state env out)) (λ st. Gives st.out))
as_block gives s (Err f) next does h = h
as_block gives s (Ok x) next does (more, is, has, td, same) = (
  (x.1, has),
  subst (λ ks. BlockTyped (types s.names) ks gives) (sym is) td,
  λ vs out. ap (λ o. then o (λ st. Gives st.out)) (same vs out)
      ∙ emitted_named x.1.names (slots.run_all slots.run_one more (slots.state vs out))
      ∙ ap (λ ks. slots.run_statements ks vs out) (sym is),
)
