-- A body that has slots keeps the rules, is well typed, and means what its slots do.
use Rattle.std.proofs.Common.{◌≡◌, ℕ, Ok, Err, Result, IfOk, List, [], ◌∷◌, refl, length, replicate}
use Rattle.std.proofs.Common.{map, sym, ap, subst}
use Rattle.flume_value.specs.declared.value.Value.{Value}
use Rattle.flume_types.specs.declared.types.Ty.{Ty}
use Rattle.flume_types.specs.Typing.{Has}
use Rattle.flume_grammar.specs.declared.fault.ScriptFault.{ScriptFault}
use Rattle.flume_grammar.specs.declared.fault.ScriptFault.TheVariants.{Refused, Memory}
use Rattle.flume_grammar.specs.declared.tree.Body.{Body}
use Rattle.dofn_eval.specs.declared.stmt.Stmt.{Stmt}
use Rattle.dofn_eval.specs.Run.{slots_mean}
use Rattle.dofn_eval.specs.Typed.{BlockTyped}
use Rattle.dofn_eval.specs.Answer.{HasAnswer}
use Rattle.dofn_eval.proofs.SoundCalls.{answered_call}
use Rattle.expression_check.specs.of_type_table.Table.{type_at}
use Rattle.expression_check.specs.of_written_types.Answer.{Checked, ◌>>=◌, Gives}
use Rattle.expression_check.specs.of_written_types.Named.{Named}
use Rattle.expression_check.specs.of_expression_types.Sight.{Sight}
use Rattle.body_check.specs.Bodies.{after_all, sight_after, at_start, body_of}
use Rattle.body_check.specs.Call.{block, emitted_in, means}
use Rattle.body_check.specs.inner.Frames.{InBody}
use Rattle.body_check.specs.inner.Slots.{placed_of, slots_in as block_of}
use Rattle.body_check.proofs.BlockLemmas.{IsBlock}
use Rattle.body_check.proofs.BodyLemmas.{right_block}

module _ (known : Named Ty) (argument : List ℕ) (takes : Ty) (gives : List Ty)
    (body : List Body) where
  abbrev start : Sight
  start = at_start known argument takes

  abbrev pub slots : Checked (List Stmt)
  slots = block_of (placed_of gives) body start

  abbrev IsWhole : Checked (List Stmt) → Type 0
  IsWhole o = IsBlock gives start o (after_all (sight_after gives) body start) (block
      (emitted_in known) body)

  -- what is known of a body's slots
  pub record IsFunction (ks : List Stmt) : Type 0 where
    pub rules : body_of known argument takes gives body ≡ Ok tt
    pub typed : BlockTyped (takes ∷ []) ks gives
    pub same : (outputs : ℕ) (x : Value)
        → means known outputs argument takes body x ≡ slots_mean outputs ks x

  function_is : (ks : List Stmt) → slots ≡ Ok ks → IsFunction ks
  function_is ks e =
      let h = subst IsWhole e (right_block known gives body start refl) in
      record {
        rules = ap (λ o. o >>= λ end. Ok tt) h.0.1;
        typed = h.1;
        same = λ outputs x. h.2 (x ∷ []) (replicate outputs []);
      }

  no_function : (f : ScriptFault) → slots ≡ Err f → body_of known argument takes gives body ≡ Err f
  no_function f e =
      ap (λ o. o >>= λ end. Ok tt) (subst IsWhole e (right_block known gives body start refl))

  keeps_rules : (r : Result (List Stmt) ScriptFault) → Gives (λ k. k) r slots
      → Gives (λ k. tt) r (body_of known argument takes gives body)
  keeps_rules (Ok ks) h = (function_is ks h).rules
  keeps_rules (Err Memory) h = tt
  keeps_rules (Err (Refused line kind)) h = no_function (Refused line kind) h

  is_typed : (r : Result (List Stmt) ScriptFault) → Gives (λ k. k) r slots
      → IfOk r (λ ks. BlockTyped (takes ∷ []) ks gives)
  is_typed (Ok ks) h = (function_is ks h).typed
  is_typed (Err e) h = tt

  means_same : (r : Result (List Stmt) ScriptFault) → Gives (λ k. k) r slots
      → IfOk r (λ ks. (outputs : ℕ) (x : Value)
      → means known outputs argument takes body x ≡ slots_mean outputs ks x)
  means_same (Ok ks) h = (function_is ks h).same
  means_same (Err e) h = tt

  -- what is known of what was answered, slots or a fault
  pub record IsAnswer (r : Result (List Stmt) ScriptFault) : Type 0 where
    pub rules : Gives (λ k. tt) r (body_of known argument takes gives body)
    pub typed : IfOk r (λ ks. BlockTyped (takes ∷ []) ks gives)
    pub same : IfOk r (λ ks. (outputs : ℕ) (x : Value)
        → means known outputs argument takes body x ≡ slots_mean outputs ks x)

  pub is_answer : (r : Result (List Stmt) ScriptFault) → Gives (λ k. k) r slots → IsAnswer r
  is_answer r h = record {
    rules = keeps_rules r h;
    typed = is_typed r h;
    same = means_same r h;
  }

  answered_by : (x : Value) (o : Checked (List Stmt)) → slots ≡ o
      → body_of known argument takes gives body ≡ Ok tt → Has takes x
      → HasAnswer gives (means known (length gives) argument takes body x)
  answered_by x (Ok ks) e rules has =
      let h = function_is ks e in
      subst (HasAnswer gives) (sym (h.same (length gives) x))
      (answered_call takes gives ks x h.typed has)
  answered_by x (Err f) e rules has =
      let wrong = no_function f e in
      cc

  pub answered : (x : Value) → body_of known argument takes gives body ≡ Ok tt → Has takes x
      → HasAnswer gives (means known (length gives) argument takes body x)
  answered x rules has = answered_by x slots refl rules has

-- the same where the types and the names are those that stood before
pub started : (f : InBody) (r : Result (List Stmt) ScriptFault) (known : Named Ty)
    (types : List Ty) (argument : List ℕ) (takes : ℕ) (gives : List ℕ) (body : List Body)
    → f.types ≡ types → f.sight.known ≡ known → f.gives ≡ map (type_at types) gives
    → Gives (λ k. k) r (block_of (placed_of f.gives) body
    (at_start f.sight.known argument (type_at f.types takes)))
    → Gives (λ k. k) r (slots known argument (type_at types takes) (map (type_at types) gives) body)
started f r known types argument takes gives body t n g h =
    subst (λ ts. Gives (λ k. k) r (block_of (placed_of (map (type_at types) gives)) body
    (at_start known argument (type_at ts takes)))) t
    (subst (λ names. Gives (λ k. k) r (block_of (placed_of (map (type_at types) gives)) body
    (at_start names argument (type_at f.types takes)))) n
    (subst (λ given. Gives (λ k. k) r (block_of (placed_of given) body
    (at_start f.sight.known argument (type_at f.types takes)))) g h))
