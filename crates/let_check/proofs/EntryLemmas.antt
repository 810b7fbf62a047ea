-- What enters a repeat stays as it is while its body is added, which takes no collection away.
use Rattle.std.proofs.Common.{◌≡◌, ℕ, ◌+◌, ◌<◌, ◌≤◌, List, [], ◌∷◌, length, map, Ok}
use Rattle.std.proofs.Common.{Result, Err, IfOk, OnOk, sym, ap, ◌∙◌, arith}
use Rattle.std.specs.List.{All}
use Rattle.std.specs.Map.{keys_of}
use Rattle.std.proofs.lemmas.List.{length_push, length-take-le}
use Rattle.flume_types.specs.declared.types.Ty.{Ty}
use Rattle.flume_grammar.specs.declared.tree.Operation.{Operation}
use Rattle.flume_grammar.specs.declared.tree.TurnLet.{TurnLet}
use Rattle.flume_grammar.specs.declared.fault.ScriptFault.{ScriptFault}
use Rattle.flume_grammar.specs.declared.fault.ScriptFault.TheVariants.{Refused, Memory}
use Rattle.type_table.specs.Table.{Extends}
use Rattle.operation_check.specs.of_written_types.Answer.{Checked, Gives, ◌>>=◌}
use Rattle.operation_check.proofs.of_written_types.NamedLemmas.{same-map}
use Rattle.script_state.specs.declared.operand.Operand.{Operand as HeldOperand}
use Rattle.script_state.specs.Held.{operand_in}
use Rattle.script_program.specs.Script.{Making, Operand, State, with_front, with_hidden}
use Rattle.script_program.specs.Script.{with_node, with_nodes}
use Rattle.script_rules.specs.Operations.{made_by}
use Rattle.let_check.specs.declared.repeats.Entry.{Entry as HeldEntry}
use Rattle.script_rules.specs.Repeats.{Repeat}
use Rattle.script_rules.specs.Rules as spec
use Rattle.let_check.specs.inner.Held.{entry_in}
use Rattle.script_rules.proofs.CheckedLemmas.{both, ok-same}
use Rattle.script_rules.proofs.StateLemmas.{nodes-hidden}

-- ---- types

abbrev IsIn : List Ty → HeldOperand → Type 0
IsIn types source = source.ty < length types

module _ (old new : List Ty) (more : Extends old new) (from : List HeldOperand) where
  operands-kept : All (IsIn old) from → map (operand_in new) from ≡ map (operand_in old) from
  operands-kept within =
      same-map (operand_in new) (operand_in old) (IsIn old)
      (λ source in_ i. record {
        number = source.number;
        type = more.same source.ty in_ i;
        is_object = source.is_object;
      })
      from within

-- ---- how many collections there are

pub nodes-more : (names : List (List ℕ)) (makings : List Making) (s : State)
    → length s.nodes ≤ length (with_nodes names makings s).nodes
nodes-more [] makings s = omega arith
nodes-more (name ∷ names) [] s = omega arith
nodes-more (name ∷ names) (making ∷ makings) s =
    let next = with_node name making s in
    let one : length next.nodes ≡ length s.nodes + 1 = length_push s.nodes _ in
    omega (arith, nodes-more names makings next, one)

named-more : (line : ℕ) (names : List (List ℕ)) (by : Operation) (s after : State)
    → spec.let_rule line names by s ≡ Ok after → length s.nodes ≤ length after.nodes
named-more line names by s after e =
    let new = both (spec.all_fresh line (keys_of s.names) names) _ after e in
    let makings = both (made_by line by s) _ after new.then in
    let fit = both (spec.all_fit line (length names) makings.part) _ after makings.then in
    let same = ap (λ s. length s.nodes) (ok-same _ after fit.then) in
    omega (arith, nodes-more names makings.part s, same)

pub all-named-more : (lets : List TurnLet) (s after : State) → spec.all_named lets s ≡ Ok after
    → length s.nodes ≤ length after.nodes
all-named-more [] s after e = omega (arith, ap (λ s. length s.nodes) (ok-same s after e))
all-named-more (it ∷ lets) s after e =
    let next = both (spec.let_rule it.line it.names it.by s) _ after e in
    omega (
      arith,
      named-more it.line it.names it.by s next.part next.first,
      all-named-more lets next.part after next.then,
    )

-- behind what enters a repeat there are no fewer collections than in front of it
pub entered-more : (names entering : List (List ℕ)) (makings : List Making) (s mid after : State)
    → mid ≡ with_hidden names s → after ≡ with_nodes entering makings mid
    → length s.nodes ≤ length after.nodes
entered-more names entering makings s mid after hidden put =
    let first : length mid.nodes ≡ length s.nodes =
    ap (λ (t : State). length t.nodes) hidden ∙ ap length (nodes-hidden names s) in
    let then : length after.nodes ≡ length (with_nodes entering makings mid).nodes =
    ap (λ (t : State). length t.nodes) put in
    omega (arith, nodes-more entering makings mid, first, then)

-- ---- the repeat behind its body

-- a repeat that was found, and what stands behind it
pub found-behind : {X : Type 0} (view : X → Repeat) (behind after : State)
    (result : Result X ScriptFault) (meant : Checked Repeat) → Gives view result meant
    → OnOk result (after ≡ behind)
    → Gives {Y = spec.Repeated} (λ x. record { repeat = view x; behind = after }) result
    (meant >>= (λ repeat. Ok (record { repeat = repeat; behind = behind })))
found-behind view behind after (Ok x) meant gives put =
    ap (λ r. r >>= (λ repeat. Ok (record { repeat = repeat; behind = behind }))) gives
    ∙ ap (λ (t : State). Ok (record { repeat = view x; behind = t })) (sym put)
found-behind view behind after (Err Memory) meant gives put = tt
found-behind view behind after (Err (Refused line kind)) meant gives put =
    ap (λ r. r >>= (λ repeat. Ok (record { repeat = repeat; behind = behind }))) gives

-- and how many collections stand behind it
pub front-left : {X : Type 0} (number : X → ℕ) (outside : ℕ) (body after : State)
    (result : Result X ScriptFault) → outside ≤ length body.nodes
    → IfOk result (λ x. number x ≡ outside) → OnOk result (after ≡ with_front outside body)
    → IfOk result (λ x. length after.nodes ≡ number x)
front-left number outside body after (Ok x) few same put =
    ap (λ (t : State). length t.nodes) put ∙ length-take-le outside body.nodes few ∙ sym same
front-left number outside body after (Err fault) few same put = tt

-- of the repeat that its lets and what it gives come to, behind what enters
module _ (line : ℕ) (lets : List TurnLet) (gives : List (List ℕ)) (outside : ℕ) (s body : State)
    (added : spec.all_named lets s ≡ Ok body) where
  abbrev of_entry : spec.Entry → Checked spec.Repeated
  of_entry entry =
      spec.repeat_of line gives entry outside (length s.nodes) body
      >>= (λ repeat. Ok (record { repeat = repeat; behind = with_front outside body }))

  behind-lets : (entry : spec.Entry)
      → spec.after_entry line lets gives entry outside s ≡ of_entry entry
  behind-lets entry =
      ap (λ r. r >>= (λ (b : State).
      spec.repeat_of line gives entry outside (length s.nodes) b
      >>= (λ repeat. Ok (record { repeat = repeat; behind = with_front outside b })))) added

  -- the entry is the same by the types behind the body
  pub behind-types : (old new : List Ty) (entry : HeldEntry) → Extends old new
      → All (IsIn old) entry.from
      → of_entry (entry_in new entry)
      ≡ spec.after_entry line lets gives (entry_in old entry) outside s
  behind-types old new entry more within =
      ap (λ (from : List Operand). of_entry (record { from = from; turns = entry.turns }))
      (operands-kept old new more entry.from within)
      ∙ sym (behind-lets (entry_in old entry))
