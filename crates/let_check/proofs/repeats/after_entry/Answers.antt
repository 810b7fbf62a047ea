use Rattle.std.proofs.Common.{◌≤◌, ℕ, List, arith, length, subst}
use Rattle.operation_check.specs.of_written_types.Answer.{Checked, Gives}
use Rattle.script_program.specs.Script.{with_front}
use Rattle.script_rules.specs.Rules as spec
use Rattle.let_check.specs.inner.Held.{entry_in, repeat_in}
use Rattle.let_check.specs.declared.turns.Repeat.{Repeat as HeldRepeat}
use Rattle.let_check.proofs.EntryLemmas.{all-named-more, behind-types, found-behind}
use Rattle.let_check.proofs.EntryLemmas.{front-left}
use Rattle.let_check.proofs.repeats.after_entry.Goals as goal

pub repeat_for-requires-clause-front : goal.repeat_for-requires-clause-front
repeat_for-requires-clause-front c =
    omega (
      arith,
      c.node_count-front.ensures,
      all-named-more c.args.lets c.args.state.now.state c.add_lets.new.state.state
          c.in_ok-add_lets.ensures.gives,
    )

pub returns-clause-gives : goal.returns-clause-gives
returns-clause-gives c =
    let line = c.args.line in
    let outside = c.args.outside in
    let was = c.args.state.now in
    let body = c.add_lets.new.state in
    let after = c.repeat_for.new.state in
    let entry = entry_in body.types c.args.entry in
    let own : Gives (repeat_in after.types) c.repeat_for.result
    (spec.repeat_of line c.args.gives entry outside (length was.state.nodes) body.state) =
    subst
    (λ (n : ℕ). Gives (repeat_in after.types) c.repeat_for.result
    (spec.repeat_of line c.args.gives entry outside n body.state))
    c.node_count-front.ensures
    (subst
    (λ (names : List (List ℕ)). Gives (repeat_in after.types) c.repeat_for.result
    (spec.repeat_of line names entry outside c.node_count-front.result body.state))
    c.as_slice.ensures c.repeat_for.ensures.gives) in
    subst
    (λ (meant : Checked spec.Repeated). Gives {Y = spec.Repeated}
    (λ (repeat : HeldRepeat). record {
      repeat = repeat_in after.types repeat;
      behind = after.state;
    }) c.repeat_for.result meant)
    (behind-types line c.args.lets c.args.gives outside was.state body.state
    c.in_ok-add_lets.ensures.gives was.types body.types c.args.entry
    c.in_ok-add_lets.ensures.extends c.requires.within)
    (found-behind (repeat_in after.types) (with_front outside body.state) after.state
    c.repeat_for.result _ own c.repeat_for.ensures.state)

pub returns-clause-outside : goal.returns-clause-outside
returns-clause-outside c =
    let body = c.add_lets.new.state.state in
    let few : c.args.outside ≤ length body.nodes =
    omega (
      arith,
      c.requires.outside,
      all-named-more c.args.lets c.args.state.now.state body c.in_ok-add_lets.ensures.gives,
    ) in
    front-left (λ (repeat : HeldRepeat). repeat.outside) c.args.outside body
    c.repeat_for.new.state.state c.repeat_for.result few c.repeat_for.ensures.outside
    c.repeat_for.ensures.state
