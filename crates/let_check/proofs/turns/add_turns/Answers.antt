use Rattle.std.proofs.Common.{◌≡◌, ◌+◌, ℕ, List, length, subst, ◌∙◌}
use Rattle.std.proofs.lemmas.List.{length-map}
use Rattle.flume_types.specs.declared.types.Ty.{Ty}
use Rattle.script_program.specs.Script.{with_copies}
use Rattle.script_program.specs.inner.Tables.{node_of}
use Rattle.script_rules.specs.Repeats.{turn_gives, turn_nodes}
use Rattle.let_check.specs.inner.Held.{repeat_in}
use Rattle.let_check.proofs.TurnLemmas.{next-last, next-nodes, next-room}
use Rattle.let_check.proofs.turns.add_turns.Goals as goal

pub loop-turn-preserved : goal.loop-turn-preserved
loop-turn-preserved c =
    let held = c.args.repeat.now in
    let types = c.args.state.now.types in
    let repeat = repeat_in types held in
    let before = c.loop-turn.state in
    let after = c.add_turn.new.state in
    let turn = c.loop-turn.turn in
    let entering = c.loop-turn.entering in
    let given = c.in_ok-entering.entering in
    let start = length before.state.nodes in
    let put =
    subst (λ (t : List Ty). after.state
    ≡ with_copies (turn_nodes (repeat_in t held) entering start (turn + 1)) before.state)
    c.loop-turn.invariant.types
    (subst (λ (l : List ℕ). after.state
    ≡ with_copies (turn_nodes (repeat_in before.types held) l start (turn + 1)) before.state)
    c.as_slice-in-loop-turn.ensures c.in_ok-entering.ensures.state) in
    let gives =
    subst (λ (t : List Ty). given ≡ turn_gives (repeat_in t held) entering start)
    c.loop-turn.invariant.types
    (subst (λ (l : List ℕ). given ≡ turn_gives (repeat_in before.types held) l start)
    c.as_slice-in-loop-turn.ensures c.in_ok-entering.ensures.gives) in
    let below = c.loop-turn-test.true in
    record {
      types = c.add_turn.ensures.types ∙ c.loop-turn.invariant.types;
      room = next-room repeat entering turn before.state after.state given below put gives
          (length held.body) (length-map held.body (node_of types)) c.loop-turn.invariant.room;
      nodes = next-nodes repeat entering turn before.state after.state given below put gives
          ∙ c.loop-turn.invariant.nodes;
      last = next-last repeat entering turn before.state after.state given below put gives
          ∙ c.loop-turn.invariant.last;
    }
