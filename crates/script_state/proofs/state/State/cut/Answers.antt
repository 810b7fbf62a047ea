use Rattle.std.proofs.Common.{◌≡◌, drop, map, subst}
use Rattle.script_program.specs.Script.{with_front}
use Rattle.script_program.specs.inner.Tables.{node_of}
use Rattle.script_state.proofs.StateLemmas.{held-behind, held-front, held-none, nodes-behind}
use Rattle.script_state.proofs.StateLemmas.{as-seen, nodes-front, state_in}
use Rattle.script_state.proofs.state.State.cut.Goals as goal

pub invariant_of-self : goal.invariant_of-self
invariant_of-self c =
    let own = c.self.inside in
    held-none own.known own.functions.entries own.nodes c.self.invariant c.cut_out.new.nodes
    c.in_err-nodes.ensures.none

pub invariant_of-self-2 : goal.invariant_of-self-2
invariant_of-self-2 c =
    let own = c.self.inside in
    held-front own.known own.functions.entries own.nodes c.self.invariant c.args.front
    c.cut_out.new.nodes c.in_ok-nodes.ensures.front

pub returns-clause-body : goal.returns-clause-body
returns-clause-body c =
    let own = c.self.inside in
    let rest = c.in_ok-nodes.nodes in
    subst
    (λ checking. map (node_of own.known.types) rest ≡ drop c.args.body checking.state.nodes)
    c.self.view_is
    (nodes-behind own.known own.functions.entries own.nodes c.self.invariant own.known.types
    c.args.body rest c.in_ok-nodes.ensures.body)

pub returns-clause-typed : goal.returns-clause-typed
returns-clause-typed c =
    let own = c.self.inside in
    held-behind own.known own.functions.entries own.nodes c.self.invariant c.args.body
    c.in_ok-nodes.nodes c.in_ok-nodes.ensures.body

pub returns-clause-state : goal.returns-clause-state
returns-clause-state c =
    let own = c.self.inside in
    as-seen (λ checking. with_front c.args.front checking.state) c.self.view_is
    (λ i. record (state_in own) {
      nodes = nodes-front own.known own.functions.entries own.nodes c.self.invariant
          own.known.types c.args.front c.cut_out.new.nodes c.in_ok-nodes.ensures.front i;
    })
