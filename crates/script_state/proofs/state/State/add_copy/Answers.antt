use Rattle.std.proofs.Common.{◌∷◌, [], ◌<◌, length, sym, subst}
use Rattle.script_program.specs.Script.{with_copies}
use Rattle.script_program.specs.Program.{node_in}
use Rattle.script_state.proofs.StateLemmas.{as-seen, held-push, nodes-push, state_in}
use Rattle.script_state.proofs.state.State.add_copy.Goals as goal

pub invariant_of-self-2 : goal.invariant_of-self-2
invariant_of-self-2 c =
    let own = c.self.inside in
    held-push own.nodes c.push.new.self (c.args.name, c.args.node) c.in_ok-push.ensures.ok
    own.known own.functions.entries c.self.invariant
    (subst (λ checking. c.args.node.ty < length checking.types) (sym c.self.view_is) c.requires)

pub returns-clause-state : goal.returns-clause-state
returns-clause-state c =
    let own = c.self.inside in
    let types = own.known.types in
    let nodes =
    nodes-push own.nodes c.push.new.self (c.args.name, c.args.node) c.in_ok-push.ensures.ok
    types in
    as-seen
    (λ checking. with_copies ((c.args.name, node_in checking.types c.args.node) ∷ [])
    checking.state)
    c.self.view_is
    (λ i. record (state_in own) { nodes = nodes i })
