use Rattle.type_table.specs.Table.{type_at}
use Rattle.script_program.specs.Script.{with_named_type}
use Rattle.script_state.proofs.StateLemmas.{as-seen, grows-name, functions-kept, nodes-kept, state_in}
use Rattle.script_state.proofs.state.State.add_type.Goals as goal

pub returns-clause-state : goal.returns-clause-state
returns-clause-state c =
    let own = c.self.inside in
    let new = c.add.new.self in
    let grows =
    grows-name own.known new (c.args.name, type_at own.known.types c.args.id)
    c.add.ensures.types c.in_ok-add.ensures.names in
    let functions =
    functions-kept own.known new grows own.functions.entries own.nodes
    c.self.invariant in
    let nodes =
    nodes-kept own.known new grows own.functions.entries own.nodes
    c.self.invariant in
    as-seen (λ checking. with_named_type c.args.name (type_at checking.types c.args.id)
    checking.state)
    c.self.view_is
    (λ i. record (state_in own) {
      types = c.in_ok-add.ensures.names i;
      functions = functions i;
      nodes = nodes i;
    })
