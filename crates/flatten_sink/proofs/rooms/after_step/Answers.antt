use Rattle.std.proofs.Common.{sym, ap, ◌∙◌}
use Rattle.exec_graph.specs.Readers.{any_node}
use Rattle.exec_graph.specs.Wellformed.{total_size}
use Rattle.flatten_sink.specs.inner.Places.{gathers}
use Rattle.flatten_sink.proofs.Room.{few_inputs, few_steps, room_is, size_is}
use Rattle.flatten_sink.proofs.rooms.after_step.Goals as goal

pub limit_for-limit-requires : goal.limit_for-limit-requires
limit_for-limit-requires c =
    few_steps c.args.call c.requires.ok c.requires.can c.as_slice-nodes.ensures
    c.in_ok-steps.ensures

pub are_within-requires-clause-steps : goal.are_within-requires-clause-steps
are_within-requires-clause-steps c =
    few_steps c.args.call c.requires.ok c.requires.can c.as_slice-nodes.ensures
    c.in_ok-steps.ensures

pub are_within-requires-clause-copies : goal.are_within-requires-clause-copies
are_within-requires-clause-copies c =
    few_inputs c.args.call c.requires.ok c.requires.can c.as_slice-nodes.ensures
    c.inputs_of-copies.ensures

pub size_within-left-requires-clause-steps : goal.size_within-left-requires-clause-steps
size_within-left-requires-clause-steps c =
    few_steps c.args.call c.requires.ok c.requires.can c.as_slice-nodes.ensures
    c.in_ok-steps.ensures

pub size_within-left-requires-clause-copies : goal.size_within-left-requires-clause-copies
size_within-left-requires-clause-copies c =
    few_inputs c.args.call c.requires.ok c.requires.can c.as_slice-nodes.ensures
    c.inputs_of-copies.ensures

pub returns-then-are_within : goal.returns-then-are_within
returns-then-are_within c =
    let size = c.requires.size ∙ ap total_size (sym c.as_slice-nodes.ensures) in
    record {
      room = sym (room_is c.args.call c.requires.ok c.requires.can c.as_slice-nodes.ensures size
          c.in_ok-steps.ensures c.inputs_of-copies.ensures c.in_ok-outputs.ensures
          c.is_read_elsewhere-is_read.ensures c.limit_for-limit.ensures c.are_within.result
          c.are_within.ensures) ∙ c.if-are_within.true;
      size = size_is c.args.call c.requires.ok c.requires.can c.as_slice-nodes.ensures size
          c.in_ok-steps.ensures c.inputs_of-copies.ensures c.in_ok-outputs.ensures
          c.is_read_elsewhere-is_read.ensures c.limit_for-limit.ensures
          c.size_within-left.result c.size_within-left.ensures;
      read = c.is_read_elsewhere-is_read.ensures;
      gathered = c.is_gathered.ensures
          ∙ ap (any_node (gathers c.args.call.other)) c.as_slice-nodes.ensures;
      end = c.requires.reach.pdo;
    }

pub returns-else-are_within : goal.returns-else-are_within
returns-else-are_within c =
    let size = c.requires.size ∙ ap total_size (sym c.as_slice-nodes.ensures) in
    sym (room_is c.args.call c.requires.ok c.requires.can c.as_slice-nodes.ensures size
    c.in_ok-steps.ensures c.inputs_of-copies.ensures c.in_ok-outputs.ensures
    c.is_read_elsewhere-is_read.ensures c.limit_for-limit.ensures c.are_within.result
    c.are_within.ensures) ∙ c.if-are_within.false
