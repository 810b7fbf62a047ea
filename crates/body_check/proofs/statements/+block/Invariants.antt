use Rattle.std.proofs.Common.{◌≡◌, ◌+◌, ◌*◌, [], max, drop}
use denote.Param.Weighed.{most}
use Rattle.flume_grammar.specs.declared.tree.Body.{size-Body}
use Rattle.expression_check.specs.of_type_table.Table.{Extends}
use Rattle.body_check.specs.inner.Frames.{IsBehind}
use Rattle.body_check.specs.inner.Slots.{block_slots, placed_of}
use Rattle.body_check.proofs.statements.+block.Given as goal

abbrev pub decreases-placed : goal.decreases-placed
decreases-placed l = 8 * size-Body l.statement.now

abbrev pub decreases-block : goal.decreases-block
decreases-block l = 8 * most (λ b. size-Body b) l.statements.now + 1

abbrev pub decreases-inner : goal.decreases-inner
decreases-inner l = 8 * most (λ b. size-Body b) l.body.now + 2

abbrev pub decreases-named : goal.decreases-named
decreases-named l = 8 * most (λ b. size-Body b) l.body.now + 3

abbrev pub decreases-of_side : goal.decreases-of_side
decreases-of_side l = 8 * most (λ b. size-Body b) l.body.now + 4

abbrev pub decreases-place_for : goal.decreases-place_for
decreases-place_for l = 8 * most (λ b. size-Body b) l.body.now + 4

abbrev pub decreases-place_if : goal.decreases-place_if
decreases-place_if l =
    8 * max (most (λ b. size-Body b) l.blocks.first.now) (most
    (λ b. size-Body b) l.blocks.second.now) + 3

abbrev pub decreases-both_sides : goal.decreases-both_sides
decreases-both_sides l =
    8 * max (most (λ b. size-Body b) l.blocks.first.now) (most
    (λ b. size-Body b) l.blocks.second.now) + 5

abbrev pub decreases-place_case : goal.decreases-place_case
decreases-place_case l =
    8 * max (most (λ b. size-Body b) l.blocks.first.now) (most
    (λ b. size-Body b) l.blocks.second.now) + 6

abbrev pub invariant-block-loop-statement : goal.invariant-block-loop-statement
invariant-block-loop-statement l = record {
  gives : block_slots (placed_of l.fn.frame.gives)
      (drop l.statement-index l.statements) l.frame.sight l.slots
      ≡ block_slots (placed_of l.fn.frame.gives) l.statements l.fn.frame.sight [];
  extends : Extends l.fn.frame.types l.frame.types;
  known : l.frame.sight.known ≡ l.fn.frame.sight.known;
  kept : IsBehind l.fn.frame.sight.names l.frame.sight.names;
  emits : l.frame.gives ≡ l.fn.frame.gives;
}
