use Rattle.std.proofs.Common.{◌≡◌, ◌+◌, ◌*◌, [], length, map, max, drop}
use denote.Param.Weighed.{most}
use Rattle.flume_grammar.specs.declared.tree.Expr.{size-Expr}
use Rattle.type_table.specs.Table.{type_at, Extends}
use Rattle.expression_types.specs.Held.{AreTypes}
use Rattle.expression_check.specs.Slots.{slots_of, all_slots}
use Rattle.expression_check.proofs.expression.+resolve.Given as goal

abbrev pub decreases-resolve : goal.decreases-resolve
decreases-resolve l = 4 * size-Expr l.e.now

abbrev pub decreases-operated : goal.decreases-operated
decreases-operated l = 4 * size-Expr l.part.now + 2

abbrev pub decreases-dotted : goal.decreases-dotted
decreases-dotted l = 4 * size-Expr l.part.now + 2

abbrev pub decreases-recorded : goal.decreases-recorded
decreases-recorded l = 4 * most (λ e. size-Expr e) l.parts.now + 2

abbrev pub decreases-listed : goal.decreases-listed
decreases-listed l = 4 * most (λ e. size-Expr e) l.parts.now + 2

abbrev pub decreases-two : goal.decreases-two
decreases-two l = 4 * max (size-Expr l.a.now) (size-Expr l.b.now) + 3

abbrev pub decreases-indexed : goal.decreases-indexed
decreases-indexed l = 4 * max (size-Expr l.a.now) (size-Expr l.b.now) + 3

abbrev pub decreases-one_side : goal.decreases-one_side
decreases-one_side l = 4 * size-Expr l.part.now + 2

abbrev pub decreases-picked : goal.decreases-picked
decreases-picked l = 4 * max (size-Expr l.c.now) (max (size-Expr l.a.now) (size-Expr l.b.now)) + 3

abbrev pub decreases-operand_of : goal.decreases-operand_of
decreases-operand_of l = 4 * size-Expr l.e.now + 1

abbrev pub decreases-pair : goal.decreases-pair
decreases-pair l = 4 * max (size-Expr l.a.now) (size-Expr l.b.now) + 2

abbrev pub decreases-all_parts : goal.decreases-all_parts
decreases-all_parts l = 4 * most (λ e. size-Expr e) l.parts.now + 1

abbrev pub invariant-all_parts-loop-part : goal.invariant-all_parts-loop-part
invariant-all_parts-loop-part l = record {
  gives : all_slots (slots_of l.line) (drop l.part-index l.parts) l.fn.scope.sight l.exprs (map
      (type_at l.scope.types) l.types)
      ≡ all_slots (slots_of l.line) l.parts l.fn.scope.sight [] [];
  within : AreTypes (length l.scope.types) l.types;
  extends : Extends l.fn.scope.types l.scope.types;
  sight : l.scope.sight ≡ l.fn.scope.sight;
}
