use Rattle.std.proofs.Common.{◌≡◌, ◌+◌, Ok, drop, sym, ap, ◌∙◌, subst}
use Rattle.flume_types.specs.declared.types.Ty.{Ty}
use Rattle.flume_grammar.specs.declared.tree.Body.{Body}
use Rattle.flume_grammar.specs.declared.fault.ScriptKind.TheVariants.{Mistyped}
use Rattle.expression_check.specs.of_type_table.Table.{type_at}
use Rattle.expression_check.proofs.of_type_table.TableLemmas.{Extends-twice}
use Rattle.expression_check.specs.of_written_types.Answer.{Checked, Gives, Fails, or_fault}
use Rattle.expression_check.proofs.of_written_types.FailsLemmas.{Fails-first, Fails-same}
use Rattle.expression_check.specs.of_expression_types.Fields.{side_types}
use Rattle.expression_check.specs.Slots.{slots_typed}
use Rattle.body_check.specs.inner.Frames.{InBody}
use Rattle.body_check.specs.inner.Slots.{Placed, slots_in, block_slots, both_slots, placed_of}
use Rattle.body_check.proofs.PlacedLemmas.{placed-If, placed-For, placed-Case}
use Rattle.body_check.proofs.SightLemmas.{behind-twice, next-placed, case-goes-on}
use Rattle.body_check.proofs.statements.+block.Goals as goal

pub block-loop-statement-preserved : goal.block-loop-statement-preserved
block-loop-statement-preserved t c =
    let gives = c.args.frame.now.gives in
    let statements = c.args.statements.now in
    let i = c.loop-statement.statement-index in
    let old = c.loop-statement.frame in
    let new = c.placed.new.frame in
    let is = c.loop-statement.invariant in
    let x : Placed = (c.in_ok-one.one, new.sight) in
    let one : placed_of gives c.statement-item.result old.sight ≡ Ok x =
    ap (λ g. placed_of g c.statement-item.result old.sight) (sym is.emits)
    ∙ c.in_ok-one.ensures.gives in
    record {
      gives =
          ap (block_slots (placed_of gives) (drop
          (i + 1) statements) new.sight) c.in_ok-push.ensures.ok
          ∙ next-placed gives statements i c.statement-item.result old.sight
          c.loop-statement.slots x
          c.loop-statement-test.true c.statement-item.is one
          ∙ is.gives;
      extends =
          Extends-twice c.args.frame.now.types old.types new.types is.extends
          c.placed.ensures.extends;
      known = c.placed.ensures.known ∙ is.known;
      kept =
          behind-twice c.args.frame.now.sight.names old.sight.names new.sight.names is.kept
          c.in_ok-one.ensures.kept;
      emits = c.placed.ensures.emits ∙ is.emits;
    }

-- a statement is placed as the form that it has
formed : (f : InBody) (b x : Body) (o : Checked Placed) (Is : Checked Placed → Type 0) → b ≡ x
    → placed_of f.gives x f.sight ≡ o → Is o → Is (placed_of f.gives b f.sight)
formed f b x o Is same form =
    subst Is (sym (ap (λ st. placed_of f.gives st f.sight) same ∙ form))

pub placed-returns-in-If-clause-gives : goal.placed-returns-in-If-clause-gives
placed-returns-in-If-clause-gives t c =
    formed c.args.frame.now _ _ _ (Gives (λ k. (k, c.place_if.new.frame.sight)) c.place_if.result)
    c.in-If.is (placed-If c.args.frame.now.gives c.in-If.line c.in-If.e c.in-If.a c.in-If.b
    c.args.frame.now.sight) c.place_if.ensures.gives

pub placed-returns-in-For-clause-gives : goal.placed-returns-in-For-clause-gives
placed-returns-in-For-clause-gives t c =
    formed c.args.frame.now _ _ _ (Gives (λ k. (k, c.place_for.new.frame.sight)) c.place_for.result)
    c.in-For.is (placed-For c.args.frame.now.gives c.in-For.line c.in-For.name c.in-For.e
    c.in-For.body c.args.frame.now.sight) c.place_for.ensures.gives

pub placed-returns-in-Case-clause-gives : goal.placed-returns-in-Case-clause-gives
placed-returns-in-Case-clause-gives t c =
    formed c.args.frame.now _ _ _
    (Gives (λ k. (k, c.place_case.new.frame.sight)) c.place_case.result) c.in-Case.is
    (placed-Case c.args.frame.now.gives c.in-Case.line c.in-Case.e c.in-Case.left c.in-Case.a
    c.in-Case.right c.in-Case.b c.args.frame.now.sight) c.place_case.ensures.gives

pub place_case-returns-in-Err-both_sides-clause-gives :
    goal.place_case-returns-in-Err-both_sides-clause-gives
place_case-returns-in-Err-both_sides-clause-gives t c =
    let line = c.args.line in
    let s = c.args.frame.now.sight in
    let gives = c.args.frame.now.gives in
    let mid = c.resolve.new.self in
    let e = c.in-Err-both_sides.fault in
    let left = c.args.names.left.now in
    let right_ = c.args.names.right.now in
    let a = c.args.blocks.first.now in
    let b = c.args.blocks.second.now in
    let x = c.in_ok-x.x in
    let sides = c.in-Ok.sides in
    let types_of : Ty × Ty = (type_at mid.types sides.left, type_at mid.types sides.right) in
    let has = subst (λ ts. or_fault line Mistyped (side_types (type_at ts x.ty))
    ≡ Ok (type_at ts sides.left, type_at ts sides.right)) c.types.ensures
    c.in-Ok.ensures.gives in
    let fails = subst (λ g. Fails e (both_slots line types_of left
    (slots_in (placed_of g) a) right_
    (slots_in (placed_of g) b) s)) c.resolve.ensures.emits
    (subst (λ t. Fails e (both_slots line types_of left (slots_in (placed_of mid.gives) a)
    right_ (slots_in (placed_of mid.gives) b) t)) c.resolve.ensures.sight
    c.in-Err-both_sides.ensures.gives) in
    Fails-same e _ _
    (case-goes-on line c.args.e.now left right_ (slots_in (placed_of gives) a) (slots_in
    (placed_of gives) b) s
    (slots_typed mid.types x) types_of c.in_ok-x.ensures.gives has)
    (Fails-first e _ _ fails)
