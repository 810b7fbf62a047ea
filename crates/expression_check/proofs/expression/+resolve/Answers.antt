use Rattle.std.proofs.Common.{◌≡◌, ◌+◌, Ok, map, drop, sym, ap, ◌∙◌, subst}
use Rattle.type_table.specs.Table.{type_at}
use Rattle.type_table.proofs.TableLemmas.{Extends-twice}
use Rattle.expression_types.specs.of_written_types.Answer.{Gives}
use Rattle.expression_check.specs.Slots.{slots_typed, operand, both_typed, all_slots, pick, slots_of}
use Rattle.expression_check.proofs.KeptLemmas.{operand-kept, types-push, within-push, next-part, picked-is}
use Rattle.expression_check.proofs.SlotLemmas.{slots-Record, slots-List}
use Rattle.expression_check.proofs.expression.+resolve.Goals as goal

pub all_parts-loop-part-preserved : goal.all_parts-loop-part-preserved
all_parts-loop-part-preserved t c =
    let line = c.args.line in
    let s = c.args.scope.now.sight in
    let old = c.loop-part.scope.types in
    let new = c.resolve.new.scope.types in
    let is = c.loop-part.invariant in
    let x = slots_typed new c.in_ok-x.x in
    let parts = c.args.parts.now in
    let i = c.loop-part.part-index in
    let one : slots_of line c.part-item.result s ≡ Ok x =
    ap (slots_of line c.part-item.result) (sym is.sight) ∙ c.in_ok-x.ensures.gives in
    let grown = types-push old new c.resolve.ensures.extends c.loop-part.types
    c.push-in-loop-part.new.self c.in_ok-x.x.ty c.in_ok-push-2.ensures.ok is.within in
    record {
      gives =
          (λ j. all_slots (slots_of line) (drop (i + 1) parts) s (c.in_ok-push.ensures.ok j)
          (grown j))
          ∙ next-part line parts i c.part-item.result s c.loop-part.exprs
          (map (type_at old) c.loop-part.types) x c.loop-part-test.true c.part-item.is one
          ∙ is.gives;
      within =
          within-push old new c.resolve.ensures.extends c.loop-part.types
          c.push-in-loop-part.new.self c.in_ok-x.x.ty c.in_ok-push-2.ensures.ok is.within
          c.in_ok-x.ensures.within;
      extends =
          Extends-twice c.args.scope.now.types old new is.extends c.resolve.ensures.extends;
      sight = c.resolve.ensures.sight ∙ is.sight;
    }

pub picked-returns-clause-gives : goal.picked-returns-clause-gives
picked-returns-clause-gives t c =
    let line = c.args.line in
    let mid = c.operand_of.new.scope.types in
    let new = c.pair.new.scope.types in
    let test = c.in_ok-test.test in
    let both = both_typed new c.in_ok-both.both in
    subst (Gives (slots_typed new) c.pick.result)
    (sym (picked-is line c.args.c.now c.args.a.now c.args.b.now c.args.scope.now.sight
    c.operand_of.new.scope.sight (operand mid test) (operand new test) both
    c.in_ok-test.ensures.gives c.operand_of.ensures.sight c.in_ok-both.ensures.gives
    (operand-kept mid new c.pair.ensures.extends test c.in_ok-test.ensures.within)))
    (subst (λ ts. Gives (slots_typed ts) c.pick.result (pick line (operand ts test)
    (operand ts c.in_ok-both.both.first) (operand ts c.in_ok-both.both.second)))
    c.types.ensures c.pick.ensures.gives)

pub resolve-returns-in-Record-clause-gives : goal.resolve-returns-in-Record-clause-gives
resolve-returns-in-Record-clause-gives t c =
    let line = c.args.line in
    let s = c.args.scope.now.sight in
    subst (Gives (slots_typed c.recorded.new.scope.types) c.recorded.result)
    (sym (ap (λ e. slots_of line e s) c.in-Record.is
    ∙ slots-Record line c.in-Record.names c.in-Record.parts s)) c.recorded.ensures.gives

pub resolve-returns-in-List-clause-gives : goal.resolve-returns-in-List-clause-gives
resolve-returns-in-List-clause-gives t c =
    let line = c.args.line in
    let s = c.args.scope.now.sight in
    subst (Gives (slots_typed c.listed.new.scope.types) c.listed.result)
    (sym (ap (λ e. slots_of line e s) c.in-List.is ∙ slots-List line c.in-List.parts s))
    c.listed.ensures.gives
