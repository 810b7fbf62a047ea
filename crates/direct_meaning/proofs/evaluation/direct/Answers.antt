use Rattle.std.proofs.Common.{◌≡◌, ◌+◌, ◌++◌, ◌∷◌, ◌∙◌, ◌<◌, [], List, Option, Some, None, false, length, ap, arith, subst, sym}
use Rattle.std.specs.Vec.Iter.{into_iter_items}
use Rattle.direct_meaning.proofs.EndLemmas.{as_many_kept, ends, is_direct, same_stands, unneeded_passes}
use Rattle.direct_meaning.proofs.ResultLemmas.{if_all}
use Rattle.script_program.specs.Needed.{is_needed}
use Rattle.direct_meaning.specs.inner.Stands.{Stands}
use Rattle.direct_meaning.specs.declared.kept.Kept.{Kept}
use Rattle.direct_meaning.proofs.evaluation.direct.Goals as goal
use Rattle.direct_meaning.proofs.evaluation.direct.Goals.{then-is_needed+in_ok-kept, else-is_needed}

pub loop-number-preserved : goal.loop-number-preserved
loop-number-preserved c =
    let script = c.args.program.now.script in
    let inputs = c.args.inputs in
    let number = c.loop-number.number in
    let stands = c.loop-number.invariant in
    elim c.if-is_needed.branch [
      | then-is_needed+in_ok-kept w ↦
          let table = w.as_slice.result.now in
          let here = subst (λ (l : List (Option Kept)).
          Stands script inputs number (into_iter_items c.loop-number.rows) l
          c.loop-number.traps.items) (sym w.as_slice.ensures.value) stands in
          same_stands script inputs (number + 1) (into_iter_items w.make.new.inputs)
          (into_iter_items c.if-is_needed.rows) (table ++ Some w.in_ok-kept.kept ∷ [])
          c.push.new.self.items w.make.new.traps.items c.if-is_needed.traps.items
          (w.in_ok-kept.ensures inputs here) (ap into_iter_items w.rows-is)
          (c.in_ok-push.ensures.items ∙ (λ i. sym w.as_slice.ensures.value i ++ w.kept-is i ∷ []))
          (ap (λ t. t.items) w.traps-is)
      | else-is_needed w ↦
          let below : number < length script.nodes = omega arith in
          let unneeded : is_needed script number ≡ false
          = sym c.is_needed.ensures ∙ w.if-is_needed.false in
          same_stands script inputs (number + 1) (into_iter_items c.loop-number.rows)
          (into_iter_items c.if-is_needed.rows) (c.loop-number.table.items ++ None ∷ [])
          c.push.new.self.items c.loop-number.traps.items c.if-is_needed.traps.items
          (unneeded_passes script c.requires.well_formed inputs
          (into_iter_items c.loop-number.rows) number c.loop-number.table.items
          c.loop-number.traps.items stands below unneeded)
          (ap into_iter_items w.rows-is)
          (c.in_ok-push.ensures.items
          ∙ (λ i. c.loop-number.table.items ++ w.kept-is i ∷ []))
          (ap (λ t. t.items) w.traps-is)
    ]

pub told-requires : goal.told-requires
told-requires c =
    let script = c.args.program.now.script in
    let last : c.loop-number.number ≡ length script.nodes = omega arith in
    as_many_kept script c.requires.well_formed c.args.inputs c.loop-number.table.items
    c.loop-number.traps.items
    (ends script c.args.inputs _ c.loop-number.number c.loop-number.table.items
    c.loop-number.traps.items last c.loop-number.invariant)

pub returns : goal.returns
returns c =
    let script = c.args.program.now.script in
    let last : c.loop-number.number ≡ length script.nodes = omega arith in
    let kept = c.loop-number.table.items in
    let traps = c.loop-number.traps.items in
    if_all c.told.result _ _ _ _
    (is_direct script c.requires.well_formed c.args.inputs kept traps
    (ends script c.args.inputs _ c.loop-number.number kept traps last c.loop-number.invariant))
    c.told.ensures.bags c.told.ensures.sizes c.told.ensures.traps
