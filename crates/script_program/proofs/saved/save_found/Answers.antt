use Rattle.std.proofs.Common.{◌<◌, length, sym, ◌∙◌, arith}
use Rattle.std.proofs.lemmas.List.{length-set}
use Rattle.script_program.proofs.SavedLemmas.{saved-step, saved-end}
use Rattle.script_program.proofs.saved.save_found.Goals as goal

pub loop-number-preserved : goal.loop-number-preserved
loop-number-preserved c =
    let now = c.loop-number.nodes.items in
    let number = c.loop-number.number in
    let below : number < length now =
    omega (arith, c.loop-number-test.true, c.loop-number.invariant.many) in
    record {
      many = length-set now number c.save_at.new.entry ∙ c.loop-number.invariant.many;
      saved =
          saved-step c.args.found.now now number c.index_mut.result.now c.save_at.new.entry below
          c.index_mut.ensures.value c.save_at.ensures
          ∙ c.loop-number.invariant.saved;
    }

pub returns : goal.returns
returns c =
    let now = c.loop-number.nodes.items in
    sym (saved-end c.args.found.now now c.loop-number.number
    (omega (arith, c.loop-number-test.false, c.loop-number.invariant.many)))
    ∙ c.loop-number.invariant.saved
