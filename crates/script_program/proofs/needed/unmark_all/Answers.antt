use Rattle.std.proofs.Common.{false, refl, ◌∙◌, arith}
use Rattle.std.proofs.lemmas.List.{length-set}
use Rattle.script_program.proofs.FlagLemmas.{one-unset}
use Rattle.script_program.proofs.needed.unmark_all.Goals as goal

pub loop-number-preserved : goal.loop-number-preserved
loop-number-preserved c =
    let now = c.loop-number.flags.items in
    let number = c.loop-number.number in
    record {
      many = length-set now number false ∙ c.loop-number.invariant.many;
      unset =
          one-unset now number
          (omega (arith, c.loop-number-test.true, c.loop-number.invariant.many))
          c.loop-number.invariant.unset;
    }

pub loop-number-init : goal.loop-number-init
loop-number-init c = record { many = refl; unset = λ n below. absurd (omega arith) }

pub returns-clause-none : goal.returns-clause-none
returns-clause-none c = λ n in_.
    c.loop-number.invariant.unset n
    (omega (arith, in_, c.loop-number-test.false, c.loop-number.invariant.many))
