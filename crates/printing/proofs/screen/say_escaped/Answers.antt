use Rattle.printing.specs.Printed.{printed_byte}
use Rattle.outside.proofs.SaidLemmas.{cut_at}
use Rattle.printing.proofs.screen.say_escaped.Goals as goal

pub returns-in_err-say_byte : goal.returns-in_err-say_byte
returns-in_err-say_byte g c =
    cut_at printed_byte c.args.name.now c.loop-byte.byte-index 0 _ _ _ _ _ c.from_residual.result
    c.loop-byte-test.true c.from_residual.ensures.0 c.loop-byte.invariant
    c.in_err-say_byte.ensures
