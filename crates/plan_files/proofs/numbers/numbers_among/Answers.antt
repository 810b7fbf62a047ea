use Rattle.std.proofs.Common.{sym, arith}
use Rattle.plan_files.specs.Forms.{number_in_data}
use Rattle.plan_files.proofs.Lists.{read_all, read_more, read_none}
use Rattle.plan_files.proofs.numbers.numbers_among.Goals as goal

pub loop-value-preserved : goal.loop-value-preserved
loop-value-preserved c =
    read_more number_in_data c.loop-value.numbers.items _ c.in-Some.number c.args.values.now
    c.loop-value.value-index c.value-item.result (omega arith) c.value-item.is
    (sym c.in-Some.ensures) c.in_ok-push-in-Some.ensures.items
    c.loop-value.invariant

pub returns-in-None : goal.returns-in-None
returns-in-None c =
    read_none number_in_data c.loop-value.numbers.items c.args.values.now c.loop-value.value-index
    c.value-item.result (omega arith) c.value-item.is (sym c.in-None.ensures)
    c.loop-value.invariant

pub returns : goal.returns
returns c =
    read_all number_in_data c.loop-value.numbers.items c.args.values.now c.loop-value.value-index
    (omega arith) c.loop-value.invariant
