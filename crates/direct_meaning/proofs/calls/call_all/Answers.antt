use Rattle.std.proofs.Common.{subst, sym}
use Rattle.dofn_eval.specs.Function.{CanBeCalledOn}
use Rattle.direct_meaning.proofs.calls.call_all.Goals as goal

pub call_one-requires : goal.call_one-requires
call_one-requires c =
    subst (CanBeCalledOn c.args.fun.now) (sym c.element-item.is)
    (c.requires c.loop-element.element-index c.element-item.result c.loop-element-test.true)
