use Rattle.std.proofs.Common.{◌∙◌, refl}
use Rattle.flume_value.proofs.SeamLemmas.{written}
use Rattle.flume_value.proofs.short.Short.joined.Goals as goal

pub returns : goal.returns
returns c =
    c.new.ensures
    ∙ written c.args.front.now c.args.back.now _ _ _ _ _ c.copy_from_slice.ensures.after
    c.copy_from_slice-2.ensures.after refl
