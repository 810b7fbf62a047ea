use Rattle.std.proofs.Common.{None, Some}
use Rattle.operate_step.proofs.Singling.{only_none_of, only_one, singles}
use Rattle.operate_step.proofs.single.singleton.Goals as goal

pub returns-then-members-eq1 : goal.returns-then-members-eq1
returns-then-members-eq1 c w =
    let members = c.args.members.now in
    let pair = c.index-members-0.result in
    singles w c.args.origin c.args.by members (Some pair)
    (only_one members pair c.if-members-eq1.true c.index-members-0.is) c.value_or_nothing.result
    c.value_or_nothing.ensures

pub returns-else-members-eq1 : goal.returns-else-members-eq1
returns-else-members-eq1 c w =
    let members = c.args.members.now in
    singles w c.args.origin c.args.by members None (only_none_of members c.if-members-eq1.false)
    c.made_of_nothing.result c.made_of_nothing.ensures
