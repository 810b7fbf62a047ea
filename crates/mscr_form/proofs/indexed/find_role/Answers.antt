use Rattle.std.proofs.Common.{◌∙◌, sym}
use Rattle.mscr_form.proofs.Indexing.{index_entry}
use Rattle.mscr_form.proofs.indexed.find_role.Goals as goal

pub returns-in-Some : goal.returns-in-Some
returns-in-Some c = index_entry c.args.roles.now c.in-Some.i c.args.number c.index-roles-i.result
    (sym c.spot_of.ensures.is ∙ c.in-Some.is) c.index-roles-i.is
