use Rattle.std.proofs.Common.{ap, ◌∙◌}
use Rattle.plan_roles.specs.declared.roles.Role.{Role}
use Rattle.mscr_form.specs.inner.Labels.{part_keys}
use Rattle.mscr_form.proofs.Joining.{role_same}
use Rattle.mscr_form.proofs.labels.keys_at.Goals as goal

pub returns : goal.returns
returns c =
    c.keys_of.ensures
    ∙ ap (λ (r : Role). part_keys r.part)
    (c.index-roles-i.is
    ∙ role_same c.args.roles.now c.args.i c.index-roles-i.result c.requires)
