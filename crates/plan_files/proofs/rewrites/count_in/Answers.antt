use Rattle.std.proofs.Common.{option_map, sym, ap, ◌∙◌}
use Rattle.serde_json.specs.View.{members_view}
use Rattle.serde_json.proofs.Views.{members_len-members_view}
use Rattle.plan_files.specs.Forms.{members_counted}
use Rattle.plan_files.proofs.rewrites.count_in.Goals as goal

pub returns-in-Some : goal.returns-in-Some
returns-in-Some c =
    c.len.ensures.len ∙ sym (members_len-members_view c.in-Some.members.now.entries)
    ∙ ap (λ o. members_counted (option_map (λ m. members_view m.now.entries) o)) (sym c.in-Some.is)
    ∙ ap members_counted c.as_object.ensures
