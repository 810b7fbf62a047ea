use Rattle.std.proofs.Common.{◌∙◌, subst}
use Rattle.flume_value.specs.Canonical.{canonical}
use Rattle.flume_value.specs.Ranges.{IsHeld}
use Rattle.kept_results.specs.Sizes.{to_keep}
use Rattle.saved_results.specs.Saved.{saved_value}
use Rattle.cached_course.proofs.missing.value_of.Goals as goal

pub returns-clause-value : goal.returns-clause-value
returns-clause-value c =
    let known = c.args.known.now in
    let nodes = c.as_slice-rested.ensures.value in
    let members = c.in_ok-members.ensures in
    c.in_ok-value.ensures.bytes
    ∙ (λ i. canonical (saved_value (to_keep known (nodes i) (members i))))

pub returns-clause-held : goal.returns-clause-held
returns-clause-held c =
    let known = c.args.known.now in
    let nodes = c.as_slice-rested.ensures.value in
    let members = c.in_ok-members.ensures in
    subst IsHeld (λ i. saved_value (to_keep known (nodes i) (members i)))
    c.in_ok-value.ensures.held
