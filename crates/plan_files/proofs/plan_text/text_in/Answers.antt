use Rattle.std.proofs.Common.{◌≡◌, false, Some, None, if◌then◌else◌, sym, ap, ◌∙◌}
use Rattle.serde_json.specs.View.{view}
use Rattle.serde_json.specs.Written.{compact_text}
use Rattle.plan_files.specs.Numbers.{has_number}
use Rattle.plan_files.proofs.Whole.{whole}
use Rattle.plan_files.proofs.plan_text.text_in.Goals as goal

pub returns : goal.returns
returns c =
    let d = view c.args.value.now in
    let none : has_number d ≡ false = sym c.has_number.ensures ∙ c.if-has_number.false in
    ap Some (c.from_vec.ensures ∙ c.in_ok-text.ensures.text (whole d none))
    ∙ ap (λ b. if b then None else Some (compact_text d)) (sym none)
