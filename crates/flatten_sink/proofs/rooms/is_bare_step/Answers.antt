use Rattle.std.proofs.Common.{eqb, List, length, sym, ap, ◌∙◌}
use Rattle.std.proofs.lemmas.Bool.{eqb-true}
use Rattle.std.specs.List.{list_all}
use Rattle.std.specs.Vec.{vec_len}
use Rattle.exec_graph.specs.Forests.{Branch, grown, steps}
use Rattle.exec_graph.specs.declared.step.Output.{Output}
use Rattle.flatten_sink.proofs.BareSteps.{alone, bare_is_one}
use Rattle.flatten_sink.proofs.rooms.is_bare_step.Goals as goal

pub returns-then-is_empty : goal.returns-then-is_empty
returns-then-is_empty c = λ h.
    ap (λ (bs : List Branch). steps (grown bs))
    (alone c.args.steps.now c.step-item.result c.in-len1.len_at_least c.in-len1.len_below
    c.step-item.is)
    ∙ bare_is_one c.step-item.result c.step.inside.first c.step.inside.more.items
    (sym (ap (λ (b : Branch). b.first) c.step.view_is))
    (sym (ap (λ (b : Branch). b.more) c.step.view_is))
    (sym c.step.inside.first.kids.ok.0
    ∙ eqb-true (vec_len c.step.inside.first.kids) 0 (sym c.is_empty.ensures ∙ c.if-is_empty.true))
    (ap (λ (os : List Output). list_all (λ o. eqb (length o.kids.items) 0) os)
    (sym c.as_slice.ensures.value) ∙ sym c.are_bare.ensures ∙ h)
