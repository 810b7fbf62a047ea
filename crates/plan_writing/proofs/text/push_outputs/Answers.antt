use Rattle.std.proofs.Common.{◌≤◌, ◌++◌, List, length, min, arith, sym, ap, ◌∙◌, append-nil}
use Rattle.std.proofs.lemmas.Option.{slice_get-get_or}
use Rattle.plan_writing.specs.Lists.{one_text}
use Rattle.plan_writing.specs.Naming.{Written}
use Rattle.plan_writing.specs.PlanText.{output_line}
use Rattle.plan_writing.proofs.Listing.{paired_end, text_beside}
use Rattle.plan_writing.proofs.text.push_outputs.Goals as goal

pub loop-number-preserved : goal.loop-number-preserved
loop-number-preserved g c =
    text_beside output_line c.loop-number.text.items c.push_output.new.text.items _
    (g.N.Names.naming c.args.names.now).outputs c.args.places.now c.loop-number.number _
    (omega arith) (slice_get-get_or c.args.places.now c.loop-number.number _ (omega arith))
    c.in_ok-push_output.ensures c.loop-number.invariant

pub returns : goal.returns
returns g c =
    let outputs : List Written = (g.N.Names.naming c.args.names.now).outputs in
    let end : min (length outputs) (length c.args.places.now) ≤ c.loop-number.number
    = omega arith in
    sym (append-nil c.loop-number.text.items)
    ∙ (ap (λ texts. c.loop-number.text.items ++ one_text texts)
    (sym (paired_end output_line outputs c.args.places.now c.loop-number.number end))
    ∙ c.loop-number.invariant)
