use Rattle.std.proofs.Common.{◌≤◌, ◌++◌, List, length, map, min, arith, sym, ap, ◌∙◌, append-nil}
use Rattle.std.proofs.lemmas.Option.{slice_get-get_or}
use Rattle.serde_json.specs.Data.{Data, array}
use Rattle.serde_json.specs.View.{items_of, view}
use Rattle.serde_json.proofs.Views.{view-Array}
use Rattle.plan_writing.specs.Naming.{Written}
use Rattle.plan_json.specs.PlanJson.{output_json}
use Rattle.plan_writing.proofs.Listing.{paired_end}
use Rattle.plan_json.proofs.Listing.{values_next}
use Rattle.plan_json.proofs.json.outputs_value.Goals as goal

pub loop-number-preserved : goal.loop-number-preserved
loop-number-preserved g c =
    values_next output_json view c.loop-number.values.items c.push.new.self.items _
    (g.N.Names.naming c.args.names.now).outputs c.args.places.now c.loop-number.number _ _
    (omega arith) (slice_get-get_or c.args.places.now c.loop-number.number _ (omega arith))
    c.in_ok-output_value.ensures c.in_ok-push.ensures.items c.loop-number.invariant

pub returns : goal.returns
returns g c =
    let outputs : List Written = (g.N.Names.naming c.args.names.now).outputs in
    let end : min (length outputs) (length c.args.places.now) ≤ c.loop-number.number
    = omega arith in
    view-Array c.loop-number.values
    ∙ ap (λ (values : List Data). array (items_of values))
    (sym (append-nil (map view c.loop-number.values.items))
    ∙ (ap (λ values. map view c.loop-number.values.items ++ values)
    (sym (paired_end output_json outputs c.args.places.now c.loop-number.number end))
    ∙ c.loop-number.invariant))
