use Rattle.std.proofs.Common.{◌≡◌, ◌<◌, ◌∙◌, length, ap, arith}
use Rattle.graph_build.specs.Graphs.{place_made, places_from}
use Rattle.graph_build.specs.Wanted.{wanted, wanted_at}
use Rattle.graph_build.proofs.PlaceLemmas.{places_all, places_next}
use Rattle.graph_build.proofs.places.places.Goals as goal

pub loop-number-preserved : goal.loop-number-preserved
loop-number-preserved c =
    let script = c.args.program.now.script in
    let below : c.loop-number.number < length c.args.program.now.script.nodes = omega arith in
    places_next script c.in_ok-giving.giving.items c.loop-number.places.items _ _ _
    c.loop-number.number below
    (c.in_ok-place.ensures
    ∙ ap (λ giving. place_made script giving c.loop-number.number
    (wanted_at script c.loop-number.number)) c.as_slice.ensures.value)
    c.in_ok-push.ensures.items c.loop-number.invariant

pub returns : goal.returns
returns c =
    let script = c.args.program.now.script in
    let end : c.loop-number.number ≡ length c.args.program.now.script.nodes = omega arith in
    places_all script c.in_ok-giving.giving.items c.loop-number.places.items _
    c.loop-number.number end c.loop-number.invariant
    ∙ ap (λ giving. places_from script giving 0 (wanted script)) c.in_ok-giving.ensures
