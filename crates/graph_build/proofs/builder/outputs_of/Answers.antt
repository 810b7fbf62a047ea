use Rattle.std.proofs.Common.{◌++◌, ◌∷◌, [], ◌∙◌, ap, sym}
use Rattle.std.specs.Prelude.{slice_get}
use Rattle.graph_build.specs.Graphs.{place_at_number}
use Rattle.graph_build.proofs.StepLemmas.{entry_of, mapped_next}
use Rattle.graph_build.proofs.builder.outputs_of.Goals as goal

pub loop-number-preserved : goal.loop-number-preserved
loop-number-preserved c =
    let (entry, found, same) =
    entry_of (slice_get c.args.program.now.script.outputs c.loop-number.number) _
    c.output.ensures in
    mapped_next (λ output. place_at_number c.args.places.now output.1.reads)
    c.args.program.now.script.outputs c.loop-number.outputs c.push.new.self c.loop-number.number
    entry found
    (c.in_ok-push.ensures.ok
    ∙ ap (λ place. c.loop-number.outputs ++ place ∷ [])
    (c.place_in.ensures ∙ ap (λ output. place_at_number c.args.places.now output.reads) (sym same)))
    c.loop-number.invariant
