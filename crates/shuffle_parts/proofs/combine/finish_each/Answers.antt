use Rattle.std.proofs.Common.{[], ◌∷◌, ◌++◌, ◌∙◌, sym}
use Rattle.std.proofs.lemmas.List.{map-append}
use Rattle.partial_tables.specs.Lifted.{accumulators_of}
use Rattle.shuffle_parts.proofs.combine.finish_each.Goals as goal

pub loop-part-preserved : goal.loop-part-preserved
loop-part-preserved c =
    let one = c.from_vec.ensures ∙ c.in_ok-into_partials.ensures in
    c.in_ok-push.ensures.items ∙ (λ i. c.loop-part.invariant i ++ one i ∷ [])
    ∙ sym (map-append accumulators_of c.loop-part.yielded (c.in-Some.part ∷ []))
