use Rattle.std.proofs.Common.{[], ◌∷◌, ◌++◌, ◌∙◌, sym}
use Rattle.std.proofs.lemmas.List.{map-append}
use Rattle.map_shard.specs.inner.Fillings.{sent_of}
use Rattle.map_shard.proofs.send.all_sent.Goals as goal

pub loop-filling-preserved : goal.loop-filling-preserved
loop-filling-preserved c =
    c.in_ok-push.ensures.items
    ∙ (λ i. c.loop-filling.invariant i ++ c.in_ok-finish.ensures i ∷ [])
    ∙ sym (map-append sent_of c.loop-filling.yielded (c.in-Some.filling ∷ []))
