use Rattle.std.proofs.Common.{◌++◌, ◌∷◌, ap, sym, ◌∙◌}
use Rattle.step_counts.specs.inner.Owned.{branches_owners}
use Rattle.step_counts.proofs.Owning.{all_owned, grown_are}
use Rattle.step_counts.proofs.owners.+push.Goals as goal

pub push_output-returns : goal.push_output-returns
push_output-returns t c =
    all_owned c.loop-kid.nodes.items _ c.deref-kid-items.result.now c.loop-kid.kid-index
    c.loop-kid-test.false c.loop-kid.invariant
    ∙ ap (λ l. c.args.nodes.now.items ++ c.args.owner ∷ l)
    (ap branches_owners c.deref-kid-items.ensures.value ∙ sym (grown_are _))
