use Rattle.std.proofs.Common.{[], ◌∷◌, sym, ap, ◌∙◌}
use Rattle.std.specs.Prelude.{reverse}
use Rattle.std.proofs.lemmas.List.{reverse-append}
use Rattle.saved_results.proofs.SizeTurns.{before, none_more, one_more}
use Rattle.saved_results.proofs.parts.sizes_in.Goals as goal

pub loop-value-preserved : goal.loop-value-preserved
loop-value-preserved c =
    let left = c.pop.new.self.items in
    let size = c.in-Some-size_in.size in
    let behind = reverse c.loop-value.sizes.items in
    ap (before left) (ap reverse c.in_ok-push-in-Some-size_in.ensures.items
    ∙ reverse-append c.loop-value.sizes.items (size ∷ []))
    ∙ sym (one_more left c.in-Some.value size behind (sym c.in-Some-size_in.ensures))
    ∙ ap (λ all. before all behind) (sym c.in-Some.ensures.items)
    ∙ c.loop-value.invariant

pub returns-in-None : goal.returns-in-None
returns-in-None c =
    let left = c.pop.new.self.items in
    let behind = reverse c.loop-value.sizes.items in
    sym (none_more left c.in-Some.value behind (sym c.in-None.ensures))
    ∙ ap (λ all. before all behind) (sym c.in-Some.ensures.items)
    ∙ c.loop-value.invariant
