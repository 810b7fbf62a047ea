use Rattle.std.proofs.Common.{◌≡◌, ◌∙◌, ℕ, List, map, subst}
use Rattle.std.specs.Prelude.{IfOk}
use Rattle.kept_results.specs.Keyed.{key_at}
use Rattle.kept_results.proofs.keyed.keyed_nodes.Goals as goal

pub returns : goal.returns
returns c =
    subst
    (λ (asked : List (ℕ × List ℕ)). IfOk c.keys_of.result (λ keyed. keyed.items
    ≡ map (λ (it : ℕ × List ℕ).
    (it.0, key_at c.args.outlines.now c.args.texts.now c.args.files.now it.1)) asked))
    (c.as_slice.ensures.value ∙ c.in_ok-asked.ensures) c.keys_of.ensures
