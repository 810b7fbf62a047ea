use Rattle.std.proofs.Common.{◌≡◌, ℕ, ◌+◌, ◌<◌, List, Some, take, length, ap, ap₂, sym, subst, ◌∙◌}
use Rattle.graph_joins.specs.Blocks.{names_in}
use Rattle.graph_joins.specs.declared.names.Block.{Block}
use Rattle.graph_joins.specs.inner.Splices.{spliced_at}
use Rattle.graph_joins.proofs.BlockLemmas.{joined_here, place_within}
use Rattle.graph_joins.proofs.names.Names.spliced.Goals as goal

pub returns-in_ok-names-in-Some : goal.returns-in_ok-names-in-Some
returns-in_ok-names-in-Some c =
    let at : ℕ = c.args.at in
    let k = c.args.keep in
    let i : ℕ = c.in-Some.spot.block in
    let j : ℕ = c.in-Some.spot.behind in
    let is = c.in-Some.ensures in
    let bs : List Block = c.self.inside.blocks.items in
    let same : c.as_slice.result.now ≡ bs = c.as_slice.ensures.value in
    let sum : at ≡ length (names_in (take i bs)) + j =
    subst (λ (cs : List Block). at ≡ length (names_in (take i cs)) + j) same is.sum in
    let lt : at < length c.args.self =
    subst (λ (ns : List ℕ). at < length ns) (ap names_in same ∙ c.self.view_is)
    (place_within c.as_slice.result.now i j at is.block is.behind is.sum) in
    ap (λ (ns : List ℕ). Some ns)
    (c.in_ok-names-in-Some.ensures
    ∙ ap (λ (n : ℕ). spliced_at n k (names_in c.as_slice-in-Some.result.now) (names_in bs))
    (sym sum)
    ∙ ap₂ (λ (ys xs : List ℕ). spliced_at at k ys xs)
    (ap names_in c.as_slice-in-Some.ensures.value ∙ c.more.view_is) c.self.view_is)
    ∙ joined_here at k c.args.self c.args.more.now lt
