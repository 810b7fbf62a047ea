use Rattle.std.proofs.Common.{◌≡◌, ◌+◌, ◌++◌, ◌∷◌, ◌∙◌, ℕ, List, suc, ap, append-nil, arith, drop, drop-cons, get_or, map, sym}
use Rattle.std.proofs.lemmas.List.{drop_all}
use Rattle.std.specs.Vec.Iter.{into_iter_items}
use Rattle.saved_meaning.specs.Found.{marked_ones, needs_input}
use Rattle.kept_results.proofs.lists.rows_needed.Goals as goal

pub loop-number-preserved : goal.loop-number-preserved
loop-number-preserved c =
    let ns : List ℕ = c.args.inputs.now in
    let i : ℕ = c.loop-number.number-index in
    let n : ℕ = get_or ns i 0 in
    let one : suc i ≡ i + 1 = omega arith in
    let needed = needs_input c.args.later.now.script in
    let lists = c.loop-number.lists.items in
    let rows = into_iter_items c.loop-number.rows in
    let front : drop i ns ≡ n ∷ drop (i + 1) ns
    = drop-cons ns i 0 c.loop-number-test.true ∙ ap (λ (j : ℕ). n ∷ drop j ns) one in
    c.in_ok-push_next.ensures (map needed (drop (i + 1) ns))
    ∙ ap (λ (l : List ℕ). lists ++ marked_ones (map needed l) rows) (sym front)
    ∙ c.loop-number.invariant

pub returns : goal.returns
returns c =
    let ns : List ℕ = c.args.inputs.now in
    let i : ℕ = c.loop-number.number-index in
    let needed = needs_input c.args.later.now.script in
    let lists = c.loop-number.lists.items in
    let rows = into_iter_items c.loop-number.rows in
    sym (append-nil lists)
    ∙ ap (λ (l : List ℕ). lists ++ marked_ones (map needed l) rows)
    (sym (drop_all i ns (omega (arith, c.loop-number-test.false))))
    ∙ c.loop-number.invariant
