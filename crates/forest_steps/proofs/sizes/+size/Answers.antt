use Rattle.std.proofs.Common.{◌≡◌, ◌≤◌, ◌-◌, ◌++◌, length, ap, arith, append-nil, sym, ◌∙◌, drop}
use Rattle.forest_steps.specs.inner.Sizes.{branches_sizes}
use Rattle.forest_steps.proofs.Sizing.{size_stands}
use Rattle.forest_steps.proofs.Visiting.{drop_past}
use Rattle.forest_steps.proofs.sizes.+size.Goals as goal

pub push_output-returns : goal.push_output-returns
push_output-returns t c =
    let items = c.deref-kid-items.result.now in
    let end : length items ≤ c.loop-kid.kid-index = omega (arith, c.loop-kid-test.false) in
    let now = c.loop-kid.sizes.items in
    let old = c.args.sizes.now.items in
    let at = c.len-at.result in
    let here : at ≡ length old = omega (arith, c.len-at.ensures, c.args.sizes.now.ok.0) in
    let left : now ++ branches_sizes (drop c.loop-kid.kid-index items) ≡ now =
    ap (λ l. now ++ branches_sizes l) (drop_past items c.loop-kid.kid-index end) ∙ append-nil now in
    let size : c.len.result - at ≡ length now - at =
    omega (arith, c.len.ensures, c.loop-kid.sizes.ok.0) in
    size_stands c.args.output.now old now at (c.len.result - at) items
    c.deref-kid-items.ensures.value here (sym left ∙ c.loop-kid.invariant) size
