use Rattle.std.proofs.Common.{◌≡◌, length, get_or, ap, ◌∙◌, arith}
use Rattle.script_keys.proofs.Choosing.{as_many, more_parts}
use Rattle.script_keys.proofs.parts.key_parts.Goals as goal

pub index-requires : goal.index-requires
index-requires c =
    let many : length c.in_ok-flags.flags.items ≡ length c.args.outlines.now
    = ap length c.in_ok-flags.ensures ∙ as_many c.args.name.now c.args.outlines.now in
    omega (arith, c.in_ok-flags.flags.ok.0, many, c.loop-k-test.true)

pub loop-k-preserved : goal.loop-k-preserved
loop-k-preserved c =
    let k = c.loop-k.k in
    let flag = c.index.result.now in
    more_parts c.args.name.now c.args.outlines.now c.args.texts.now k c.index-outlines-k.result
    c.index-texts-k.result flag c.loop-k.parts.items c.push_marked.new.parts.items _
    c.loop-k-test.true c.requires c.index-outlines-k.is c.index-texts-k.is
    (c.index.ensures ∙ ap (λ flags. get_or flags k flag) c.in_ok-flags.ensures)
    c.in_ok-push_marked.ensures c.loop-k.invariant
