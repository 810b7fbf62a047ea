use Rattle.std.proofs.Common.{◌≡◌, ◌+◌, ap, sym, ◌∙◌, arith}
use Rattle.flume_types.specs.Depth.{depth_of, deepest}
use Rattle.flume_types.proofs.DepthLemmas.{depth_of-Rec}
use Rattle.flume_types.proofs.deep.+depth.Goals as goal

pub depth-returns-in-Rec : goal.depth-returns-in-Rec
depth-returns-in-Rec t c =
    let one_level : depth_of c.args.ty.now ≡ deepest depth_of c.as_slice.result.now + 1 =
    ap depth_of c.in-Rec.is ∙ depth_of-Rec c.in-Rec.fields
    ∙ ap (λ fields. deepest depth_of fields + 1) (sym c.as_slice.ensures) in
    omega (arith, c.one_more-in-Rec.ensures, c.deepest.ensures, one_level)
