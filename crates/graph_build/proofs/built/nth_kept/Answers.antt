use Rattle.std.proofs.Common.{◌≡◌, suc, ◌+◌, ◌-◌, ◌<◌, ◌∙◌, slice_get, sym, subst, arith}
use Rattle.graph_build.specs.Calls.{numbers_kept_from}
use Rattle.graph_build.proofs.BuiltLemmas.{kept_behind, kept_other}
use Rattle.graph_build.proofs.built.nth_kept.Goals as goal
use Rattle.graph_build.proofs.built.nth_kept.Goals.{then-kept_at+else-left-eq0, else-kept_at}

pub loop-name-preserved : goal.loop-name-preserved
loop-name-preserved c =
    let script = c.args.program.now.script in
    let name = c.loop-name.name in
    let end = c.args.end in
    let left = c.loop-name.left in
    let below : c.loop-name.name < c.args.end = omega arith in
    let all = slice_get (numbers_kept_from script c.args.first (end - c.args.first)) c.args.place in
    elim c.if-kept_at.branch [
      | then-kept_at+else-left-eq0 w ↦
          let some : c.loop-name.left ≡ suc (c.loop-name.left - 1)
          = omega (arith, w.if-left-eq0.false) in
          subst
          (λ k. slice_get (numbers_kept_from script (name + 1) (end - (name + 1))) k ≡ all)
          (sym w.left-is)
          (kept_behind script name end (left - 1) all below
          (sym c.kept_at.ensures ∙ w.if-kept_at.true)
          (subst (λ k. slice_get (numbers_kept_from script name (end - name)) k ≡ all) some
          c.loop-name.invariant))
      | else-kept_at w ↦
          subst
          (λ k. slice_get (numbers_kept_from script (name + 1) (end - (name + 1))) k ≡ all)
          (sym w.left-is)
          (kept_other script name end left all below
          (sym c.kept_at.ensures ∙ w.if-kept_at.false) c.loop-name.invariant)
    ]
