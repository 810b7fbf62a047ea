use Rattle.std.proofs.Common.{◌≡◌, ap, ◌∙◌, length, arith}
use Rattle.forest_steps.specs.Fresh.{none_given}
use Rattle.forest_steps.specs.Places.{outputs_in}
use Rattle.forest_steps.proofs.Sizing.{sizes_length}
use Rattle.forest_run.proofs.run.begin.Goals as goal

pub returns-clause-fresh : goal.returns-clause-fresh
returns-clause-fresh c =
    let count : c.len.result ≡ outputs_in c.args.roots.now =
    omega (
      arith,
      c.len.ensures,
      c.in_ok-sizes.sizes.ok.0,
      ap length c.in_ok-sizes.ensures,
      sizes_length c.args.roots.now,
    ) in
    c.in_ok-outputs.ensures ∙ (λ i. none_given (c.in_ok-count_outputs.ensures i) (count i))

pub returns-clause-few : goal.returns-clause-few
returns-clause-few c =
    omega (
      arith,
      c.in_ok-sizes.sizes.ok.0,
      c.in_ok-sizes.sizes.small,
      ap length c.in_ok-sizes.ensures,
      sizes_length c.args.roots.now,
    )
