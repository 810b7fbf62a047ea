use Rattle.std.proofs.Common.{◌≡◌, ◌∷◌, [], rules}
use Rattle.shuffle_parts.specs.Outs.{partials_at}
use Rattle.bag_step_tests.proofs.There.{both_there}
use Rattle.bag_step_tests.proofs.tests.parts.two_sums.Goals as goal

pub returns : goal.returns
returns c =
    let x = c.in_ok-sums.field-0 in
    let y = c.in_ok-sums-2.field-0 in
    let outs : c.push-2.new.self.items ≡ x ∷ y ∷ [] = search rules in
    both_there (partials_at 0 0) x y c.push-2.new.self.items outs c.in_ok-sums.ensures
    c.in_ok-sums-2.ensures
