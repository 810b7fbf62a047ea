use Rattle.std.proofs.Common.{◌≡◌, ◌∷◌, [], rules}
use Rattle.shuffle_parts.specs.Outs.{pairs_at}
use Rattle.bag_step_tests.proofs.There.{both_there}
use Rattle.bag_step_tests.proofs.tests.parts.two_tasks.Goals as goal

pub returns : goal.returns
returns c p below =
    let x = c.in_ok-grouped.field-0 in
    let y = c.in_ok-grouped-2.field-0 in
    let outs : c.push-2.new.self.items ≡ x ∷ y ∷ [] = search rules in
    both_there (pairs_at 0 p) x y c.push-2.new.self.items outs (c.in_ok-grouped.ensures p below)
    (c.in_ok-grouped-2.ensures p below)
