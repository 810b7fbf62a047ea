use Rattle.std.proofs.Common.{◌≡◌, ◌∷◌, [], rules}
use Rattle.shuffle_parts.specs.declared.out.Sent.TheVariants.{Grouped, Passed}
use Rattle.bag_step_tests.proofs.There.{parted_there}
use Rattle.bag_step_tests.proofs.tests.parts.grouped.Goals as goal

pub returns : goal.returns
returns c p below =
    let parts = c.in_ok-part.field-0 in
    let sent : c.push-3.new.self ≡ Grouped parts ∷ Passed c.push.new.self ∷ [] = search rules in
    parted_there 3 p c.args.pairs.items parts c.push-3.new.self _ sent c.in_ok-part.ensures below
