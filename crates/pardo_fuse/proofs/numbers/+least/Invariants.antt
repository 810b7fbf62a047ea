use Rattle.std.proofs.Common.{◌≡◌, ◌*◌, ◌+◌, ◌-◌, drop, map}
use Rattle.std.specs.List.{flat_map}
use Rattle.exec_graph.specs.Forests.{Bare, Twig, grown, limb}
use Rattle.exec_graph.specs.Twigs.{twig}
use Rattle.pardo_fuse.specs.Readers.{cut_of}
use Rattle.pardo_fuse.specs.Fusing.{least_number, over_outs}
use Rattle.pardo_fuse.specs.inner.Numbers.{members_at}
use Rattle.pardo_fuse.proofs.Leasts.{around}
use Rattle.pardo_fuse.proofs.numbers.+least.Given as goal

abbrev pub decreases-least_in : goal.decreases-least_in
decreases-least_in l = 4 * l.levels

abbrev pub decreases-least_above : goal.decreases-least_above
decreases-least_above l = 4 * l.levels + 1

abbrev pub decreases-least_on : goal.decreases-least_on
decreases-least_on l = 4 * l.levels + 2

abbrev pub decreases-least_with : goal.decreases-least_with
decreases-least_with l = 4 * l.levels + 3

abbrev pub invariant-least_in-loop-number : goal.invariant-least_in-loop-number
invariant-least_in-loop-number l =
    least_number l.least (flat_map (around (cut_of l.blocked) (l.levels - 1))
    (drop l.number-index l.numbers))
    ≡ least_number l.so_far (flat_map (around (cut_of l.blocked) (l.levels - 1)) l.numbers)

abbrev pub invariant-least_with-loop-step : goal.invariant-least_with-loop-step
invariant-least_with-loop-step l =
    least_number l.least (over_outs (members_at (cut_of l.blocked) l.levels l.number)
    (grown (drop l.step-index l.step-items)))
    ≡ least_number l.so_far (around (cut_of l.blocked) l.levels l.number)

abbrev pub invariant-least_on-loop-output : goal.invariant-least_on-loop-output
invariant-least_on-loop-output l =
    least_number l.least (flat_map (λ (t : Twig). members_at (cut_of l.blocked) l.levels l.number
    t.out)
    (map twig (drop l.output-index l.output-items)))
    ≡ least_number l.so_far (over_outs (members_at (cut_of l.blocked) l.levels l.number)
    (limb l.step Bare))
