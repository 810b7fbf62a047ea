use Rattle.std.proofs.Common.{◌≡◌, map, take}
use Rattle.step_counts.specs.Owners.{owners_of}
use Rattle.stage_results.proofs.map_counts.owners_of_inputs.Given as goal

abbrev pub invariant-loop-channel : goal.invariant-loop-channel
invariant-loop-channel l =
    l.owners.items ≡ map (λ c. owners_of c.does) (take l.channel-index l.inputs)
