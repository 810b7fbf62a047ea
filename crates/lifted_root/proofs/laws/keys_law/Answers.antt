use Rattle.std.proofs.Common.{map, sym, ap, ◌∙◌}
use Rattle.bag_groups.specs.Groups.{grouped}
use Rattle.partial_tables.specs.Merges.{merged_by_key}
use Rattle.exec_graph.specs.Calls.{called}
use Rattle.exec_graph.specs.declared.step.Does.{Does}
use Rattle.exec_graph.specs.declared.step.Does.TheVariants as does
use Rattle.lifted_root.specs.Lifted.{partial_answer}
use Rattle.lifted_root.proofs.Groups.{any_world, merged_answers, same_length}
use Rattle.lifted_root.proofs.Lifting.{all_run}
use Rattle.lifted_root.proofs.laws.keys_law.Goals as goal

pub returns-clause-runs : goal.returns-clause-runs
returns-clause-runs c w sizes b comb partials pairs g e stands =
    all_run w sizes b comb (merged_by_key comb partials) (grouped pairs) g
    (merged_answers w comb partials pairs stands
    ∙ sym (ap (λ (d : Does). map (called w d) (grouped pairs)) e))

pub returns-clause-count : goal.returns-clause-count
returns-clause-count c comb partials pairs stands =
    same_length (partial_answer comb) (called any_world (does.Combine comb))
    (merged_by_key comb partials) (grouped pairs)
    (merged_answers any_world comb partials pairs stands)
