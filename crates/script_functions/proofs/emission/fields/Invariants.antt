use Rattle.std.proofs.Common.{◌≡◌, ◌∷◌, [], drop}
use Rattle.dofn_eval.specs.Meaning.{expression_value, part_values}
use Rattle.script_functions.proofs.emission.fields.Given as goal

abbrev pub invariant-loop-e : goal.invariant-loop-e
invariant-loop-e l =
    part_values expression_value l.parts (l.element ∷ []) []
    ≡ part_values expression_value (drop l.e-index l.parts) (l.element ∷ []) l.all.items
