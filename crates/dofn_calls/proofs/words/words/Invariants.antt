use Rattle.std.proofs.Common.{◌≡◌, map, filter}
use Rattle.flume_value.specs.declared.value.Value.TheVariants as variant
use Rattle.dofn_eval.specs.Words.{has_bytes}
use Rattle.dofn_calls.proofs.words.words.Given as goal

abbrev pub invariant-loop-word : goal.invariant-loop-word
invariant-loop-word l = l.all.items
    ≡ map variant.Text (filter has_bytes (map (λ piece. piece.now) l.yielded))
