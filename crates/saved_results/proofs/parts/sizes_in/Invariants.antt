use Rattle.std.proofs.Common.{◌≡◌, vec_len}
use Rattle.std.specs.Prelude.{reverse}
use Rattle.saved_results.specs.Forms.{sizes_in_values}
use Rattle.saved_results.proofs.SizeTurns.{before}
use Rattle.saved_results.proofs.parts.sizes_in.Given as goal

-- the sizes of what is left, with those that were read behind them, are all
abbrev pub invariant-loop-value : goal.invariant-loop-value
invariant-loop-value l = before l.values.items (reverse l.sizes.items) ≡ sizes_in_values l.fn.values

abbrev pub decreases-loop-value : goal.decreases-loop-value
decreases-loop-value l = vec_len l.values
