use Rattle.std.proofs.Common.{◌≡◌, ◌+◌, ◌-◌, ◌≤◌, length, drop}
use Rattle.flume_tokens.specs.Tokens.{ahead, tokens_from}
use Rattle.flume_tokens.proofs.cutting.cut.Given as goal

-- the tokens so far and those of what is left are those of the whole
abbrev pub invariant-loop-at : goal.invariant-loop-at
invariant-loop-at l = record {
  whole : ahead l.tokens.items (tokens_from 0 l.line (drop l.at l.bytes)) ≡ tokens_from 0 1 l.bytes;
  line : l.line ≤ l.at + 1;
  within : l.at ≤ length l.bytes;
}

abbrev pub decreases-loop-at : goal.decreases-loop-at
decreases-loop-at l = length l.bytes - l.at
