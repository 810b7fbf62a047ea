use Rattle.std.proofs.Common.{length}
use Rattle.drill_text.proofs.drill.+are_apart.Given as goal

-- proposed from what the function passes where it calls itself
abbrev pub decreases-are_apart : goal.decreases-are_apart
decreases-are_apart l = length l.entries.now
