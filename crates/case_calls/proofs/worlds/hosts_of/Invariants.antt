use Rattle.std.proofs.Common.{◌≡◌, vec_len}
use Rattle.case_calls.proofs.worlds.hosts_of.Given as goal

abbrev pub invariant-loop-number : goal.invariant-loop-number
invariant-loop-number l = vec_len l.hosts ≡ l.number
