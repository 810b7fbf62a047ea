-- How a task has asked its host that asks for all its places at once.
use Rattle.std.proofs.Common.{◌+◌, ℕ, arith}
use Rattle.crew.specs.declared.drill.Entry.{Entry}
use Rattle.crew.specs.Attempts.{Ran, StoppedEarly}
use Rattle.outside.specs.Accounts.{Account}

-- what ends behind all of them has ended early
pub early_behind : (e : Entry) (places : ℕ) (a b : Account) → Ran e places a b
    → StoppedEarly e places a b
early_behind e places a b ran = record {
  place = places + 1;
  within = omega arith;
  gains = ran;
}
