use Rattle.std.proofs.Common.{◌≡◌, map, take}
use Rattle.script_rules.specs.Repeats.{stands_for}
use Rattle.let_check.proofs.renumbering.stand_for_all.Given as goal

abbrev pub invariant-loop-number : goal.invariant-loop-number
invariant-loop-number l =
    l.all ≡ map (stands_for l.outside l.seen) (take l.number-index l.numbers)
