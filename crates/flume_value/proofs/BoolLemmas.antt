-- Tests that hold together.
use Rattle.std.proofs.Common.{◌≡◌, ◌&&◌, Bool, true, false}
use Rattle.std.specs.Cmp.{first_so, second_so}

pub both_true : (a b : Bool) → a && b ≡ true → (a ≡ true) × (b ≡ true)
both_true a b e = (first_so a b e, second_so a b e)

pub and_both : (a b : Bool) → a ≡ true → b ≡ true → a && b ≡ true
and_both true b g h = h
and_both false b g h = cc
