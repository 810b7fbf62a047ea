use Rattle.std.proofs.Common.{◌≡◌, ◌+◌, sum_by, take}
use Rattle.case_calls.proofs.rooms.fits.Given as goal

abbrev pub invariant-loop-item : goal.invariant-loop-item
invariant-loop-item g l = sum_by g.T.Stored.size (take l.item-index l.items) + l.left ≡ l.most
