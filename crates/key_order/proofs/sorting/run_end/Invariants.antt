use Rattle.std.proofs.Common.{◌≡◌, ◌<◌, ◌≤◌, ◌-◌, All, length, take}
use Rattle.key_order.proofs.sorting.run_end.Given as goal

abbrev pub invariant-loop-end : goal.invariant-loop-end
invariant-loop-end l = record {
  some : 0 < l.end;
  within : l.end ≤ length l.numbered;
  same : All (λ e. e.0 ≡ l.number) (take l.end l.numbered);
}

abbrev pub decreases-loop-end : goal.decreases-loop-end
decreases-loop-end l = length l.numbered - l.end
