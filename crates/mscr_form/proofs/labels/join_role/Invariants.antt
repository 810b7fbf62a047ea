use Rattle.std.proofs.Common.{◌≡◌, ◌++◌, ℕ, List, length, map, take}
use Rattle.plan_laws.specs.declared.operations.Key.{Key}
use Rattle.mscr_form.specs.inner.Labels.{AreJoined, IsWithin}
use Rattle.mscr_form.proofs.labels.join_role.Given as goal

abbrev pub invariant-loop-key : goal.invariant-loop-key
invariant-loop-key l = (length l.labels.items ≡ length l.roles)
    × IsWithin l.roles l.seen
    × ((ps : List (ℕ × Key)) → AreJoined l.roles l.fn.labels.items l.fn.seen ps
    → AreJoined l.roles l.labels.items l.seen
    (ps ++ map (λ (k : Key). (l.i, k)) (take l.key-index l.keys)))
