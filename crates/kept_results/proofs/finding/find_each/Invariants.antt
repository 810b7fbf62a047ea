use Rattle.std.proofs.Common.{◌≡◌, ◌≤◌, drop, take}
use Rattle.std.specs.Prelude.{IfSome}
use Rattle.outside.specs.Cause.{Rose}
use Rattle.kept_results.specs.Kept.{AreFound, AreKept, FindsEach}
use Rattle.kept_results.proofs.FindLemmas.{TellsLooks}
use Rattle.kept_results.proofs.finding.find_each.Given as goal

abbrev pub invariant-loop-one : goal.invariant-loop-one
invariant-loop-one g l =
    let script = l.program.script in
    let asked = take l.one-index l.asked in record {
      entries : (g.C.Cache.seen l.cache).entries ≡ (g.C.Cache.seen l.fn.cache).entries;
      later : (g.C.Cache.seen l.fn.cache).faults ≤ (g.C.Cache.seen l.cache).faults;
      kept : AreKept script asked l.looked.items;
      found : IfSome (g.C.Cache.seen l.fn.cache).entries (λ entries.
          AreFound script entries asked l.looked.items);
      finds : IfSome (g.C.Cache.seen l.fn.cache).entries (λ entries.
          (Rose (g.C.Cache.seen l.fn.cache).faults (g.C.Cache.seen l.cache).faults → ⊥)
          → FindsEach script entries asked l.looked.items);
      failed : TellsLooks (g.C.Cache.seen l.fn.cache).faults (g.C.Cache.seen l.cache).faults script
          l.asked (drop l.one-index l.asked) (g.C.Cache.seen l.fn.cache).entries l.looked.items;
    }
