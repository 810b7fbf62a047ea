use Rattle.std.proofs.Common.{◌≡◌, ◌≤◌, drop}
use Rattle.std.specs.Prelude.{IfSome, is_some}
use Rattle.cache_store.specs.Entries.{with_entries}
use Rattle.outside.specs.Cause.{Rose}
use Rattle.kept_results.proofs.KeepLemmas.{TellsPuts}
use Rattle.kept_results.proofs.keeping.keep_each.Given as goal

abbrev pub invariant-loop-entry : goal.invariant-loop-entry
invariant-loop-entry g l =
    let started = (g.C.Cache.seen l.fn.cache).entries in
    let now = (g.C.Cache.seen l.cache).entries in
    let left = drop l.entry-index l.kept in record {
      later : (g.C.Cache.seen l.fn.cache).faults ≤ (g.C.Cache.seen l.cache).faults;
      told : is_some now ≡ is_some started;
      all : IfSome started (λ entries.
          (Rose (g.C.Cache.seen l.fn.cache).faults (g.C.Cache.seen l.cache).faults → ⊥)
          → IfSome now (λ so_far. with_entries so_far left ≡ with_entries entries l.kept));
      some : TellsPuts (g.C.Cache.seen l.fn.cache).faults (g.C.Cache.seen l.cache).faults l.kept
          left started now;
    }
