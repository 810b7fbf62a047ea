use Rattle.std.proofs.Common.{ℕ, List, subst}
use Rattle.std.specs.Prelude.{IfOk, IfSome}
use Rattle.outside.specs.Cause.{Rose}
use Rattle.kept_results.specs.Kept.{Finds, IsFound}
use Rattle.kept_results.proofs.finding.find_next.Goals as goal

pub returns-clause-found : goal.returns-clause-found
returns-clause-found g c =
    subst (λ (key : List ℕ). IfSome (g.C.Cache.seen c.args.cache.now).entries (λ entries.
    IfOk c.find_saved.result (λ found. IfSome found
    (IsFound c.args.program.now.script c.args.one.now.0 key entries))))
    c.as_bytes.ensures c.find_saved.ensures.found

pub returns-clause-finds : goal.returns-clause-finds
returns-clause-finds g c =
    subst (λ (key : List ℕ). IfSome (g.C.Cache.seen c.args.cache.now).entries (λ entries.
    (Rose (g.C.Cache.seen c.args.cache.now).faults (g.C.Cache.seen c.find_saved.new.cache).faults
    → ⊥)
    → IfOk c.find_saved.result
    (Finds c.args.program.now.script c.args.one.now.0 key entries)))
    c.as_bytes.ensures c.find_saved.ensures.finds
