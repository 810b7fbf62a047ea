use Rattle.std.proofs.Common.{◌<◌, ◌∙◌, ℕ, List, [], Option, arith, length, refl, subst, sym}
use Rattle.std.specs.Prelude.{IfSome}
use Rattle.std.proofs.lemmas.List.{take_all}
use Rattle.outside.specs.Cause.{Rose}
use Rattle.saved_results.specs.declared.saved.Saved.{Saved}
use Rattle.kept_results.specs.Kept.{AreFound, AreKept, FindsEach}
use Rattle.kept_results.proofs.FindLemmas.{TellsLooks, finds_next, finds_start, found_next, found_start, kept_next, looks_end, looks_next, looks_start}
use Rattle.kept_results.proofs.finding.find_each.Goals as goal

pub find_next-requires : goal.find_next-requires
find_next-requires g c =
    subst (λ (it : ℕ × List ℕ). it.0 < length c.args.program.now.script.nodes)
    (sym c.one-item.is)
    (c.requires c.loop-one.one-index c.one-item.result c.loop-one-test.true)

pub loop-one-init : goal.loop-one-init
loop-one-init g c =
    let script = c.args.program.now.script in
    let asked = c.args.asked.now in
    let told = (g.C.Cache.seen c.args.cache.now).entries in
    let first = (g.C.Cache.seen c.args.cache.now).faults in
    let none = sym c.new-looked.ensures.items in record {
      entries = refl;
      later = omega arith;
      kept = subst (AreKept script []) none tt;
      found = subst (λ (l : List (Option Saved)). IfSome told (λ entries.
          AreFound script entries [] l)) none (found_start script told);
      finds = subst (λ (l : List (Option Saved)). IfSome told (λ entries.
          (Rose first first → ⊥) → FindsEach script entries [] l)) none
          (finds_start script first told);
      failed = subst (TellsLooks first first script asked asked told) none
          (looks_start first script asked told);
    }

pub loop-one-preserved : goal.loop-one-preserved
loop-one-preserved g c =
    let script = c.args.program.now.script in
    let asked = c.args.asked.now in
    let i = c.loop-one.one-index in
    let one = c.one-item.result in
    let looked = c.loop-one.looked.items in
    let new = c.push.new.self.items in
    let found = c.in_ok-find_next.field-0 in
    let within = c.loop-one-test.true in
    let at = c.one-item.is in
    let is = c.in_ok-push.ensures.items in
    let so_far = c.loop-one.invariant in record {
      entries = c.in_ok-find_next.ensures.entries ∙ so_far.entries;
      later = omega (arith, so_far.later, c.in_ok-find_next.ensures.later);
      kept = kept_next script asked i one looked new found within at is
          c.in_ok-find_next.ensures.kept so_far.kept;
      found = found_next script asked i one looked new found within at is
          (g.C.Cache.seen c.loop-one.cache).entries (g.C.Cache.seen c.args.cache.now).entries
          so_far.entries c.in_ok-find_next.ensures.found so_far.found;
      finds = finds_next script asked i one looked new found within at is
          (g.C.Cache.seen c.loop-one.cache).entries (g.C.Cache.seen c.args.cache.now).entries
          (g.C.Cache.seen c.args.cache.now).faults (g.C.Cache.seen c.loop-one.cache).faults
          (g.C.Cache.seen c.find_next.new.cache).faults so_far.entries so_far.later
          c.in_ok-find_next.ensures.later c.in_ok-find_next.ensures.finds so_far.finds;
      failed = looks_next script asked i one looked new found within at is
          (g.C.Cache.seen c.loop-one.cache).entries (g.C.Cache.seen c.args.cache.now).entries
          (g.C.Cache.seen c.args.cache.now).faults (g.C.Cache.seen c.loop-one.cache).faults
          (g.C.Cache.seen c.find_next.new.cache).faults so_far.entries
          c.in_ok-find_next.ensures.later c.in_ok-find_next.ensures.found
          c.in_ok-find_next.ensures.finds so_far.failed;
    }

pub returns-clause-kept : goal.returns-clause-kept
returns-clause-kept g c =
    subst
    (λ (l : List (ℕ × List ℕ)). AreKept c.args.program.now.script l c.loop-one.looked.items)
    (take_all c.loop-one.one-index c.args.asked.now (omega (arith, c.loop-one-test.false)))
    c.loop-one.invariant.kept

pub returns-clause-found : goal.returns-clause-found
returns-clause-found g c =
    subst (λ (l : List (ℕ × List ℕ)). IfSome (g.C.Cache.seen c.args.cache.now).entries (λ entries.
    AreFound c.args.program.now.script entries l c.loop-one.looked.items))
    (take_all c.loop-one.one-index c.args.asked.now (omega (arith, c.loop-one-test.false)))
    c.loop-one.invariant.found

pub returns-clause-finds : goal.returns-clause-finds
returns-clause-finds g c =
    subst (λ (l : List (ℕ × List ℕ)). IfSome (g.C.Cache.seen c.args.cache.now).entries (λ entries.
    (Rose (g.C.Cache.seen c.args.cache.now).faults (g.C.Cache.seen c.loop-one.cache).faults → ⊥)
    → FindsEach c.args.program.now.script entries l c.loop-one.looked.items))
    (take_all c.loop-one.one-index c.args.asked.now (omega (arith, c.loop-one-test.false)))
    c.loop-one.invariant.finds

pub returns-clause-failed : goal.returns-clause-failed
returns-clause-failed g c =
    looks_end (g.C.Cache.seen c.args.cache.now).faults (g.C.Cache.seen c.loop-one.cache).faults
    c.args.program.now.script c.args.asked.now c.loop-one.one-index
    (g.C.Cache.seen c.args.cache.now).entries c.loop-one.looked.items
    (omega (arith, c.loop-one-test.false)) c.loop-one.invariant.failed
