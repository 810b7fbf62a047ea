use Rattle.std.proofs.Common.{◌∙◌, ap, arith, refl}
use Rattle.std.specs.Prelude.{is_ok, is_some}
use Rattle.kept_results.proofs.KeepLemmas.{all_end, all_more, all_start, some_end, some_more, some_start, told_same}
use Rattle.kept_results.proofs.keeping.keep_each.Goals as goal

pub loop-entry-init : goal.loop-entry-init
loop-entry-init g c =
    let seen = g.C.Cache.seen c.args.cache.now in record {
      later = omega arith;
      told = refl;
      all = all_start seen.faults c.args.kept.now seen.entries;
      some = some_start seen.faults c.args.kept.now seen.entries;
    }

pub loop-entry-preserved : goal.loop-entry-preserved
loop-entry-preserved g c =
    let kept = c.args.kept.now in
    let i = c.loop-entry.entry-index in
    let entry = c.entry-item.result in
    let within = c.loop-entry-test.true in
    let at = c.entry-item.is in
    let started = (g.C.Cache.seen c.args.cache.now).entries in
    let told = (g.C.Cache.seen c.loop-entry.cache).entries in
    let new = (g.C.Cache.seen c.keep_one.new.cache).entries in
    let is = c.keep_one.ensures.entries in
    let cause = c.keep_one.ensures.cause in
    let so_far = c.loop-entry.invariant in record {
      later = omega (arith, so_far.later, cause.later);
      told = ap is_some is ∙ told_same told (is_ok c.keep_one.result) entry ∙ so_far.told;
      all = all_more kept i entry within at started told new
          (g.C.Cache.seen c.args.cache.now).faults (g.C.Cache.seen c.loop-entry.cache).faults
          (g.C.Cache.seen c.keep_one.new.cache).faults c.keep_one.result so_far.later cause is
          so_far.all;
      some = some_more kept i entry within at started told new
          (g.C.Cache.seen c.args.cache.now).faults (g.C.Cache.seen c.loop-entry.cache).faults
          (g.C.Cache.seen c.keep_one.new.cache).faults c.keep_one.result cause is so_far.some;
    }

pub returns-clause-all : goal.returns-clause-all
returns-clause-all g c =
    all_end c.args.kept.now c.loop-entry.entry-index (g.C.Cache.seen c.args.cache.now).entries
    (g.C.Cache.seen c.loop-entry.cache).entries (g.C.Cache.seen c.args.cache.now).faults
    (g.C.Cache.seen c.loop-entry.cache).faults (omega (arith, c.loop-entry-test.false))
    c.loop-entry.invariant.told c.loop-entry.invariant.all

pub returns-clause-some : goal.returns-clause-some
returns-clause-some g c =
    some_end (g.C.Cache.seen c.args.cache.now).faults (g.C.Cache.seen c.loop-entry.cache).faults
    c.args.kept.now c.loop-entry.entry-index (g.C.Cache.seen c.args.cache.now).entries
    (g.C.Cache.seen c.loop-entry.cache).entries (omega (arith, c.loop-entry-test.false))
    c.loop-entry.invariant.some
