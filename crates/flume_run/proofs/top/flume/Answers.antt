use Rattle.std.proofs.Common.{ℕ, map, string_bytes, subst}
use Rattle.made_course.specs.of_run_course.Outside.{world}
use Rattle.flume_run.specs.Cached.{CachedPromises, without_entries}
use Rattle.flume_run.proofs.top.flume.Goals as goal

pub returns-clause-promises : goal.returns-clause-promises
returns-clause-promises g c = (
  c.flume_cached.new.cache,
  subst
      (λ (n : ℕ). CachedPromises (map string_bytes c.args.words.now)
      (world (g.R.Source.seen c.args.source.now) (g.K.Shelf.seen c.args.shelf.now)
      (g.P.Screen.seen c.args.screen.now) (map g.H.Host.account c.args.hosts.now))
      (world (g.R.Source.seen c.flume_cached.new.source) (g.K.Shelf.seen
      c.flume_cached.new.shelf) (g.P.Screen.seen c.flume_cached.new.screen)
      (map g.H.Host.account c.flume_cached.new.hosts))
      (without_entries n) (without_entries c.flume_cached.new.cache) c.flume_cached.result)
      c.new-cache.ensures c.flume_cached.ensures.promises,
)
