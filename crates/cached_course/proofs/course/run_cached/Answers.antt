use Rattle.std.proofs.Common.{◌∙◌, List, Option, ap, arith, is_some, map, refl}
use Rattle.cache_store.specs.declared.entry.CacheEntry.{CacheEntry}
use Rattle.outside.specs.Accounts.{Account}
use Rattle.run_course.specs.Outside.{world}
use Rattle.run_course.proofs.PromiseLemmas.{shelf_alone}
use Rattle.cached_course.specs.declared.saving.Reused.{Reused}
use Rattle.cached_course.proofs.AnswerLemmas.{delivered, delivered_asks, delivered_for}
use Rattle.cached_course.proofs.PromiseLemmas.{promises, stop_promises}
use Rattle.cached_course.proofs.course.run_cached.Goals as goal

pub returns-in-Ok-clause-promises : goal.returns-in-Ok-clause-promises
returns-in-Ok-clause-promises g c = λ words asks.
    let source = g.R.Source.seen c.args.source.now in
    let olds : List Account = map g.H.Host.account c.args.hosts.now in
    let news : List Account = map g.H.Host.account c.prepare.new.hosts in
    let before = world source (g.K.Shelf.seen c.args.shelf.now)
    (g.P.Screen.seen c.args.screen.now) olds in
    let after = world (g.R.Source.seen c.prepare.new.source) (g.K.Shelf.seen c.deliver.new.shelf)
    (g.P.Screen.seen c.deliver.new.screen) news in
    let cache = g.C.Cache.seen c.args.cache.now in
    let middle = g.C.Cache.seen c.prepare.new.cache in
    let later = g.C.Cache.seen c.deliver.new.cache in
    let left = c.deliver.ensures in
    promises words before after cache later c.reuse_law.ensures.meant c.reuse_law.ensures.sound
    c.deliver.result
    (delivered cache middle later c.in-Ok.ensures.entries c.in-Ok.ensures.later left.cache words
    before after _ _ _ (c.in-Ok.ensures.ok words asks) c.deliver.result left.delivered)
    (record {
      told = c.in-Ok.ensures.files;
      source = c.in-Ok.ensures.source;
      shelf = left.shelf;
      screen = left.screen;
      hosts = c.in-Ok.ensures.grew;
    })
    (delivered_for words source after.source _ _ _ _ _ _ _ middle later c.deliver.result
    left.delivered (c.in-Ok.ensures.asked words asks))
    (delivered_asks cache middle later c.in-Ok.ensures.entries c.in-Ok.ensures.later left.cache
    words source.files olds news _ _ _ _ _ _ _ c.deliver.result c.in-Ok.reused left.delivered
    (c.in-Ok.ensures.asked_hosts words asks))
    (left.tells ∙ ap (λ (o : Option (List CacheEntry)). is_some o) c.in-Ok.ensures.entries)
    (omega (arith, c.in-Ok.ensures.later, left.cache))

pub returns-in-Err-clause-promises : goal.returns-in-Err-clause-promises
returns-in-Err-clause-promises g c = λ words asks.
    stop_promises Reused c.reuse_law.ensures.meant c.reuse_law.ensures.sound words _ _ _ _
    c.in-Err.stop _
    c.in-Err.ensures.entries c.in-Err.ensures.later (c.in-Err.ensures.err words asks)
    c.stop_told.ensures.told refl
    (shelf_alone _ _ refl c.in-Err.ensures.files c.in-Err.ensures.source c.stop_told.ensures.later
    c.in-Err.ensures.grew)
    (c.in-Err.ensures.asked words asks) (c.in-Err.ensures.asked_hosts words asks)
