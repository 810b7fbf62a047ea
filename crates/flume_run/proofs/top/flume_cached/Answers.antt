use Rattle.std.proofs.Common.{◌≡◌, ◌∙◌, ℕ, ap, arith, drop, map, refl, string_bytes, subst, sym}
use Rattle.std.specs.Option.{option_map}
use Rattle.command_words.specs.Held.{cached_in}
use Rattle.crew.proofs.Accounts.{all_grew_not}
use Rattle.made_course.specs.of_run_course.Answers.{IsRefused}
use Rattle.made_course.specs.of_run_course.Outside.{Keeps, world}
use Rattle.run_texts.specs.declared.status.Status.{Status}
use Rattle.run_texts.specs.declared.status.Status.TheVariants.{WantOfMemory}
use Rattle.flume_run.proofs.Promised.{lends_others, lends_reused, of_no_cache, of_no_memory, of_others, of_reused}
use Rattle.flume_run.specs.Cached.{CachedPromises}
use Rattle.flume_run.proofs.top.flume_cached.Goals as goal

-- ---- words of a cached run

pub returns-in-Ok-Some-clause-promises : goal.returns-in-Ok-Some-clause-promises
returns-in-Ok-Some-clause-promises g c =
    of_reused _ _ _ _ _ _ (cached_in c.in-Ok-Some.wanted)
    (ap (option_map cached_in) (sym c.in-Ok-Some.field-0-is) ∙ c.in-Ok-Some.ensures)
    c.run_cached-status.ensures.promises

pub returns-in-Ok-Some-clause-hosts : goal.returns-in-Ok-Some-clause-hosts
returns-in-Ok-Some-clause-hosts g c =
    subst (λ (n : ℕ). drop n c.run_cached-status.new.hosts ≡ drop n c.args.hosts.now)
    (lends_reused (map string_bytes c.args.words.now) (cached_in c.in-Ok-Some.wanted)
    (ap (option_map cached_in) (sym c.in-Ok-Some.field-0-is) ∙ c.in-Ok-Some.ensures))
    c.run_cached-status.ensures.hosts

-- ---- other words

pub returns-in-Ok-None-clause-promises : goal.returns-in-Ok-None-clause-promises
returns-in-Ok-None-clause-promises g c =
    of_others _ _ _ _ _
    (ap (option_map cached_in) (sym c.in-Ok-None.field-0-is) ∙ c.in-Ok-None.ensures)
    c.uncached.ensures.promises

pub returns-in-Ok-None-clause-hosts : goal.returns-in-Ok-None-clause-hosts
returns-in-Ok-None-clause-hosts g c =
    subst (λ (n : ℕ). drop n c.uncached.new.hosts ≡ drop n c.args.hosts.now)
    (lends_others (map string_bytes c.args.words.now)
    (ap (option_map cached_in) (sym c.in-Ok-None.field-0-is) ∙ c.in-Ok-None.ensures))
    c.uncached.ensures.hosts

-- ---- no memory was found for the words

pub returns-in-Err-clause-promises : goal.returns-in-Err-clause-promises
returns-in-Err-clause-promises g c =
    let words = map string_bytes c.args.words.now in
    let before = world (g.R.Source.seen c.args.source.now) (g.K.Shelf.seen c.args.shelf.now)
    (g.P.Screen.seen c.args.screen.now) (map g.H.Host.account c.args.hosts.now) in
    let after = world (g.R.Source.seen c.args.source.now) (g.K.Shelf.seen c.args.shelf.now)
    (g.P.Screen.seen c.no_memory.new.screen) (map g.H.Host.account c.args.hosts.now) in
    let cache = g.C.Cache.seen c.args.cache.now in
    let refused : IsRefused WantOfMemory before after
    = record { shelf = refl; line = c.no_memory.ensures.line } in
    let kept : Keeps before after = record {
      told = refl;
      source = omega arith;
      shelf = omega arith;
      screen = c.no_memory.ensures.later;
      hosts = all_grew_not (map g.H.Host.account c.args.hosts.now);
    } in
    subst (λ (status : Status). CachedPromises words before after cache cache status)
    (sym c.no_memory.ensures.answer)
    (of_no_cache words before after cache
    (λ others. c.memory_law.ensures others before after cache refused kept refl refl)
    (of_no_memory words before after refused kept refl refl))
