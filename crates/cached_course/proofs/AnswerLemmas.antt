-- What a call answers, from what it came to and what it left.
use Rattle.std.proofs.Common.{◌≡◌, ◌∙◌, ◌≤◌, inl, inr, ℕ, List, Option, Some, None, Ok, Err, is_some, ap, arith, subst, sym, true≢false}
use Rattle.std.specs.Prelude.{IfSome}
use Rattle.cache_store.specs.Entries.{with_entries}
use Rattle.cache_store.specs.declared.entry.CacheEntry.{CacheEntry}
use Rattle.cache_store.specs.Seen.{SeenCache}
use Rattle.outside.specs.Accounts.{Account}
use Rattle.kept_results.specs.Keeping.{KeptUnlessFailed}
use Rattle.kept_results.specs.Kept.{FindsEach, FindsUnlessFailed}
use Rattle.outside.specs.Cause.{Rose}
use Rattle.outside.specs.Says.{HasLine}
use Rattle.outside.specs.Seen.{SeenScreen, SeenShelf, SeenSource}
use Rattle.outside.specs.Told.{WhereTold}
use Rattle.outside.specs.declared.file.File.{File as NamedBytes}
use Rattle.run_course.specs.Answers.{IsRefused}
use Rattle.run_course.specs.Asks.{AsksAll, AsksFor}
use Rattle.run_course.specs.Hosts.{MayHaveRun}
use Rattle.run_course.specs.Outside.{Outside}
use Rattle.run_course.specs.declared.stop.Stop.{Stop}
use Rattle.run_course.specs.declared.stop.Stop.TheVariants.{Refused, Trapped}
use Rattle.run_course.specs.declared.stop.Trapped.{Trapped as NamedTrap}
use Rattle.run_course.specs.inner.Course.{TellsStop}
use Rattle.run_course.proofs.HostLemmas.{may_have_run}
use Rattle.run_texts.specs.Lines.{trap_line}
use Rattle.run_texts.specs.declared.status.Place.TheVariants.{File, Screen}
use Rattle.run_texts.specs.declared.status.Status.{Status}
use Rattle.run_texts.specs.declared.status.Status.TheVariants.{Done, GaveUp, Trap, WriteFault}
use Rattle.saved_results.specs.declared.saved.Saved.{Saved}
use Rattle.script_program.specs.Script.{Script}
use Rattle.cached_course.specs.Answers.{Answers, AsksHosts, AsksRun, HasLooked, IsKept, WasReused}
use Rattle.cached_course.specs.Kept.{HasKept}
use Rattle.cached_course.specs.inner.Course.{AsksHostsInCall, DeliversKept, IsPrepared, IsStop}

-- ---- what comes to its writing

may_deliver : (files : List NamedBytes) (text : List ℕ) (kept : List CacheEntry)
    (shelf shelf' : SeenShelf) (screen screen' : SeenScreen) (cache later : SeenCache)
    (status : Status)
    → DeliversKept files text kept shelf shelf' screen screen' cache later status
    → MayHaveRun status
may_deliver files text kept shelf shelf' screen screen' cache later Done is = tt
may_deliver files text kept shelf shelf' screen screen' cache later (WriteFault place) is = tt
may_deliver files text kept shelf shelf' screen screen' cache later _ is = absurd is

-- all files that the run reads were asked for
pub delivered_for : (words : List (List ℕ)) (source source' : SeenSource)
    (files : List NamedBytes) (text : List ℕ) (kept : List CacheEntry)
    (shelf shelf' : SeenShelf) (screen screen' : SeenScreen) (cache later : SeenCache)
    (status : Status) → DeliversKept files text kept shelf shelf' screen screen' cache later status
    → AsksAll words source source' → AsksFor words source source' status
delivered_for words source source' files text kept shelf shelf' screen screen' cache later
    Done is all = all
delivered_for words source source' files text kept shelf shelf' screen screen' cache later
    (WriteFault place) is all = all
delivered_for words source source' files text kept shelf shelf' screen screen' cache later
    _ is all = absurd is

-- ---- a cache that was to keep some entries

abbrev TellsKept : ℕ → ℕ → List CacheEntry → Option (List CacheEntry) → Option (List CacheEntry)
    → Type 0
TellsKept first last kept before after =
    WhereTold before after (λ old new. KeptUnlessFailed first last old kept new)

where_kept : (first last : ℕ) (kept : List CacheEntry) (before after : Option (List CacheEntry))
    → is_some after ≡ is_some before
    → IfSome before (λ entries. IfSome after (KeptUnlessFailed first last entries kept))
    → TellsKept first last kept before after
where_kept first last kept None None same some = tt
where_kept first last kept None (Some new) same some = absurd (true≢false same)
where_kept first last kept (Some old) None same some = absurd (true≢false (sym same))
where_kept first last kept (Some old) (Some new) same some = some

-- a cache that had failed less often before
kept_from : (first middle last : ℕ) (kept : List CacheEntry)
    (before after : Option (List CacheEntry)) → first ≤ middle
    → TellsKept middle last kept before after
    → TellsKept first last kept before after
kept_from first middle last kept None None less is = tt
kept_from first middle last kept None (Some new) less is = absurd is
kept_from first middle last kept (Some old) None less is = absurd is
kept_from first middle last kept (Some old) (Some new) less is =
    (is.0, omega (arith, less, is.1), is.2)

all_kept : (kept : List CacheEntry) (before after : Option (List CacheEntry))
    → is_some after ≡ is_some before
    → IfSome before (λ entries. after ≡ Some (with_entries entries kept))
    → WhereTold before after (λ old new. new ≡ with_entries old kept)
all_kept kept None None same all = tt
all_kept kept None (Some new) same all = absurd (true≢false same)
all_kept kept (Some old) None same all = absurd (true≢false (sym same))
all_kept kept (Some old) (Some new) same all = cc

calm_all : (kept : List CacheEntry) (first last : ℕ) (before after : Option (List CacheEntry))
    → IfSome before (λ entries. (Rose first last → ⊥) → after ≡ Some (with_entries entries kept))
    → (Rose first last → ⊥)
    → IfSome before (λ entries. after ≡ Some (with_entries entries kept))
calm_all kept first last None after all calm = tt
calm_all kept first last (Some old) after all calm = all calm

pub has_kept : (kept : List CacheEntry) (before after : SeenCache)
    → is_some after.entries ≡ is_some before.entries
    → IfSome before.entries (λ entries. IfSome after.entries
    (KeptUnlessFailed before.faults after.faults entries kept))
    → IfSome before.entries (λ entries. (Rose before.faults after.faults → ⊥)
    → after.entries ≡ Some (with_entries entries kept))
    → HasKept kept before after
has_kept kept before after same some all = record {
  some = where_kept before.faults after.faults kept before.entries after.entries same some;
  all = λ calm.
      all_kept kept before.entries after.entries same
      (calm_all kept before.faults after.faults before.entries after.entries all calm);
}

-- ---- a cache that was called again

module _ (cache middle later : SeenCache) (same : middle.entries ≡ cache.entries)
    (first : cache.faults ≤ middle.faults) (second : middle.faults ≤ later.faults) where
  rose_then : Rose cache.faults middle.faults → Rose cache.faults later.faults
  rose_then rose = omega (arith, rose, second)

  rose_since : Rose middle.faults later.faults → Rose cache.faults later.faults
  rose_since rose = omega (arith, rose, first)

  -- where it has not failed at all, it had not failed before
  finds_then : (script : Script) (asked : List (ℕ × List ℕ)) (looked : List (Option Saved))
      (o : Option (List CacheEntry))
      → IfSome o (λ entries. (Rose cache.faults middle.faults → ⊥) →
      FindsEach script entries asked looked)
      → IfSome o (λ entries. (Rose cache.faults later.faults → ⊥) →
      FindsEach script entries asked looked)
  finds_then script asked looked None finds = tt
  finds_then script asked looked (Some entries) finds =
      λ calm. finds (λ rose. calm (rose_then rose))

  failed_then : (script : Script) (asked : List (ℕ × List ℕ)) (looked : List (Option Saved))
      (o : Option (List CacheEntry))
      → IfSome o (λ entries. FindsUnlessFailed cache.faults middle.faults script entries asked
      looked)
      → IfSome o (λ entries. FindsUnlessFailed cache.faults later.faults script entries asked
      looked)
  failed_then script asked looked None failed = tt
  failed_then script asked looked (Some entries) failed =
      (failed.0, omega (arith, failed.1, second), failed.2)

  abbrev looked_then : (words : List (List ℕ)) (told : Option (List NamedBytes))
      → HasLooked words told cache middle → HasLooked words told cache later
  looked_then words told it = record {
    settings = it.settings;
    name = it.name;
    script = it.script;
    asked = it.asked;
    looked = it.looked;
    asks = it.asks;
    of_script = it.of_script;
    was = record {
      kept = it.was.kept;
      found = it.was.found;
      finds = finds_then it.script it.asked it.looked cache.entries it.was.finds;
      failed = failed_then it.script it.asked it.looked cache.entries it.was.failed;
    };
  }

  kept_since : (kept : List CacheEntry) → HasKept kept middle later → HasKept kept cache later
  kept_since kept has = record {
    some = kept_from cache.faults middle.faults later.faults kept cache.entries later.entries
        first
        (subst
        (λ (o : Option (List CacheEntry)).
        TellsKept middle.faults later.faults kept o later.entries) same has.some);
    all = λ calm.
        subst
        (λ (o : Option (List CacheEntry)).
        WhereTold o later.entries (λ old new. new ≡ with_entries old kept)) same
        (has.all (λ rose. calm (rose_since rose)));
  }

  -- ---- what was written

  module _ (words : List (List ℕ)) (before after : Outside) (files : List NamedBytes)
      (text : List ℕ) (kept : List CacheEntry)
      (it : IsPrepared words before.source.files before.hosts after.hosts cache middle files text
      kept) where
    abbrev was_reused : WasReused words before after cache later files text
    was_reused = record {
      it = looked_then words before.source.files it.it;
      table = it.table;
      writes = it.writes;
    }

    is_kept : HasKept kept middle later → IsKept words before after cache later was_reused
    is_kept has = record {
      held = it.held;
      has = subst (λ (l : List CacheEntry). HasKept l cache later) it.keeps
          (kept_since kept has);
    }

    pub delivered : (status : Status)
        → DeliversKept files text kept before.shelf after.shelf before.screen after.screen middle
        later status
        → Answers words before after cache later status
    delivered Done left = (files, text, was_reused, left.0, is_kept left.1, left.2)
    delivered (WriteFault (File name)) left =
        (files, text, was_reused, left.0, ap (λ (c : SeenCache). c.entries) left.1 ∙ same, left.2)
    delivered (WriteFault Screen) left =
        (files, text, was_reused, left.0, is_kept left.1, left.2)
    delivered _ left = absurd left

  -- hosts were asked for what they were asked for before
  asks_then : (words : List (List ℕ)) (told : Option (List NamedBytes)) (olds news : List Account)
      → AsksRun words told olds news cache middle → AsksRun words told olds news cache later
  asks_then words told olds news asks = record {
    it = looked_then words told asks.it;
    rows = asks.rows;
    plan = asks.plan;
    inputs = asks.inputs;
    planned = asks.planned;
    sources = asks.sources;
    asked = asks.asked;
    others = asks.others;
  }

  pub delivered_asks : {T : Type 0} (words : List (List ℕ)) (told : Option (List NamedBytes))
      (olds news : List Account) (files : List NamedBytes) (text : List ℕ)
      (kept : List CacheEntry) (shelf shelf' : SeenShelf) (screen screen' : SeenScreen)
      (status : Status) (it : T)
      → DeliversKept files text kept shelf shelf' screen screen' middle later status
      → AsksHostsInCall {T = T} words told olds news cache middle (Ok it)
      → AsksHosts words told olds news cache later status
  delivered_asks words told olds news files text kept shelf shelf' screen screen' status it left
      (inl none) =
      inl none
  delivered_asks words told olds news files text kept shelf shelf' screen screen' status it left
      (inr run) =
      inr (
        may_deliver files text kept shelf shelf' screen screen' middle later status left,
        asks_then words told olds news run.1,
      )

-- ---- what writes nothing

module _ (words : List (List ℕ)) (before after : Outside) (cache later : SeenCache)
    (same : later.entries ≡ cache.entries) where
  refusal : (status : Status)
      → IsStop words before.source after.source before.hosts after.hosts cache later
      (Refused status)
      → IsRefused status before after → Answers words before after cache later status
  refusal (GaveUp stage phase task) why left =
      record { run = why.0; given_up = why.1; refused = left; entries = same }
  refusal Done why left = absurd why
  refusal (WriteFault place) why left = absurd why
  refusal (Trap origin kind element) why left = absurd why
  refusal _ why left = record { cause = why; refused = left; entries = same }

  trapped : (trap : NamedTrap)
      → IsStop words before.source after.source before.hosts after.hosts cache later (Trapped trap)
      → after.shelf ≡ before.shelf
      → HasLine (trap_line trap.name trap.trap.kind trap.trap.element) before.screen after.screen
      → Answers words before after cache later
      (Trap trap.trap.origin trap.trap.kind trap.trap.element)
  trapped trap why shelf line =
      record {
        run = why.0;
        name = trap.name;
        trap = why.1;
        first = why.2;
        named = why.3;
        shelf = shelf;
        line = line;
        entries = same;
      }

  -- what a call answers that this stops
  pub stopped : (why : Stop) (status : Status)
      → IsStop words before.source after.source before.hosts after.hosts cache later why
      → TellsStop why before.screen after.screen status → after.shelf ≡ before.shelf
      → Answers words before after cache later status
  stopped (Refused told) status is tells shelf =
      subst (λ (s : Status). Answers words before after cache later s) (sym tells.0)
      (refusal told is (record { shelf = shelf; line = tells.1 }))
  stopped (Trapped trap) status is tells shelf =
      subst (λ (s : Status). Answers words before after cache later s) (sym tells.0)
      (trapped trap is shelf tells.1)

-- and what its hosts were asked for
pub stopped_asks : (T : Type 0) (words : List (List ℕ)) (told : Option (List NamedBytes))
    (olds news : List Account) (cache later : SeenCache) (why : Stop)
    (screen screen' : SeenScreen) (status : Status) → TellsStop why screen screen' status
    → AsksHostsInCall {T = T} words told olds news cache later (Err why)
    → AsksHosts words told olds news cache later status
stopped_asks T words told olds news cache later why screen screen' status tells (inl none) =
    inl none
stopped_asks T words told olds news cache later why screen screen' status tells (inr run) =
    inr (may_have_run T why screen screen' status tells run.0, run.1)
