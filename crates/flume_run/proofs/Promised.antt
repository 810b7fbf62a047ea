-- What a call promises, by what its words ask for.
use Rattle.std.proofs.Common.{◌≡◌, ◌∙◌, ℕ, List, [], Option, Some, None, refl, sym, ap, subst, inl}
use Rattle.std.specs.Option.{option_map_or}
use Rattle.cache_store.specs.Seen.{SeenCache}
use Rattle.cached_course.specs.Promises.{ReusePromises}
use Rattle.command_words.specs.Cached.{CachedRun, cached_for}
use Rattle.command_words.specs.Words.{workload_for}
use Rattle.command_words.specs.declared.workload.Workload.{Workload}
use Rattle.made_course.proofs.Promised.{makes}
use Rattle.made_course.specs.Makes.{Makes}
use Rattle.outside.proofs.AskLemmas.{asks_none}
use Rattle.outside.specs.Asked.{Asks}
use Rattle.outside.specs.Seen.{SeenSource}
use Rattle.made_course.proofs.of_run_course.PromiseLemmas.{promises}
use Rattle.made_course.specs.of_run_course.Answers.{IsRefused}
use Rattle.made_course.specs.of_run_course.Lent.{lent_to}
use Rattle.made_course.specs.of_run_course.Promises.{ScriptPromises}
use Rattle.made_course.specs.of_run_course.Outside.{Keeps, Outside}
use Rattle.run_settings.specs.Settings.{standard}
use Rattle.run_texts.specs.declared.status.Status.{Status}
use Rattle.run_texts.specs.declared.status.Status.TheVariants.{WantOfMemory}
use Rattle.flume_run.specs.Cached.{CachedPromises, Reuses, lends_to}
use Rattle.flume_run.specs.Lent.{lends}
use Rattle.flume_run.specs.Promises.{Promises}

module _ (words : List (List ℕ)) where
  pub of_make : (before after : Outside) (status : Status) (w : Workload)
      → Some w ≡ workload_for words → Makes w before after status
      → Promises words before after status
  of_make before after status w is made = record {
    made = λ v other.
        let both : Some w ≡ Some v = is ∙ other in
        let same : w ≡ v = cc both in
        subst (λ (x : Workload). Makes x before after status) same made;
    others = λ none. let both : Some w ≡ None = is ∙ none in absurd (cc both);
  }

  pub of_script : (before after : Outside) (status : Status)
      → ◌≡◌ {A = Option Workload} None (workload_for words)
      → ScriptPromises words before after status → Promises words before after status
  of_script before after status is kept = record {
    made = λ v other.
        let both : ◌≡◌ {A = Option Workload} None (Some v) = is ∙ other in absurd (cc both);
    others = λ none. kept;
  }

  -- no memory was found for the words, and nothing was asked for
  pub of_no_memory : (before after : Outside) → IsRefused WantOfMemory before after
      → Keeps before after → after.source ≡ before.source → after.hosts ≡ before.hosts
      → Promises words before after WantOfMemory
  of_no_memory before after refused kept same hosts = record {
    made = λ w is. makes w before after WantOfMemory refused kept same (inl (sym hosts));
    others = λ none.
        promises words before after WantOfMemory (tt, refused) kept
        (inl (subst (λ (it : SeenSource). Asks 0 [] before.source it) (sym same)
        (asks_none 0 before.source))) (inl (sym hosts));
  }

  pub lends_made : (w : Workload) → Some w ≡ workload_for words → standard.workers ≡ lends words
  lends_made w is = ap (λ (o : Option Workload). option_map_or (λ v. standard.workers) o
      (lent_to words)) is

  pub lends_other : ◌≡◌ {A = Option Workload} None (workload_for words)
      → lent_to words ≡ lends words
  lends_other is = ap (λ (o : Option Workload). option_map_or (λ v. standard.workers) o
      (lent_to words)) is

  -- ---- over a cache

  pub of_reused : (before after : Outside) (cache later : SeenCache) (status : Status)
      (run : CachedRun) → Some run ≡ cached_for words
      → Reuses before after cache later status run
      → CachedPromises words before after cache later status
  of_reused before after cache later status run is reuses = record {
    cached = λ other e.
        let both : Some run ≡ Some other = is ∙ e in
        let same : run ≡ other = cc both in
        subst (λ (x : CachedRun). Reuses before after cache later status x) same reuses;
    others = λ none. let both : Some run ≡ None = is ∙ none in absurd (cc both);
    untouched = λ none. let both : Some run ≡ None = is ∙ none in absurd (cc both);
  }

  pub of_others : (before after : Outside) (cache : SeenCache) (status : Status)
      → ◌≡◌ {A = Option CachedRun} None (cached_for words) → Promises words before after status
      → CachedPromises words before after cache cache status
  of_others before after cache status is kept = record {
    cached = λ other e.
        let both : ◌≡◌ {A = Option CachedRun} None (Some other) = is ∙ e in absurd (cc both);
    others = λ none. kept;
    untouched = λ none. refl;
  }

  -- no memory was found for the words of a cached run
  pub of_no_cache : (before after : Outside) (cache : SeenCache)
      → ((others : List (List ℕ)) → ReusePromises others before after cache cache WantOfMemory)
      → Promises words before after WantOfMemory
      → CachedPromises words before after cache cache WantOfMemory
  of_no_cache before after cache reuses kept = record {
    cached = λ run is others asks. reuses others;
    others = λ none. kept;
    untouched = λ none. refl;
  }

  pub lends_reused : (run : CachedRun) → Some run ≡ cached_for words
      → run.settings.workers ≡ lends_to words
  lends_reused run is =
      ap (λ (o : Option CachedRun). option_map_or (λ r. r.settings.workers) o (lends words)) is

  pub lends_others : ◌≡◌ {A = Option CachedRun} None (cached_for words)
      → lends words ≡ lends_to words
  lends_others is =
      ap (λ (o : Option CachedRun). option_map_or (λ r. r.settings.workers) o (lends words)) is
