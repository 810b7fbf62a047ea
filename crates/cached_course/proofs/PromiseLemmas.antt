-- What a call promises, from what its answer says.
use Rattle.std.proofs.Common.{◌≡◌, ◌≤◌, ◌⊎◌, inl, inr, ℕ, false, List, [], Option, None, Err, ap, is_some, refl, arith, sym, subst}
use Rattle.std.specs.Prelude.{IsSome, IsSomeAnd}
use Rattle.cache_store.specs.declared.entry.CacheEntry.{CacheEntry}
use Rattle.cache_store.specs.Seen.{SeenCache}
use Rattle.command_words.specs.declared.words.Command.{Command}
use Rattle.command_words.specs.declared.words.Command.TheVariants.{Run}
use Rattle.flume_value.specs.declared.value.Value.{Value}
use Rattle.kept_results.specs.of_direct_meaning.Direct.{traps_of}
use Rattle.kept_results.specs.of_direct_meaning.Inputs.{inputs_of}
use Rattle.outside.proofs.AskLemmas.{asks_none}
use Rattle.outside.specs.Asked.{Asks}
use Rattle.outside.specs.Cause.{RoseBy}
use Rattle.outside.specs.Seen.{SeenSource}
use Rattle.outside.specs.declared.file.File.{File as NamedBytes}
use Rattle.outside.specs.declared.host.Phase.{Phase}
use Rattle.plan_phases.specs.Phases.{with_tasks}
use Rattle.plan_phases.specs.Told.{CanFinishAll}
use Rattle.run_course.specs.Answers.{IsReadFault, IsRefused}
use Rattle.run_course.specs.Asked.{tries_of}
use Rattle.run_course.specs.Asks.{AsksFor}
use Rattle.run_course.specs.Lent.{lent}
use Rattle.run_course.specs.Promises.{EndsWith, IsEnded, IsUnlessFailed}
use Rattle.run_course.specs.Outside.{Keeps, Outside}
use Rattle.run_course.specs.Written.{CollectionTable}
use Rattle.run_course.specs.of_script_loading.Loads.{AllHaveRows}
use Rattle.run_course.specs.of_script_run.Runs.{phases_of}
use Rattle.run_course.specs.declared.stop.Stop.{Stop}
use Rattle.run_course.specs.inner.Course.{AsksInCall, TellsStop}
use Rattle.run_course.proofs.AlwaysLemmas.{none_asked}
use Rattle.run_course.proofs.AskLemmas.{stopped_for}
use Rattle.run_course.proofs.CompleteLemmas.{asked_as, done_end, trapped_end}
use Rattle.run_course.proofs.GivenUpLemmas.{not_given_up}
use Rattle.run_course.proofs.LeftLemmas.{begun_then, left_then, same_begun, same_left}
use Rattle.run_course.proofs.ReadLemmas.{same_command, same_rows, same_script}
use Rattle.run_course.proofs.StopLemmas.{Stops, asked_some, input_stops, no_file_stops, no_run, one_stop, plan_stops, script_stops, too_long_stops}
use Rattle.run_settings.specs.Settings.{RunSettings}
use Rattle.run_texts.specs.declared.status.Place.TheVariants.{File, Screen}
use Rattle.run_texts.specs.declared.status.Status.{Status}
use Rattle.run_texts.specs.declared.status.Status.TheVariants.{Done, GaveUp, Usage, ScriptRefused, InputRefused, Trap, ReadFault, WriteFault, WantOfMemory, TooLong, NoFile, PlanRefused}
use Rattle.script_program.specs.Script.{Script}
use Rattle.cached_course.specs.Answers.{Answers, AsksHosts, HasLooked, IsGaveUp, IsKept, WasReused, found, lists_run, script_run}
use Rattle.cached_course.specs.Promises.{CanRun, Ends, ReusePromises}
use Rattle.cached_course.specs.Reused.{IsReused}
use Rattle.cached_course.specs.Sound.{AreSound, TellsSoundEntries}
use Rattle.cached_course.specs.inner.Course.{AsksHostsInCall, IsStop}
use Rattle.cached_course.specs.inner.Laws.{MeantLaw, SoundLaw}
use Rattle.cached_course.proofs.AnswerLemmas.{stopped, stopped_asks}
use Rattle.cached_course.proofs.ReadLemmas.{looked_reads}

-- settings of one command
settings_of : (s t : RunSettings) → Run s None ≡ Run t None → s ≡ t
settings_of s t same = cc

module _ (words : List (List ℕ)) (before after : Outside) (cache later : SeenCache) where
  abbrev told : Option (List NamedBytes)
  told = before.source.files

  abbrev Says : Status → Type 0
  Says status = Answers words before after cache later status

  -- ---- files

  ended : (status : Status) → before.shelf.begun ≡ false → Says status
      → IsEnded status after.shelf
  ended Done none answers = begun_then answers.0 before.shelf after.shelf none answers.3.begun
  ended (Trap origin kind element) none answers =
      same_begun before.shelf after.shelf none answers.shelf
  ended (WriteFault (File name)) none answers = tt
  ended (WriteFault Screen) none answers =
      begun_then answers.0 before.shelf after.shelf none answers.3.begun
  ended _ none answers = same_begun before.shelf after.shelf none answers.refused.shelf

  left : (status : Status) → before.shelf.begun ≡ false → Says status
      → after.shelf.left ≡ before.shelf.left
  left Done none answers = left_then answers.0 before.shelf after.shelf none answers.3.left
  left (Trap origin kind element) none answers = same_left before.shelf after.shelf answers.shelf
  left (WriteFault (File name)) none answers =
      left_then answers.0 before.shelf after.shelf none answers.3.4.left
  left (WriteFault Screen) none answers =
      left_then answers.0 before.shelf after.shelf none answers.3.left
  left _ none answers = same_left before.shelf after.shelf answers.refused.shelf

  -- ---- refusals

  -- what has looked has read all, so nothing stops it
  looked_not : {A : Type 0} (wanted : Status) → IsSome told → Stops words told wanted
      → (it : HasLooked words told cache later) (rows : List (List Value))
      → AllHaveRows told (inputs_of it.script) rows → A
  looked_not wanted tells stops it rows have =
      absurd (no_run words told wanted (Run it.settings None) it.script rows tells stops
      (looked_reads words told cache later it) have tt)

  written_not : {A : Type 0} (wanted : Status) → IsSome told → Stops words told wanted
      → (files : List NamedBytes) (text : List ℕ)
      → WasReused words before after cache later files text → A
  written_not wanted tells stops files text was =
      looked_not wanted tells stops was.it was.writes.rows was.writes.through.meant.inputs

  always : (status wanted : Status) → IsSome told → Stops words told wanted → Says status
      → IsUnlessFailed wanted status
  always Done wanted tells stops answers =
      written_not wanted tells stops answers.0 answers.1 answers.2
  always (Trap origin kind element) wanted tells stops answers =
      looked_not wanted tells stops answers.run.it answers.run.rows answers.run.meant.inputs
  always (WriteFault (File name)) wanted tells stops answers =
      written_not wanted tells stops answers.0 answers.1 answers.2
  always (WriteFault Screen) wanted tells stops answers =
      written_not wanted tells stops answers.0 answers.1 answers.2
  always (GaveUp stage phase task) wanted tells stops answers =
      looked_not wanted tells stops answers.run.it answers.run.rows answers.run.meant.inputs
  always Usage wanted tells stops answers =
      absurd (asked_some words told wanted stops answers.cause)
  always (NoFile name) wanted tells stops answers =
      one_stop words told (NoFile name) wanted tells
      (no_file_stops words before.source name answers.cause) stops
  always (TooLong name limit) wanted tells stops answers =
      one_stop words told (TooLong name limit) wanted tells
      (too_long_stops words before.source name limit answers.cause) stops
  always (ScriptRefused line kind) wanted tells stops answers =
      one_stop words told (ScriptRefused line kind) wanted tells
      (script_stops words before.source line kind answers.cause) stops
  always (InputRefused name row column kind) wanted tells stops answers =
      one_stop words told (InputRefused name row column kind) wanted tells
      (input_stops words before.source name row column kind answers.cause) stops
  always (PlanRefused step kind) wanted tells stops answers =
      one_stop words told (PlanRefused step kind) wanted tells
      (plan_stops words before.source step kind answers.cause) stops
  always (ReadFault name) wanted tells stops answers = tt
  always WantOfMemory wanted tells stops answers = tt

  -- ---- the end

  module _ (s : RunSettings) (script : Script) (rows : List (List Value))
      (can : CanRun words before after cache later s script rows) where
    -- the script that was looked for is that which can be read, and so are its rows
    script_same : (it : HasLooked words told cache later) → script ≡ it.script
    script_same it =
        same_script words told (Run s None) (Run it.settings None) script it.script can.told
        can.reads (looked_reads words told cache later it)

    rows_same : (it : HasLooked words told cache later) (own : List (List Value))
        → AllHaveRows told (inputs_of it.script) own → own ≡ rows
    rows_same it own have =
        same_rows told (inputs_of it.script) own rows can.told have
        (subst (λ (p : Script). AllHaveRows told (inputs_of p) rows) (script_same it) can.inputs)

    settings_same : (it : HasLooked words told cache later) → s ≡ it.settings
    settings_same it =
        settings_of s it.settings
        (same_command words told (Run s None) (Run it.settings None) script it.script can.reads
        (looked_reads words told cache later it))

    ends_with : (status : Status) (it : HasLooked words told cache later)
        (own : List (List Value)) (table : CollectionTable)
        → IsReused told it.script (found it) own table → EndsWith (traps_of table) status
        → Ends words before cache later rows status
    ends_with status it own table meant ends = record {
      it = it;
      table = table;
      meant = subst (λ (r : List (List Value)). IsReused told it.script (found it) r table)
          (rows_same it own meant.inputs) meant;
      ends = ends;
    }

    not_stopped : {A : Type 0} (status : Status) → Stops words told status → A
    not_stopped status stops =
        absurd (no_run words told status (Run s None) script rows can.told stops can.reads
        can.inputs tt)

    -- hosts that can end all tasks give none up
    given_up : {A : Type 0} (stage : ℕ) (phase : Phase) (task : ℕ)
        → IsGaveUp words before after cache later stage phase task → A
    given_up stage phase task up =
        let run = up.run in
        let it = run.it in
        let Finishes : RunSettings → List (List Value) → Type 0
        = λ t r. CanFinishAll t.tries t.drill
        (with_tasks (phases_of t (script_run it) (lists_run it r) run.plan))
        (lent t before.hosts) (lent t after.hosts) in
        let ends : Finishes it.settings run.rows
        = subst (λ (r : List (List Value)). Finishes it.settings r)
        (sym (rows_same it run.rows run.meant.inputs))
        (subst (λ (t : RunSettings). Finishes t rows) (settings_same it)
        (can.hosts it run.plan run.planned)) in
        absurd (not_given_up it.settings.tries it.settings.drill _
        (phases_of it.settings (script_run it) (lists_run it run.rows) run.plan)
        (lent it.settings before.hosts) (lent it.settings after.hosts) stage phase task up.given_up
        ends)

    read_calm : {A : Type 0} (name : List ℕ)
        → IsReadFault name words before.source after.source → A
    read_calm name cause =
        let same : cause.0 ≡ Run s None
        = asked_as words told (Run s None) cause.0 script name cause.1 can.reads cause.2 in
        absurd (can.source
        (subst (λ (d : Command).
        RoseBy (tries_of d) before.source.faults after.source.faults) same cause.3))

    complete : (status : Status) → Says status
        → (status ≡ WantOfMemory) ⊎ Ends words before cache later rows status
    complete Done answers =
        let was = answers.2 in
        let through = was.writes.through in
        inr (ends_with Done was.it was.writes.rows was.table through.meant
        (done_end (traps_of was.table) through.through))
    complete (Trap origin kind element) answers =
        let run = answers.run in
        inr (ends_with (Trap origin kind element) run.it run.rows run.table run.meant
        (trapped_end (traps_of run.table) origin kind element
        (record { origin = origin; element = element; kind = kind }) answers.trap))
    complete WantOfMemory answers = inl refl
    complete (WriteFault (File name)) answers = absurd (can.shelf answers.3.4.faults)
    complete (WriteFault Screen) answers = absurd (can.screen answers.5.faults)
    complete (ReadFault name) answers = read_calm name answers.cause
    complete (GaveUp stage phase task) answers = given_up stage phase task answers
    complete Usage answers = none_asked words (Run s None) can.reads.0 answers.cause can.reads.2
    complete (NoFile name) answers =
        not_stopped (NoFile name) (no_file_stops words before.source name answers.cause)
    complete (TooLong name limit) answers =
        not_stopped (TooLong name limit)
        (too_long_stops words before.source name limit answers.cause)
    complete (ScriptRefused line kind) answers =
        not_stopped (ScriptRefused line kind)
        (script_stops words before.source line kind answers.cause)
    complete (PlanRefused step kind) answers =
        not_stopped (PlanRefused step kind) (plan_stops words before.source step kind answers.cause)
    complete (InputRefused name row column kind) answers =
        not_stopped (InputRefused name row column kind)
        (input_stops words before.source name row column kind answers.cause)

  -- ---- the cache

  module _ (law : SoundLaw) (tells : IsSome told) (is : TellsSoundEntries cache) where
    kept_sound : (files : List NamedBytes) (text : List ℕ)
        (was : WasReused words before after cache later files text)
        → IsKept words before after cache later was → TellsSoundEntries later
    kept_sound files text was kept =
        let through = was.writes.through in
        law words told cache later was.it was.writes.rows was.table tells is through.meant
        through.through kept.held kept.has

    same_sound : later.entries ≡ cache.entries → TellsSoundEntries later
    same_sound same = subst (λ (o : Option (List CacheEntry)). IsSomeAnd o AreSound) (sym same) is

    sound : (status : Status) → Says status → TellsSoundEntries later
    sound Done answers = kept_sound answers.0 answers.1 answers.2 answers.4
    sound (WriteFault (File name)) answers = same_sound answers.4
    sound (WriteFault Screen) answers = kept_sound answers.0 answers.1 answers.2 answers.4
    sound _ answers = same_sound answers.entries

  -- ---- all of it

  pub promises : MeantLaw → SoundLaw → (status : Status) → Says status → Keeps before after
      → AsksFor words before.source after.source status
      → AsksHosts words told before.hosts after.hosts cache later status
      → is_some later.entries ≡ is_some cache.entries → cache.faults ≤ later.faults
      → ReusePromises words before after cache later status
  promises meant_law sound_law status answers kept asked hosts tells rises = record {
    answers = answers;
    asked = asked;
    asked_hosts = hosts;
    always_refused = λ some. record {
      too_long = λ name limit cause.
          always status (TooLong name limit) some
          (too_long_stops words before.source name limit cause) answers;
      script_refused = λ line kind cause.
          always status (ScriptRefused line kind) some
          (script_stops words before.source line kind cause) answers;
      input_refused = λ name row column kind cause.
          always status (InputRefused name row column kind) some
          (input_stops words before.source name row column kind cause) answers;
    };
    complete = λ s script rows can. complete s script rows can status answers;
    as_meant = λ some is it rows table reused.
        meant_law words told cache later it rows table some is reused;
    sound = λ some is. sound sound_law some is status answers;
    kept = kept;
    tells = tells;
    rises = rises;
    ended = λ none. ended status none answers;
    left = λ none. left status none answers;
  }

-- no memory was found, and nothing was asked for
pub of_memory : MeantLaw → SoundLaw → (words : List (List ℕ)) (before after : Outside)
    (cache : SeenCache) → IsRefused WantOfMemory before after → Keeps before after
    → after.source ≡ before.source → after.hosts ≡ before.hosts
    → ReusePromises words before after cache cache WantOfMemory
of_memory meant_law sound_law words before after cache refused kept same hosts =
    promises words before after cache cache meant_law sound_law WantOfMemory
    (record { cause = tt; refused = refused; entries = refl }) kept
    (inl (subst (λ (it : SeenSource). Asks 0 [] before.source it) (sym same)
    (asks_none 0 before.source))) (inl (sym hosts)) refl (omega arith)

-- what a run promises that something stops
pub stop_promises : (T : Type 0) → MeantLaw → SoundLaw → (words : List (List ℕ))
    (before after : Outside) (cache later : SeenCache) (why : Stop) (status : Status)
    → later.entries ≡ cache.entries
    → cache.faults ≤ later.faults
    → IsStop words before.source after.source before.hosts after.hosts cache later why
    → TellsStop why before.screen after.screen status → after.shelf ≡ before.shelf
    → Keeps before after → AsksInCall words before.source after.source {T = T} (Err why)
    → AsksHostsInCall {T = T} words before.source.files before.hosts after.hosts cache later
    (Err why)
    → ReusePromises words before after cache later status
stop_promises T meant_law sound_law words before after cache later why status same rises is
    tells shelf kept asked hosts =
    promises words before after cache later meant_law sound_law status
    (stopped words before after cache later same why status is tells shelf) kept
    (stopped_for T words before.source after.source why before.screen after.screen status
    tells asked)
    (stopped_asks T words before.source.files before.hosts after.hosts cache later why
    before.screen after.screen status tells hosts)
    (ap (λ (o : Option (List CacheEntry)). is_some o) same) rises
