-- What a run comes to whose files were not all read, or whose plan was run.
use Rattle.std.proofs.Common.{◌≡◌, ◌∙◌, ◌<◌, ◌≤◌, ◌^◌, ◌++◌, inl, inr, ℕ, List, [], ◌∷◌, Option, Some, None, Result, Ok, Err, IfErr, map, ap, append-nil, codes, length, refl, sym, subst}
use Rattle.std.specs.Prelude.{All}
use Rattle.std.specs.List.{AllByRecursion as Each}
use Rattle.std.proofs.lemmas.List.Elements.{recursion_from_All}
use Rattle.cache_store.specs.declared.entry.CacheEntry.{CacheEntry}
use Rattle.command_words.specs.declared.words.Command.TheVariants.{Run}
use Rattle.outside.specs.Accounts.{Account}
use Rattle.exec_plan.specs.declared.plan.Plan.{Plan}
use Rattle.flume_value.specs.Ranges.{IsHeld}
use Rattle.kept_results.specs.Keyed.{keyed_nodes}
use Rattle.kept_results.specs.Sizes.{sizes_told}
use Rattle.kept_results.specs.of_direct_meaning.Inputs.{inputs_of}
use Rattle.key_meaning.specs.Keyed.{HasKeyLength}
use Rattle.keyed_loading.specs.Files.{AreFilesOf}
use Rattle.keyed_loading.specs.Keyed.{LoadsKeyed}
use Rattle.outside.specs.Asked.{Asks}
use Rattle.outside.specs.Seen.{SeenSource}
use Rattle.outside.specs.declared.file.File.{File}
use Rattle.run_course.specs.Asked.{AskFor}
use Rattle.run_course.specs.Asks.{AsksFor}
use Rattle.run_course.specs.Written.{text_shown}
use Rattle.run_course.specs.declared.stop.Stop.{Stop}
use Rattle.run_course.specs.declared.stop.Stop.TheVariants.{Refused}
use Rattle.run_course.specs.inner.Course.{AsksInCall, AsksUntil, MayHaveCome, files_with}
use Rattle.run_course.specs.of_script_loading.Asks.{AsksToStop}
use Rattle.run_course.specs.of_script_loading.Causes.{IsInputsCause, IsLoaded, IsScriptCause}
use Rattle.run_course.specs.of_script_loading.Loads.{file_names}
use Rattle.run_course.specs.of_script_plans.Plans.{IsScriptPlan}
use Rattle.run_course.specs.of_script_run.Runs.{IsRan}
use Rattle.run_course.specs.of_script_run.declared.run.Ran.{Ran}
use Rattle.run_course.proofs.AskLemmas.{command_for, inputs_with, run_until, whole_front}
use Rattle.run_course.proofs.CauseLemmas.{inputs_cause, reads, script_cause}
use Rattle.run_course.proofs.HostLemmas.{may_stop}
use Rattle.run_course.proofs.RunLemmas.{files_at}
use Rattle.run_course.proofs.of_script_loading.SinceLemmas.{inputs_since}
use Rattle.run_settings.specs.Settings.{RunSettings}
use Rattle.run_texts.specs.Texts.{size_lines}
use Rattle.run_texts.specs.declared.status.Status.{Status}
use Rattle.run_texts.specs.declared.status.Status.TheVariants.{GaveUp, WantOfMemory}
use Rattle.script_keys.specs.declared.outline.Outline.{Outline}
use Rattle.script_program.specs.Script.{Script}
use Rattle.script_program.specs.declared.made.Output.{Output}
use Rattle.cache_store.specs.Seen.{SeenCache}
use Rattle.cached_course.specs.Looked.{AreKeyedOutputs}
use Rattle.cached_course.specs.declared.missing.Missing.{Missing}
use Rattle.cached_course.specs.declared.saving.Given.{Given}
use Rattle.cached_course.specs.inner.Course.{IsStop, StopsRun, WasRun, counted_too}
use Rattle.cached_course.specs.inner.Missing.{entry_of, kept_value}
use Rattle.cached_course.proofs.ReadLemmas.{accepted}

-- ---- what was loaded

pub is_loaded : (told : Option (List File)) (name : List ℕ) (script : Script)
    (outlines : List Outline) (texts : List (List ℕ))
    → LoadsKeyed told name script outlines texts → IsLoaded told name script
is_loaded told name script outlines texts loaded =
    (loaded.0, loaded.1, accepted loaded.0 script outlines texts loaded.2)

pub are_asked : (told middle : Option (List File)) (name : List ℕ) (script : Script)
    (outlines : List Outline) (texts shown : List (List ℕ)) (files : List File) → middle ≡ told
    → shown ≡ texts → LoadsKeyed told name script outlines texts
    → AreFilesOf middle (inputs_of script) files
    → All (λ (text : List ℕ). length text < 2 ^ 64) shown
    → All (λ (entry : List ℕ × Output). length entry.1.name < 2 ^ 64) script.outputs
    → AreKeyedOutputs told name script (keyed_nodes outlines texts files script)
are_asked told middle name script outlines texts shown files same is loaded inputs short named =
    record {
      outlines = outlines;
      texts = texts;
      loaded = loaded;
      files = files;
      inputs = subst (λ (t : Option (List File)). AreFilesOf t (inputs_of script) files) same
          inputs;
      keyed = refl;
      texts_short = recursion_from_All HasKeyLength texts
          (subst (All (λ (text : List ℕ). length text < 2 ^ 64)) is short);
      names_short = recursion_from_All (λ (entry : List ℕ × Output). HasKeyLength entry.1.name)
          script.outputs named;
    }

-- ---- what stops it

module _ (words : List (List ℕ)) (before middle after : SeenSource) (olds news : List Account)
    (cache later : SeenCache) (s : RunSettings) (name : List ℕ)
    (asks : AskFor words (Run s None) name) where
  pub script_stops : (status : Status) → IsScriptCause s.tries before after name status
      → IsStop words before after olds news cache later (Refused status)
  script_stops (GaveUp stage phase task) cause = absurd cause
  script_stops status cause =
      script_cause words before after olds news (Run s None) name status asks cause

  module _ (script : Script) (loaded : IsLoaded before.files name script)
      (told : middle.files ≡ before.files) (since : before.faults ≤ middle.faults) where
    pub inputs_stop : (status : Status)
        → IsInputsCause s.tries middle after (inputs_of script) status
        → IsStop words before after olds news cache later (Refused status)
    inputs_stop (GaveUp stage phase task) cause = absurd cause.6
    inputs_stop status cause =
        inputs_cause words before after olds news (Run s None) script status
        (reads words before.files (Run s None) name script (asks, loaded))
        (inputs_since s.tries before middle after (inputs_of script) status told since cause)

-- ---- what its source was asked for

module _ (words : List (List ℕ)) (before middle after : SeenSource) (s : RunSettings)
    (name : List ℕ) (asks : AskFor words (Run s None) name) (script : Script)
    (loaded : IsLoaded before.files name script)
    (first : Asks s.tries (name ∷ []) before middle) where
  abbrev names : List (List ℕ)
  names = file_names (inputs_of script)

  -- not all inputs have rows
  pub inputs_asked : (status : Status) → AsksToStop s.tries names middle after status
      → AsksFor words before after status
  inputs_asked status front =
      command_for words (Run s None) name script before middle after asks loaded first
      {T = Status} (Err (Refused status)) (inputs_with s.tries names middle after [] status front)

  -- all have
  module _ (rest : Asks s.tries names middle after) where
    whole : Asks s.tries (names ++ []) middle after
    whole =
        subst (λ (l : List (List ℕ)). Asks s.tries l middle after) (sym (append-nil names)) rest

    pub memory_asked : AsksFor words before after WantOfMemory
    memory_asked =
        command_for words (Run s None) name script before middle after asks loaded first
        {T = Status} (Err (Refused WantOfMemory))
        (whole_front s.tries (names ++ []) middle after whole)

    until : {T : Type 0} (given : Given) (olds news : List Account) (r : Result T Stop)
        → IfErr r (StopsRun s given olds news) → AsksUntil s.tries (names ++ []) middle after r
    until given olds news (Ok it) stops = whole
    until {T = T} given olds news (Err why) (inl none) =
        subst (λ (x : Stop). AsksUntil s.tries (names ++ []) middle after {T = T} (Err x))
        (sym none)
        (whole_front s.tries (names ++ []) middle after whole)
    until {T = T} given olds news (Err why) (inr run) =
        run_until s.tries (names ++ []) middle after {T = T} s given.program.script given.lists
        run.0 olds news (Err why) run.2 whole

    pub run_asked : {T : Type 0} (given : Given) (olds news : List Account) (r : Result T Stop)
        → IfErr r (StopsRun s given olds news) → AsksInCall words before after r
    run_asked {T = T} given olds news r stops =
        command_for words (Run s None) name script before middle after asks loaded first
        {T = T} r (until {T = T} given olds news r stops)

-- ---- what hosts may have been asked for

pub may_come : {T : Type 0} (s : RunSettings) (given : Given) (olds news : List Account)
    (r : Result T Stop) → IfErr r (StopsRun s given olds news) → MayHaveCome r
may_come s given olds news (Ok it) stops = tt
may_come {T = T} s given olds news (Err why) (inl none) =
    subst (λ (x : Stop). MayHaveCome {T = T} (Err x)) (sym none) tt
may_come {T = T} s given olds news (Err why) (inr run) =
    may_stop s given.program.script given.lists run.0 olds news {T = T} (Err why) run.2

-- ---- the run of what was given

module _ (s : RunSettings) (given : Given) (plan : Plan) (olds news : List Account)
    (planned : IsScriptPlan given.program.script plan) where
  abbrev script : Script
  script = given.program.script

  pub was_run : (it : Ran) (front text : List ℕ) (files : List File) (kept : List CacheEntry)
      → IsRan s script given.lists plan olds news it → front ≡ text_shown script plan
      → files ≡ files_with script.outputs it.outputs.items
      → text ≡ front ++ (size_lines (sizes_told
      (counted_too script given.known.items it.sizes.items) given.needed.items)
      ++ codes "done\n")
      → kept ≡ map (entry_of script (counted_too script given.known.items it.sizes.items)
      it.outputs.items) given.missing.items
      → Each (λ (one : Missing). IsHeld (kept_value script
      (counted_too script given.known.items it.sizes.items) it.outputs.items one))
      given.missing.items
      → WasRun s given olds news files text kept
  was_run it front text files kept ran shown are told keeps held = record {
    table = ran.made;
    plan = plan;
    written = it.outputs.items;
    means = ran.means;
    through = ran.through;
    planned = planned;
    are = ran.written;
    has_files = files_at ran.made script.outputs it.outputs.items ran.written ∙ ap Some (sym are);
    shown = told
        ∙ (λ i. shown i
        ++ (size_lines (sizes_told (counted_too script given.known.items (ran.sizes i))
        given.needed.items) ++ codes "done\n"));
    keeps = keeps
        ∙ (λ i. map (entry_of script (counted_too script given.known.items (ran.sizes i))
        it.outputs.items) given.missing.items);
    held = subst
        (λ (l : List (List ℕ × ℕ)).
        Each (λ (one : Missing). IsHeld (kept_value script
        (counted_too script given.known.items l) it.outputs.items one)) given.missing.items)
        ran.sizes held;
    ran = (it.winners.items, ran.ran, ran.asked);
  }
