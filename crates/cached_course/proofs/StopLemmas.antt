-- What the run of what was given comes to, as what a call comes to.
use Rattle.std.proofs.Common.{◌≡◌, ◌∙◌, ◌⊎◌, inl, inr, ℕ, zero, suc, Bool, true, false, List, [], ◌∷◌, Some, None, drop, length, slice_get, refl, sym, ap, subst, if◌then◌else◌}
use Rattle.std.specs.List.{AllByRecursion as Each, Contains}
use Rattle.std.specs.Option.{option_map}
use Rattle.cache_store.specs.declared.entry.CacheEntry.{CacheEntry}
use Rattle.cache_store.specs.Seen.{SeenCache}
use Rattle.command_words.specs.declared.words.Command.TheVariants.{Run}
use Rattle.outside.specs.Accounts.{Account}
use Rattle.exec_plan.specs.declared.plan.Plan.{Plan}
use Rattle.flume_value.specs.declared.value.Value.{Value}
use Rattle.kept_results.specs.of_direct_meaning.Direct.{meaning}
use Rattle.kept_results.specs.of_direct_meaning.Inputs.{inputs_of}
use Rattle.kept_results.proofs.FoundLemmas.{IsRead, firsts}
use Rattle.kept_results.proofs.ListLemmas.{numbers_of}
use Rattle.outside.specs.Seen.{SeenSource}
use Rattle.outside.specs.declared.file.File.{File}
use Rattle.outside.specs.declared.host.Phase.{Phase}
use Rattle.plan_phases.specs.Told.{IsGivenUp}
use Rattle.run_course.specs.Answers.{IsFirstOfPlan, name_at}
use Rattle.run_course.specs.Asked.{AskFor}
use Rattle.run_course.specs.Lent.{lent}
use Rattle.run_course.specs.Written.{CollectionTable}
use Rattle.run_course.specs.declared.stop.Stop.{Stop}
use Rattle.run_course.specs.declared.stop.Stop.TheVariants.{Refused, Trapped}
use Rattle.run_course.specs.declared.stop.Trapped.{Trapped as NamedTrap}
use Rattle.run_course.specs.inner.Course.{IsGivingUp, TrapsAt}
use Rattle.run_course.specs.of_build_law.Worlds.{script_world}
use Rattle.run_course.specs.of_script_loading.Loads.{AllHaveRows}
use Rattle.run_course.specs.of_script_plans.Plans.{IsScriptPlan}
use Rattle.run_course.specs.of_script_run.Runs.{AsksSomePhases, IsLostOf, phases_of}
use Rattle.run_settings.specs.Settings.{RunSettings}
use Rattle.run_texts.specs.declared.status.Status.{Status}
use Rattle.run_texts.specs.declared.status.Status.TheVariants.{WantOfMemory}
use Rattle.script_program.specs.Needed.{holds_number}
use Rattle.script_program.specs.Saved.{saved_among, saved_node}
use Rattle.script_program.specs.Script.{Node, Script}
use Rattle.written_types.specs.Named.{Named}
use Rattle.cached_course.specs.Answers.{AsksRun, HasLooked, IsRunning}
use Rattle.cached_course.specs.Looked.{AreKeyedOutputs}
use Rattle.cached_course.specs.declared.saving.Given.{Given}
use Rattle.cached_course.specs.inner.Course.{AsksPhases, GivesUp, IsPrepared, IsStop, StopsRun, Traps, WasGiven, WasRun}
use Rattle.cached_course.proofs.AskedLemmas.{keyed_read}
use Rattle.cached_course.proofs.RunLemmas.{found_here, held_here, keeps_here, planned_here, reused, script_here, writes_here}

-- ---- names

saved_name : (b : Bool) (entry : List ℕ × Node)
    → (if b then (entry.0, saved_node entry.1) else entry).0 ≡ entry.0
saved_name true entry = refl
saved_name false entry = refl

names_from : (found : List ℕ) (k : ℕ) (nodes : Named Node) (n : ℕ)
    → option_map (λ (entry : List ℕ × Node). entry.0) (slice_get (saved_among found k nodes) n)
    ≡ option_map (λ (entry : List ℕ × Node). entry.0) (slice_get nodes n)
names_from found k [] n = refl
names_from found k (entry ∷ nodes) zero = ap Some (saved_name (holds_number found k) entry)
names_from found k (entry ∷ nodes) (suc n) = names_from found (suc k) nodes n

-- ---- what it comes to

module _ (words : List (List ℕ)) (before after : SeenSource) (olds news : List Account)
    (cache later : SeenCache) (s : RunSettings) (name : List ℕ) (script : Script)
    (asked : List (ℕ × List ℕ)) (asks : AskFor words (Run s None) name)
    (of_script : AreKeyedOutputs before.files name script asked) (rows : List (List Value))
    (have : AllHaveRows before.files (inputs_of script) rows) (given : Given)
    (is : WasGiven script asked rows cache later given) where
  -- how far the call came
  abbrev pub it_here : HasLooked words before.files cache later
  it_here = record {
    settings = s;
    name = name;
    script = script;
    asked = asked;
    looked = is.looked;
    asks = asks;
    of_script = of_script;
    was = is.was;
  }

  abbrev later_here : Script
  later_here = script_here before.files script asked rows cache later given is

  running : (table : CollectionTable) (plan : Plan)
      → meaning given.program.script given.lists ≡ Some table
      → IsScriptPlan given.program.script plan
      → IsRunning words before.files cache later
  running table plan means planned = record {
    it = it_here;
    rows = rows;
    table = table;
    plan = plan;
    meant = reused before.files script asked rows cache later given is table have means;
    planned = planned_here before.files script asked rows cache later given is plan planned;
  }

  -- it writes and keeps
  read_here : Each (IsRead script.outputs) (firsts asked)
  read_here =
      subst (λ (l : List (ℕ × List ℕ)). Each (IsRead script.outputs) (firsts l))
      (sym of_script.keyed)
      (keyed_read script of_script.outlines of_script.texts of_script.files)

  pub prepared : (files : List File) (text : List ℕ) (kept : List CacheEntry)
      → WasRun s given (lent s olds) (lent s news) files text kept
      → IsPrepared words before.files olds news cache later files text kept
  prepared files text kept run = record {
    it = it_here;
    table = run.table;
    writes = writes_here before.files script asked rows cache later given is s olds news files text
        kept have run;
    keeps = keeps_here before.files script asked rows cache later given is s (lent s olds)
        (lent s news) files text kept read_here run;
    held = held_here before.files script asked rows cache later given is s (lent s olds)
        (lent s news) files text kept read_here run;
  }

  -- it gives a task up
  giving : (plan : Plan) (stage : ℕ) (phase : Phase) (task : ℕ)
      → IsScriptPlan given.program.script plan
      → IsLostOf s given.program.script given.lists plan (lent s olds) (lent s news) stage phase
      task
      → GivesUp words before after olds news cache later stage phase task
  unfolding running
  giving plan stage phase task planned lost = (
    running lost.made plan lost.means planned,
    subst
        (λ (l : List (List Value)).
        IsGivenUp s.tries s.drill (script_world later_here l) (phases_of s later_here l plan)
        (lent s olds) (lent s news) stage phase task) is.lists
        (subst
        (λ (x : Script).
        IsGivenUp s.tries s.drill (script_world x given.lists) (phases_of s x given.lists plan)
        (lent s olds) (lent s news) stage phase task) is.program lost.given_up),
  )

  refused : (status : Status) (plan : Plan) → IsScriptPlan given.program.script plan
      → (status ≡ WantOfMemory)
      ⊎ IsGivingUp s given.program.script given.lists plan (lent s olds) (lent s news) status
      → IsStop words before after olds news cache later (Refused status)
  refused status plan planned (inl none) =
      subst (λ (x : Status). IsStop words before after olds news cache later (Refused x)) (sym none)
      tt
  refused status plan planned (inr up) =
      subst (λ (x : Status). IsStop words before after olds news cache later (Refused x))
      (sym up.3) (giving plan up.0 up.1 up.2 planned up.4)

  -- it traps
  trapping : (trap : NamedTrap) (plan : Plan) (table : CollectionTable)
      → IsScriptPlan given.program.script plan
      → TrapsAt
      (λ traps it. Contains traps it
      × IsFirstOfPlan s given.program.script given.lists plan (lent s olds) (lent s news) it)
      given.program.script given.lists trap table
      → Traps words before after olds news cache later trap.trap trap.name
  unfolding running
  trapping trap plan table planned at = (
    running table plan at.means planned,
    at.told.0,
    subst
        (λ (l : List (List Value)).
        IsFirstOfPlan s later_here l plan (lent s olds) (lent s news) trap.trap) is.lists
        (subst
        (λ (x : Script).
        IsFirstOfPlan s x given.lists plan (lent s olds) (lent s news) trap.trap) is.program
        at.told.1),
    sym (names_from (numbers_of (found_here before.files script asked rows cache later given is)) 0
        script.nodes trap.trap.origin)
        ∙ (λ i. name_at (sym is.program i) trap.trap.origin) ∙ at.named,
  )

  pub stops : (why : Stop) → StopsRun s given (lent s olds) (lent s news) why
      → IsStop words before after olds news cache later why
  stops why (inl none) =
      subst (IsStop words before after olds news cache later) (sym none) tt
  stops (Refused status) (inr run) = refused status run.0 run.1 run.2
  stops (Trapped trap) (inr run) = trapping trap run.0 run.2.0 run.1 run.2.1

  -- what hosts were asked for
  pub asks_here : AsksPhases s given (lent s olds) (lent s news)
      → drop s.workers news ≡ drop s.workers olds
      → AsksRun words before.files olds news cache later
  asks_here phases others = record {
    it = it_here;
    rows = rows;
    plan = phases.0;
    inputs = have;
    planned = planned_here before.files script asked rows cache later given is phases.0 phases.1;
    sources = phases.2 ∙ ap length is.lists;
    asked = subst
        (λ (l : List (List Value)).
        AsksSomePhases s (phases_of s later_here l phases.0) (lent s olds) (lent s news)) is.lists
        (subst
        (λ (x : Script).
        AsksSomePhases s (phases_of s x given.lists phases.0) (lent s olds) (lent s news))
        is.program phases.3);
    others = others;
  }
