-- What a call asks its source for, by what comes of it.
use Rattle.std.proofs.Common.{◌≡◌, ◌∙◌, ◌++◌, ℕ, inl, inr, List, [], ◌∷◌, Option, Some, None, Result, Ok, Err, IfErr, ap, sym, refl, subst, append-nil, append_assoc}
use Rattle.command_words.specs.declared.words.Command.{Command}
use Rattle.outside.specs.Accounts.{Account}
use Rattle.exec_plan.specs.declared.plan.Plan.{Plan}
use Rattle.flume_value.specs.declared.value.Value.{Value}
use Rattle.outside.specs.Asked.{Asks, AsksFront}
use Rattle.outside.specs.Seen.{SeenScreen, SeenShelf, SeenSource}
use Rattle.outside.specs.declared.file.File.{File as NamedBytes}
use Rattle.outside.proofs.AskLemmas.{asks_both, asks_front, asks_none}
use Rattle.run_settings.specs.Settings.{RunSettings}
use Rattle.run_texts.specs.declared.status.Status.{Status}
use Rattle.run_texts.specs.declared.status.Status.TheVariants.{Done, GaveUp, ScriptRefused, InputRefused, ReadFault, WriteFault, WantOfMemory, TooLong, NoFile, PlanRefused}
use Rattle.script_program.specs.Script.{Script}
use Rattle.script_loading.specs.Asks.{AsksToStop, AsksUpTo}
use Rattle.script_loading.specs.Causes.{IsLoaded, IsScriptCause}
use Rattle.run_course.specs.Asked.{AskFor, tries_of}
use Rattle.run_course.specs.Asks.{AsksAll, AsksFor, AsksScript, AsksSome, files_behind, plan_file}
use Rattle.run_course.specs.Asks as call
use Rattle.run_course.specs.Plans.{IsFileCause}
use Rattle.run_course.specs.declared.stop.Stop.{Stop}
use Rattle.run_course.specs.declared.stop.Stop.TheVariants as stop
use Rattle.run_course.specs.inner.Course.{AsksInCall, AsksUntil, AsksWith, Delivers, IsPlanStop, IsRunStop, IsStop, TellsStop}
use Rattle.run_course.proofs.ReadLemmas.{Words}

abbrev Names : Type 0
Names = List (List ℕ)

-- ---- a command

module _ (tries : ℕ) (names : Names) (before after : SeenSource) where
  pub whole_front : Asks tries names before after → AsksFront tries names before after
  whole_front asks =
      asks_front tries names names [] before after (sym (append-nil names)) asks

  -- the inputs' files were asked for up to one that was not read, and a plan's behind them was not
  pub inputs_with : (more : Names) (status : Status) → AsksToStop tries names before after status
      → AsksWith tries (names ++ more) before after status
  inputs_with more status asks = by status asks
    where
      up_to : (name : List ℕ) → AsksUpTo tries names before after name
          → AsksUpTo tries (names ++ more) before after name
      up_to name front = (
        front.0,
        front.1 ++ more,
        ap (λ l. l ++ more) front.2 ∙ append_assoc front.0 (name ∷ front.1) more,
        front.3,
      )

      by : (status : Status) → AsksToStop tries names before after status
          → AsksWith tries (names ++ more) before after status
      by (InputRefused name row column kind) front = up_to name front
      by (NoFile name) front = up_to name front
      by (ReadFault name) front = up_to name front
      by (TooLong name limit) front = up_to name front
      by WantOfMemory front =
          asks_front tries (names ++ more) front.0 (front.1 ++ more) before after
          (ap (λ l. l ++ more) front.2 ∙ append_assoc front.0 front.1 more) front.3
      by _ asks = absurd asks

  -- all inputs have rows, and their meaning was worked out
  pub meant_until : {T : Type 0} (script : Script) (rows : List (List Value)) (r : Result T Stop)
      → IfErr r (IsStop script rows) → Asks tries names before after
      → AsksUntil tries names before after r
  meant_until script rows (Ok it) stops asks = asks
  meant_until script rows (Err (stop.Trapped trap)) stops asks = asks
  meant_until script rows (Err (stop.Refused status)) stops asks =
      subst (λ (s : Status). AsksWith tries names before after s) (sym stops) (whole_front asks)

  -- or run
  pub run_until : {T : Type 0} (s : RunSettings) (script : Script) (rows : List (List Value))
      (plan : Plan) (olds news : List Account) (r : Result T Stop)
      → IfErr r (IsRunStop s script rows plan olds news) → Asks tries names before after
      → AsksUntil tries names before after r
  run_until s script rows plan olds news (Ok it) stops asks = asks
  run_until s script rows plan olds news (Err (stop.Trapped trap)) stops asks = asks
  run_until s script rows plan olds news (Err (stop.Refused status)) (inl memory) asks =
      subst (λ (s : Status). AsksWith tries names before after s) (sym memory) (whole_front asks)
  run_until s script rows plan olds news (Err (stop.Refused status)) (inr up) asks =
      subst (λ (s : Status). AsksWith tries names before after s) (sym up.3) asks

-- there is no plan, whose file is the last
module _ (tries : ℕ) (first : Names) (before after : SeenSource) (most : ℕ)
    (source source' : SeenSource) (script : Script) where
  pub plan_with : (from : Option (List ℕ)) (status : Status)
      → IsPlanStop most source source' script from status
      → Asks tries (first ++ plan_file from) before after
      → AsksWith tries (first ++ plan_file from) before after status
  plan_with None status stops asks =
      subst (λ (s : Status). AsksWith tries (first ++ []) before after s) (sym stops)
      (whole_front tries (first ++ []) before after asks)
  plan_with (Some name) status stops asks = by status stops
    where
      up_to : (other : List ℕ) → other ≡ name
          → AsksUpTo tries (first ++ name ∷ []) before after other
      up_to other same =
          subst (λ (n : List ℕ). AsksUpTo tries (first ++ name ∷ []) before after n) (sym same)
          (first, [], refl, asks)

      by : (status : Status) → IsFileCause most source source' script name status
          → AsksWith tries (first ++ name ∷ []) before after status
      by (PlanRefused step kind) stops = asks
      by (NoFile other) stops = up_to other stops.0
      by (ReadFault other) stops = up_to other stops.0
      by (TooLong other limit) stops = up_to other stops.0
      by WantOfMemory stops = whole_front tries (first ++ name ∷ []) before after asks
      by _ stops = absurd stops

-- where none are behind them
pub none_behind : {T : Type 0} (tries : ℕ) (names : Names) (before after : SeenSource)
    (r : Result T Stop) → AsksUntil tries names before after r
    → AsksUntil tries (names ++ []) before after r
none_behind tries names before after r asks =
    subst (λ (l : Names). AsksUntil tries l before after r) (sym (append-nil names)) asks

-- nothing is read
pub none_with : (tries : ℕ) (names : Names) (it : SeenSource)
    → AsksWith tries names it it WantOfMemory
none_with tries names it = asks_front tries names [] names it it refl (asks_none tries it)

-- ---- a call

module _ (words : Words) (command : Command) (name : List ℕ) where
  -- no script is read
  pub script_for : (before after : SeenSource) (status : Status) → AskFor words command name
      → IsScriptCause (tries_of command) before after name status
      → Asks (tries_of command) (name ∷ []) before after → AsksFor words before after status
  script_for before after status asked cause asks = by status cause
    where
      alone : (other : List ℕ) → other ≡ name → AsksScript words before after other
      alone other same =
          subst (λ (n : List ℕ). AsksScript words before after n) (sym same) (command, asked, asks)

      by : (status : Status) → IsScriptCause (tries_of command) before after name status
          → AsksFor words before after status
      by (ScriptRefused line kind) cause = (name, alone name refl)
      by (NoFile other) cause = inl (alone other cause.0)
      by (ReadFault other) cause = inl (alone other cause.0)
      by (TooLong other limit) cause = inl (alone other cause.0)
      by WantOfMemory cause = inr (inl (name, alone name refl))
      by _ cause = absurd cause

  module _ (script : Script) (before middle after : SeenSource) (asked : AskFor words command name)
      (loaded : IsLoaded before.files name script)
      (first : Asks (tries_of command) (name ∷ []) before middle) where
    abbrev others : Names
    others = files_behind command script

    behind_first : (names : Names) → Asks (tries_of command) names middle after
        → Asks (tries_of command) (name ∷ names) before after
    behind_first names asks =
        asks_both (tries_of command) (name ∷ []) names before middle after first asks

    all_for : Asks (tries_of command) others middle after → AsksAll words before after
    all_for asks = (command, name, script, asked, loaded, behind_first others asks)

    until_for : (last : List ℕ) → AsksUpTo (tries_of command) others middle after last
        → call.AsksUntil words before after last
    until_for last front =
        let all = behind_first (front.0 ++ last ∷ []) front.3 in
        let more = ap (λ (l : Names). name ∷ l) front.2 in
        (command, name, script, asked, loaded, (name ∷ front.0, front.1, more, all))

    some_for : AsksFront (tries_of command) others middle after → AsksSome words before after
    some_for front =
        let all = behind_first front.0 front.3 in
        let more = ap (λ (l : Names). name ∷ l) front.2 in
        (command, name, script, asked, loaded, (name ∷ front.0, front.1, more, all))

    status_for : (status : Status) → AsksWith (tries_of command) others middle after status
        → AsksFor words before after status
    status_for (GaveUp stage phase task) asks = all_for asks
    status_for (PlanRefused step kind) asks = all_for asks
    status_for (NoFile other) front = inr (until_for other front)
    status_for (TooLong other limit) front = inr (until_for other front)
    status_for (ReadFault other) front = inr (until_for other front)
    status_for (InputRefused other row column kind) front = until_for other front
    status_for WantOfMemory front = inr (inr (some_for front))
    status_for _ asks = absurd asks

    -- the script is read, and the command carried out
    pub command_for : {T : Type 0} (r : Result T Stop)
        → AsksUntil (tries_of command) others middle after r
        → AsksInCall words before after r
    command_for (Ok it) asks = all_for asks
    command_for (Err (stop.Trapped trap)) asks = all_for asks
    command_for (Err (stop.Refused status)) asks = status_for status asks

-- what was to be written was written, or that failed
pub delivered_for : (words : Words) (before after : SeenSource)
    (files : List NamedBytes) (text : List ℕ) (shelf shelf' : SeenShelf)
    (screen screen' : SeenScreen) (status : Status)
    → Delivers files text shelf shelf' screen screen' status
    → AsksAll words before after → AsksFor words before after status
delivered_for words before after files text shelf shelf' screen screen' Done is all = all
delivered_for words before after files text shelf shelf' screen screen' (WriteFault place) is all =
    all
delivered_for words before after files text shelf shelf' screen screen' _ is all = absurd is

-- this stops it
pub stopped_for : (T : Type 0) (words : Words) (before after : SeenSource) (why : Stop)
    (screen screen' : SeenScreen) (status : Status) → TellsStop why screen screen' status
    → AsksInCall words before after {T = T} (Err why) → AsksFor words before after status
stopped_for T words before after (stop.Refused told) screen screen' status tells asks =
    subst (λ (s : Status). AsksFor words before after s) (sym tells.0) asks
stopped_for T words before after (stop.Trapped trap) screen screen' status tells asks =
    subst (λ (s : Status). AsksFor words before after s) (sym tells.0) asks
