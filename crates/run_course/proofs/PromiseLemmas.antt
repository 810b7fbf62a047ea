-- What a call promises, from what its answer says.
use Rattle.std.proofs.Common.{◌≡◌, ◌≤◌, Err, arith, subst, sym}
use Rattle.std.specs.List.{AllZip}
use Rattle.crew.specs.Hosts.{Grew}
use Rattle.outside.specs.Seen.{SeenShelf}
use Rattle.run_texts.specs.declared.status.Place.TheVariants.{File, Screen}
use Rattle.run_texts.specs.declared.status.Status.{Status}
use Rattle.run_texts.specs.declared.status.Status.TheVariants.{Done, GaveUp, Usage, ScriptRefused, InputRefused, Trap, ReadFault, WriteFault, TooLong, NoFile, PlanRefused}
use Rattle.run_course.specs.Answers.{Answers}
use Rattle.run_course.specs.Asks.{AsksFor}
use Rattle.run_course.specs.Hosts.{AsksHosts}
use Rattle.run_course.specs.Promises.{ScriptPromises}
use Rattle.run_course.specs.Outside.{Keeps, Outside}
use Rattle.run_course.specs.declared.stop.Stop.{Stop}
use Rattle.run_course.specs.inner.Course.{AsksHostsInCall, AsksInCall, IsStopped, TellsStop}
use Rattle.run_course.proofs.AskLemmas.{stopped_for}
use Rattle.run_course.proofs.AlwaysLemmas.{always, always_usage}
use Rattle.run_course.proofs.CauseLemmas.{stopped}
use Rattle.run_course.proofs.CompleteLemmas.{complete}
use Rattle.run_course.proofs.HostLemmas.{stopped_asks}
use Rattle.run_course.proofs.LeftLemmas.{ended, left, refused_part}
use Rattle.run_course.proofs.ReadLemmas.{Words}
use Rattle.run_course.proofs.StopLemmas.{input_stops, plan_stops, script_stops, too_long_stops}

-- what is kept where the shelf was let alone
pub shelf_alone : (before after : Outside) → after.shelf ≡ before.shelf
    → after.source.files ≡ before.source.files → before.source.faults ≤ after.source.faults
    → before.screen.faults ≤ after.screen.faults → AllZip Grew before.hosts after.hosts
    → Keeps before after
shelf_alone before after same told later screen grew = record {
  told = told;
  source = later;
  shelf = subst (λ (s : SeenShelf). before.shelf.faults ≤ s.faults) (sym same) (omega arith);
  screen = screen;
  hosts = grew;
}

pub promises : (words : Words) (before after : Outside) (status : Status)
    → Answers words before after status → Keeps before after
    → AsksFor words before.source after.source status
    → AsksHosts words before.source.files before.hosts after.hosts status
    → ScriptPromises words before after status
promises words before after status answers kept asked hosts =
    let when : (other : Status) → status ≡ other → Answers words before after other
    = λ other is. subst (λ (s : Status). Answers words before after s) is answers in
    record {
      done = when Done;
      trap = λ origin kind element is. when (Trap origin kind element) is;
      usage = λ is. (when Usage is).0;
      no_file = λ name is. (when (NoFile name) is).0;
      read_fault = λ name is. (when (ReadFault name) is).0;
      too_long = λ name limit is. (when (TooLong name limit) is).0;
      asked = asked;
      asked_hosts = hosts;
      script_refused = λ line kind is. (when (ScriptRefused line kind) is).0;
      input_refused = λ name row column kind is. (when (InputRefused name row column kind) is).0;
      plan_refused = λ step kind is. (when (PlanRefused step kind) is).0;
      gave_up = λ stage phase task is. (when (GaveUp stage phase task) is).0;
      always_usage = λ none. always_usage words before after status none answers;
      always_refused = λ tells. record {
        too_long = λ name limit cause.
            always words before after status (TooLong name limit) tells (too_long_stops words
            before.source name limit cause) answers;
        script_refused = λ line kind cause.
            always words before after status (ScriptRefused line kind) tells (script_stops words
            before.source line kind cause) answers;
        input_refused = λ name row column kind cause.
            always words before after status (InputRefused name row column kind) tells (input_stops
            words before.source name row column kind cause) answers;
      };
      always_plan_refused = λ tells step kind cause.
          always words before after status (PlanRefused step kind) tells (plan_stops words
          before.source step kind cause) answers;
      refused = refused_part words before after status answers;
      file_fault = λ name is. when (WriteFault (File name)) is;
      screen_fault = λ is. when (WriteFault Screen) is;
      complete = λ command script rows can. complete words before after status command script rows
          answers can;
      kept = kept;
      ended = λ none. ended words before after status none answers;
      left = λ none. left words before after status none answers;
    }

-- what a call promises that something stops: it has let the shelf alone
pub stop_promises : (T : Type 0) (words : Words) (before after : Outside) (why : Stop)
    (status : Status)
    → IsStopped words before.source after.source before.hosts after.hosts why
    → TellsStop why before.screen after.screen status → after.shelf ≡ before.shelf
    → after.source.files ≡ before.source.files → before.source.faults ≤ after.source.faults
    → before.screen.faults ≤ after.screen.faults → AllZip Grew before.hosts after.hosts
    → AsksInCall words before.source after.source {T = T} (Err why)
    → AsksHostsInCall {T = T} words before.source.files before.hosts after.hosts (Err why)
    → ScriptPromises words before after status
stop_promises T words before after why status is tells same told later screen grew asked
    hosts =
    promises words before after status (stopped words before after why status is tells same)
    (shelf_alone before after same told later screen grew)
    (stopped_for T words before.source after.source why before.screen after.screen status
    tells asked)
    (stopped_asks T words before.source.files before.hosts after.hosts why before.screen
    after.screen status tells hosts)
