-- The stages so far, and those that are left.
use Rattle.std.proofs.Common.{◌≡◌, ◌<◌, ◌≤◌, ◌+◌, ◌^◌, ℕ, zero, suc, List, [], ◌∷◌, ◌++◌, length, get_or, ◌-◌, drop, take, slice_index, refl, sym, ap, ◌∙◌, subst, arith, add-one, length-append, append_assoc, append-nil}
use Rattle.std.specs.List.{AllZip}
use Rattle.std.proofs.lemmas.List.Sums.{sum_by-append}
use Rattle.std.specs.Prelude.{map, sum}
use Rattle.std.proofs.Math.Seq.{drop-cons}
use Rattle.crew.proofs.Accounts.{gains_nothing}
use Rattle.flume_value.specs.declared.value.Value.{Value}
use Rattle.flume_collection.specs.Calls.{Called}
use Rattle.outside.specs.Accounts.{Account}
use Rattle.crew.specs.Hosts.{Grew}
use Rattle.exec_graph.specs.World.{World}
use Rattle.exec_plan.specs.declared.plan.Stage.{Stage}
use Rattle.stage_results.specs.of_map_shard.Tables.{table}
use Rattle.plan_phases.proofs.Asking.{asked_all, asked_then, front_before}
use Rattle.plan_phases.proofs.Joining.{none_run, run_then, stopped_before, stopped_behind, tasks_both}
use Rattle.plan_phases.proofs.Lasting.{all_grew_on}
use Rattle.plan_phases.specs.Phases.{stage_phases, with_tasks}
use Rattle.plan_phases.specs.Told.{AskedFront, HaveRun, IsStopped, attempts_of}
use Rattle.plan_phases.specs.declared.fault.RunFault.{RunFault}
use Rattle.plan_phases.specs.declared.winners.PhaseWinners.{PhaseWinners}
use Rattle.run_settings.specs.Settings.{RunSettings}
use Rattle.stage_results.proofs.of_step_counts.Growing.{grown_as, grown_not, grown_then}
use Rattle.stage_results.specs.of_step_counts.Sizes.{HaveGrown}
use Rattle.task_lists.specs.Lists.{result_lists, run_lists, source_lists, with_lists}
use Rattle.task_lists.specs.Plans.{stage_tasks, task_counts, tasks_from}
use Rattle.task_lists.specs.Tasks.{Lists}
use Rattle.task_lists.proofs.TypedResults.{table_typed}
use Rattle.stage_results.specs.of_stage_phases.Stages.{run_world}
use Rattle.stage_results.specs.of_task_safety.Stages.{CanRunStage}
use Rattle.stage_exec.specs.Executions.{split_of}
use Rattle.stage_exec.specs.inner.Along.{Along, CanGoOn, counted_on, lists_after, phases_on}
use Rattle.stage_exec.specs.inner.Objects.{GivesObject}
use Rattle.stage_exec.specs.inner.Reads.{AgreeOn, later_reads}
use Rattle.stage_results.proofs.of_map_shard.Later.{behind}
use Rattle.stage_exec.proofs.Reading.{outputs_same, phases_from_same, tasks_from_same}
use Rattle.stage_exec.proofs.Tables.{table_begins, table_grows}
use Rattle.exec_plan.specs.declared.plan.PlanPlace.{PlanPlace}
use Rattle.flume_types.specs.Typing.{AllHave}
use Rattle.flume_types.specs.declared.types.Ty.{Ty}

pub all_dropped : {X : Type 0} (xs : List X) (i : ℕ) → length xs ≤ i → drop i xs ≡ []
all_dropped [] zero h = refl
all_dropped [] (suc i) h = refl
all_dropped (x ∷ xs) zero h = absurd (omega arith)
all_dropped (x ∷ xs) (suc i) h = all_dropped xs i (omega arith)

all_same : (us : List Account) → AllZip Grew us us
all_same [] = tt
all_same (u ∷ us) = (([], [], gains_nothing u), all_same us)

sum_on : (xs ys : List ℕ) → sum (xs ++ ys) ≡ sum xs + sum ys
sum_on xs ys = sum_by-append (λ n. n) xs ys

module _ (s : RunSettings) (called : ℕ → Value → Called) (takes : ℕ → Value → Type 0)
    (sources : List (List Value)) (stages : List Stage) (outputs : List PlanPlace) where
  abbrev World_ : World
  World_ = run_world called sources

  -- where these rows of the sources are left
  abbrev Stands : List (List Value) → ℕ → List (List (List Value)) → List ℕ → List ℕ
      → List Account → List Account → List PhaseWinners → List PhaseWinners → Type 0
  Stands rows k results first sizes us vs before told =
      Along s World_ takes stages outputs rows k results first sizes us vs before told

  pub along_none : (results : List (List (List Value))) (first : List ℕ) (us : List Account)
      (before : List PhaseWinners) → results ≡ [] → ((i : ℕ) → slice_index first i < 2 ^ 64)
      → CanGoOn World_ takes 1 stages (source_lists World_)
      → Stands sources 0 results first first us us before before
  along_none results first us before none fits ready =
      let here : table sources results ≡ source_lists World_
      = ap (table sources) none ∙ table_begins called sources in
      record {
        count = ap length none;
        ready = subst (CanGoOn World_ takes 1 stages) (sym here) ready;
        lists = ap (λ t. map (run_lists World_ (split_of s) 1 stages t) outputs) here;
        counted = λ i. 0;
        grown = grown_not first fits;
        counts = λ i.
            let same : counted_on s World_ 1 stages (table sources results) i
            ≡ counted_on s World_ 1 stages (source_lists World_) i
            = ap (λ t. counted_on s World_ 1 stages t i) here in
            omega (arith, same);
        ran = [];
        have_run = none_run s.tries s.drill World_ us before;
        phases = ap (phases_on s World_ 1 stages) here;
        grew = all_same us;
      }

  module _ (rows : List (List Value)) (k : ℕ) (results : List (List (List Value)))
      (first sizes : List ℕ) (us vs : List Account) (before told : List PhaseWinners)
      (a : Stands rows k results first sizes us vs before told)
      (stage : Stage) (below : k < length stages) (is : stage ≡ get_or stages k stage) where
    abbrev Found : Lists
    Found = table rows results

    abbrev Given : List (List Value)
    Given = result_lists World_ (split_of s) Found stage

    abbrev Next : Lists
    Next = with_lists (suc k) Given Found

    left : drop k stages ≡ stage ∷ drop (suc k) stages
    left = drop-cons stages k stage below ∙ ap (λ x. x ∷ drop (suc k) stages) (sym is)

    one : k + 1 ≡ suc k
    one = add-one k

    ready_here : CanGoOn World_ takes (suc k) (stage ∷ drop (suc k) stages) Found
    ready_here = subst (λ ss. CanGoOn World_ takes (suc k) ss Found) left a.ready

    pub stage_ready : CanRunStage World_ takes (k + 1) Found stage
    stage_ready =
        subst (λ j. CanRunStage World_ takes j Found stage) (sym one)
        (let r = ready_here in
        record {
          signatures = r.signatures;
          types = r.types;
          world = r.world;
          calls = r.calls;
          lists = r.lists;
          typed = r.typed.0;
          sources = r.sources;
          before = r.before;
          ok = r.ok.0;
        })

    pub object_ready : GivesObject stage
    object_ready = ready_here.objects.0

    ready_next : CanGoOn World_ takes (suc (suc k)) (drop (suc k) stages) Next
    ready_next =
        let r = ready_here in
        record {
          signatures = r.signatures;
          types = r.types;
          sources = r.sources;
          before = r.before ++ stage ∷ [];
          world = r.world;
          calls = r.calls;
          lists =
              table_typed r.signatures World_ r.world r.types (split_of s) Found r.lists (suc k)
              r.sources r.before stage r.typed.0 r.ok.0;
          typed = r.typed.1;
          ok = r.ok.1;
          objects = r.objects.1;
        }

    -- what is left of all phases, of the counts
    phases_left : a.ran ++ (stage_phases World_ (k + 1) (split_of s) Found stage
        ++ phases_on s World_ (suc (suc k)) (drop (suc k) stages) Next)
        ≡ phases_on s World_ 1 stages (source_lists World_)
    phases_left =
        ap (λ j. a.ran ++ (stage_phases World_ j (split_of s) Found stage
        ++ phases_on s World_ (suc (suc k)) (drop (suc k) stages) Next)) one
        ∙ (ap (λ ss. a.ran ++ phases_on s World_ (suc k) ss Found) (sym left) ∙ a.phases)

    counts_left : (i : ℕ)
        → a.counted i + (sum (stage_tasks (task_counts World_ i) World_ (split_of s) Found stage)
        + counted_on s World_ (suc (suc k)) (drop (suc k) stages) Next i)
        ≡ counted_on s World_ 1 stages (source_lists World_) i
    counts_left i =
        ap (λ c. a.counted i + c)
        (sym (sum_on (stage_tasks (task_counts World_ i) World_ (split_of s) Found stage)
        (tasks_from (task_counts World_ i) World_ (split_of s) (suc (suc k)) (drop (suc k) stages)
        Next))
        ∙ ap (λ ss. counted_on s World_ (suc k) ss Found i) (sym left))
        ∙ a.counts i

    pub along_more : (ls : List (List Value)) (more : List (List (List Value))) (next : List ℕ)
        (ws : List Account) (later : List PhaseWinners) → ls ≡ Given
        → more ≡ results ++ ls ∷ []
        → HaveGrown
        (λ i. sum (stage_tasks (task_counts World_ i) World_ (split_of s) Found stage)) sizes next
        → HaveRun s.tries s.drill World_ (stage_phases World_ (k + 1) (split_of s) Found stage)
        vs ws told later
        → AllZip Grew vs ws → Stands rows (k + 1) more first next us ws before later
    along_more ls more next ws later e push grown ran grew =
        let number : suc k ≡ length results + 1 = omega (arith, a.count) in
        let after : Next ≡ table rows more =
        ap (λ l. with_lists (suc k) l Found) (sym e)
        ∙ (table_grows rows results ls (suc k) number ∙ ap (table rows) (sym push)) in
        record {
          count = ap length push ∙ omega (arith, a.count, length-append results (ls ∷ []));
          ready =
              subst (λ j. CanGoOn World_ takes (suc j) (drop j stages) (table rows more))
              (sym one)
              (subst (CanGoOn World_ takes (suc (suc k)) (drop (suc k) stages)) after ready_next);
          lists =
              (λ j. map (run_lists World_ (split_of s) (suc (one j)) (drop (one j) stages)
              (sym after j)) outputs)
              ∙ (ap (λ ss. map (run_lists World_ (split_of s) (suc k) ss Found) outputs)
              (sym left) ∙ a.lists);
          counted = λ i. a.counted i
              + sum (stage_tasks (task_counts World_ i) World_ (split_of s) Found stage);
          grown = grown_then _ _ first sizes next a.grown grown;
          counts = λ i.
              let same : counted_on s World_ (suc (k + 1)) (drop (k + 1) stages)
              (table rows more) i
              ≡ counted_on s World_ (suc (suc k)) (drop (suc k) stages) Next i
              = λ j. counted_on s World_ (suc (one j)) (drop (one j) stages) (sym after j) i in
              let whole = counts_left i in
              omega (arith, same, whole);
          ran = a.ran ++ stage_phases World_ (k + 1) (split_of s) Found stage;
          have_run =
              run_then s.tries s.drill World_ a.ran
              (stage_phases World_ (k + 1) (split_of s) Found stage) us vs ws before told later
              a.have_run ran a.grew grew;
          phases =
              append_assoc a.ran (stage_phases World_ (k + 1) (split_of s) Found stage) _
              ∙ ((λ j. a.ran ++ (stage_phases World_ (k + 1) (split_of s) Found stage
              ++ phases_on s World_ (suc (one j)) (drop (one j) stages) (sym after j)))
              ∙ phases_left);
          grew = all_grew_on us vs ws a.grew grew;
        }

    -- where the stage stops, so does the run
    pub run_stops : (ws : List Account) (e : RunFault)
        → IsStopped s.tries s.drill World_ (stage_phases World_ (k + 1) (split_of s) Found stage)
        vs ws e
        → AllZip Grew vs ws
        → IsStopped s.tries s.drill World_ (phases_on s World_ 1 stages (source_lists World_)) us
        ws e
    run_stops ws e stopped grew =
        let here = stage_phases World_ (k + 1) (split_of s) Found stage in
        let rest = phases_on s World_ (suc (suc k)) (drop (suc k) stages) Next in
        subst (λ ps. IsStopped s.tries s.drill World_ ps us ws e)
        (append_assoc a.ran here rest ∙ phases_left)
        (stopped_before s.tries s.drill World_ (a.ran ++ here) rest us ws e
        (stopped_behind s.tries s.drill World_ a.ran here us vs ws e a.have_run.through
        a.have_run.asked stopped a.grew grew))

    -- where the stage ran and no memory was found behind it, no phase behind it was asked for
    pub stage_asked : (ws : List Account) (later : List PhaseWinners)
        → HaveRun s.tries s.drill World_ (stage_phases World_ (k + 1) (split_of s) Found stage)
        vs ws told later
        → AskedFront s.tries s.drill
        (with_tasks (phases_on s World_ 1 stages (source_lists World_))) us ws
    stage_asked ws later ran =
        let here = stage_phases World_ (k + 1) (split_of s) Found stage in
        let rest = phases_on s World_ (suc (suc k)) (drop (suc k) stages) Next in
        let first = with_tasks a.ran in
        let next = with_tasks here in
        subst (λ ps. AskedFront s.tries s.drill ps us ws)
        (append_assoc first next (with_tasks rest)
        ∙ (ap (λ ps. first ++ ps) (sym (tasks_both here rest))
        ∙ (sym (tasks_both a.ran (here ++ rest)) ∙ ap with_tasks phases_left)))
        (front_before s.tries s.drill (first ++ next) (with_tasks rest) us ws
        (asked_all s.tries s.drill (first ++ next)
        (attempts_of a.have_run.through.winners ++ attempts_of ran.through.winners) us ws
        (asked_then s.tries s.drill first next (attempts_of a.have_run.through.winners)
        (attempts_of ran.through.winners) us vs ws a.have_run.asked ran.asked)))

  -- what is read no more may be dropped
  pub along_fewer : (rows left : List (List Value)) (k : ℕ)
      (results fewer : List (List (List Value))) (first sizes : List ℕ)
      (us vs : List Account) (before told : List PhaseWinners) → length fewer ≡ length results
      → AgreeOn (later_reads (take (length stages - k) (drop k stages)) outputs)
      (table left fewer) (table rows results)
      → ((type : Ty) (q : PlanPlace) → AllHave type (table rows results q)
      → AllHave type (table left fewer q))
      → Stands rows k results first sizes us vs before told
      → Stands left k fewer first sizes us vs before told
  along_fewer rows left k results fewer first sizes us vs before told long apart typed a =
      let r = a.ready in
      let agree : AgreeOn (later_reads (drop k stages) outputs) (table left fewer)
      (table rows results) =
      subst (λ l. AgreeOn (later_reads l outputs) (table left fewer) (table rows results))
      (behind stages k) apart in
      let rest = drop k stages in
      let t = table left fewer in
      let u = table rows results in
      record {
        count = long ∙ a.count;
        ready = record {
          signatures = r.signatures;
          types = r.types;
          sources = r.sources;
          before = r.before;
          world = r.world;
          calls = r.calls;
          lists = λ q. typed (r.types q) q (r.lists q);
          typed = r.typed;
          ok = r.ok;
          objects = r.objects;
        };
        lists = outputs_same World_ (split_of s) outputs (suc k) rest t u agree ∙ a.lists;
        counted = a.counted;
        grown = a.grown;
        counts = λ i.
            ap (λ l. a.counted i + sum l)
            (tasks_from_same World_ (split_of s) outputs (task_counts World_ i) (suc k) rest t u
            agree) ∙ a.counts i;
        ran = a.ran;
        have_run = a.have_run;
        phases =
            ap (λ l. a.ran ++ l)
            (phases_from_same World_ (split_of s) outputs (suc k) rest t u agree) ∙ a.phases;
        grew = a.grew;
      }

  -- ---- the end
  module _ (rows : List (List Value)) (k : ℕ) (results : List (List (List Value)))
      (first sizes : List ℕ) (us vs : List Account) (before told : List PhaseWinners)
      (a : Stands rows k results first sizes us vs before told) (end : length stages ≤ k) where
    none_left : drop k stages ≡ []
    none_left = all_dropped stages k end

    pub end_lists : AgreeOn outputs (table rows results)
        (lists_after s World_ 1 stages (source_lists World_))
    end_lists =
        ap (λ ss. map (run_lists World_ (split_of s) (suc k) ss (table rows results)) outputs)
        (sym none_left)
        ∙ a.lists

    pub end_run : HaveRun s.tries s.drill World_
        (phases_on s World_ 1 stages (source_lists World_)) us vs before told
    end_run =
        subst (λ ps. HaveRun s.tries s.drill World_ ps us vs before told)
        (sym (append-nil a.ran)
        ∙ (ap (λ ss. a.ran ++ phases_on s World_ (suc k) ss (table rows results))
        (sym none_left)
        ∙ a.phases)) a.have_run
