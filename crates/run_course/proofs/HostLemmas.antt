-- What a call asks hosts for, by what comes of it.
use Rattle.std.proofs.Common.{◌≡◌, ℕ, zero, suc, inl, inr, List, [], ◌∷◌, ◌++◌, Option, drop, take, length, map, Result, Ok, Err, IfErr, refl, sym, ap, ◌∙◌, subst, arith}
use Rattle.command_words.specs.declared.words.Command.{Command}
use Rattle.command_words.specs.declared.words.Command.TheVariants.{Run}
use Rattle.outside.specs.Accounts.{Account}
use Rattle.script_loading.specs.of_direct_meaning.Inputs.{inputs_of}
use Rattle.exec_plan.specs.declared.plan.Plan.{Plan}
use Rattle.flume_value.specs.declared.value.Value.{Value}
use Rattle.outside.specs.Seen.{SeenScreen, SeenShelf}
use Rattle.outside.specs.declared.file.File.{File as NamedBytes}
use Rattle.run_settings.specs.Settings.{RunSettings}
use Rattle.run_texts.specs.declared.status.Status.{Status}
use Rattle.run_texts.specs.declared.status.Status.TheVariants.{Done, WriteFault}
use Rattle.script_loading.specs.Loads.{AllHaveRows}
use Rattle.script_program.specs.Script.{Script}
use Rattle.script_run.specs.Runs.{AsksSomePhases, phases_of}
use Rattle.run_course.specs.Asked.{AskOn}
use Rattle.run_course.specs.Hosts.{AsksHosts, AsksInRun, MayHaveRun}
use Rattle.run_course.specs.Lent.{lent}
use Rattle.run_course.specs.Plans.{IsPlanFor}
use Rattle.run_course.specs.declared.stop.Stop.{Stop}
use Rattle.run_course.specs.declared.stop.Stop.TheVariants as stop
use Rattle.run_course.specs.inner.Course.{AsksHostsInCall, AsksHostsUntil, Delivers, IsRunStop, MayHaveCome, TellsStop}
use Rattle.run_course.proofs.CauseLemmas.{IsAt, reads}
use Rattle.run_course.proofs.ReadLemmas.{Told, Words}

-- ---- a run

dropped_map : {A B : Type 0} (f : A → B) (n : ℕ) (xs : List A)
    → drop n (map f xs) ≡ map f (drop n xs)
dropped_map f zero xs = refl
dropped_map f (suc n) [] = refl
dropped_map f (suc n) (x ∷ xs) = dropped_map f n xs

-- hosts that are as before have the accounts that they had
pub others_as : {A : Type 0} (f : A → Account) (n : ℕ) (xs ys : List A) → drop n ys ≡ drop n xs
    → drop n (map f ys) ≡ drop n (map f xs)
others_as f n xs ys same =
    dropped_map f n ys ∙ (ap (map f) same ∙ sym (dropped_map f n xs))

-- as many accounts as hosts
pub map_size : {A B : Type 0} (f : A → B) (xs : List A) → length (map f xs) ≡ length xs
map_size f [] = refl
map_size f (x ∷ xs) = ap suc (map_size f xs)

-- the accounts of the first hosts are those that are lent
pub front_map : {A B : Type 0} (f : A → B) (n : ℕ) (xs ys : List A) → length xs ≡ n
    → take n (map f (xs ++ ys)) ≡ map f xs
front_map f zero [] ys size = refl
front_map f zero (x ∷ xs) ys size = absurd (omega (arith, size))
front_map f (suc n) [] ys size = absurd (omega (arith, size))
front_map f (suc n) (x ∷ xs) ys size =
    ap (λ l. f x ∷ l) (front_map f n xs ys (omega (arith, size)))

module _ (s : RunSettings) (script : Script) (rows : List (List Value)) (plan : Plan)
    (olds news : List Account) where
  pub may_stop : {T : Type 0} (r : Result T Stop) → IfErr r (IsRunStop s script rows plan olds news)
      → MayHaveCome r
  may_stop (Ok it) stops = tt
  may_stop (Err (stop.Trapped trap)) stops = tt
  may_stop (Err (stop.Refused status)) (inl memory) =
      subst (λ (it : Status). MayHaveRun it) (sym memory) tt
  may_stop (Err (stop.Refused status)) (inr up) =
      subst (λ (it : Status). MayHaveRun it) (sym up.3) tt

pub run_asks : {T : Type 0} (s : RunSettings) (from : Option (List ℕ)) (told : Told)
    (olds news : List Account) (script : Script) (rows : List (List Value)) (plan : Plan)
    (r : Result T Stop)
    → AllHaveRows told (inputs_of script) rows → IsPlanFor told script from plan
    → plan.sources ≡ length rows
    → IfErr r (IsRunStop s script rows plan (lent s olds) (lent s news))
    → AsksSomePhases s (phases_of s script rows plan) (lent s olds) (lent s news)
    → drop s.workers news ≡ drop s.workers olds
    → AsksHostsUntil (Run s from) told script olds news r
run_asks s from told olds news script rows plan r have is sources stops asked others =
    inr (
      may_stop s script rows plan (lent s olds) (lent s news) r stops,
      (
        s,
        from,
        refl,
        record {
          rows = rows;
          plan = plan;
          inputs = have;
          is = is;
          sources = sources;
          asked = asked;
          others = others;
        },
      ),
    )

-- ---- a call

pub call_asks : {T : Type 0} (words : Words) (told middle : Told) (command : Command)
    (name : List ℕ) (script : Script) (olds news : List Account)
    → IsAt words told command name script → middle ≡ told → (r : Result T Stop)
    → AsksHostsUntil command middle script olds news r → AsksHostsInCall words told olds news r
call_asks words told middle command name script olds news at same r (inl none) = inl none
call_asks words told middle command name script olds news at same r (inr it) =
    let run = it.1 in
    inr (
      it.0,
      (
        run.0,
        run.1,
        script,
        subst (λ (c : Command). AskOn words told c script) run.2
            (reads words told command name script at),
        subst (λ (t : Told). AsksInRun run.0 run.1 t script olds news) same run.3,
      ),
    )

-- what came to its writing may have run
may_deliver : (files : List NamedBytes) (text : List ℕ) (shelf shelf' : SeenShelf)
    (screen screen' : SeenScreen) (status : Status)
    → Delivers files text shelf shelf' screen screen' status → MayHaveRun status
may_deliver files text shelf shelf' screen screen' Done is = tt
may_deliver files text shelf shelf' screen screen' (WriteFault place) is = tt
may_deliver files text shelf shelf' screen screen' _ is = absurd is

pub delivered_asks : {T : Type 0} (words : Words) (told : Told) (olds news : List Account)
    (files : List NamedBytes) (text : List ℕ) (shelf shelf' : SeenShelf)
    (screen screen' : SeenScreen) (status : Status) (it : T)
    → Delivers files text shelf shelf' screen screen' status
    → AsksHostsInCall {T = T} words told olds news (Ok it)
    → AsksHosts words told olds news status
delivered_asks words told olds news files text shelf shelf' screen screen' status it is (inl none) =
    inl none
delivered_asks words told olds news files text shelf shelf' screen screen' status it is (inr run) =
    inr (may_deliver files text shelf shelf' screen screen' status is, run.1)

-- a call that this stops asked hosts for what was asked for so far
pub may_have_run : (T : Type 0) (why : Stop) (screen screen' : SeenScreen) (status : Status)
    → TellsStop why screen screen' status → MayHaveCome {T = T} (Err why)
    → MayHaveRun status
may_have_run T (stop.Refused told) screen screen' status tells may =
    subst MayHaveRun (sym tells.0) may
may_have_run T (stop.Trapped trap) screen screen' status tells may =
    subst MayHaveRun (sym tells.0) tt

pub stopped_asks : (T : Type 0) (words : Words) (told : Told) (olds news : List Account)
    (why : Stop) (screen screen' : SeenScreen) (status : Status)
    → TellsStop why screen screen' status → AsksHostsInCall {T = T} words told olds news (Err why)
    → AsksHosts words told olds news status
stopped_asks T words told olds news why screen screen' status tells (inl none) = inl none
stopped_asks T words told olds news why screen screen' status tells (inr run) =
    inr (may_have_run T why screen screen' status tells run.0, run.1)
