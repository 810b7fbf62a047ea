-- A call that has all that it needs comes to its end.
use Rattle.std.proofs.Common.{◌≡◌, ℕ, inr, inl, List, [], ◌∷◌, sym, subst, refl, arith}
use Rattle.std.specs.Prelude.{IsSome}
use Rattle.std.specs.List.{Contains}
use Rattle.command_words.specs.declared.words.Command.{Command}
use Rattle.command_words.specs.declared.words.Command.TheVariants.{Check, Plan, Direct, Run}
use Rattle.outside.specs.Accounts.{Account}
use Rattle.script_loading.specs.of_direct_meaning.Direct.{traps_of}
use Rattle.script_loading.specs.of_direct_meaning.Inputs.{inputs_of}
use Rattle.flume_collection.specs.declared.trap.Trap.{Trap as TrapOf}
use Rattle.flume_value.specs.declared.fault.Kind.{Kind}
use Rattle.flume_value.specs.declared.value.Value.{Value}
use Rattle.outside.specs.Cause.{RoseBy}
use Rattle.outside.specs.Saves.{FailsAt}
use Rattle.outside.specs.Seen.{SeenShelf}
use Rattle.outside.specs.declared.file.File.{File as NamedBytes}
use Rattle.outside.specs.declared.host.Phase.{Phase}
use Rattle.run_texts.specs.declared.status.Place.TheVariants.{File, Screen}
use Rattle.run_texts.specs.declared.status.Status.{Status}
use Rattle.run_texts.specs.declared.status.Status.TheVariants.{Done, GaveUp, Usage, ScriptRefused, InputRefused, Trap, ReadFault, WriteFault, WantOfMemory, TooLong, NoFile, PlanRefused}
use Rattle.script_program.specs.Script.{Script}
use Rattle.script_run.specs.Runs.{phases_of}
use Rattle.run_course.specs.Answers.{Answers, IsGaveUp, IsReadFault, IsTrap, MayTell}
use Rattle.script_loading.specs.Loads.{AllHaveRows}
use Rattle.run_course.specs.Asked.{IsAskedFor, AskOn, inputs_read, tries_of}
use Rattle.run_course.specs.Lent.{lent}
use Rattle.run_course.specs.Promises.{CanEnd, CanRun, EndsAs, EndsWith, IsEnd, IsShelfCalm}
use Rattle.run_course.specs.Outside.{Outside}
use Rattle.run_course.specs.Written.{IsThrough, CollectionTable, Writes}
use Rattle.run_course.proofs.AlwaysLemmas.{none_asked}
use Rattle.run_course.proofs.GivenUpLemmas.{not_given_up}
use Rattle.run_course.proofs.ReadLemmas.{Told, Words, same_asked, same_command, same_meaning, same_rows, same_script}
use Rattle.run_course.proofs.StopLemmas.{Stops, input_stops, no_file_stops, no_run, plan_stops, script_stops, too_long_stops}

-- ---- it is done

pub done_end : (traps : List TrapOf) → traps ≡ [] → EndsWith traps Done
done_end traps none = subst (λ (l : List TrapOf). EndsWith l Done) (sym none) refl

-- the same script is written that can be read: its command came to its end
through_end : (words : Words) (told : Told) (c d : Command) (p q : Script)
    (rows others : List (List Value)) (front text : List ℕ) (files : List NamedBytes)
    (table : CollectionTable) → IsSome told → AskOn words told c p → AskOn words told d q
    → AllHaveRows told (inputs_of p) rows → IsThrough told q front files text others table
    → EndsAs Direct p rows Done
through_end words told c d p q rows others front text files table tells reads read inputs t = (
  table,
  same_meaning words told c d p q rows others table tells reads read inputs t.meant,
  done_end (traps_of table) t.through,
)

done_as : (words : Words) (before after : Outside) (c d : Command) (p q : Script)
    (rows : List (List Value)) (files : List NamedBytes) (text : List ℕ)
    → CanRun words before after c p rows → AskOn words before.source.files d q
    → Writes c before.source.files before.hosts after.hosts q files text → EndsAs c p rows Done
done_as words before after Check d p q rows files text can read writes = refl
done_as words before after (Plan form) d p q rows files text can read writes = refl
done_as words before after Direct d p q rows files text can read writes =
    through_end words before.source.files Direct d p q rows writes.0 [] text files writes.1 can.told
    can.reads read can.inputs writes.2
done_as words before after (Run s from) d p q rows files text can read writes =
    through_end words before.source.files (Run s from) d p q rows writes.1 _ text files writes.2
    can.told can.reads read can.inputs writes.4

-- ---- it traps

pub trapped_end : (traps : List TrapOf) (origin : ℕ) (kind : Kind) (element : Value) (trap : TrapOf)
    → Contains traps trap → EndsWith traps (Trap origin kind element)
trapped_end [] origin kind element trap among = let below = among.1 in absurd (omega arith)
trapped_end (first ∷ traps) origin kind element trap among = tt

told_end : (command : Command) (told : Told) (script : Script) (rows : List (List Value))
    (olds news : List Account) (traps : List TrapOf) (origin : ℕ) (kind : Kind) (element : Value)
    (trap : TrapOf) → MayTell command told script rows olds news traps trap
    → EndsWith traps (Trap origin kind element)
told_end Check told script rows olds news traps origin kind element trap tells = absurd tells
told_end (Plan form) told script rows olds news traps origin kind element trap tells = absurd tells
told_end Direct told script rows olds news traps origin kind element trap tells =
    trapped_end traps origin kind element trap tells.0
told_end (Run s from) told script rows olds news traps origin kind element trap tells =
    trapped_end traps origin kind element trap tells.0

trapped_meaning : (words : Words) (before after : Outside) (c : Command) (p : Script)
    (rows : List (List Value)) (origin : ℕ) (kind : Kind) (element : Value)
    → IsSome before.source.files → AskOn words before.source.files c p
    → AllHaveRows before.source.files (inputs_of p) rows
    → IsTrap origin kind element words before after
    → EndsAs Direct p rows (Trap origin kind element)
trapped_meaning words before after c p rows origin kind element tells reads inputs it = (
  it.3,
  same_meaning words before.source.files c it.0 p it.1 rows it.2 it.3 tells reads it.5 inputs it.6,
  told_end it.0 before.source.files it.1 it.2 before.hosts after.hosts (traps_of it.3) origin kind
      element
      (record { origin = origin; element = element; kind = kind }) it.7,
)

-- a trap is told by a command that may tell it
told_by : (words : Words) (before after : Outside) (c : Command) (p : Script) (origin : ℕ)
    (kind : Kind) (element : Value) → AskOn words before.source.files c p
    → (it : IsTrap origin kind element words before after)
    → MayTell c before.source.files it.1 it.2 before.hosts after.hosts (traps_of it.3)
    (record { origin = origin; element = element; kind = kind })
told_by words before after command p origin kind element reads it =
    let same : it.0 ≡ command
    = same_command words before.source.files it.0 command it.1 p it.5 reads in
    subst (λ (c : Command). MayTell c before.source.files it.1 it.2 before.hosts after.hosts
    (traps_of it.3) (record {
      origin = origin;
      element = element;
      kind = kind;
    })) same it.7

trapped_as : (words : Words) (before after : Outside) (c : Command) (p : Script)
    (rows : List (List Value)) (origin : ℕ) (kind : Kind) (element : Value)
    → CanRun words before after c p rows → IsTrap origin kind element words before after
    → EndsAs c p rows (Trap origin kind element)
trapped_as words before after Check p rows origin kind element can it =
    absurd (told_by words before after Check p origin kind element can.reads it)
trapped_as words before after (Plan form) p rows origin kind element can it =
    absurd (told_by words before after (Plan form) p origin kind element can.reads it)
trapped_as words before after Direct p rows origin kind element can it =
    trapped_meaning words before after Direct p rows origin kind element can.told can.reads
    can.inputs it
trapped_as words before after (Run s from) p rows origin kind element can it =
    trapped_meaning words before after (Run s from) p rows origin kind element can.told can.reads
    can.inputs it

-- ---- nothing stops it

-- where no file is written, none fails
none_fails : (files : List NamedBytes) (place : ℕ) (before after : SeenShelf) → files ≡ []
    → FailsAt place files before after → ⊥
none_fails files place before after none fails =
    let at = subst (λ (l : List NamedBytes). FailsAt place l before after) none fails in
    let below = at.within in
    absurd (omega arith)

-- a shelf that is calm fails at no file
no_file_fault : (c : Command) (told : Told) (olds news : List Account) (q : Script)
    (files : List NamedBytes) (text : List ℕ) (place : ℕ) (before after : SeenShelf)
    → IsShelfCalm c before after → Writes c told olds news q files text
    → FailsAt place files before after → ⊥
no_file_fault Check told olds news q files text place before after calm writes fails =
    none_fails files place before after writes.0 fails
no_file_fault (Plan form) told olds news q files text place before after calm writes fails =
    none_fails files place before after writes.0 fails
no_file_fault Direct told olds news q files text place before after calm writes fails =
    calm fails.faults
no_file_fault (Run s from) told olds news q files text place before after calm writes fails =
    calm fails.faults

stopped : {A : Type 0} (words : Words) (before after : Outside) (status : Status) (c : Command)
    (script : Script) (rows : List (List Value))
    → CanRun words before after c script rows → Stops words before.source.files status → A
stopped words before after status c script rows can stops =
    absurd (no_run words before.source.files status c script rows can.told stops can.reads
    can.inputs can.plan)

-- a source that fails less often than each file is tried lets all be read
pub asked_as : (words : Words) (told : Told) (c d : Command) (p : Script) (name : List ℕ)
    (limit : ℕ) → AskOn words told c p → IsAskedFor words told d name limit → d ≡ c
asked_as words told c d p name limit reads (inl asked) =
    (same_asked words d c name reads.0 asked.0 reads.2).0
asked_as words told c d p name limit reads (inr (inl asked)) =
    same_command words told d c asked.1.0 p asked.1.4 reads
asked_as words told c d p name limit reads (inr (inr asked)) =
    same_command words told d c asked.0 p asked.1.1 reads

read_calm : {A : Type 0} (words : Words) (before after : Outside) (name : List ℕ) (c : Command)
    (script : Script) (rows : List (List Value)) → CanRun words before after c script rows
    → IsReadFault name words before.source after.source → A
read_calm words before after name c script rows can cause =
    let same : cause.0 ≡ c = asked_as words before.source.files c cause.0 script name cause.1
    can.reads cause.2 in
    absurd (can.source (subst (λ (d : Command). RoseBy (tries_of d) before.source.faults
    after.source.faults) same cause.3))

-- hosts that can end all tasks give none up
given_up : {A : Type 0} (words : Words) (before after : Outside) (c : Command) (script : Script)
    (rows : List (List Value)) (stage : ℕ) (phase : Phase) (task : ℕ)
    → CanRun words before after c script rows
    → IsGaveUp stage phase task words before.source.files before.hosts after.hosts → A
given_up words before after c script rows stage phase task can it =
    let told = before.source.files in
    let s = it.0 in
    let up = it.4 in
    let own : c ≡ Run s it.1
    = same_command words told c (Run s it.1) script it.2 can.reads it.3 in
    let same : script ≡ it.2
    = same_script words told c (Run s it.1) script it.2 can.told can.reads it.3 in
    let has : AllHaveRows told (inputs_of it.2) rows
    = subst (λ (p : Script). AllHaveRows told (inputs_of p) rows) same
    (subst (λ (d : Command). AllHaveRows told (inputs_read d script) rows) own can.inputs) in
    let all : rows ≡ up.0
    = same_rows told (inputs_of it.2) rows up.0 can.told has up.3.inputs in
    let ends : CanEnd (Run s it.1) told it.2 up.0 before.hosts after.hosts
    = subst (λ (r : List (List Value)). CanEnd (Run s it.1) told it.2 r before.hosts after.hosts)
    all
    (subst (λ (p : Script). CanEnd (Run s it.1) told p rows before.hosts after.hosts) same
    (subst (λ (d : Command). CanEnd d told script rows before.hosts after.hosts) own can.hosts)) in
    absurd (not_given_up s.tries s.drill _ (phases_of s it.2 up.0 up.1) (lent s before.hosts)
    (lent s after.hosts) stage phase task up.5 (ends up.1 up.2 up.4 up.3.means))

-- ---- it comes to its end

same_writes : (words : Words) (told : Told) (olds news : List Account) (c d : Command)
    (p q : Script) (files : List NamedBytes) (text : List ℕ) → AskOn words told c p
    → AskOn words told d q → Writes d told olds news q files text
    → Writes c told olds news q files text
same_writes words told olds news c d p q files text reads read writes =
    subst (λ (e : Command). Writes e told olds news q files text)
    (same_command words told d c q p read reads) writes

pub complete : (words : Words) (before after : Outside) (status : Status) (c : Command)
    (script : Script) (rows : List (List Value))
    → Answers words before after status → CanRun words before after c script rows
    → IsEnd c script rows status
complete words before after Done c script rows answers can =
    let it = answers.2 in
    inr (done_as words before after c it.0 script it.1 rows answers.0 answers.1 can it.2
    (same_writes words before.source.files before.hosts after.hosts c it.0 script it.1 answers.0
    answers.1 can.reads it.2 it.3))
complete words before after (Trap origin kind element) c script rows answers can =
    inr (trapped_as words before after c script rows origin kind element can answers)
complete words before after WantOfMemory c script rows answers can = inl refl
complete words before after (WriteFault (File name)) c script rows answers can =
    let it = answers.2 in
    absurd (no_file_fault c before.source.files before.hosts after.hosts it.1 answers.0 answers.1
    answers.3.0 before.shelf after.shelf can.shelf
    (same_writes words before.source.files before.hosts after.hosts c it.0 script it.1 answers.0
    answers.1 can.reads it.2 it.3) answers.3.4)
complete words before after (WriteFault Screen) c script rows answers can = absurd (can.screen
    answers.4.faults)
complete words before after (ReadFault name) c script rows answers can =
    let cause = answers.0 in
    read_calm words before after name c script rows can cause
complete words before after (GaveUp stage phase task) c script rows answers can =
    given_up words before after c script rows stage phase task can answers.0
complete words before after Usage c script rows answers can = none_asked words c can.reads.0
    answers.0 can.reads.2
complete words before after (NoFile name) c script rows answers can =
    stopped words before after (NoFile name) c script rows can (no_file_stops words before.source
    name answers.0)
complete words before after (TooLong name limit) c script rows answers can =
    stopped words before after (TooLong name limit) c script rows can (too_long_stops words
    before.source name limit answers.0)
complete words before after (ScriptRefused line kind) c script rows answers can =
    stopped words before after (ScriptRefused line kind) c script rows can (script_stops words
    before.source line kind answers.0)
complete words before after (PlanRefused step kind) c script rows answers can =
    stopped words before after (PlanRefused step kind) c script rows can (plan_stops words
    before.source step kind answers.0)
complete words before after (InputRefused name row column kind) c script rows answers can =
    stopped words before after (InputRefused name row column kind) c script rows can (input_stops
    words before.source name row column kind answers.0)
