-- Where files are told, one refusal at most has a cause, and none where a call has all that it
-- needs.
use Rattle.std.proofs.Common.{◌≡◌, ℕ, inl, inr, ◌⊎◌, List, [], ◌∷◌, ◌++◌, Option, Some, None, Result, Ok, Err, ap, sym, ◌∙◌, subst, refl}
use Rattle.std.specs.Prelude.{IsSome}
use Rattle.csv_rows.specs.Rows.{rows_of}
use Rattle.csv_rows.specs.declared.fault.RowFault.{RowFault}
use Rattle.csv_rows.specs.declared.fault.RowFault.TheVariants.{Bad}
use Rattle.csv_rows.specs.declared.fault.RowKind.{RowKind}
use Rattle.script_loading.specs.of_direct_meaning.Inputs.{Wanted}
use Rattle.flume_grammar.specs.declared.fault.ScriptKind.{ScriptKind}
use Rattle.flume_value.specs.declared.value.Value.{Value}
use Rattle.outside.specs.Seen.{SeenSource}
use Rattle.run_texts.specs.declared.status.Status.{Status}
use Rattle.run_texts.specs.declared.status.Status.TheVariants.{ScriptRefused, InputRefused, TooLong, NoFile, PlanRefused}
use Rattle.script_program.specs.Script.{Script}
use Rattle.script_loading.specs.Accepted.{Accepted, Refused}
use Rattle.plan_faults.specs.declared.fault.PlanKind.{PlanKind}
use Rattle.run_course.specs.Answers.{IsInputRefused, IsNoFile, IsPlanRefused, IsScriptRefused, IsTooLong}
use Rattle.script_loading.specs.Loads.{AllHaveRows, HasRows, IsAbove, IsMissing, Loads}
use Rattle.run_course.specs.Asked.{AskFor, IsAskedFor, IsPlanTurn, IsTurnOf, AskOn, inputs_read, plan_read}
use Rattle.run_course.specs.Plans.{HasPlan}
use Rattle.command_words.specs.Words.{asked_for}
use Rattle.script_loading.specs.Limits.{script_limit, input_limit}
use Rattle.command_words.specs.declared.words.Command.{Command}
use Rattle.script_loading.proofs.AcceptedLemmas.{not_both, one_reason}
use Rattle.run_course.proofs.GraphLemmas.{accepted_graph}
use Rattle.run_course.proofs.PlanLemmas.{BadPlan, bad_plan, long_plan, no_plan, not_had, one_plan, plan_had}
use Rattle.run_course.proofs.ReadLemmas.{Told, Words, not_above, not_gone_and_long, not_missing, same_asked, same_bytes, same_command, same_script}

-- ---- files that stop a call

-- the script's file stops the command so
pub data BadScript (told : Told) (name : List ℕ) (status : Status) : Type 0 where
  missing : IsMissing told name → status ≡ NoFile name → BadScript told name status
  above : IsAbove told name script_limit → status ≡ TooLong name script_limit
      → BadScript told name status
  refused : (bytes : List ℕ) (line : ℕ) (kind : ScriptKind)
      → Loads told name script_limit bytes
      → Refused bytes line kind → status ≡ ScriptRefused line kind
      → BadScript told name status

-- an input's file stops it so
pub data BadInput (told : Told) (wanted : Wanted) (status : Status) : Type 0 where
  no_input : IsMissing told wanted.file → status ≡ NoFile wanted.file
      → BadInput told wanted status
  long_input : IsAbove told wanted.file input_limit → status ≡ TooLong wanted.file input_limit
      → BadInput told wanted status
  bad_rows : (bytes : List ℕ) (row column : ℕ) (kind : RowKind)
      → Loads told wanted.file input_limit bytes
      → rows_of bytes wanted.type ≡ Some (Err (Bad row column kind)) → status
      ≡ InputRefused wanted.file row column kind → BadInput told wanted status

-- a file stops the call so, in its turn
abbrev pub Stops : Words → Told → Status → Type 0
Stops words told status =
    ((command : Command) × (name : List ℕ) × AskFor words command name
    × BadScript told name status)
    ⊎ (((command : Command) × (wanted : Wanted) × IsTurnOf words told command wanted
    × BadInput told wanted status)
    ⊎ ((command : Command) × (script : Script) × (name : List ℕ)
    × IsPlanTurn words told command script name × BadPlan told script name status))

unread : (words : Words) (told : Told) (command other : Command) (name : List ℕ) (status :
    Status) (script : Script)
    → IsSome told → AskFor words command name → BadScript told name status
    → AskOn words told other script → ⊥
unread words told command other name status script tells asked (missing gone is) read =
    let same = (same_asked words other command read.0 name read.2 asked).1 in
    not_missing told name read.1 script_limit tells (subst (λ (n : List ℕ). Loads told n
    script_limit read.1) same read.3) gone
unread words told command other name status script tells asked (above longer is) read =
    let same = (same_asked words other command read.0 name read.2 asked).1 in
    not_above told name read.1 script_limit tells (subst (λ (n : List ℕ). Loads told n
    script_limit read.1) same read.3) longer
unread words told command other name status script tells asked (refused bytes line kind loads why
    is) read =
    let both = same_asked words other command read.0 name read.2 asked in
    let equal : read.1 ≡ bytes
    = same_bytes told name read.1 bytes _ _ tells (subst (λ (n : List ℕ). Loads told n
    script_limit read.1) both.1 read.3) loads in
    not_both bytes script line kind (subst (λ (b : List ℕ). Accepted b script) equal read.4) why

no_rows : (told : Told) (wanted : Wanted) (status : Status) → IsSome told
    → BadInput told wanted status → (rows : List Value) → HasRows told wanted rows → ⊥
no_rows told wanted status tells (no_input gone is) rows has = not_missing told wanted.file has.0
    input_limit tells has.1 gone
no_rows told wanted status tells (long_input longer is) rows has = not_above told wanted.file has.0
    input_limit tells has.1 longer
no_rows told wanted status tells (bad_rows bytes row column kind loads bad is) rows has =
    let equal : has.0 ≡ bytes = same_bytes told wanted.file has.0 bytes _ _ tells has.1 loads in
    let wrong : ◌≡◌ {A = Option (Result (List Value) RowFault)} (Some (Ok rows)) (Some (Err
    (Bad row column kind)))
    = sym has.2 ∙ (ap (λ (b : List ℕ). rows_of b wanted.type) equal ∙ bad) in
    absurd (cc)

one_bad_script : (told : Told) (name : List ℕ) (a b : Status) → IsSome told
    → BadScript told name a → BadScript told name b → a ≡ b
one_bad_script told name a b tells (missing gone is) (missing gone' is') = is ∙ sym is'
one_bad_script told name a b tells (missing gone is) (above longer is') = absurd
    (not_gone_and_long told name script_limit tells gone longer)
one_bad_script told name a b tells (missing gone is) (refused bytes' line' kind' loads'
    why' is') = absurd (not_missing told name bytes' script_limit tells loads' gone)
one_bad_script told name a b tells (above longer is) (missing gone is') = absurd
    (not_gone_and_long told name script_limit tells gone longer)
one_bad_script told name a b tells (above longer is) (above longer' is') = is ∙ sym is'
one_bad_script told name a b tells (above longer is) (refused bytes' line' kind' loads'
    why' is') = absurd (not_above told name bytes' script_limit tells loads' longer)
one_bad_script told name a b tells (refused bytes line kind loads why is) (missing gone
    is') = absurd (not_missing told name bytes script_limit tells loads gone)
one_bad_script told name a b tells (refused bytes line kind loads why is) (above longer
    is') = absurd (not_above told name bytes script_limit tells loads longer)
one_bad_script told name a b tells (refused bytes line kind loads why is) (refused bytes'
    line' kind' loads' why' is') =
    let equal : bytes ≡ bytes' = same_bytes told name bytes bytes' _ _ tells loads loads' in
    let one = one_reason bytes' line line' kind kind' (subst (λ (b : List ℕ).
    Refused b line kind) equal why) why' in
    is ∙ ((λ i. ScriptRefused (one.0 i) (one.1 i)) ∙ sym is')

one_bad_input : (told : Told) (wanted : Wanted) (a b : Status) → IsSome told
    → BadInput told wanted a → BadInput told wanted b → a ≡ b
one_bad_input told wanted a b tells (no_input gone is) (no_input gone' is') = is ∙ sym is'
one_bad_input told wanted a b tells (no_input gone is) (long_input longer is') = absurd
    (not_gone_and_long told wanted.file input_limit tells gone longer)
one_bad_input told wanted a b tells (no_input gone is) (bad_rows bytes row column kind loads bad
    is') = absurd (not_missing told wanted.file bytes input_limit tells loads gone)
one_bad_input told wanted a b tells (long_input longer is) (no_input gone is') = absurd
    (not_gone_and_long told wanted.file input_limit tells gone longer)
one_bad_input told wanted a b tells (long_input longer is) (long_input longer' is') = is ∙ sym is'
one_bad_input told wanted a b tells (long_input longer is) (bad_rows bytes row column kind loads
    bad is') = absurd (not_above told wanted.file bytes input_limit tells loads longer)
one_bad_input told wanted a b tells (bad_rows bytes row column kind loads bad is) (no_input gone
    is') = absurd (not_missing told wanted.file bytes input_limit tells loads gone)
one_bad_input told wanted a b tells (bad_rows bytes row column kind loads bad is) (long_input
    longer is') = absurd (not_above told wanted.file bytes input_limit tells loads longer)
one_bad_input told wanted a b tells (bad_rows bytes row column kind loads bad is) (bad_rows bytes'
    row' column' kind' loads' bad' is') =
    let equal : bytes ≡ bytes' = same_bytes told wanted.file bytes bytes' _ _ tells loads loads'
    in
    let same : ◌≡◌ {A = Option (Result (List Value) RowFault)} (Some (Err (Bad row column
    kind)))
    (Some (Err (Bad row' column' kind')))
    = sym bad ∙ (ap (λ (b : List ℕ). rows_of b wanted.type) equal ∙ bad') in
    let rows : row ≡ row' = cc in
    let columns : column ≡ column' = cc in
    let kinds : kind ≡ kind' = cc in
    is ∙ ((λ i. InputRefused wanted.file (rows i) (columns i) (kinds i)) ∙ sym is')

-- ---- turns

-- of two inputs whose turn it is and that have no rows, neither comes before the other
same_place : (told : Told) (before later : List Wanted) (one other : Wanted) (behind others : List
    Wanted) (rows more : List (List Value))
    → before ++ one ∷ behind ≡ later ++ other ∷ others → AllHaveRows told before rows
    → AllHaveRows told later more
    → ((own : List Value) → HasRows told one own → ⊥) → ((own : List Value)
    → HasRows told other own → ⊥) → one ≡ other
same_place told [] [] one other behind others rows more same first second bad worse = cc
same_place told [] (w ∷ later) one other behind others rows [] same first second bad worse =
    absurd second
same_place told [] (w ∷ later) one other behind others rows (m ∷ more) same first second bad
    worse =
    let head : w ≡ one = cc in absurd (bad m (subst (λ (x : Wanted). HasRows told x m) head
    second.0))
same_place told (w ∷ before) [] one other behind others [] more same first second bad worse =
    absurd first
same_place told (w ∷ before) [] one other behind others (r ∷ rows) more same first second bad
    worse =
    let head : w ≡ other = cc in absurd (worse r (subst (λ (x : Wanted). HasRows told x r) head
    first.0))
same_place told (w ∷ before) (v ∷ later) one other behind others [] more same first second bad
    worse = absurd first
same_place told (w ∷ before) (v ∷ later) one other behind others (r ∷ rows) [] same first
    second bad worse = absurd second
same_place told (w ∷ before) (v ∷ later) one other behind others (r ∷ rows) (m ∷ more) same
    first second bad worse =
    let tail : before ++ one ∷ behind ≡ later ++ other ∷ others = cc in
    same_place told before later one other behind others rows more tail first.1 second.1 bad worse

same_turn : (words : Words) (told : Told) (c d : Command) (one other : Wanted) → IsSome told
    → IsTurnOf words told c one → IsTurnOf words told d other
    → ((own : List Value) → HasRows told one own → ⊥) → ((own : List Value)
    → HasRows told other own → ⊥) → one ≡ other
same_turn words told c d one other tells first second bad worse =
    let command : c ≡ d = same_command words told c d first.0 second.0 first.4 second.4 in
    let script : first.0 ≡ second.0
    = same_script words told c d first.0 second.0 tells first.4 second.4 in
    let inputs : inputs_read c first.0 ≡ inputs_read d second.0
    = (λ i. inputs_read (command i) (script i)) in
    same_place told first.1 second.1 one other first.2 second.2 first.3 second.3
    (sym first.5 ∙ (inputs ∙ second.5)) first.6 second.6 bad worse

-- an input of those that have rows has rows
input_rows : (told : Told) (before : List Wanted) (wanted : Wanted) (behind : List Wanted) (rows :
    List (List Value))
    → AllHaveRows told (before ++ wanted ∷ behind) rows → (own : List Value)
    × HasRows told wanted own
input_rows told [] wanted behind [] all = absurd all
input_rows told [] wanted behind (own ∷ rows) all = (own, all.0)
input_rows told (other ∷ before) wanted behind [] all = absurd all
input_rows told (other ∷ before) wanted behind (own ∷ rows) all = input_rows told before wanted
    behind rows all.1

turn_rows : (words : Words) (told : Told) (c d : Command) (script : Script)
    (rows : List (List Value)) (wanted : Wanted) → IsSome told → AskOn words told c script
    → AllHaveRows told (inputs_read c script) rows → IsTurnOf words told d wanted
    → (own : List Value) × HasRows told wanted own
turn_rows words told c d script rows wanted tells reads all turn =
    let same : turn.0 ≡ script = same_script words told d c turn.0 script tells turn.4 reads in
    let again : d ≡ c = same_command words told d c turn.0 script turn.4 reads in
    let inputs : inputs_read c script ≡ turn.1 ++ wanted ∷ turn.2
    = (λ i. inputs_read (sym again i) (sym same i)) ∙ turn.5 in
    input_rows told turn.1 wanted turn.2 rows
    (subst (λ (list : List Wanted). AllHaveRows told list rows) inputs all)

-- the inputs have no rows, or they have rows and the file of a plan is read
no_plan_turn : (words : Words) (told : Told) (c d : Command) (wanted : Wanted) (script : Script)
    (name : List ℕ) (status : Status) → IsSome told → IsTurnOf words told c wanted
    → BadInput told wanted status → IsPlanTurn words told d script name → ⊥
no_plan_turn words told c d wanted script name status tells turn bad its =
    let own = turn_rows words told d c script its.0 wanted tells its.1 its.2 turn in
    no_rows told wanted status tells bad own.0 own.1

-- ---- one refusal

-- a turn asks for its command
turn_asks : (words : Words) (told : Told) (command : Command) (wanted : Wanted)
    → (turn : IsTurnOf words told command wanted) → AskFor words command turn.4.0
turn_asks words told command wanted turn = turn.4.2

pub one_stop : (words : Words) (told : Told) (a b : Status) → IsSome told → Stops words told a
    → Stops words told b → a ≡ b
one_stop words told a b tells (inl first) (inl second) =
    let both = same_asked words first.0 second.0 first.1 second.1 first.2 second.2 in
    one_bad_script told second.1 a b tells
    (subst (λ (n : List ℕ). BadScript told n a) both.1 first.3) second.3
one_stop words told a b tells (inl first) (inr (inl second)) =
    absurd (unread words told first.0 second.0 first.1 a second.2.0 tells first.2 first.3
    second.2.4)
one_stop words told a b tells (inl first) (inr (inr second)) =
    absurd (unread words told first.0 second.0 first.1 a second.1 tells first.2 first.3
    second.3.1)
one_stop words told a b tells (inr (inl first)) (inl second) =
    absurd (unread words told second.0 first.0 second.1 b first.2.0 tells second.2 second.3
    first.2.4)
one_stop words told a b tells (inr (inr first)) (inl second) =
    absurd (unread words told second.0 first.0 second.1 b first.1 tells second.2 second.3
    first.3.1)
one_stop words told a b tells (inr (inl first)) (inr (inr second)) =
    absurd (no_plan_turn words told first.0 second.0 first.1 second.1 second.2 a tells first.2
    first.3 second.3)
one_stop words told a b tells (inr (inr first)) (inr (inl second)) =
    absurd (no_plan_turn words told second.0 first.0 second.1 first.1 first.2 b tells second.2
    second.3 first.3)
one_stop words told a b tells (inr (inr first)) (inr (inr second)) =
    one_plan words told first.0 second.0 first.1 second.1 first.2 second.2 a b tells first.3
    second.3 first.4 second.4
one_stop words told a b tells (inr (inl first)) (inr (inl second)) =
    let wanted : first.1 ≡ second.1
    = same_turn words told first.0 second.0 first.1 second.1 tells first.2 second.2
    (no_rows told first.1 a tells first.3) (no_rows told second.1 b tells second.3) in
    one_bad_input told second.1 a b tells
    (subst (λ (w : Wanted). BadInput told w a) wanted first.3) second.3

pub no_run : (words : Words) (told : Told) (status : Status) (command : Command) (script : Script)
    (rows : List (List Value))
    → IsSome told → Stops words told status → AskOn words told command script
    → AllHaveRows told (inputs_read command script) rows
    → HasPlan told script (plan_read command) → ⊥
no_run words told status command script rows tells (inl stops) reads inputs has =
    unread words told stops.0 command stops.1 status script tells stops.2 stops.3 reads
no_run words told status command script rows tells (inr (inl stops)) reads inputs has =
    let own = turn_rows words told command stops.0 script rows stops.1 tells reads inputs stops.2 in
    no_rows told stops.1 status tells stops.3 own.0 own.1
no_run words told status command script rows tells (inr (inr stops)) reads inputs has =
    let turn = stops.3 in
    let own = plan_had words told command stops.0 script stops.1 stops.2 tells reads has turn in
    not_had told stops.1 stops.2 status tells (accepted_graph turn.1.1 stops.1 turn.1.4) stops.4
    own.0 own.1

pub asked_some : (words : Words) (told : Told) (status : Status) → Stops words told status
    → asked_for words ≡ None → ⊥
asked_some words told status (inl stops) none = let wrong = sym none ∙ stops.2 in absurd (cc)
asked_some words told status (inr (inl stops)) none =
    let wrong = sym none ∙ turn_asks words told stops.0 stops.1 stops.2 in absurd (cc)
asked_some words told status (inr (inr stops)) none =
    let wrong = sym none ∙ stops.3.1.2 in absurd (cc)

-- ---- the causes

missing_stops : (words : Words) (told : Told) (command : Command) (name : List ℕ) (limit : ℕ)
    → IsAskedFor words told command name limit → IsMissing told name
    → Stops words told (NoFile name)
missing_stops words told command name limit (inl asked) gone =
    inl (command, name, asked.0, missing gone refl)
missing_stops words told command name limit (inr (inl asked)) gone =
    inr (inl (
      command,
      asked.0,
      asked.1,
      no_input (subst (λ (n : List ℕ). IsMissing told n) asked.2 gone) (ap NoFile asked.2),
    ))
missing_stops words told command name limit (inr (inr asked)) gone =
    inr (inr (command, asked.0, name, asked.1, no_plan gone refl))

pub no_file_stops : (words : Words) (source : SeenSource) (name : List ℕ)
    → IsNoFile name words source → Stops words source.files (NoFile name)
no_file_stops words source name cause =
    missing_stops words source.files cause.0 name cause.1 cause.2 cause.3

above_stops : (words : Words) (told : Told) (command : Command) (name : List ℕ) (limit : ℕ)
    → IsAskedFor words told command name limit → IsAbove told name limit
    → Stops words told (TooLong name limit)
above_stops words told command name limit (inl asked) longer =
    inl (
      command,
      name,
      asked.0,
      above (subst (λ (m : ℕ). IsAbove told name m) asked.1 longer) (ap (TooLong name) asked.1),
    )
above_stops words told command name limit (inr (inl asked)) longer =
    inr (inl (
      command,
      asked.0,
      asked.1,
      long_input (subst (λ (n : List ℕ). IsAbove told n input_limit) asked.2 (subst (λ (m :
          ℕ). IsAbove told name m) asked.3 longer))
          (λ i. TooLong (asked.2 i) (asked.3 i)),
    ))
above_stops words told command name limit (inr (inr asked)) longer =
    inr (inr (
      command,
      asked.0,
      name,
      asked.1,
      long_plan (subst (λ (m : ℕ). IsAbove told name m) asked.2 longer)
          (ap (TooLong name) asked.2),
    ))

pub too_long_stops : (words : Words) (source : SeenSource) (name : List ℕ)
    (limit : ℕ) → IsTooLong name limit words source
    → Stops words source.files (TooLong name limit)
too_long_stops words source name limit cause =
    above_stops words source.files cause.0 name limit cause.1 cause.2

pub script_stops : (words : Words) (source : SeenSource) (line : ℕ)
    (kind : ScriptKind) → IsScriptRefused line kind words source
    → Stops words source.files (ScriptRefused line kind)
script_stops words source line kind cause =
    inl (cause.0, cause.1, cause.3, refused cause.2 line kind cause.4 cause.5 refl)

pub input_stops : (words : Words) (source : SeenSource) (name : List ℕ)
    (row column : ℕ) (kind : RowKind) → IsInputRefused name row column kind words source
    → Stops words source.files (InputRefused name row column kind)
input_stops words source name row column kind cause =
    inr (inl (
      cause.0,
      cause.1,
      cause.3,
      bad_rows cause.2 row column kind cause.5 cause.6
          (ap (λ (n : List ℕ). InputRefused n row column kind) cause.4),
    ))

pub plan_stops : (words : Words) (source : SeenSource) (step : ℕ) (kind : PlanKind)
    → IsPlanRefused step kind words source → Stops words source.files (PlanRefused step kind)
plan_stops words source step kind cause =
    inr (inr (
      cause.0,
      cause.1,
      cause.2,
      cause.4,
      bad_plan cause.3 step kind cause.5 cause.6 refl,
    ))
