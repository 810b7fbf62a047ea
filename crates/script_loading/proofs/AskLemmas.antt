-- What is read and asked for, node by node.
use Rattle.std.proofs.Common.{◌≡◌, ℕ, suc, ◌+◌, ◌<◌, ◌≤◌, List, [], ◌∷◌, ◌++◌, drop, length, Option, Some, ap, sym, ◌∙◌, subst, append-nil, append_assoc}
use Rattle.std.proofs.lemmas.List.{map-append}
use Rattle.std.specs.Option.{option_map}
use Rattle.std.specs.Prelude.{Err, IfErr, Ok, OnOk, Result}
use Rattle.build_law.specs.of_direct_meaning.Inputs.{Wanted, inputs_of}
use Rattle.csv_rows.specs.Records.{records_of}
use Rattle.csv_rows.specs.Rows.{rows_under}
use Rattle.flume_types.specs.Columns.{input_columns_of}
use Rattle.flume_types.specs.declared.column.Column.{Column}
use Rattle.flume_types.specs.declared.types.Ty.{Ty}
use Rattle.flume_value.specs.declared.value.Value.{Value}
use Rattle.outside.specs.Asked.{Asks}
use Rattle.outside.proofs.AskLemmas.{asks_both, asks_front, asks_none}
use Rattle.outside.specs.Seen.{SeenSource}
use Rattle.outside.specs.declared.file.File.{File as NamedBytes}
use Rattle.run_texts.specs.declared.status.Status.{Status}
use Rattle.run_texts.specs.declared.status.Status.TheVariants.{InputRefused, ReadFault, WantOfMemory, TooLong, NoFile}
use Rattle.script_program.specs.Script.{Script}
use Rattle.script_loading.specs.Asks.{AsksToStop, AsksUpTo}
use Rattle.script_loading.specs.Causes.{IsInputCause}
use Rattle.script_loading.specs.Limits.{input_limit}
use Rattle.script_loading.specs.Loads.{AllHaveRows, HasRows, Loads, file_names}
use Rattle.script_loading.specs.inner.Reading.{AreRead, GoesOver, HoldsBelow, IsNeededInput, StopsAt, StopsReading, inputs_at, inputs_from}
use Rattle.script_loading.proofs.InputLemmas.{below_more, its_split}
use Rattle.script_loading.proofs.SinceLemmas.{input_since}

names_both : (first second : List Wanted)
    → file_names (first ++ second) ≡ file_names first ++ file_names second
names_both first second = map-append (λ (it : Wanted). it.file) first second

all_both : (told : Option (List NamedBytes)) (done own : List Wanted)
    (rows more : List (List Value)) → AllHaveRows told done rows → AllHaveRows told own more
    → AllHaveRows told (done ++ own) (rows ++ more)
all_both told [] own [] more all has = has
all_both told [] own (r ∷ rows) more all has = absurd all
all_both told (w ∷ done) own [] more all has = absurd all
all_both told (w ∷ done) own (r ∷ rows) more all has =
    (all.0, all_both told done own rows more all.1 has)

-- an input of these columns, whose file has these bytes, is behind others that have rows
pub rows_behind : (told : Option (List NamedBytes)) (file bytes : List ℕ) (type : Ty)
    (columns : List Column) (own : List Value) (rows more : List (List Value))
    (done : List Wanted) → input_columns_of type ≡ Some columns
    → Loads told file input_limit bytes → rows_under columns (records_of bytes) ≡ Ok own
    → more ≡ rows ++ own ∷ [] → AllHaveRows told done rows
    → AllHaveRows told (done ++ record { file = file; type = type } ∷ []) more
rows_behind told file bytes type columns own rows more done fits loads is longer all =
    let it : Wanted = record { file = file; type = type } in
    let has : HasRows told it own = (
      bytes,
      loads,
      ap (option_map (λ (c : List Column). rows_under c (records_of bytes))) fits ∙ ap Some is,
    ) in
    let alone : AllHaveRows told (it ∷ []) (own ∷ []) = (has, tt) in
    subst (λ (l : List (List Value)). AllHaveRows told (done ++ it ∷ []) l) (sym longer)
    (all_both told done (it ∷ []) rows (own ∷ []) all alone)

-- the input that stops is the last that was asked for
module _ (tries : ℕ) (names : List (List ℕ)) (before middle after : SeenSource)
    (front behind : List (List ℕ)) (it : Wanted) where
  asked_last : (status : Status) → names ≡ front ++ it.file ∷ behind
      → Asks tries (front ++ it.file ∷ []) before after
      → IsInputCause tries middle after it status → AsksToStop tries names before after status
  asked_last status is asks cause = by status cause
    where
      up_to : (name : List ℕ) → name ≡ it.file → AsksUpTo tries names before after name
      up_to name same =
          subst (λ (n : List ℕ). AsksUpTo tries names before after n) (sym same)
          (front, behind, is, asks)

      by : (status : Status) → IsInputCause tries middle after it status
          → AsksToStop tries names before after status
      by (InputRefused name row column kind) cause = up_to name cause.0
      by (NoFile name) cause = up_to name cause.0
      by (ReadFault name) cause = up_to name cause.0
      by (TooLong name limit) cause = up_to name cause.0
      by WantOfMemory cause =
          asks_front tries names (front ++ it.file ∷ []) behind before after
          (is ∙ sym (append_assoc front (it.file ∷ []) behind)) asks
      by _ cause = absurd cause

-- ---- one node

module _ (script : Script) (number : ℕ) where
  -- it is no input that is needed
  module _ (none : inputs_at script number ≡ []) where
    pub none_behind : (P : List Wanted → Type 0) → GoesOver P P (inputs_at script number)
    none_behind P done is =
        subst (λ (own : List Wanted). P (done ++ own)) (sym none)
        (subst P (sym (append-nil done)) is)

    pub asks_nothing : (tries : ℕ) (it : SeenSource)
        → Asks tries (file_names (inputs_at script number)) it it
    asks_nothing tries it =
        subst (λ (l : List Wanted). Asks tries (file_names l) it it) (sym none) (asks_none tries it)

  -- it is one, of this file
  module _ (file : List ℕ) (columns : List Column)
      (is : IsNeededInput script number file columns) where
    pub one_behind : {T E : Type 0} (r : Result T E) (P Q : List Wanted → Type 0)
        → OnOk r ((type : Ty) → input_columns_of type ≡ Some columns
        → GoesOver P Q (record { file = file; type = type } ∷ []))
        → OnOk r (GoesOver P Q (inputs_at script number))
    one_behind (Ok x) P Q goes =
        subst (λ (l : List Wanted). GoesOver P Q l) (sym is.wanted) (goes is.type is.fits)
    one_behind (Err e) P Q goes = tt

    pub stops_own : {T : Type 0} (r : Result T Status) (tries : ℕ) (before after : SeenSource)
        → IfErr r (λ status. (type : Ty) → input_columns_of type ≡ Some columns
        → IsInputCause tries before after (record { file = file; type = type }) status)
        → IfErr r (StopsAt tries before after script number)
    stops_own (Ok x) tries before after cause = tt
    stops_own (Err status) tries before after cause =
        (_, is.wanted, cause is.type is.fits)

    pub asks_own : (tries : ℕ) (before after : SeenSource) → Asks tries (file ∷ []) before after
        → Asks tries (file_names (inputs_at script number)) before after
    asks_own tries before after asks =
        subst (λ (l : List Wanted). Asks tries (file_names l) before after) (sym is.wanted) asks

-- ---- the nodes so far

module _ (tries : ℕ) (script : Script) (number : ℕ) (before middle after : SeenSource)
    (P : List Wanted → Type 0) (told : middle.files ≡ before.files)
    (within : number < length script.nodes)
    (read : HoldsBelow (AreRead P tries before middle) script number) where
  abbrev its : List Wanted
  its = inputs_at script number

  pub reads_more : (Q : List Wanted → Type 0) → GoesOver P Q its
      → Asks tries (file_names its) middle after
      → HoldsBelow (AreRead Q tries before after) script (number + 1)
  reads_more Q goes asks =
      below_more (AreRead P tries before middle) (AreRead Q tries before after) script number
      within read
      (λ done are. (
        goes done are.0,
        subst (λ (names : List (List ℕ)). Asks tries names before after)
            (sym (names_both done its))
            (asks_both tries (file_names done) (file_names its) before middle after are.1 asks),
      ))

  -- the node is an input that has no rows
  pub stops_there : (status : Status)
      → ((done : List Wanted) → P done
      → (rows : List (List Value)) × AllHaveRows before.files done rows)
      → before.faults ≤ middle.faults → StopsAt tries middle after script number status
      → Asks tries (file_names its) middle after
      → StopsReading tries before after (inputs_of script) status
  stops_there status have later stop asks =
      let behind = inputs_from script (suc number) (drop (suc number) script.nodes) in
      let has = have read.0 read.2.0 in
      let are : inputs_of script ≡ read.0 ++ stop.0 ∷ behind = read.1
      ∙ ap (λ l. read.0 ++ l)
      (its_split script number within ∙ ap (λ own. own ++ behind) stop.1) in (
        (
          read.0,
          stop.0,
          behind,
          has.0,
          are,
          has.1,
          input_since tries before middle after stop.0 status told later stop.2,
        ),
        asked_last tries (file_names (inputs_of script)) before middle after (file_names read.0)
            (file_names behind) stop.0 status
            (ap file_names are ∙ names_both read.0 (stop.0 ∷ behind))
            (asks_both tries (file_names read.0) (stop.0.file ∷ []) before middle after read.2.1
            (subst (λ (l : List Wanted). Asks tries (file_names l) middle after) stop.1 asks))
            stop.2,
      )
