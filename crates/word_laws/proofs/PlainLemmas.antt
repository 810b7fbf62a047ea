-- Words without a cache for the run that words of a cached run ask for: the options of these.
use Rattle.std.proofs.Common.{◌≡◌, ◌≢◌, ◌∙◌, ◌++◌, Bool, ℕ, zero, suc, true, false, List, [], ◌∷◌, Option, Some, None, refl, sym, ap, subst, arith, codes, true≢false}
use Rattle.std.specs.Prelude.{All, if◌then◌else◌, option_and_then}
use Rattle.std.specs.List.{AllPairs, flat_map}
use Rattle.std.specs.Str.{bytes_eq}
use Rattle.std.proofs.lemmas.List.Kept.{AllPairs-cons}
use Rattle.clap.specs.Words.{Row, Text, fault_of, first_of, subcommand_of}
use Rattle.clap.specs.Walk.{is_empty}
use Rattle.crew.specs.declared.drill.Entry.{Entry}
use Rattle.run_settings.specs.Settings.{RunSettings, standard}
use Rattle.run_settings.specs.Limits.{most_partitions, most_shards, most_tries, most_workers}
use Rattle.drill_text.specs.Drills.{◌>>=◌}
use Rattle.command_words.specs.Cached.{CachedRun, cached_app, cached_at, cached_by, cached_for, cached_of, reused_by, reusing}
use Rattle.command_words.specs.Options.{drill_given, number_given, settings_given}
use Rattle.command_words.specs.Words.{is_operand, is_set, plan_given}
use Rattle.word_laws.specs.CachedWords.{HasPlainWords}
use Rattle.word_laws.specs.Parts.{AskForRun, Fail, Name, Part, Partitions, PlanFile, Script, Shards, Tries, Workers, id_of, part_value, part_words}
use Rattle.word_laws.proofs.PartLemmas.{names_itself}
use Rattle.word_laws.proofs.RunLemmas.{run_asked}

-- ---- parts that may be there

-- a name with its value, if it has one
abbrev Given : Type 0
Given = Name × Option Text

abbrev part_if : Name → Option Text → List Part
part_if name None = []
part_if name (Some value) = record { name = name; value = value } ∷ []

abbrev parts_in : List Given → List Part
parts_in [] = []
parts_in (one ∷ all) = part_if one.0 one.1 ++ parts_in all

-- none of these has the name, and no two have one name
abbrev IsNew : Name → List Given → Type 0
IsNew name [] = Unit {0}
IsNew name (one ∷ all) = (bytes_eq (id_of one.0) (id_of name) ≡ false) × IsNew name all

abbrev AreApart : List Given → Type 0
AreApart [] = Unit {0}
AreApart (one ∷ all) = IsNew one.0 all × AreApart all

differ : (m n : Name) → bytes_eq (id_of n) (id_of m) ≡ false → m ≢ n
differ m n other same =
    true≢false (sym (names_itself m) ∙ ap (λ (k : Name). bytes_eq (id_of k) (id_of m)) same
    ∙ other)

abbrev Others : Name → List Part → Type 0
Others name parts = All (λ (part : Part). name ≢ part.name) parts

others_if : (name other : Name) (value : Option Text) (rest : List Part) → name ≢ other
    → Others name rest → Others name (part_if other value ++ rest)
others_if name other None rest apart all k d below = all k d below
others_if name other (Some value) rest apart all zero d below = apart
others_if name other (Some value) rest apart all (suc k) d below = all k d (omega arith)

others : (name : Name) (all : List Given) → IsNew name all → Others name (parts_in all)
others name [] new k d below = let bad : ⊥ = omega arith in absurd bad
others name (one ∷ all) new k d below =
    others_if name one.0 one.1 (parts_in all) (differ name one.0 new.0) (others name all new.1)
    k d below

apart_if : (name : Name) (value : Option Text) (rest : List Part) → Others name rest
    → AllPairs (λ one other. one.name ≢ other.name) rest
    → AllPairs (λ one other. one.name ≢ other.name) (part_if name value ++ rest)
apart_if name None rest new pairs = pairs
apart_if name (Some value) rest new pairs =
    AllPairs-cons (λ (one other : Part). one.name ≢ other.name)
    (record { name = name; value = value }) rest new pairs

are_apart : (all : List Given) → AreApart all
    → AllPairs (λ one other. one.name ≢ other.name) (parts_in all)
are_apart [] new i j d less within = let bad : ⊥ = omega arith in absurd bad
are_apart (one ∷ all) new i j d less within =
    apart_if one.0 one.1 (parts_in all) (others one.0 all new.0) (are_apart all new.1) i j d less
    within

-- ---- their values

value_past : (name other : Name) (value : Option Text) (rest : List Part)
    → bytes_eq (id_of other) (id_of name) ≡ false
    → part_value name (part_if other value ++ rest) ≡ part_value name rest
value_past name other None rest apart = refl
value_past name other (Some value) rest apart = rw apart refl

no_value : (name : Name) (all : List Given) → IsNew name all
    → part_value name (parts_in all) ≡ None
no_value name [] new = refl
no_value name (one ∷ all) new =
    value_past name one.0 one.1 (parts_in all) new.0 ∙ no_value name all new.1

value_here : (name : Name) (value : Option Text) (rest : List Part) → part_value name rest ≡ None
    → part_value name (part_if name value ++ rest) ≡ value
value_here name None rest none = none
value_here name (Some value) rest none = rw (names_itself name) refl

value_in : (name : Name) (value : Option Text) (before behind : List Given) → IsNew name before
    → IsNew name behind → part_value name (parts_in (before ++ (name, value) ∷ behind)) ≡ value
value_in name value [] behind new none =
    value_here name value (parts_in behind) (no_value name behind none)
value_in name value (one ∷ before) behind new none =
    value_past name one.0 one.1 (parts_in (before ++ (name, value) ∷ behind)) new.0
    ∙ value_in name value before behind new.1 none

-- ---- settings, taken apart

abbrev settings_by : Option (List Entry) → Option ℕ → Option ℕ → Option ℕ → Option ℕ
    → Option RunSettings
settings_by drill workers shards partitions tries = do
  d ← drill
  w ← workers
  s ← shards
  p ← partitions
  t ← tries
  Some (record { workers = w; shards = s; partitions = p; tries = t; drill = d })

record AreOf (drill : Option (List Entry)) (workers shards partitions tries : Option ℕ)
    (settings : RunSettings) : Type 0 where
  drilled : drill ≡ Some settings.drill
  worked : workers ≡ Some settings.workers
  sharded : shards ≡ Some settings.shards
  parted : partitions ≡ Some settings.partitions
  tried : tries ≡ Some settings.tries

taken_apart : (drill : Option (List Entry)) (workers shards partitions tries : Option ℕ)
    (settings : RunSettings) → settings_by drill workers shards partitions tries ≡ Some settings
    → AreOf drill workers shards partitions tries settings
taken_apart None w s p t settings e = cc e
taken_apart (Some d) None s p t settings e = cc e
taken_apart (Some d) (Some w) None p t settings e = cc e
taken_apart (Some d) (Some w) (Some s) None t settings e = cc e
taken_apart (Some d) (Some w) (Some s) (Some p) None settings e = cc e
taken_apart (Some d) (Some w) (Some s) (Some p) (Some t) settings e =
    let made : RunSettings = record {
      workers = w;
      shards = s;
      partitions = p;
      tries = t;
      drill = d;
    } in
    let same : made ≡ settings = cc e in
    record {
      drilled = ap (λ (x : RunSettings). Some x.drill) same;
      worked = ap (λ (x : RunSettings). Some x.workers) same;
      sharded = ap (λ (x : RunSettings). Some x.shards) same;
      parted = ap (λ (x : RunSettings). Some x.partitions) same;
      tried = ap (λ (x : RunSettings). Some x.tries) same;
    }

-- ---- the words

module _ (script : Text) (rows : List Row) where
  abbrev option_of : Name → Option Text
  option_of name = first_of (id_of name) rows

  abbrev all_given : List Given
  all_given =
      (Script, Some script) ∷ (Workers, option_of Workers) ∷ (Shards, option_of Shards)
      ∷ (Partitions, option_of Partitions) ∷ (Tries, option_of Tries)
      ∷ (Fail, option_of Fail) ∷ []

  abbrev plain_parts : List Part
  plain_parts = parts_in all_given

  asks_plainly : (settings : RunSettings) → settings_given rows ≡ Some settings
      → AskForRun plain_parts script settings None
  asks_plainly settings given =
      let of_these = taken_apart (drill_given (option_of Fail))
      (number_given standard.workers most_workers (option_of Workers))
      (number_given standard.shards most_shards (option_of Shards))
      (number_given standard.partitions most_partitions (option_of Partitions))
      (number_given standard.tries most_tries (option_of Tries)) settings given in
      let first : List Given = (Script, Some script) ∷ [] in
      let second : List Given = first ++ (Workers, option_of Workers) ∷ [] in
      let third : List Given = second ++ (Shards, option_of Shards) ∷ [] in
      let fourth : List Given = third ++ (Partitions, option_of Partitions) ∷ [] in
      let fifth : List Given = fourth ++ (Tries, option_of Tries) ∷ [] in
      let fails : List Given = (Fail, option_of Fail) ∷ [] in
      let tries : List Given = (Tries, option_of Tries) ∷ fails in
      let parts : List Given = (Partitions, option_of Partitions) ∷ tries in
      let shards : List Given = (Shards, option_of Shards) ∷ parts in
      let workers : List Given = (Workers, option_of Workers) ∷ shards in
      record {
        apart = are_apart all_given (
          (refl, (refl, (refl, (refl, (refl, tt))))),
          (
            (refl, (refl, (refl, (refl, tt)))),
            ((refl, (refl, (refl, tt))), ((refl, (refl, tt)), ((refl, tt), (tt, tt)))),
          ),
        );
        for_script = value_in Script (Some script) [] workers tt
            (refl, (refl, (refl, (refl, (refl, tt)))));
        for_workers = ap (number_given standard.workers most_workers)
            (value_in Workers (option_of Workers) first shards (refl, tt)
            (refl, (refl, (refl, (refl, tt))))) ∙ of_these.worked;
        for_shards = ap (number_given standard.shards most_shards)
            (value_in Shards (option_of Shards) second parts (refl, (refl, tt))
            (refl, (refl, (refl, tt)))) ∙ of_these.sharded;
        for_partitions = ap (number_given standard.partitions most_partitions)
            (value_in Partitions (option_of Partitions) third tries (refl, (refl, (refl, tt)))
            (refl, (refl, tt))) ∙ of_these.parted;
        for_tries = ap (number_given standard.tries most_tries)
            (value_in Tries (option_of Tries) fourth fails (refl, (refl, (refl, (refl, tt))))
            (refl, tt)) ∙ of_these.tried;
        for_drill = ap drill_given
            (value_in Fail (option_of Fail) fifth [] (refl, (refl, (refl, (refl, (refl, tt)))))
            tt) ∙ of_these.drilled;
        for_plan = ap plan_given (no_value PlanFile all_given
            (refl, (refl, (refl, (refl, (refl, (refl, tt)))))));
      }

-- ---- the run, taken apart

if_some : {A : Type 0} (b : Bool) (x : Option A) (a : A)
    → (if b then x else None) ≡ Some a → (b ≡ true) × (x ≡ Some a)
if_some true x a e = (refl, e)
if_some false x a e = cc e

then_some : {A B : Type 0} (o : Option A) (f : A → Option B) (b : B)
    → (o >>= f) ≡ Some b → (a : A) × (o ≡ Some a) × (f a ≡ Some b)
then_some None f b e = cc e
then_some (Some a) f b e = (a, refl, e)

also_some : {A B : Type 0} (o : Option A) (f : A → Option B) (b : B)
    → option_and_then f o ≡ Some b → (a : A) × (f a ≡ Some b)
also_some None f b e = cc e
also_some (Some a) f b e = (a, e)

plain_of_rows : (rows : List Row) (run : CachedRun) → reused_by rows ≡ Some run
    → HasPlainWords run
plain_of_rows rows run e =
    let s = then_some (settings_given rows)
    (λ (settings : RunSettings). reusing settings (first_of (codes "script") rows)) run e in
    let w = then_some (first_of (codes "script") rows)
    (λ (script : Text). if is_operand script
    then Some (record { settings = s.0; script = script }) else None) run s.2 in
    let i = if_some (is_operand w.0) (Some (record { settings = s.0; script = w.0 })) run
    w.2 in
    let made : CachedRun = record { settings = s.0; script = w.0 } in
    let same : made ≡ run = cc i.1 in
    let parts = plain_parts w.0 rows in
    subst HasPlainWords same (
      codes "run" ∷ flat_map part_words parts,
      run_asked w.0 parts s.0 None i.0 (asks_plainly w.0 rows s.0 s.1),
    )

pub plain_words : (words : List Text) (run : CachedRun) → cached_for words ≡ Some run
    → HasPlainWords run
plain_words words run e =
    let c = if_some (is_empty (fault_of cached_app words))
    (cached_of (subcommand_of cached_app words)) run e in
    let m = also_some (subcommand_of cached_app words)
    (λ (p : Text × List Row). cached_at p.0 p.1) run c.1 in
    let n = if_some (bytes_eq m.0.0 (codes "run")) (cached_by m.0.1) run m.1 in
    let f = if_some (is_set (first_of (codes "cached") m.0.1)) (reused_by m.0.1) run n.1 in
    plain_of_rows m.0.1 run f.1
