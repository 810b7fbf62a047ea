-- What the words behind `run` ask for, by the definitions of `clap`.
use Rattle.std.proofs.Common.{◌≡◌, ◌∙◌, ◌||◌, ◌++◌, ℕ, true, false, List, [], ◌∷◌, Option, Some, None, map, refl, sym, ap, ap₂, subst, append_assoc, arith, codes, true≢false}
use Rattle.std.specs.Prelude.{fold, if◌then◌else◌, is_some}
use Rattle.std.specs.List.{flat_map, list_any}
use Rattle.std.proofs.lemmas.List.{append-nil}
use Rattle.std.proofs.lemmas.List.Folds.{list_any-append}
use Rattle.clap.specs.Kinds.{Kinds, or_else}
use Rattle.clap.specs.Faults.{check_fault, defaults_fault, entered_fault, settle_fault, turn_fault, walk_fault}
use Rattle.clap.specs.Simple.{App, built, entered, names_of}
use Rattle.clap.specs.Walk.{Held, Names, Row, Rule, Text, Walk, finished, is_empty, nothing_held, settled, walk, walk_from, walked}
use Rattle.clap.proofs.OnLiterals.{clap_on_literals}
use Rattle.clap.proofs.FaultLemmas.{stopped_fault}
use Rattle.clap.proofs.WalkLemmas.{walk_stopped}
use Rattle.run_settings.specs.Settings.{RunSettings, standard}
use Rattle.drill_text.specs.Drills.{◌>>=◌}
use Rattle.drill_text.proofs.DrillLemmas.{neither}
use Rattle.command_words.specs.Options.{settings_given}
use Rattle.command_words.specs.Words.{Asked, asked_at, asked_for, asked_of, asking, flume_app, is_operand, plan_given, run_of, run_with}
use Rattle.word_laws.specs.Parts.{AskForRun, Fail, Name, Part, Partitions, PlanFile, Script, Shards, Tries, Workers, part_words}
use Rattle.word_laws.specs.Grammar.{WordsAskFor}
use Rattle.command_words.specs.declared.words.Command.{Command}
use Rattle.command_words.specs.declared.words.Command.TheVariants.{Run}
use Rattle.word_laws.proofs.GrammarLemmas.{answer, asked, at_first}
use Rattle.word_laws.proofs.OperandLemmas.{at_position, faults_from, last_fault}
use Rattle.word_laws.proofs.PartLemmas.{AreOperands, Fresh, are_operands, fresh}
use Rattle.word_laws.proofs.RowLemmas.{Holds, checks_pass, defaults_pass, first_value, holds_more, holds_none, is_named, nothing_added, row}
use Rattle.word_laws.proofs.StepLemmas.{IsAtPlace, part_faults, part_fold, place_behind, rules, running, with_part}

-- ---- the walk over the words

-- the next word that is no option is the first, as long as no script was met
abbrev IsPlaced : List Part → ℕ → Type 0
IsPlaced seen position = list_any (is_named Script) seen ≡ false → position ≡ 1

at_place : (name : Name) (seen : List Part) (position : ℕ) → IsPlaced seen position
    → list_any (is_named name) seen ≡ false → IsAtPlace name position
at_place Script seen position placed new = placed new
at_place _ seen position placed new = tt

placed_behind : (name : Name) (value : Text) (seen : List Part) (position : ℕ)
    → IsPlaced seen position
    → IsPlaced (seen ++ record { name = name; value = value } ∷ []) (place_behind name position)
placed_behind name value seen position placed none = behind name
    (neither (list_any (is_named Script) seen) _
    (sym (list_any-append (is_named Script) seen (record { name = name; value = value } ∷ []))
    ∙ none))
  where
    behind : (n : Name) → (list_any (is_named Script) seen ≡ false)
        × ((is_named Script (record { name = n; value = value }) || false) ≡ false)
        → place_behind n position ≡ 1
    behind Script apart = absurd (true≢false apart.1)
    behind _ apart = placed apart.0

-- where the walk comes to over the words of parts, and the faults from there on
record IsWalked (seen parts : List Part) (h : Held) (position : ℕ) : Type 0 where
  held : Held
  place : ℕ
  holds : Holds (seen ++ parts) held
  walk_is : fold (walked rules []) (at_position h position) (flat_map part_words parts)
      ≡ at_position held place
  faults : faults_from running (at_position h position) (flat_map part_words parts)
      ≡ last_fault running (at_position held place)

walks : (parts seen : List Part) (h : Held) (position : ℕ) → Holds seen h → Fresh seen parts
    → AreOperands parts → IsPlaced seen position → IsWalked seen parts h position
unfolding walk_fault
walks [] seen h position holds new operands placed = record {
  held = h;
  place = position;
  holds = subst (λ (all : List Part). Holds all h) (sym (append-nil seen)) holds;
  walk_is = refl;
  faults = refl;
}
walks (part ∷ parts) seen h position holds new operands placed =
    let words = flat_map part_words parts in
    let at = at_place part.name seen position placed new.0 in
    let rest = walks parts (seen ++ part ∷ []) (with_part part.name part.value h)
    (place_behind part.name position) (holds_more seen h part holds new.0) new.1 operands.1
    (placed_behind part.name part.value seen position placed) in
    record {
      held = rest.held;
      place = rest.place;
      holds = subst (λ (all : List Part). Holds all rest.held)
          (append_assoc seen (part ∷ []) parts) rest.holds;
      walk_is =
          part_fold part.name h position part.value words at operands.0 ∙ rest.walk_is;
      faults =
          part_faults part.name h position part.value words at operands.0 holds.fault
          ∙ rest.faults;
    }

-- ---- what the parts ask for

settings_are : (parts : List Part) (script : Text) (settings : RunSettings) (from : Option Text)
    → AskForRun parts script settings from → settings_given (map row parts) ≡ Some settings
settings_are parts script settings from asks =
    rw (
      first_value Fail parts,
      first_value Workers parts,
      first_value Shards parts,
      first_value Partitions parts,
      first_value Tries parts,
    )
    (rw (asks.for_drill, asks.for_workers, asks.for_shards, asks.for_partitions, asks.for_tries)
    refl)

run_is : (parts : List Part) (script : Text) (settings : RunSettings) (from : Option Text)
    → AskForRun parts script settings from → run_of (map row parts) ≡ Some (Run settings from)
run_is parts script settings from asks =
    ap₂ run_with (settings_are parts script settings from asks)
    (ap plan_given (first_value PlanFile parts) ∙ asks.for_plan)

asked_there : (parts : List Part) (script : Text) (settings : RunSettings) (from : Option Text)
    → is_operand script ≡ true → AskForRun parts script settings from
    → asked_at (codes "run") (map row parts)
    ≡ Some (record { command = Run settings from; script = script })
asked_there parts script settings from is asks =
    ap₂ (λ (given : Option Command) (word : Option Text).
    given >>= (λ command. asking command word))
    (run_is parts script settings from asks) (first_value Script parts ∙ asks.for_script)
    ∙ asked (Run settings from) script is

-- ---- the whole command line

abbrev whole : App
whole = built flume_app

-- what is asked for, by the walk over the words behind the program's name and by its faults
abbrev outcome : Kinds → Walk → Option Asked
outcome fault w =
    if is_empty (or_else fault (or_else (entered_fault whole w.stopped)
    (or_else (settle_fault whole.top.rules whole.top.args_override_self w.held)
    (or_else (defaults_fault (settled whole.top.rules w.held).rows whole.top.rules)
    (check_fault whole.top (finished whole.top.rules w.held)
    (is_some (entered whole w.stopped)))))))
    then asked_of (entered whole w.stopped) else None

abbrev top_rules : List Rule
top_rules = whole.top.rules

abbrev names : Names
names = names_of whole

-- behind the command's name the words are left to it
abbrev left_to_run : List Text → Walk
left_to_run words = record (walk_from nothing_held) { stopped = Some (codes "run", words) }

run_met : walked top_rules names (walk_from nothing_held) (codes "run") ≡ left_to_run []
unfolding clap_on_literals
run_met = refl

run_walked : (words : List Text)
    → walk top_rules names nothing_held (codes "run" ∷ words) ≡ left_to_run words
run_walked words =
    ap (λ (w : Walk). fold (walked top_rules names) w words) run_met
    ∙ sym (walk_stopped top_rules names (walk_from nothing_held) (codes "run") [] words)

run_turn : turn_fault whole.top names (walk_from nothing_held) (codes "run") ≡ []
unfolding clap_on_literals
run_turn = refl

run_faults : (words : List Text)
    → walk_fault whole.top names (walk_from nothing_held) (codes "run" ∷ words) ≡ []
unfolding walk_fault
run_faults words =
    ap (λ (turn : Kinds). or_else turn (walk_fault whole.top names
    (walked top_rules names (walk_from nothing_held) (codes "run")) words)) run_turn
    ∙ ap (λ (w : Walk). walk_fault whole.top names w words) run_met
    ∙ stopped_fault whole.top names (walk_from nothing_held) (codes "run", []) words

outcome_is : (program : Text) (words : List Text)
    → asked_for (program ∷ codes "run" ∷ words)
    ≡ outcome (walk_fault whole.top names (walk_from nothing_held) (codes "run" ∷ words))
    (walk top_rules names nothing_held (codes "run" ∷ words))
outcome_is program words = refl

answer_is : (words : List Text) → outcome [] (left_to_run words)
    ≡ answer running (codes "run") (faults_from running at_first words)
    (fold (walked rules []) at_first words)
unfolding clap_on_literals
answer_is words = refl

run_entered : (program : Text) (words : List Text)
    → asked_for (program ∷ codes "run" ∷ words)
    ≡ answer running (codes "run") (faults_from running at_first words)
    (fold (walked rules []) at_first words)
run_entered program words =
    outcome_is program words ∙ ap₂ outcome (run_faults words) (run_walked words) ∙ answer_is words

-- ---- the words of parts

nothing_fails : (parts : List Part) (script : Text) (settings : RunSettings) (from : Option Text)
    (h : Held) (place : ℕ) → AskForRun parts script settings from → Holds parts h
    → last_fault running (at_position h place) ≡ []
nothing_fails parts script settings from h place asks holds =
    let rows = nothing_added h ∙ holds.rows in
    let checked = ap (λ (found : List Row). check_fault running found false) rows
    ∙ checks_pass parts script asks.for_script in
    ap (λ (first : Kinds). or_else first (or_else (defaults_fault (settled rules h).rows rules)
    (check_fault running (finished rules h) false))) holds.fault
    ∙ ap₂ or_else (defaults_pass (settled rules h).rows) checked

pub run_asked : (script : Text) (parts : List Part) (settings : RunSettings) (from : Option Text)
    → is_operand script ≡ true → AskForRun parts script settings from
    → WordsAskFor (codes "run" ∷ flat_map part_words parts) (Run settings from) script
run_asked script parts settings from is asks program =
    let end = walks parts [] nothing_held 1 holds_none (fresh parts [] asks.apart)
    (are_operands parts script settings from is asks) (λ none. refl) in
    run_entered program (flat_map part_words parts)
    ∙ ap₂ (answer running (codes "run"))
    (end.faults ∙ nothing_fails parts script settings from end.held end.place asks end.holds)
    end.walk_is
    ∙ ap (asked_at (codes "run")) (nothing_added end.held ∙ end.holds.rows)
    ∙ asked_there parts script settings from is asks

-- a script alone
pub run_alone : (script : Text) → is_operand script ≡ true
    → WordsAskFor (codes "run" ∷ script ∷ []) (Run standard None) script
run_alone script is =
    run_asked script (record { name = Script; value = script } ∷ []) standard None is
    (record {
      apart = λ i j d less within. absurd (omega arith);
      for_script = refl;
      for_workers = refl;
      for_shards = refl;
      for_partitions = refl;
      for_tries = refl;
      for_drill = refl;
      for_plan = refl;
    })
