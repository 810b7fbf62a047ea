-- What the words of the grammar ask for, by the definitions of `clap`.
use Rattle.std.proofs.Common.{◌≡◌, ◌∙◌, true, [], ◌∷◌, refl, ap, ap₂, codes}
use Rattle.std.specs.Prelude.{Option, Some, None, fold, if◌then◌else◌}
use Rattle.clap.specs.Faults.{step_fault}
use Rattle.clap.specs.Kinds.{Kinds, or_else}
use Rattle.clap.specs.Simple.{Shape, built_leaf, inherited}
use Rattle.clap.specs.Walk.{Held, Text, Walk, finished, is_empty, nothing_held, value, walked}
use Rattle.clap.proofs.OnLiterals.{clap_on_literals}
use Rattle.command_words.specs.Words.{Asked, asked_at, asked_for, asking, is_operand, plan_app, program_app, script_app}
use Rattle.word_laws.specs.Grammar.{WordsAskFor}
use Rattle.command_words.specs.declared.words.Command.{Command}
use Rattle.command_words.specs.declared.words.Command.TheVariants.{Plan}
use Rattle.command_words.specs.declared.words.PlanForm.{PlanForm}
use Rattle.command_words.specs.declared.words.PlanForm.TheVariants.{Text as AsText}
use Rattle.word_laws.proofs.OperandLemmas.{at_position, faults_behind, faults_from, operand_first, operand_taken, operand_walked}

-- a command as it is built
abbrev pub built_command : Shape → Shape
built_command s = built_leaf (inherited (program_app.top) s)

abbrev alone : Text → Shape
alone name = built_command (script_app name).top

abbrev planned : Shape
planned = built_command plan_app.top

abbrev pub at_first : Walk
at_first = at_position nothing_held 1

-- the answer, by the faults of the command that was met and by its walk
abbrev pub answer : Shape → Text → Kinds → Walk → Option Asked
answer s name fault w =
    if is_empty (or_else fault []) then asked_at name (finished s.rules w.held) else None

pub asked : (command : Command) (script : Text) → is_operand script ≡ true
    → asking command (Some script) ≡ Some (record { command = command; script = script })
asked command script is = ap (λ b. if b then Some (record { command = command; script = script })
    else None) is

-- ---- a script alone

alone_passes : (name script : Text) → is_operand script ≡ true
    → faults_from (alone name) at_first (script ∷ []) ≡ []
unfolding clap_on_literals
alone_passes name script is = operand_first (alone name) nothing_held 1 script [] is ∙ refl

-- a command and a script, as the walk over the command's name computes
pub alone_asks : (name script : Text) (command : Command) → is_operand script ≡ true
    → ((program : Text) → asked_for (program ∷ name ∷ script ∷ [])
    ≡ answer (alone name) name (faults_from (alone name) at_first (script ∷ []))
    (fold (walked (alone name).rules []) at_first (script ∷ [])))
    → answer (alone name) name [] (operand_taken (alone name).rules nothing_held 1 script)
    ≡ asking command (Some script)
    → WordsAskFor (name ∷ script ∷ []) command script
alone_asks name script command is entered asks program =
    entered program
    ∙ ap₂ (answer (alone name) name) (alone_passes name script is)
    (operand_walked (alone name).rules nothing_held 1 script is)
    ∙ asks ∙ asked command script is

-- ---- a plan

planned_passes : (script : Text) → is_operand script ≡ true
    → faults_from planned at_first (script ∷ []) ≡ []
unfolding clap_on_literals
planned_passes script is = operand_first planned nothing_held 1 script [] is ∙ refl

pub plan_alone : (script : Text) → is_operand script ≡ true
    → WordsAskFor (codes "plan" ∷ script ∷ []) (Plan AsText) script
unfolding clap_on_literals
plan_alone script is program =
    ap₂ (answer planned (codes "plan")) (planned_passes script is)
    (operand_walked planned.rules nothing_held 1 script is) ∙ asked (Plan AsText) script is

-- what is held behind a flag
abbrev flag_held : Text → Held
flag_held flag = (walked planned.rules [] at_first flag).held

-- with a flag of a form before the script or behind it, as the walk over the flag alone computes
module _ (flag script : Text) (form : PlanForm) (is : is_operand script ≡ true) where
  pub flag_before : walked planned.rules [] at_first flag ≡ at_position (flag_held flag) 1
      → faults_from planned at_first (flag ∷ script ∷ [])
      ≡ faults_from planned (at_position (flag_held flag) 1) (script ∷ [])
      → faults_behind planned (step_fault planned 1 (flag_held flag) value)
      (operand_taken planned.rules (flag_held flag) 1 script) [] ≡ []
      → answer planned (codes "plan") [] (operand_taken planned.rules (flag_held flag) 1 script)
      ≡ asking (Plan form) (Some script)
      → WordsAskFor (codes "plan" ∷ flag ∷ script ∷ []) (Plan form) script
  unfolding clap_on_literals
  flag_before held first none asks program =
      ap₂ (answer planned (codes "plan"))
      (first ∙ operand_first planned (flag_held flag) 1 script [] is ∙ none)
      (ap (λ w. walked planned.rules [] w script) held
      ∙ operand_walked planned.rules (flag_held flag) 1 script is)
      ∙ asks ∙ asked (Plan form) script is

  pub flag_behind : faults_behind planned (step_fault planned 1 nothing_held value)
      (operand_taken planned.rules nothing_held 1 script) (flag ∷ []) ≡ []
      → answer planned (codes "plan") []
      (walked planned.rules [] (operand_taken planned.rules nothing_held 1 script) flag)
      ≡ asking (Plan form) (Some script)
      → WordsAskFor (codes "plan" ∷ script ∷ flag ∷ []) (Plan form) script
  unfolding clap_on_literals
  flag_behind none asks program =
      ap₂ (answer planned (codes "plan"))
      (operand_first planned nothing_held 1 script (flag ∷ []) is ∙ none)
      (ap (λ w. walked planned.rules [] w flag)
      (operand_walked planned.rules nothing_held 1 script is)) ∙ asks ∙ asked (Plan form) script is
