-- What the words of a cached run ask for, by the definitions of `clap`.
use Rattle.std.proofs.Common.{◌≡◌, ◌∙◌, true, [], ◌∷◌, refl, ap, ap₂, codes}
use Rattle.std.specs.Prelude.{Option, Some, None, if◌then◌else◌}
use Rattle.clap.specs.Kinds.{Kinds, or_else}
use Rattle.clap.specs.Simple.{Shape}
use Rattle.clap.specs.Walk.{Held, Text, Walk, finished, is_empty, nothing_held, walked}
use Rattle.clap.proofs.OnLiterals.{clap_on_literals}
use Rattle.run_settings.specs.Settings.{standard}
use Rattle.word_laws.specs.CachedWords.{AsksCached}
use Rattle.command_words.specs.Cached.{CachedRun, cached_at, cached_run_app, reusing}
use Rattle.command_words.specs.Words.{is_operand}
use Rattle.word_laws.proofs.GrammarLemmas.{at_first, built_command}
use Rattle.word_laws.proofs.OperandLemmas.{faults_from, operand_first, operand_walked}

-- the command as it is built
abbrev reused : Shape
reused = built_command cached_run_app.top

-- the answer, by the faults of the command that was met and by its walk
abbrev answer : Kinds → Walk → Option CachedRun
answer fault w =
    if is_empty (or_else fault []) then cached_at (codes "run") (finished reused.rules w.held)
    else None

asked : (script : Text) → is_operand script ≡ true
    → reusing standard (Some script) ≡ Some (record { settings = standard; script = script })
asked script is = ap (λ b. if b then Some (record { settings = standard; script = script })
    else None) is

-- what is held behind the flag
abbrev flag_held : Held
flag_held = (walked reused.rules [] at_first (codes "--cached")).held

before_passes : (script : Text) → is_operand script ≡ true
    → faults_from reused at_first (codes "--cached" ∷ script ∷ []) ≡ []
unfolding clap_on_literals
before_passes script is = operand_first reused flag_held 1 script [] is ∙ refl

pub cached_before : (script : Text) → is_operand script ≡ true
    → AsksCached (codes "run" ∷ codes "--cached" ∷ script ∷ []) standard script
unfolding clap_on_literals
cached_before script is program =
    ap₂ answer (before_passes script is) (operand_walked reused.rules flag_held 1 script is)
    ∙ asked script is

behind_passes : (script : Text) → is_operand script ≡ true
    → faults_from reused at_first (script ∷ codes "--cached" ∷ []) ≡ []
unfolding clap_on_literals
behind_passes script is =
    operand_first reused nothing_held 1 script (codes "--cached" ∷ []) is ∙ refl

pub cached_behind : (script : Text) → is_operand script ≡ true
    → AsksCached (codes "run" ∷ script ∷ codes "--cached" ∷ []) standard script
unfolding clap_on_literals
cached_behind script is program =
    ap₂ answer (behind_passes script is)
    (ap (λ w. walked reused.rules [] w (codes "--cached"))
    (operand_walked reused.rules nothing_held 1 script is)) ∙ asked script is
