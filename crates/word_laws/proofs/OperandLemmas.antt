-- How a command with no subcommand reads a word that is no option.
use Rattle.std.proofs.Common.{◌≡◌, ℕ, Bool, true, false, List, [], ◌∷◌, refl, sym, ap, ap₂, true≢false}
use Rattle.std.specs.Prelude.{not, None, fold, ◌==◌}
use Rattle.clap.specs.Kinds.{Kinds, or_else}
use Rattle.clap.specs.Faults.{check_fault, defaults_fault, settle_fault, step_fault, turn_fault, walk_fault}
use Rattle.clap.specs.Simple.{Shape}
use Rattle.clap.specs.Walk.{Held, Rule, Step, Text, Walk, after_step, arg_by_index, finished, idle, settled, to_positional, value, walked, word_met}
use Rattle.command_words.specs.Words.{is_operand}

-- the walk between two words, where nothing waits for a value
abbrev pub at_position : Held → ℕ → Walk
at_position h position = record {
  held = h;
  waiting = idle;
  position = position;
  is_trailing = false;
  stopped = None;
}

pub is_false : (b : Bool) → not b ≡ true → b ≡ false
is_false true e = absurd (true≢false (sym e))
is_false false e = refl

operand_met : (c : List Rule) (h : Held) (position : ℕ) (word : Text) → is_operand word ≡ true
    → word_met c [] false idle position word h ≡ (h, value)
operand_met c h position [] is = absurd (true≢false (sym is))
operand_met c h position (x ∷ xs) is =
    let other : (x == 45) ≡ false = is_false _ is in
    rw other (rw other refl)

pub operand_turn : (s : Shape) (h : Held) (position : ℕ) (word : Text) → is_operand word ≡ true
    → turn_fault s [] (at_position h position) word ≡ step_fault s position h value
operand_turn s h position [] is = absurd (true≢false (sym is))
operand_turn s h position (x ∷ xs) is =
    let other : (x == 45) ≡ false = is_false _ is in
    rw other (rw other refl)

-- the walk after such a word, which goes to the positional
abbrev pub operand_taken : List Rule → Held → ℕ → Text → Walk
operand_taken c h position word =
    to_positional c (arg_by_index c position) word (at_position h position) h

pub operand_walked : (c : List Rule) (h : Held) (position : ℕ) (word : Text) → is_operand word
    ≡ true → walked c [] (at_position h position) word ≡ operand_taken c h position word
unfolding walked
operand_walked c h position word is =
    ap (λ (met : Held × Step). after_step c word (at_position h position) met.0 met.1)
    (operand_met c h position word is)

-- the faults of what comes behind the words
abbrev pub last_fault : Shape → Walk → Kinds
last_fault s w = or_else (settle_fault s.rules s.args_override_self w.held)
    (or_else (defaults_fault (settled s.rules w.held).rows s.rules)
    (check_fault s (finished s.rules w.held) false))

-- the faults from a word on, and from behind a word's turn on
abbrev pub faults_from : Shape → Walk → List Text → Kinds
faults_from s w words = or_else (walk_fault s [] w words)
    (last_fault s (fold (walked s.rules []) w words))

abbrev pub faults_behind : Shape → Kinds → Walk → List Text → Kinds
faults_behind s turn w words =
    or_else (or_else turn (walk_fault s [] w words))
    (last_fault s (fold (walked s.rules []) w words))

pub operand_first : (s : Shape) (h : Held) (position : ℕ) (word : Text) (words : List Text)
    → is_operand word ≡ true
    → faults_from s (at_position h position) (word ∷ words)
    ≡ faults_behind s (step_fault s position h value) (operand_taken s.rules h position word)
    words
unfolding walk_fault
operand_first s h position word words is =
    ap₂ (λ turn w. faults_behind s turn w words) (operand_turn s h position word is)
    (operand_walked s.rules h position word is)
