-- How the command `run` reads the words of one part.
use Rattle.std.proofs.Common.{◌≡◌, ◌∙◌, ◌&&◌, ◌==◌, ◌++◌, ℕ, Bool, true, false, List, [], ◌∷◌, Some, None, refl, ap, true≢false, sym}
use Rattle.std.specs.Prelude.{fold, if◌then◌else◌}
use Rattle.clap.specs.Kinds.{Kinds, or_else}
use Rattle.clap.specs.Simple.{Shape, filled, with_index}
use Rattle.clap.specs.Faults.{settle_fault, turn_fault, walk_fault}
use Rattle.clap.specs.Walk.{Held, Rule, Step, Text, Walk, after_step, is_pending, option, plain_word, pushed, settled, settled_rows, walked, word_met}
use Rattle.clap.proofs.OnLiterals.{clap_on_literals}
use Rattle.command_words.specs.Words.{dash, is_operand, run_app, script_rule}
use Rattle.word_laws.specs.Parts.{Name, Script, id_of, words_for}
use Rattle.word_laws.proofs.GrammarLemmas.{built_command}
use Rattle.word_laws.proofs.OperandLemmas.{at_position, faults_from, is_false, last_fault, operand_turn, operand_walked}

abbrev pub running : Shape
running = built_command run_app.top

abbrev pub rules : List Rule
rules = running.rules

-- what is held behind a part, whose value waits to be used
abbrev pub with_part : Name → Text → Held → Held
with_part name value h = record {
  rows = settled_rows rules h.pending h.rows;
  pending = Some (id_of name, value ∷ []);
  skip = h.skip;
}

-- the fault of what waits to be used
abbrev pub waiting_fault : Held → Kinds
waiting_fault h = settle_fault rules false h

or_nothing : (kinds : Kinds) → or_else kinds [] ≡ kinds
or_nothing [] = refl
or_nothing (k ∷ ks) = refl

either_way : {A : Type 0} (b : Bool) (x y : A) → (if b && false then x else y) ≡ y
either_way true x y = refl
either_way false x y = refl

-- a word without a fault is passed over
pub no_fault : (w : Walk) (word : Text) (words : List Text) → turn_fault running [] w word ≡ []
    → faults_from running w (word ∷ words) ≡ faults_from running (walked rules [] w word) words
unfolding walk_fault
no_fault w word words none =
    ap (λ (turn : Kinds). or_else (or_else turn (walk_fault running [] (walked rules [] w word)
    words)) (last_fault running (fold (walked rules []) (walked rules [] w word) words))) none

-- ---- the script

-- the argument, as it is built
abbrev pub script : Rule
script = with_index 1 (filled script_rule)

script_walked : (h : Held) (word : Text) → is_operand word ≡ true
    → walked rules [] (at_position h 1) word ≡ at_position (with_part Script word h) 2
script_walked h word is =
    operand_walked rules h 1 word is
    ∙ ap (λ (held : Held). at_position (pushed (id_of Script) word held) 2)
    (either_way (is_pending script h.pending) h (settled rules h))

script_turn : (h : Held) (word : Text) → is_operand word ≡ true
    → turn_fault running [] (at_position h 1) word ≡ waiting_fault h
script_turn h word is =
    operand_turn running h 1 word is
    ∙ either_way (is_pending script h.pending) [] (waiting_fault h)

-- ---- an option

-- an option's name
abbrev named : Name → Text
named name = dash ∷ dash ∷ id_of name

-- behind an option's name, where its value is to come
abbrev at_value : Name → Held → ℕ → Walk
at_value name h position = record {
  held = record {
    rows = settled_rows rules h.pending h.rows;
    pending = Some (id_of name, []);
    skip = h.skip;
  };
  waiting = option (id_of name);
  position = position;
  is_trailing = false;
  stopped = None;
}

abbrev IsOption : Name → Type 0
IsOption Script = ⊥
IsOption name = Unit {0}

name_walked : (name : Name) (h : Held) (position : ℕ) → IsOption name
    → walked rules [] (at_position h position) (named name) ≡ at_value name h position
unfolding clap_on_literals
name_walked Script h position is = absurd is
name_walked _ h position is = refl

name_turn : (name : Name) (h : Held) (position : ℕ) → IsOption name
    → turn_fault running [] (at_position h position) (named name) ≡ waiting_fault h
unfolding clap_on_literals
name_turn Script h position is = absurd is
name_turn _ h position is = or_nothing (waiting_fault h)

value_met : (c : List Rule) (id : Text) (h : Held) (position : ℕ) (word : Text)
    → is_operand word ≡ true
    → word_met c [] false (option id) position word h ≡ plain_word c (option id) word h
value_met c id h position [] is = absurd (true≢false (sym is))
value_met c id h position (x ∷ xs) is =
    let other : (x == 45) ≡ false = is_false _ is in
    rw other (rw other refl)

value_turn : (name : Name) (h : Held) (position : ℕ) (word : Text) → is_operand word ≡ true
    → turn_fault running [] (at_value name h position) word ≡ []
value_turn name h position [] is = absurd (true≢false (sym is))
value_turn name h position (x ∷ xs) is =
    let other : (x == 45) ≡ false = is_false _ is in
    rw other (rw other refl)

value_taken : (name : Name) (h : Held) (position : ℕ) (word : Text)
    → after_step rules word (at_value name h position)
    (plain_word rules (option (id_of name)) word (at_value name h position).held).0
    (plain_word rules (option (id_of name)) word (at_value name h position).held).1
    ≡ at_position (with_part name word h) position
value_taken Script h position word = refl
value_taken _ h position word = refl

value_walked : (name : Name) (h : Held) (position : ℕ) (word : Text) → is_operand word ≡ true
    → walked rules [] (at_value name h position) word ≡ at_position (with_part name word h) position
unfolding walked
value_walked name h position word is =
    ap (λ (met : Held × Step). after_step rules word (at_value name h position) met.0 met.1)
    (value_met rules (id_of name) (at_value name h position).held position word is)
    ∙ value_taken name h position word

-- ---- a part

-- the place of the next word that is no option
abbrev pub place_behind : Name → ℕ → ℕ
place_behind Script position = 2
place_behind name position = position

-- the script comes at the first place alone
abbrev pub IsAtPlace : Name → ℕ → Type 0
IsAtPlace Script position = position ≡ 1
IsAtPlace name position = Unit {0}

option_part : (name : Name) (h : Held) (position : ℕ) (value : Text) (words : List Text)
    → IsOption name → is_operand value ≡ true → waiting_fault h ≡ []
    → faults_from running (at_position h position) (named name ∷ value ∷ words)
    ≡ faults_from running (at_position (with_part name value h) position) words
option_part name h position value words an is none =
    no_fault (at_position h position) (named name) (value ∷ words)
    (name_turn name h position an ∙ none)
    ∙ ap (λ (w : Walk). faults_from running w (value ∷ words)) (name_walked name h position an)
    ∙ no_fault (at_value name h position) value words (value_turn name h position value is)
    ∙ ap (λ (w : Walk). faults_from running w words) (value_walked name h position value is)

option_fold : (name : Name) (h : Held) (position : ℕ) (value : Text) (words : List Text)
    → IsOption name → is_operand value ≡ true
    → fold (walked rules []) (at_position h position) (named name ∷ value ∷ words)
    ≡ fold (walked rules []) (at_position (with_part name value h) position) words
option_fold name h position value words an is =
    ap (λ (w : Walk). fold (walked rules []) w (value ∷ words)) (name_walked name h position an)
    ∙ ap (λ (w : Walk). fold (walked rules []) w words) (value_walked name h position value is)

-- the words of a part have no fault where what waits before them has none
pub part_faults : (name : Name) (h : Held) (position : ℕ) (value : Text) (words : List Text)
    → IsAtPlace name position → is_operand value ≡ true → waiting_fault h ≡ []
    → faults_from running (at_position h position) (words_for name value ++ words)
    ≡ faults_from running (at_position (with_part name value h) (place_behind name position)) words
part_faults Script h position value words at is none =
    ap (λ n. faults_from running (at_position h n) (value ∷ words)) at
    ∙ no_fault (at_position h 1) value words (script_turn h value is ∙ none)
    ∙ ap (λ (w : Walk). faults_from running w words) (script_walked h value is)
part_faults name h position value words at is none =
    option_part name h position value words tt is none

-- the walk over the words of a part
pub part_fold : (name : Name) (h : Held) (position : ℕ) (value : Text) (words : List Text)
    → IsAtPlace name position → is_operand value ≡ true
    → fold (walked rules []) (at_position h position) (words_for name value ++ words)
    ≡ fold (walked rules []) (at_position (with_part name value h) (place_behind name position))
    words
part_fold Script h position value words at is =
    ap (λ n. fold (walked rules []) (at_position h n) (value ∷ words)) at
    ∙ ap (λ (w : Walk). fold (walked rules []) w words) (script_walked h value is)
part_fold name h position value words at is = option_fold name h position value words tt is
