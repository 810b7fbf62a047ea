-- What is held of the parts of the words behind `run`.
use Rattle.std.proofs.Common.{◌≡◌, ◌∙◌, ◌&&◌, ◌||◌, ◌++◌, ℕ, Bool, true, false, not, List, [], ◌∷◌, Option, Some, None, map, refl, sym, ap, arith, length}
use Rattle.std.specs.Prelude.{find, fold, if◌then◌else◌, option_map, option_and_then, slice_get}
use Rattle.std.specs.List.{list_any}
use Rattle.std.specs.Option.{option_map_or}
use Rattle.std.specs.Str.{bytes_eq}
use Rattle.std.proofs.lemmas.Bool.Decides.{Decides-eqb}
use Rattle.std.proofs.lemmas.List.{append-nil, map-append}
use Rattle.clap.specs.Kinds.{Kinds, or_else}
use Rattle.clap.specs.Faults.{check_fault, defaults_fault, given_default_fault}
use Rattle.clap.specs.Facts.{explicit_source}
use Rattle.clap.specs.Takes.{is_given}
use Rattle.clap.specs.Walk.{Held, Row, Rule, Text, at_row, default_rows, finished, first_of, has_row, is_empty, more_values, nothing_held, reading_by, settled_rows, with_default, with_values, without}
use Rattle.clap.proofs.WalkLemmas.{find-map}
use Rattle.clap.specs.declared.builder.value_parser.Reading.{Reading}
use Rattle.clap.specs.declared.error.kind.ErrorKind.TheVariants.{ArgumentConflict, MissingRequiredArgument}
use Rattle.clap.specs.declared.parser.matches.ValueSource.{ValueSource}
use Rattle.clap.specs.declared.parser.matches.ValueSource.TheVariants.{CommandLine}
use Rattle.drill_text.proofs.DrillLemmas.{neither}
use Rattle.drill_text.proofs.NumberLemmas.{both}
use Rattle.word_laws.specs.Parts.{Name, Part, Script, id_of, part_value}
use Rattle.word_laws.proofs.StepLemmas.{rules, running, script, waiting_fault, with_part}

-- ---- the rows of parts

abbrev pub row : Part → Row
row part = record {
  id = id_of part.name;
  values = part.value ∷ [];
  count = None;
  source = Some CommandLine;
  reading = reading_by script;
}

-- a part of this name
abbrev pub is_named : Name → Part → Bool
is_named name part = bytes_eq (id_of part.name) (id_of name)

has_part : (name : Name) (parts : List Part)
    → has_row (id_of name) (map row parts) ≡ list_any (is_named name) parts
has_part name [] = refl
has_part name (part ∷ parts) = ap (λ b. is_named name part || b) (has_part name parts)

-- what is not there is put at the end
missed : (id : Text) (change : Row → List Row) (missing rows : List Row)
    → has_row id rows ≡ false → at_row id change missing rows ≡ rows ++ missing
missed id change missing [] none = refl
missed id change missing (r ∷ rows) none =
    let apart = neither (bytes_eq r.id id) (has_row id rows) none in
    rw apart.0 (ap (λ (rest : List Row). r ∷ rest) (missed id change missing rows apart.1))

new_row : (id : Text) (how : Reading) (s : ValueSource) (values : List Text) (rows : List Row)
    → has_row id rows ≡ false
    → with_values id how s values (without id rows)
    ≡ rows ++ (record {
      id = id;
      values = values;
      count = None;
      source = Some s;
      reading = how;
    } ∷ [])
new_row id how s values rows none =
    let new : List Row = record {
      id = id;
      values = values;
      count = None;
      source = Some s;
      reading = how;
    } ∷ [] in
    ap (at_row id (more_values s values) new)
    (missed id (λ _. []) [] rows none ∙ append-nil rows)
    ∙ missed id (more_values s values) new rows none

-- ---- what is held

-- what is held of the parts so far: the last waits to be used, without a fault
pub record Holds (seen : List Part) (h : Held) : Type 0 where
  pub rows : settled_rows rules h.pending h.rows ≡ map row seen
  pub fault : waiting_fault h ≡ []

pub holds_none : Holds [] nothing_held
holds_none = record { rows = refl; fault = refl }

used_rows : (name : Name) (value : Text) (rows : List Row)
    → has_row (id_of name) rows ≡ false
    → settled_rows rules (Some (id_of name, value ∷ [])) rows
    ≡ rows ++ row (record { name = name; value = value }) ∷ []
used_rows Script value rows none = new_row _ _ _ _ rows none
used_rows _ value rows none = new_row _ _ _ _ rows none

no_repeat : (b : Bool) → b ≡ false
    → or_else (if b && not false then ArgumentConflict ∷ [] else []) [] ≡ []
no_repeat b new = rw new refl

use_passes : (name : Name) (value : Text) (rows : List Row) (skip : ℕ)
    → has_row (id_of name) rows ≡ false
    → waiting_fault (record {
      rows = rows;
      pending = Some (id_of name, value ∷ []);
      skip = skip;
    }) ≡ []
use_passes Script value rows skip none = no_repeat (has_row (id_of Script) rows) none
use_passes name value rows skip none = no_repeat (has_row (id_of name) rows) none

pub holds_more : (seen : List Part) (h : Held) (part : Part) → Holds seen h
    → list_any (is_named part.name) seen ≡ false
    → Holds (seen ++ part ∷ []) (with_part part.name part.value h)
holds_more seen h part holds new =
    let none : has_row (id_of part.name) (settled_rows rules h.pending h.rows) ≡ false =
    ap (has_row (id_of part.name)) holds.rows ∙ has_part part.name seen ∙ new in
    record {
      rows =
          used_rows part.name part.value (settled_rows rules h.pending h.rows) none
          ∙ ap (λ (rows : List Row). rows ++ row part ∷ []) holds.rows
          ∙ sym (map-append row seen (part ∷ []));
      fault = use_passes part.name part.value (settled_rows rules h.pending h.rows) h.skip none;
    }

-- ---- the end of the words

kept : (b : Bool) (id : Text) (how : Reading) (defaults : List Text) (rows : List Row)
    → is_empty defaults ≡ true → (if b then rows else default_rows id how defaults rows) ≡ rows
kept true id how defaults rows none = refl
kept false id how [] rows none = refl
kept false id how (v ∷ vs) rows none =
    let length_zero : length (v ∷ vs) ≡ 0 = (Decides-eqb (length (v ∷ vs)) 0).0 none in
    absurd (omega arith)

-- arguments without defaults
abbrev have_none : List Rule → Bool
have_none [] = true
have_none (a ∷ c) = is_empty a.defaults && have_none c

none_added : (c : List Rule) (rows : List Row) → have_none c ≡ true
    → fold with_default rows c ≡ rows
none_added [] rows none = refl
none_added (a ∷ c) rows none =
    let parts = both (is_empty a.defaults) (have_none c) none in
    ap (λ (new : List Row). fold with_default new c)
    (kept (has_row a.id rows) a.id (reading_by a) a.defaults rows parts.0)
    ∙ none_added c rows parts.1

pub nothing_added : (h : Held) → finished rules h ≡ settled_rows rules h.pending h.rows
nothing_added h = none_added rules (settled_rows rules h.pending h.rows) refl

no_default : (b e : Bool) (kinds : Kinds) → e ≡ true → (if b || e then [] else kinds) ≡ []
no_default true e kinds none = refl
no_default false e kinds none = rw none refl

none_fails : (c : List Rule) (rows : List Row) → have_none c ≡ true → defaults_fault rows c ≡ []
unfolding defaults_fault
none_fails [] rows none = refl
none_fails (a ∷ c) rows none =
    let parts = both (is_empty a.defaults) (have_none c) none in
    ap (λ (first : Kinds). or_else first (defaults_fault (with_default rows a) c))
    (no_default (has_row a.id rows) (is_empty a.defaults) (given_default_fault a a.defaults)
    parts.0)
    ∙ none_fails c (with_default rows a) parts.1

pub defaults_pass : (rows : List Row) → defaults_fault rows rules ≡ []
defaults_pass rows = none_fails rules rows refl

-- ---- the values of parts

found : (name : Name) (parts : List Part)
    → find (λ r. bytes_eq r.id (id_of name)) (map row parts)
    ≡ option_map row (find (is_named name) parts)
found name parts = sym (find-map (λ r. bytes_eq r.id (id_of name)) row parts)

value_first : (o : Option Part)
    → option_and_then (λ (r : Row). slice_get r.values 0) (option_map row o)
    ≡ option_map (λ part. part.value) o
value_first (Some part) = refl
value_first None = refl

pub first_value : (name : Name) (parts : List Part)
    → first_of (id_of name) (map row parts) ≡ part_value name parts
first_value name parts =
    ap (option_and_then (λ (r : Row). slice_get r.values 0)) (found name parts)
    ∙ value_first (find (is_named name) parts)

is_explicit : (o : Option Part) (word : Text) → option_map (λ part. part.value) o ≡ Some word
    → option_map_or (λ (r : Row). explicit_source r.source) (option_map row o) false ≡ true
is_explicit (Some part) word is = refl
is_explicit None word is = cc is

-- the script is there
pub checks_pass : (parts : List Part) (word : Text) → part_value Script parts ≡ Some word
    → check_fault running (map row parts) false ≡ []
checks_pass parts word there =
    let given : is_given (id_of Script) (map row parts) ≡ true =
    ap (λ (o : Option Row). option_map_or (λ r. explicit_source r.source) o false)
    (found Script parts)
    ∙ is_explicit (find (is_named Script) parts) word there in
    ap (λ b. if not b || false then MissingRequiredArgument ∷ [] else []) given
