-- The rules of statements, each tried in order; the first fault with the line on which its
-- statement begins.
use Rattle.std.specs.Prelude.{◌+◌, ◌*◌, ◌==◌, ◌&&◌, ℕ, Bool, true, false, List, [], ◌∷◌, ◌++◌}
use Rattle.std.specs.Prelude.{nat_le, nat_lt, not, Option, Some, None, Ok, length, map, drop}
use Rattle.std.specs.List.{list_any}
use Rattle.std.specs.Map.{keys_of}
use Rattle.std.specs.Str.{bytes_eq}
use Rattle.flume_types.specs.declared.types.Ty.{Ty}
use Rattle.flume_types.specs.Columns.{columns_of, input_columns_of}
use Rattle.flume_types.specs.Equality.{type_eq}
use Rattle.flume_grammar.specs.declared.tree.Type as tree
use Rattle.flume_grammar.specs.declared.tree.Form.{Form}
use Rattle.flume_grammar.specs.declared.tree.Form.TheVariants as form
use Rattle.flume_grammar.specs.declared.tree.Function.{Function as Written}
use Rattle.flume_grammar.specs.declared.tree.Operation.{Operation}
use Rattle.flume_grammar.specs.declared.tree.Repeat.{Repeat as WrittenRepeat}
use Rattle.flume_grammar.specs.declared.tree.TurnLet.{TurnLet}
use Rattle.flume_grammar.specs.declared.tree.Statement.{Statement}
use Rattle.flume_grammar.specs.declared.fault.ScriptKind.TheVariants.{TooMany, NotFlat, NoOutput}
use Rattle.flume_grammar.specs.declared.fault.ScriptKind.TheVariants.{BadNumber, Mistyped, Twice}
use Rattle.script_program.specs.of_written_types.Answer.{Checked, ◌>>=◌, unless, or_fault}
use Rattle.script_program.specs.of_written_types.Named.{Named, fresh}
use Rattle.script_program.specs.of_written_types.Written.{shallow, whole_type}
use Rattle.script_program.specs.of_body_check.Bodies.{body_of}
use Rattle.script_program.specs.Limits.{most_collections, most_files, most_functions}
use Rattle.script_program.specs.Limits.{most_outputs}
use Rattle.combine_table.specs.declared.comb.Comb.TheVariants as comb
use Rattle.script_program.specs.declared.made.Made.{Made}
use Rattle.script_program.specs.declared.made.Made.TheVariants as made
use Rattle.script_program.specs.of_expression_check.Numbers.{number_within}
use Rattle.script_program.specs.Script.{Making, Operand, Script, Signature, State, function_from}
use Rattle.script_program.specs.Script.{empty_state, script_from, with_copies, with_front}
use Rattle.script_program.specs.Script.{with_function, with_given, with_hidden, with_node}
use Rattle.script_program.specs.Script.{with_nodes, with_output, with_statement, with_named_type}
use Rattle.script_rules.specs.Arguments.{pairwise}
use Rattle.script_rules.specs.Operations.{operand_named, collections_behind, made_by, operand_numbers}
use Rattle.script_rules.specs.Repeats.{Repeat, last_gives, unrolled}

-- each fault is told on this line
module _ (line : ℕ) where
  -- room for so many more
  abbrev pub room : {A : Type 0} → ℕ → ℕ → Named A → Checked (Unit {0})
  room more limit names = unless line TooMany (nat_le (length names + more) limit)

  -- names that stand for nothing yet: none of those that are taken, and none to its left
  abbrev pub all_fresh : List (List ℕ) → List (List ℕ) → Checked (Unit {0})
  all_fresh taken [] = Ok tt
  all_fresh taken (name ∷ names) = do
    new ← unless line Twice (not (list_any (bytes_eq name) taken))
    all_fresh (taken ++ name ∷ []) names

  -- how many emissions are expected of a hundred calls: as many, where nothing is said
  abbrev pub scale_written : Option (List ℕ) → Checked ℕ
  scale_written None = Ok 100
  scale_written (Some digits) = or_fault line BadNumber (number_within 0 10000 digits)

  abbrev pub rule_type : List ℕ → tree.Type → State → Checked State
  rule_type name type s = do
    new ← fresh line name s.types
    t ← whole_type line type s.types
    Ok (with_named_type name t s)

  abbrev pub rule_input : List ℕ → tree.Type → List ℕ → State → Checked State
  rule_input name type file s = do
    few ← room 1 most_collections s.nodes
    new ← fresh line name s.names
    t ← whole_type line type s.types
    columns ← or_fault line NotFlat (input_columns_of t)
    Ok (with_node name (record { made = made.Input file columns; type = t }) s)

  -- the type that is written, behind those so far
  abbrev pub type_behind : List Ty → tree.Type → Named Ty → Checked (List Ty)
  type_behind found type known = do
    t ← whole_type line type known
    Ok (found ++ t ∷ [])

  -- the types that are written, from the left, behind those so far
  abbrev pub types_behind : List Ty → List tree.Type → Named Ty → Checked (List Ty)
  types_behind found [] known = Ok found
  types_behind found (type ∷ types) known = do
    more ← type_behind found type known
    types_behind more types known

  -- what a function gives to its outputs, not more of them than it may have
  abbrev pub types_given : Written → Named Ty → Checked (List Ty)
  types_given function known = do
    types ← types_behind [] (function.gives ∷ function.more) known
    few ← unless line TooMany (nat_le (length types) most_outputs)
    Ok types

  -- what a function that may be defined here takes and gives
  abbrev pub signature_of : Written → State → Checked Signature
  signature_of function s = do
    few ← room 1 most_functions s.functions
    new ← fresh line function.name s.functions
    takes ← whole_type line function.takes s.types
    gives ← types_given function s.types
    scale ← scale_written function.scale
    Ok (record { takes = takes; gives = gives; scale = scale })

  abbrev pub rule_function : Written → State → Checked State
  rule_function function s = do
    signature ← signature_of function s
    body ← body_of s.types function.argument signature.takes signature.gives function.body
    Ok (with_function function.name (function_from function signature s) s)

  -- types that are at most 8 deep, from the left
  abbrev pub all_shallow : List Making → Checked (Unit {0})
  all_shallow [] = Ok tt
  all_shallow (making ∷ makings) = do
    low ← shallow line making.type
    all_shallow makings

  -- as many collections as names, of types that are at most 8 deep
  abbrev pub all_fit : ℕ → List Making → Checked (Unit {0})
  all_fit count makings = do
    same ← unless line Mistyped (length makings == count)
    all_shallow makings

  -- a let, where there is room for what it names
  abbrev pub let_rule : List (List ℕ) → Operation → State → Checked State
  let_rule names by s = do
    new ← all_fresh (keys_of s.names) names
    makings ← made_by line by s
    fit ← all_fit (length names) makings
    Ok (with_nodes names makings s)

  abbrev pub rule_let : List (List ℕ) → Operation → State → Checked State
  rule_let names by s = do
    few ← room (length names) most_collections s.nodes
    let_rule names by s

-- ---- a let with repeat

-- the lets of a body, each on its own line; whether there is room for its turns is told behind them
abbrev pub all_named : List TurnLet → State → Checked State
all_named [] s = Ok s
all_named (it ∷ lets) s = do
  next ← let_rule it.line it.names it.by s
  all_named lets next

-- what enters a repeat's first turn, and how many turns it has
pub record Entry : Type 0 where
  pub from : List Operand
  pub turns : ℕ

-- a collection again: an object as its own least value, any other as all of its members
abbrev pub again : Bool → ℕ → Made
again true number = made.CombineAll number comb.Min
again false number = made.Flatten (number ∷ [])

-- what enters a turn is called so in the body: a collection of its own, which is that one
abbrev pub entered : Operand → Making
entered one = record { made = again one.is_object one.number; type = one.type }

-- before the body: the let's names are taken, and what enters has its names
abbrev pub entering_state : List (List ℕ) → List (List ℕ) → List Operand → State → State
entering_state names entering from s =
    with_nodes entering (map entered from) (with_hidden names s)

-- as many names in each place as in front of the `=`
abbrev pub as_many : ℕ → WrittenRepeat → Bool
as_many count written =
    length written.from == count
    && (length written.entering == count && length written.gives == count)

-- both are objects, or none is
abbrev pub same_kind : Bool → Bool → Bool
same_kind true other = other
same_kind false other = not other

-- a collection of the type of another, and an object where that is one
abbrev pub is_like : Operand → Operand → Bool
is_like one other = type_eq one.type other.type && same_kind one.is_object other.is_object

-- as many collections, each like the other
abbrev pub alike : List Operand → List Operand → Bool
alike from given = pairwise is_like from given

-- the repeat of what enters it and of what its body gives: so many collections stand outside it,
-- and so many in front of the body's lets
abbrev pub repeat_from : Entry → List ℕ → ℕ → ℕ → State → Repeat
repeat_from entry gives outside front body = record {
  outside = outside;
  turns = entry.turns;
  from = operand_numbers entry.from;
  body = drop front body.nodes;
  gives = gives;
}

-- a repeat, and what is defined behind its body, but for the body's own collections
pub record Repeated : Type 0 where
  pub repeat : Repeat
  pub behind : State

-- Behind a repeat its turns stand in place of its body. Of the names from that place on the let's
-- stand for what the last turn gives, and those of the body for nothing.
abbrev pub with_repeat : Repeat → ℕ → State → State
with_repeat repeat first s =
    with_given first (last_gives repeat) (with_copies (unrolled repeat) s)

-- each fault is told on this line, but for those of a body's lets
module _ (line : ℕ) where
  abbrev pub repeat_entry : List (List ℕ) → WrittenRepeat → State → Checked Entry
  repeat_entry names written s = do
    new ← all_fresh line (keys_of s.names) names
    free ← all_fresh line (keys_of (with_hidden names s).names) written.entering
    from ← collections_behind line [] written.from (with_hidden names s)
    turns ← or_fault line BadNumber (number_within 1 256 written.turns)
    many ← unless line Mistyped (as_many (length names) written)
    Ok (record { from = from; turns = turns })

  -- the collections of these names, each of the type and the kind of the one that enters
  abbrev pub repeat_gives : List (List ℕ) → List Operand → State → Checked (List ℕ)
  repeat_gives names from body = do
    given ← collections_behind line [] names body
    same ← unless line Mistyped (alike from given)
    Ok (operand_numbers given)

  -- room for so many turns of so many lets
  abbrev pub room_for : ℕ → ℕ → ℕ → Checked (Unit {0})
  room_for outside turns lets =
      unless line TooMany (nat_le (outside + turns * lets) most_collections)

  abbrev pub repeat_of : List (List ℕ) → Entry → ℕ → ℕ → State → Checked Repeat
  repeat_of names entry outside front body = do
    gives ← repeat_gives names entry.from body
    few ← room_for outside entry.turns (length (drop front body.nodes))
    Ok (repeat_from entry gives outside front body)

  -- behind what enters: the lets of the body, and what it gives
  abbrev pub after_entry : List TurnLet → List (List ℕ) → Entry → ℕ → State → Checked Repeated
  after_entry lets gives entry outside s = do
    body ← all_named lets s
    repeat ← repeat_of gives entry outside (length s.nodes) body
    Ok (record { repeat = repeat; behind = with_front outside body })

  -- the body of a repeat, behind what enters it
  abbrev pub after_head : List (List ℕ) → WrittenRepeat → Entry → State → Checked Repeated
  after_head names written entry s =
      after_entry written.lets written.gives entry (length s.nodes)
      (entering_state names written.entering entry.from s)

  abbrev pub repeated : List (List ℕ) → WrittenRepeat → State → Checked Repeated
  repeated names written s = do
    entry ← repeat_entry names written s
    after_head names written entry s

  abbrev pub rule_repeat : List (List ℕ) → WrittenRepeat → State → Checked State
  rule_repeat names written s = do
    it ← repeated names written s
    Ok (with_repeat it.repeat (length s.names) it.behind)

-- ---- statements

module _ (line : ℕ) where
  abbrev pub rule_output : List ℕ → List ℕ → State → Checked State
  rule_output name file s = do
    few ← room line 1 most_files s.outputs
    one ← operand_named line name s
    columns ← or_fault line NotFlat (columns_of one.type)
    new ← fresh line file s.outputs
    Ok (with_output file (record { name = name; reads = one.number; columns = columns }) s)

  abbrev pub rule : Form → State → Checked State
  rule (form.Type name type) s = rule_type line name type s
  rule (form.Input name type file) s = rule_input line name type file s
  rule (form.Function function) s = rule_function line function s
  rule (form.Let names by) s = rule_let line names by s
  rule (form.Repeat names written) s = rule_repeat line names written s
  rule (form.Output name file) s = rule_output name file s

-- what statements define in order, behind those that made this state
abbrev pub defined : List Statement → State → Checked State
defined [] s = Ok s
defined (statement ∷ rest) s = do
  next ← rule statement.line statement.form s
  defined rest (with_statement next)

-- the script that statements are, or their first fault
abbrev pub script_of : List Statement → Checked Script
script_of statements = do
  s ← defined statements empty_state
  some ← unless 0 NoOutput (nat_lt 0 (length s.outputs))
  Ok (script_from s)
