-- The files of an accepted script are named in UTF-8, where those of its statements are.
use Rattle.std.proofs.Common.{◌≡◌, ◌⊎◌, inl, inr, ℕ, zero, suc, ◌+◌, nat_lt, Bool, true, false}
use Rattle.std.proofs.Common.{List, [], ◌∷◌}
use Rattle.std.proofs.Common.{length, map, take, get_or, Ok, sym, subst}
use Rattle.std.specs.Prelude.{IsUtf8}
use Rattle.std.specs.List.{All, AllByRecursion}
use Rattle.std.specs.Map.{keys_of}
use Rattle.std.proofs.lemmas.List.Elements.{All-append, All-drop, All-map, All-nil, All-push}
use Rattle.std.proofs.lemmas.List.Elements.{All-take, recursion_from_All}
use Rattle.flume_types.specs.Columns.{columns_of, input_columns_of}
use Rattle.flume_types.specs.declared.types.Ty.{Ty}
use Rattle.flume_grammar.specs.Utf8.{IsUtf8Named}
use Rattle.flume_grammar.specs.declared.tree.Type as tree
use Rattle.flume_grammar.specs.declared.tree.Form.{Form}
use Rattle.flume_grammar.specs.declared.tree.Form.TheVariants as form
use Rattle.flume_grammar.specs.declared.tree.Function.{Function as WrittenFunction}
use Rattle.flume_grammar.specs.declared.tree.Operation.{Operation}
use Rattle.flume_grammar.specs.declared.tree.Repeat.{Repeat as WrittenRepeat}
use Rattle.flume_grammar.specs.declared.tree.Statement.{Statement}
use Rattle.flume_grammar.specs.declared.tree.TurnLet.{TurnLet}
use Rattle.flume_grammar.specs.declared.fault.ScriptKind.TheVariants.{NotFlat, NoOutput}
use Rattle.written_types.specs.Answer.{or_fault, unless}
use Rattle.written_types.specs.Named.{Named, fresh}
use Rattle.written_types.specs.Written.{whole_type}
use Rattle.script_program.specs.of_body_check.Bodies.{body_of}
use Rattle.script_program.specs.Limits.{most_collections, most_files}
use Rattle.script_program.specs.declared.made.Made.{Made}
use Rattle.script_program.specs.declared.made.Made.TheVariants as made
use Rattle.script_program.specs.declared.made.Output.{Output}
use Rattle.script_program.specs.declared.made.Standing.TheVariants.{Hidden}
use Rattle.script_program.specs.Script.{Function, Making, Node, Operand, Script, State, empty_state}
use Rattle.script_program.specs.Script.{script_from, with_hidden, with_standing, with_node}
use Rattle.script_program.specs.Script.{with_nodes, with_statement}
use Rattle.build_law.specs.of_script_rules.Operations as op
use Rattle.build_law.specs.of_script_rules.Repeats.{Repeat, copied_let, nodes_left, made_from_others, turn_gives}
use Rattle.build_law.specs.of_script_rules.Repeats.{turn_nodes, turn_to, unrolled}
use Rattle.build_law.specs.of_script_rules.Rules as spec
use Rattle.build_law.proofs.of_script_rules.CheckedLemmas.{both, ok-same}
use Rattle.build_law.proofs.of_script_rules.FoundLemmas.{before, found, own}
use Rattle.build_law.proofs.of_script_laws.MakingLemmas.{IsOther, IsAlone, AreOutputs}
use Rattle.build_law.proofs.of_script_laws.OperationLemmas.{made-is}
use Rattle.script_loading.specs.Ready.{IsNamedMade}

abbrev IsNamedNode : List ℕ × Node → Type 0
IsNamedNode entry = IsNamedMade entry.1.made

abbrev IsNamedOutput : List ℕ × Output → Type 0
IsNamedOutput entry = IsUtf8 entry.0

-- what is defined so far
record AreNamed (s : State) : Type 0 where
  pub reads : All IsNamedNode s.nodes
  pub writes : All IsNamedOutput s.outputs

-- ---- operations read no file

abbrev IsNamedMaking : Making → Type 0
IsNamedMaking making = IsNamedMade making.made

abbrev AllNamed : List Making → Type 0
AllNamed makings = AllByRecursion IsNamedMaking makings

other-named : (how : Made) → IsOther how → IsNamedMade how
other-named (made.Input file columns) other = absurd other
other-named (made.Do source function output) other = tt
other-named (made.Group source) other = tt
other-named (made.Combine source by) other = tt
other-named (made.Flatten sources) other = tt
other-named (made.Count source) other = tt
other-named (made.Join left right) other = tt
other-named (made.Top number source) other = tt
other-named (made.CombineAll source by) other = tt
other-named (made.Operate objects function) other = tt
other-named (made.DoWith source function object) other = tt
other-named (made.Saved is_object call) other = tt

outputs-named : (source called output : ℕ) (types : List Ty)
    → AllNamed (op.outputs_from source called output types)
outputs-named source called output [] = tt
outputs-named source called output (t ∷ types) =
    (tt, outputs-named source called (suc output) types)

all-named : (functions : Named Function) (nodes : Named Node) (makings : List Making)
    → IsAlone functions nodes makings ⊎ AreOutputs functions nodes makings → AllNamed makings
all-named functions nodes makings (inl alone) =
    subst AllNamed (sym alone.are) (other-named alone.making.made alone.other, tt)
all-named functions nodes makings (inr call) =
    subst AllNamed (sym call.are)
    (outputs-named call.source call.called 0 call.function.signature.gives)

nodes-named : (names : List (List ℕ)) (makings : List Making) (s : State) → AreNamed s
    → AllNamed makings → AreNamed (with_nodes names makings s)
nodes-named [] makings s named all = named
nodes-named (name ∷ names) [] s named all = named
nodes-named (name ∷ names) (making ∷ makings) s named all =
    nodes-named names makings (with_node name making s)
    (record { reads = All-push IsNamedNode s.nodes _ named.reads all.0; writes = named.writes })
    all.1

-- ---- the lets of a body, and its turns

abbrev AllNodes : Named Node → Type 0
AllNodes nodes = All IsNamedNode nodes

again-named : (is_object : Bool) (number : ℕ) → IsNamedMade (spec.again is_object number)
again-named true number = tt
again-named false number = tt

entered-named : (from : List Operand) → AllNamed (map spec.entered from)
entered-named [] = tt
entered-named (one ∷ from) = (again-named one.is_object one.number, entered-named from)

hidden-named : (names : List (List ℕ)) (s : State) → AreNamed s → AreNamed (with_hidden names s)
hidden-named [] s named = named
hidden-named (name ∷ names) s named =
    hidden-named names (with_standing name Hidden s)
    (record { reads = named.reads; writes = named.writes })

renumbered-named : (to : ℕ → ℕ) (how : Made) → IsNamedMade how
    → IsNamedMade (made_from_others to how)
renumbered-named to (made.Input file columns) named = named
renumbered-named to (made.Do source function output) named = tt
renumbered-named to (made.Group source) named = tt
renumbered-named to (made.Combine source by) named = tt
renumbered-named to (made.Flatten sources) named = tt
renumbered-named to (made.Count source) named = tt
renumbered-named to (made.Join left right) named = tt
renumbered-named to (made.Top number source) named = tt
renumbered-named to (made.CombineAll source by) named = tt
renumbered-named to (made.Operate objects function) named = tt
renumbered-named to (made.DoWith source function object) named = tt
renumbered-named to (made.Saved is_object call) named = tt

turns-named : (repeat : Repeat) (left turn : ℕ) (entering : List ℕ) (start : ℕ)
    → AllNodes repeat.body → AllNodes (nodes_left repeat left turn entering start)
turns-named repeat zero turn entering start named = All-nil IsNamedNode
turns-named repeat (suc left) turn entering start named =
    let to = turn_to repeat entering start in
    All-append IsNamedNode (turn_nodes repeat entering start turn) _
    (All-map IsNamedNode (copied_let turn to) repeat.body
    (λ k entry in_. renumbered-named to (get_or repeat.body k entry).1.made (named k entry in_)))
    (turns-named repeat left (suc turn) (turn_gives repeat entering start)
    (start + length repeat.body) named)

-- ---- statements

module _ (line : ℕ) (s after : State) (named : AreNamed s) where
  input-named : (name : List ℕ) (type : tree.Type) (file : List ℕ) → IsUtf8 file
      → spec.rule_input line name type file s ≡ Ok after → AreNamed after
  input-named name type file utf8 e =
      let few = both (spec.room line 1 most_collections s.nodes) _ after e in
      let new = both (fresh line name s.names) _ after few.then in
      let t = both (whole_type line type s.types) _ after new.then in
      let columns = both (or_fault line NotFlat (input_columns_of t.part)) _ after t.then in
      subst AreNamed (ok-same _ after columns.then) (record {
        reads = All-push IsNamedNode s.nodes _ named.reads utf8;
        writes = named.writes;
      })

  function-named : (function : WrittenFunction) → spec.rule_function line function s ≡ Ok after
      → AreNamed after
  function-named function e =
      let signature = both (spec.signature_of line function s) _ after e in
      let body =
      both
      (body_of s.types function.argument signature.part.takes signature.part.gives function.body) _
      after signature.then in
      subst AreNamed (ok-same _ after body.then)
      (record { reads = named.reads; writes = named.writes })

  let-named : (names : List (List ℕ)) (by : Operation)
      → spec.let_rule line names by s ≡ Ok after → AreNamed after
  let-named names by e =
      let new = both (spec.all_fresh line (keys_of s.names) names) _ after e in
      let makings = both (op.made_by line by s) _ after new.then in
      let fit = both (spec.all_fit line (length names) makings.part) _ after makings.then in
      subst AreNamed (ok-same _ after fit.then)
      (nodes-named names makings.part s named
      (all-named s.functions s.nodes makings.part (made-is line s by makings.part makings.first)))

  output-named : (name file : List ℕ) → IsUtf8 file
      → spec.rule_output line name file s ≡ Ok after → AreNamed after
  output-named name file utf8 e =
      let few = both (spec.room line 1 most_files s.outputs) _ after e in
      let one = both (op.operand_named line name s) _ after few.then in
      let columns = both (or_fault line NotFlat (columns_of one.part.type)) _ after one.then in
      let new = both (fresh line file s.outputs) _ after columns.then in
      subst AreNamed (ok-same _ after new.then) (record {
        reads = named.reads;
        writes = All-push IsNamedOutput s.outputs _ named.writes utf8;
      })

  type-named : (name : List ℕ) (type : tree.Type) → spec.rule_type line name type s ≡ Ok after
      → AreNamed after
  type-named name type e =
      let new = both (fresh line name s.types) _ after e in
      let t = both (whole_type line type s.types) _ after new.then in
      subst AreNamed (ok-same _ after t.then)
      (record { reads = named.reads; writes = named.writes })

lets-named : (lets : List TurnLet) (s after : State) → AreNamed s
    → spec.all_named lets s ≡ Ok after → AreNamed after
lets-named [] s after named e = subst AreNamed (ok-same s after e) named
lets-named (it ∷ lets) s after named e =
    let next = both (spec.let_rule it.line it.names it.by s) _ after e in
    lets-named lets next.part after
    (let-named it.line s next.part named it.names it.by next.first) next.then

module _ (line : ℕ) (s after : State) (named : AreNamed s) where
  repeat-named : (names : List (List ℕ)) (written : WrittenRepeat)
      → spec.rule_repeat line names written s ≡ Ok after → AreNamed after
  repeat-named names written e =
      let it = both (spec.repeated line names written s) _ after e in
      let has = found line names written s it.part it.first in
      let from = has.entry.from in
      let front = before line names written s has.entry in
      let repeat = own line names written s has.entry has.body has.gives in
      let body =
      lets-named written.lets front has.body
      (nodes-named written.entering (map spec.entered from) (with_hidden names s)
      (hidden-named names s named) (entered-named from)) has.lets in
      let first = length s.names in
      subst AreNamed (ok-same _ after it.then)
      (subst (λ (r : Repeat). AreNamed (spec.with_repeat r first it.part.behind)) has.repeat
      (subst (λ (behind : State). AreNamed (spec.with_repeat repeat first behind)) has.behind
      (record {
        reads =
            All-append IsNamedNode (take (length s.nodes) has.body.nodes) (unrolled repeat)
            (All-take IsNamedNode (length s.nodes) has.body.nodes body.reads)
            (turns-named repeat repeat.turns 1 repeat.from repeat.outside
            (All-drop IsNamedNode (length front.nodes) has.body.nodes body.reads));
        writes = body.writes;
      })))

  rule-named : (form : Form) → IsUtf8Named form → spec.rule line form s ≡ Ok after
      → AreNamed after
  rule-named (form.Type name type) utf8 e = type-named line s after named name type e
  rule-named (form.Input name type file) utf8 e =
      input-named line s after named name type file utf8 e
  rule-named (form.Function function) utf8 e = function-named line s after named function e
  rule-named (form.Let names by) utf8 e =
      let few = both (spec.room line (length names) most_collections s.nodes) _ after e in
      let-named line s after named names by few.then
  rule-named (form.Repeat names written) utf8 e = repeat-named names written e
  rule-named (form.Output name file) utf8 e = output-named line s after named name file utf8 e

defined-named : (statements : List Statement) (s after : State) → AreNamed s
    → AllByRecursion (λ (s : Statement). IsUtf8Named s.form) statements
    → spec.defined statements s ≡ Ok after → AreNamed after
defined-named [] s after named utf8 e = subst AreNamed (ok-same s after e) named
defined-named (statement ∷ rest) s after named utf8 e =
    let next = both (spec.rule statement.line statement.form s) _ after e in
    let kept = rule-named statement.line s next.part named statement.form utf8.0 next.first in
    defined-named rest (with_statement next.part) after
    (record { reads = kept.reads; writes = kept.writes }) utf8.1 next.then

nothing-named : AreNamed empty_state
nothing-named = record { reads = All-nil IsNamedNode; writes = All-nil IsNamedOutput }

-- the files of the script are named so
pub record HasNames (script : Script) : Type 0 where
  pub reads : All IsNamedNode script.nodes
  pub writes : All IsNamedOutput script.outputs

from-state : (s : State) → AreNamed s → HasNames (script_from s)
from-state s named = record { reads = named.reads; writes = named.writes }

pub script_named : (statements : List Statement) (script : Script)
    → All (λ (s : Statement). IsUtf8Named s.form) statements
    → spec.script_of statements ≡ Ok script → HasNames script
script_named statements script utf8 e =
    let s = both (spec.defined statements empty_state) _ script e in
    let some = both (unless 0 NoOutput (nat_lt 0 (length s.part.outputs))) _ script s.then in
    subst HasNames (ok-same _ script some.then)
    (from-state s.part (defined-named statements empty_state s.part nothing-named
    (recursion_from_All (λ (s : Statement). IsUtf8Named s.form) statements utf8) s.first))
