-- Accepted scripts put as many collections together as are written.
use Rattle.std.proofs.Common.{◌≡◌, ℕ, zero, suc, ◌+◌, ◌≤◌, ◌&&◌, nat_lt, Bool, true, false, List, [], ◌∷◌, ◌++◌, length}
use Rattle.std.proofs.Common.{map, take, drop, Ok, sym, ap, subst, arith, length-append}
use Rattle.std.specs.List.{AllByRecursion}
use Rattle.std.specs.Map.{keys_of}
use Rattle.std.proofs.lemmas.List.{length-map}
use Rattle.flume_types.specs.Columns.{columns_of, input_columns_of}
use Rattle.flume_types.specs.Equality.{type_eq}
use Rattle.flume_types.specs.declared.types.Ty.{Ty}
use Rattle.flume_value.proofs.EachLemmas.{Each-append}
use Rattle.exec_graph.specs.Wellformed.{most_nodes}
use Rattle.flume_grammar.specs.declared.tree.Type as tree
use Rattle.flume_grammar.specs.declared.tree.Combiner.{Combiner}
use Rattle.flume_grammar.specs.declared.tree.Form.{Form}
use Rattle.flume_grammar.specs.declared.tree.Form.TheVariants as form
use Rattle.flume_grammar.specs.declared.tree.Function.{Function as Written}
use Rattle.flume_grammar.specs.declared.tree.Operation.{Operation}
use Rattle.flume_grammar.specs.declared.tree.Operation.TheVariants as operation
use Rattle.flume_grammar.specs.declared.tree.Repeat.{Repeat as WrittenRepeat}
use Rattle.flume_grammar.specs.declared.tree.Statement.{Statement}
use Rattle.flume_grammar.specs.declared.tree.TurnLet.{TurnLet}
use Rattle.flume_grammar.specs.declared.fault.ScriptKind.TheVariants.{Mistyped, NoOutput, NotFlat}
use Rattle.combine_table.specs.declared.comb.Comb.{Comb}
use Rattle.written_types.specs.Answer.{Checked, ◌>>=◌, unless, or_fault}
use Rattle.written_types.specs.Named.{Named, fresh}
use Rattle.written_types.specs.Written.{whole_type}
use Rattle.graph_build.specs.of_script_program.Limits.{most_collections, most_files}
use Rattle.graph_build.specs.of_script_program.declared.made.Made.{Made}
use Rattle.graph_build.specs.of_script_program.declared.made.Made.TheVariants as made
use Rattle.graph_build.specs.of_script_program.Script.{Callee, Making, Node, Operand, Script, State, empty_state}
use Rattle.graph_build.specs.of_script_program.Script.{with_hidden, with_node, with_nodes}
use Rattle.graph_build.specs.of_script_program.Script.{with_statement}
use Rattle.direct_meaning.specs.of_script_rules.Arguments.{are_plain, sole, takes_both, takes_members, takes_objects}
use Rattle.direct_meaning.specs.of_script_rules.Operations as spec
use Rattle.direct_meaning.specs.of_script_rules.Repeats.{Repeat, copied_let, nodes_left, made_from_others, turn_gives}
use Rattle.direct_meaning.specs.of_script_rules.Repeats.{turn_nodes, turn_to, unrolled}
use Rattle.direct_meaning.specs.of_script_rules.Rules as rules_
use Rattle.direct_meaning.proofs.of_script_rules.CheckedLemmas.{both, ok-same}
use Rattle.direct_meaning.proofs.of_script_rules.StateLemmas.{nodes-hidden}
use Rattle.direct_meaning.proofs.of_script_rules.FoundLemmas.{before, found, own, ruled}
use Rattle.build_law.specs.Limits.{AreShort, HasShortFlattens, IsShort, IsShortForm, IsShortOperation}

-- no operation puts more together than are written
abbrev pub AllShort : List Making → Type 0
AllShort makings = AllByRecursion (λ making. IsShort making.made) makings

module _ (line : ℕ) (s : State) where
  outputs_short : (source function output : ℕ) (types : List Ty)
      → AllShort (spec.outputs_from source function output types)
  outputs_short source function output [] = tt
  outputs_short source function output (t ∷ types) =
      (tt, outputs_short source function (suc output) types)

  do_short : (source : Operand) (function : Callee) (makings : List Making)
      → spec.do_of line source function ≡ Ok makings → AllShort makings
  do_short source function makings e =
      let same = both (unless line Mistyped (takes_members source function.takes)) _ makings e in
      subst AllShort (ok-same _ makings same.then)
      (outputs_short source.number function.number 0 function.gives)

  done_short : (source function : List ℕ) (makings : List Making)
      → spec.done line source function s ≡ Ok makings → AllShort makings
  done_short source function makings e =
      let one = both (spec.operand_named line source s) _ makings e in
      let by = both (spec.callee line function s) _ makings one.then in
      do_short one.part by.part makings by.then

  group_short : (source : List ℕ) (making : Making) → spec.group_rule line source s ≡ Ok making
      → IsShort making.made
  group_short source making e =
      let one = both (spec.operand_named line source s) _ making e in
      let pair = both (spec.pair_of line one.part.type) _ making one.then in
      let members = both (spec.plain line one.part) _ making pair.then in
      subst (λ (n : Making). IsShort n.made) (ok-same _ making members.then) tt

  combine_short : (source : Operand) (by : Comb) (making : Making)
      → spec.combine_of line source by ≡ Ok making → IsShort making.made
  combine_short source by making e =
      let pair = both (spec.pair_of line source.type) _ making e in
      let member = both (spec.member_of line pair.part.value) _ making pair.then in
      let members = both (spec.plain line source) _ making member.then in
      let value =
      both (or_fault line Mistyped (spec.combined_type by member.part)) _ making members.then in
      subst (λ (n : Making). IsShort n.made) (ok-same _ making value.then) tt

  join_short : (left right_ : Operand) (making : Making)
      → spec.join_of line left right_ ≡ Ok making → IsShort making.made
  join_short left right_ making e =
      let lefts = both (spec.pair_of line left.type) _ making e in
      let rights = both (spec.pair_of line right_.type) _ making lefts.then in
      let same =
      both
      (unless line Mistyped (are_plain left right_ && type_eq lefts.part.key rights.part.key)) _
      making rights.then in
      subst (λ (n : Making). IsShort n.made) (ok-same _ making same.then) tt

  whole_short : (source : Operand) (by : Comb) (making : Making)
      → spec.combine_all_of line source by ≡ Ok making → IsShort making.made
  whole_short source by making e =
      let members = both (spec.plain line source) _ making e in
      let value =
      both (or_fault line Mistyped (spec.combined_type by source.type)) _ making members.then in
      subst (λ (n : Making). IsShort n.made) (ok-same _ making value.then) tt

  operate_short : (objects : List Operand) (function : Callee) (making : Making)
      → spec.operate_of line objects function ≡ Ok making → IsShort making.made
  operate_short objects function making e =
      let fit =
      both (unless line Mistyped (takes_objects objects function.takes)) _ making e in
      let value = both (or_fault line Mistyped (sole function.gives)) _ making fit.then in
      subst (λ (n : Making). IsShort n.made) (ok-same _ making value.then) tt

  beside_short : (source : Operand) (function : Callee) (object : Operand) (making : Making)
      → spec.do_with_of line source function object ≡ Ok making → IsShort making.made
  beside_short source function object making e =
      let fit =
      both (unless line Mistyped (takes_both source object function.takes)) _ making e in
      let member = both (or_fault line Mistyped (sole function.gives)) _ making fit.then in
      subst (λ (n : Making). IsShort n.made) (ok-same _ making member.then) tt

  as_many : (found : List Operand) (names : List (List ℕ)) (all : List Operand)
      → spec.collections_behind line found names s ≡ Ok all
      → length all ≡ length found + length names
  as_many found [] all e =
      let same : found ≡ all = cc in
      let sizes = ap length same in
      omega arith
  as_many found (name ∷ names) all e =
      let one = both (spec.operand_named line name s) _ all e in
      let rest = as_many (found ++ one.part ∷ []) names all one.then in
      let more = length-append found (one.part ∷ []) in
      omega arith

  flatten_short : (names : List (List ℕ)) (making : Making) → length names ≤ most_nodes
      → spec.flattened line names s ≡ Ok making → IsShort making.made
  flatten_short names making few e =
      let all = both (spec.collections_behind line [] names s) _ making e in
      let t = both (spec.one_type line all.part) _ making all.then in
      let many = as_many [] names all.part all.first in
      let same = length-map all.part (λ (source : Operand). source.number) in
      subst (λ (n : Making). IsShort n.made) (ok-same _ making t.then) (omega arith)

  -- what is made of a collection by a combiner
  comb_short : (of : Operand → Comb → Checked Making)
      → ((one : Operand) (by : Comb) (making : Making) → of one by ≡ Ok making
      → IsShort making.made)
      → (source : List ℕ) (combiner : Combiner) (making : Making)
      → (spec.operand_named line source s >>= (λ one. spec.comb_for line combiner >>= of one))
      ≡ Ok making
      → IsShort making.made
  comb_short of short source combiner making e =
      let one = both (spec.operand_named line source s) _ making e in
      let by = both (spec.comb_for line combiner) _ making one.then in
      short one.part by.part making by.then

  -- an operation that makes one collection
  alone_short : (one : Checked Making) (makings : List Making)
      → ((making : Making) → one ≡ Ok making → IsShort making.made)
      → spec.one_making one ≡ Ok makings → AllShort makings
  alone_short one makings h e =
      let it = both one _ makings e in
      subst AllShort (ok-same _ makings it.then) (h it.part it.first, tt)

  made_short : (by : Operation) (makings : List Making) → IsShortOperation by
      → spec.made_by line by s ≡ Ok makings → AllShort makings
  made_short (operation.Do source function) makings short e = done_short source function makings e
  made_short (operation.Group source) makings short e =
      alone_short (spec.group_rule line source s) makings (group_short source) e
  made_short (operation.Combine source combiner) makings short e =
      alone_short (spec.combine_rule line source combiner s) makings
      (comb_short (spec.combine_of line) combine_short source combiner) e
  made_short (operation.Flatten sources) makings short e =
      alone_short (spec.flattened line sources s) makings
      (λ making is. flatten_short sources making short is) e
  made_short (operation.Count source) makings short e =
      alone_short (spec.count_rule line source s) makings
      (λ making is.
      let one = both (spec.operand_named line source s) _ making is in
      let members = both (spec.plain line one.part) _ making one.then in
      subst (λ (n : Making). IsShort n.made) (ok-same _ making members.then) tt) e
  made_short (operation.Join left right_) makings short e =
      alone_short (spec.join_rule line left right_ s) makings
      (λ making is.
      let one = both (spec.operand_named line left s) _ making is in
      let other = both (spec.operand_named line right_ s) _ making one.then in
      join_short one.part other.part making other.then) e
  made_short (operation.Top digits source) makings short e =
      alone_short (spec.top_rule line digits source s) makings
      (λ making is.
      let one = both (spec.operand_named line source s) _ making is in
      let number = both (spec.top_number line digits) _ making one.then in
      let members = both (spec.plain line one.part) _ making number.then in
      subst (λ (n : Making). IsShort n.made) (ok-same _ making members.then) tt) e
  made_short (operation.CombineAll source combiner) makings short e =
      alone_short (spec.combine_all_rule line source combiner s) makings
      (comb_short (spec.combine_all_of line) whole_short source combiner) e
  made_short (operation.Operate objects function) makings short e =
      alone_short (spec.operate_rule line objects function s) makings
      (λ making is.
      let all = both (spec.collections_behind line [] objects s) _ making is in
      let by = both (spec.callee line function s) _ making all.then in
      operate_short all.part by.part making by.then) e
  made_short (operation.DoWith source function object) makings short e =
      alone_short (spec.do_with_rule line source function object s) makings
      (λ making is.
      let one = both (spec.operand_named line source s) _ making is in
      let by = both (spec.callee line function s) _ making one.then in
      let other = both (spec.operand_named line object s) _ making by.then in
      beside_short one.part by.part other.part making other.then) e

-- ---- statements

abbrev pub AllFine : State → Type 0
AllFine s = AllByRecursion (λ entry. IsShort entry.1.made) s.nodes

node_more : (s : State) (name : List ℕ) (making : Making) → AllFine s → IsShort making.made
    → AllFine (with_node name making s)
node_more s name making fine one =
    Each-append (λ (entry : List ℕ × Node). IsShort entry.1.made) s.nodes _ fine (one, tt)

nodes_more : (names : List (List ℕ)) (makings : List Making) (s : State) → AllFine s
    → AllShort makings → AllFine (with_nodes names makings s)
nodes_more [] makings s fine short = fine
nodes_more (name ∷ names) [] s fine short = fine
nodes_more (name ∷ names) (making ∷ makings) s fine short =
    nodes_more names makings (with_node name making s) (node_more s name making fine short.0)
    short.1

-- ---- the turns of a repeat

abbrev IsFine : List ℕ × Node → Type 0
IsFine entry = IsShort entry.1.made

again_short : (object : Bool) (number : ℕ) → IsShort (rules_.again object number)
again_short true number = tt
again_short false number = omega arith

entered_short : (from : List Operand) → AllShort (map rules_.entered from)
entered_short [] = tt
entered_short (one ∷ from) = (again_short one.is_object one.number, entered_short from)

fine_front : (n : ℕ) (nodes : Named Node) → AllByRecursion IsFine nodes
    → AllByRecursion IsFine (take n nodes)
fine_front zero nodes fine = tt
fine_front (suc n) [] fine = tt
fine_front (suc n) (entry ∷ nodes) fine = (fine.0, fine_front n nodes fine.1)

fine_behind : (n : ℕ) (nodes : Named Node) → AllByRecursion IsFine nodes
    → AllByRecursion IsFine (drop n nodes)
fine_behind zero nodes fine = fine
fine_behind (suc n) [] fine = tt
fine_behind (suc n) (entry ∷ nodes) fine = fine_behind n nodes fine.1

renumbered_short : (to : ℕ → ℕ) (how : Made) → IsShort how → IsShort (made_from_others to how)
renumbered_short to (made.Flatten sources) short =
    let same = length-map sources to in
    omega (arith, short, same)
renumbered_short to _ short = tt

copies_fine : (turn : ℕ) (to : ℕ → ℕ) (nodes : Named Node) → AllByRecursion IsFine nodes
    → AllByRecursion IsFine (map (copied_let turn to) nodes)
copies_fine turn to [] fine = tt
copies_fine turn to (entry ∷ nodes) fine =
    (renumbered_short to entry.1.made fine.0, copies_fine turn to nodes fine.1)

turns_fine : (repeat : Repeat) (left turn : ℕ) (entering : List ℕ) (start : ℕ)
    → AllByRecursion IsFine repeat.body
    → AllByRecursion IsFine (nodes_left repeat left turn entering start)
turns_fine repeat zero turn entering start fine = tt
turns_fine repeat (suc left) turn entering start fine =
    Each-append IsFine (turn_nodes repeat entering start turn) _
    (copies_fine turn (turn_to repeat entering start) repeat.body fine)
    (turns_fine repeat left (suc turn) (turn_gives repeat entering start)
    (start + length repeat.body) fine)

-- ---- rules

module _ (line : ℕ) (s after : State) (fine : AllFine s) where
  type_fine : (name : List ℕ) (type : tree.Type) → rules_.rule_type line name type s ≡ Ok after
      → AllFine after
  type_fine name type e =
      let new = both (fresh line name s.types) _ after e in
      let t = both (whole_type line type s.types) _ after new.then in
      subst AllFine (ok-same _ after t.then) fine

  input_fine : (name : List ℕ) (type : tree.Type) (file : List ℕ)
      → rules_.rule_input line name type file s ≡ Ok after → AllFine after
  input_fine name type file e =
      let few = both (rules_.room line 1 most_collections s.nodes) _ after e in
      let new = both (fresh line name s.names) _ after few.then in
      let t = both (whole_type line type s.types) _ after new.then in
      let columns = both (or_fault line NotFlat (input_columns_of t.part)) _ after t.then in
      subst AllFine (ok-same _ after columns.then) (node_more s name _ fine tt)

  function_fine : (function : Written) → rules_.rule_function line function s ≡ Ok after
      → AllFine after
  function_fine function e =
      subst AllFine (ruled line function s after e).is fine

  named_fine : (names : List (List ℕ)) (by : Operation) → IsShortOperation by
      → rules_.let_rule line names by s ≡ Ok after → AllFine after
  named_fine names by short e =
      let new = both (rules_.all_fresh line (keys_of s.names) names) _ after e in
      let makings = both (spec.made_by line by s) _ after new.then in
      let fit = both (rules_.all_fit line (length names) makings.part) _ after makings.then in
      subst AllFine (ok-same _ after fit.then)
      (nodes_more names makings.part s fine (made_short line s by makings.part short makings.first))

  output_fine : (name file : List ℕ) → rules_.rule_output line name file s ≡ Ok after
      → AllFine after
  output_fine name file e =
      let few = both (rules_.room line 1 most_files s.outputs) _ after e in
      let one = both (spec.operand_named line name s) _ after few.then in
      let columns = both (or_fault line NotFlat (columns_of one.part.type)) _ after one.then in
      let new = both (fresh line file s.outputs) _ after columns.then in
      subst AllFine (ok-same _ after new.then) fine

abbrev AllShortLets : List TurnLet → Type 0
AllShortLets lets = AllByRecursion (λ it. IsShortOperation it.by) lets

lets_fine : (lets : List TurnLet) (s after : State) → AllShortLets lets → AllFine s
    → rules_.all_named lets s ≡ Ok after → AllFine after
lets_fine [] s after short fine e = subst AllFine (ok-same s after e) fine
lets_fine (it ∷ lets) s after short fine e =
    let next = both (rules_.let_rule it.line it.names it.by s) _ after e in
    lets_fine lets next.part after short.1
    (named_fine it.line s next.part fine it.names it.by short.0 next.first) next.then

module _ (line : ℕ) (s after : State) (fine : AllFine s) where
  repeat_fine : (names : List (List ℕ)) (written : WrittenRepeat) → AllShortLets written.lets
      → rules_.rule_repeat line names written s ≡ Ok after → AllFine after
  repeat_fine names written short e =
      let it = both (rules_.repeated line names written s) _ after e in
      let has = found line names written s it.part it.first in
      let from = has.entry.from in
      let front = before line names written s has.entry in
      let repeat = own line names written s has.entry has.body has.gives in
      let hidden = with_hidden names s in
      let hidden_fine : AllFine hidden =
      subst (AllByRecursion IsFine) (sym (nodes-hidden names s)) fine in
      let body =
      lets_fine written.lets front has.body short
      (nodes_more written.entering (map rules_.entered from) hidden hidden_fine
      (entered_short from)) has.lets in
      let first = length s.names in
      subst AllFine (ok-same _ after it.then)
      (subst (λ (r : Repeat). AllFine (rules_.with_repeat r first it.part.behind)) has.repeat
      (subst (λ (behind : State). AllFine (rules_.with_repeat repeat first behind)) has.behind
      (Each-append IsFine (take (length s.nodes) has.body.nodes) (unrolled repeat)
      (fine_front (length s.nodes) has.body.nodes body)
      (turns_fine repeat repeat.turns 1 repeat.from repeat.outside
      (fine_behind (length front.nodes) has.body.nodes body)))))

  rule_fine : (form : Form) → IsShortForm form → rules_.rule line form s ≡ Ok after
      → AllFine after
  rule_fine (form.Type name type) short e = type_fine line s after fine name type e
  rule_fine (form.Input name type file) short e =
      input_fine line s after fine name type file e
  rule_fine (form.Function function) short e = function_fine line s after fine function e
  rule_fine (form.Let names by) short e =
      let few = both (rules_.room line (length names) most_collections s.nodes) _ after e in
      named_fine line s after fine names by short few.then
  rule_fine (form.Repeat names written) short e = repeat_fine names written short e
  rule_fine (form.Output name file) short e = output_fine line s after fine name file e

defined_fine : (statements : List Statement) (s after : State) → AreShort statements → AllFine s
    → rules_.defined statements s ≡ Ok after → AllFine after
defined_fine [] s after short fine e = subst AllFine (ok-same s after e) fine
defined_fine (statement ∷ rest) s after short fine e =
    let next = both (rules_.rule statement.line statement.form s) _ after e in
    defined_fine rest (with_statement next.part) after short.1
    (rule_fine statement.line s next.part fine statement.form short.0 next.first) next.then

-- what an accepted script keeps
pub record IsKept (script : Script) : Type 0 where
  pub short : HasShortFlattens script

pub accepted_kept : (statements : List Statement) (script : Script) → AreShort statements
    → rules_.script_of statements ≡ Ok script → IsKept script
accepted_kept statements script short e =
    let s = both (rules_.defined statements empty_state) _ script e in
    let some = both (unless 0 NoOutput (nat_lt 0 (length s.part.outputs))) _ script s.then in
    subst IsKept (ok-same _ script some.then)
    (record { short = defined_fine statements empty_state s.part short tt s.first })
