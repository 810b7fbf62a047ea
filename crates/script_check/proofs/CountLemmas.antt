-- No rule counts its statement: that is done behind it.
use Rattle.std.proofs.Common.{◌≡◌, ℕ, List, [], ◌∷◌, length, map, Ok, refl, ap, ◌∙◌}
use Rattle.std.specs.Map.{keys_of}
use Rattle.flume_types.specs.Columns.{columns_of, input_columns_of}
use Rattle.flume_grammar.specs.declared.tree.Type as tree
use Rattle.flume_grammar.specs.declared.tree.Form.{Form}
use Rattle.flume_grammar.specs.declared.tree.Form.TheVariants as form
use Rattle.flume_grammar.specs.declared.tree.Function.{Function as Written}
use Rattle.flume_grammar.specs.declared.tree.Operation.{Operation}
use Rattle.flume_grammar.specs.declared.tree.Repeat.{Repeat as WrittenRepeat}
use Rattle.flume_grammar.specs.declared.tree.TurnLet.{TurnLet}
use Rattle.flume_grammar.specs.declared.fault.ScriptKind.TheVariants.{NotFlat}
use Rattle.operation_check.specs.of_written_types.Answer.{or_fault}
use Rattle.operation_check.specs.of_written_types.Named.{fresh}
use Rattle.operation_check.specs.of_written_types.Written.{whole_type}
use Rattle.script_program.specs.Limits.{most_collections, most_files}
use Rattle.script_program.specs.declared.made.Standing.TheVariants.{Hidden}
use Rattle.script_program.specs.Script.{Making, Operand, State, with_hidden, with_standing}
use Rattle.script_program.specs.Script.{with_node, with_nodes}
use Rattle.script_rules.specs.Operations.{operand_named, made_by}
use Rattle.script_rules.specs.Rules as spec
use Rattle.script_rules.proofs.CheckedLemmas.{both, ok-same}
use Rattle.script_rules.proofs.FoundLemmas.{before, found, ruled}

nodes-count : (names : List (List ℕ)) (makings : List Making) (s : State)
    → s.statements ≡ (with_nodes names makings s).statements
nodes-count [] makings s = refl
nodes-count (name ∷ names) [] s = refl
nodes-count (name ∷ names) (making ∷ makings) s =
    nodes-count names makings (with_node name making s)

hidden-count : (names : List (List ℕ)) (s : State)
    → s.statements ≡ (with_hidden names s).statements
hidden-count [] s = refl
hidden-count (name ∷ names) s = hidden-count names (with_standing name Hidden s)

entry-count : (names entering : List (List ℕ)) (from : List Operand) (s : State)
    → s.statements ≡ (spec.entering_state names entering from s).statements
entry-count names entering from s =
    hidden-count names s
    ∙ nodes-count entering (map spec.entered from) (with_hidden names s)

abbrev count : State → ℕ
count s = s.statements

module _ (line : ℕ) (s after : State) where
  type-count : (name : List ℕ) (type : tree.Type) → spec.rule_type line name type s ≡ Ok after
      → count s ≡ count after
  type-count name type e =
      let new = both (fresh line name s.types) _ after e in
      let t = both (whole_type line type s.types) _ after new.then in
      ap count (ok-same _ after t.then)

  input-count : (name : List ℕ) (type : tree.Type) (file : List ℕ)
      → spec.rule_input line name type file s ≡ Ok after → count s ≡ count after
  input-count name type file e =
      let few = both (spec.room line 1 most_collections s.nodes) _ after e in
      let new = both (fresh line name s.names) _ after few.then in
      let t = both (whole_type line type s.types) _ after new.then in
      let columns = both (or_fault line NotFlat (input_columns_of t.part)) _ after t.then in
      ap count (ok-same _ after columns.then)

  function-count : (function : Written) → spec.rule_function line function s ≡ Ok after
      → count s ≡ count after
  function-count function e =
      ap count (ruled line function s after e).is

  named-count : (names : List (List ℕ)) (by : Operation) → spec.let_rule line names by s ≡ Ok after
      → count s ≡ count after
  named-count names by e =
      let new = both (spec.all_fresh line (keys_of s.names) names) _ after e in
      let makings = both (made_by line by s) _ after new.then in
      let fit = both (spec.all_fit line (length names) makings.part) _ after makings.then in
      nodes-count names makings.part s ∙ ap count (ok-same _ after fit.then)

  let-count : (names : List (List ℕ)) (by : Operation) → spec.rule_let line names by s ≡ Ok after
      → count s ≡ count after
  let-count names by e =
      let few = both (spec.room line (length names) most_collections s.nodes) _ after e in
      named-count names by few.then

  output-count : (name file : List ℕ) → spec.rule_output line name file s ≡ Ok after
      → count s ≡ count after
  output-count name file e =
      let few = both (spec.room line 1 most_files s.outputs) _ after e in
      let one = both (operand_named line name s) _ after few.then in
      let columns = both (or_fault line NotFlat (columns_of one.part.type)) _ after one.then in
      let new = both (fresh line file s.outputs) _ after columns.then in
      ap count (ok-same _ after new.then)

all-named-count : (lets : List TurnLet) (s after : State) → spec.all_named lets s ≡ Ok after
    → count s ≡ count after
all-named-count [] s after e = ap count (ok-same s after e)
all-named-count (it ∷ lets) s after e =
    let next = both (spec.let_rule it.line it.names it.by s) _ after e in
    named-count it.line s next.part it.names it.by next.first
    ∙ all-named-count lets next.part after next.then

module _ (line : ℕ) (s after : State) where
  repeat-count : (names : List (List ℕ)) (written : WrittenRepeat)
      → spec.rule_repeat line names written s ≡ Ok after → count s ≡ count after
  repeat-count names written e =
      let it = both (spec.repeated line names written s) _ after e in
      let has = found line names written s it.part it.first in
      entry-count names written.entering has.entry.from s
      ∙ all-named-count written.lets (before line names written s has.entry) has.body has.lets
      ∙ ap count has.behind
      ∙ ap count (ok-same _ after it.then)

  pub rule-count : (form : Form) → spec.rule line form s ≡ Ok after
      → s.statements ≡ after.statements
  rule-count (form.Type name type) e = type-count line s after name type e
  rule-count (form.Input name type file) e = input-count line s after name type file e
  rule-count (form.Function function) e = function-count line s after function e
  rule-count (form.Let names by) e = let-count line s after names by e
  rule-count (form.Repeat names written) e = repeat-count names written e
  rule-count (form.Output name file) e = output-count line s after name file e
