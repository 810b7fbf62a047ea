-- Each script keeps all rules or has a first fault with its line.
use Rattle.std.proofs.Common.{◌*◌, ◌==◌, ◌&&◌, ℕ, ◌+◌, not, nat_le, nat_lt, Option, Some, None}
use Rattle.std.proofs.Common.{List, [], ◌∷◌, ◌++◌, drop, length}
use Rattle.std.specs.List.{list_any}
use Rattle.std.specs.Map.{keys_of}
use Rattle.std.specs.Str.{bytes_eq}
use Rattle.combine_table.specs.declared.comb.Comb.{Comb}
use Rattle.expression_check.specs.Numbers.{number_within}
use Rattle.flume_types.specs.Columns.{columns_of, input_columns_of}
use Rattle.flume_types.specs.Equality.{type_eq}
use Rattle.flume_types.specs.declared.types.Ty.{Ty, out-Ty}
use Rattle.flume_grammar.specs.declared.fault.ScriptKind.TheVariants.{BadNumber, Mistyped}
use Rattle.flume_grammar.specs.declared.fault.ScriptKind.TheVariants.{NoOutput, NotFlat, NotTable}
use Rattle.flume_grammar.specs.declared.fault.ScriptKind.TheVariants.{TooMany, Twice, Unknown}
use Rattle.flume_grammar.specs.declared.tree.Combiner.{Combiner}
use Rattle.flume_grammar.specs.declared.tree.Combiner.TheVariants as combiner
use Rattle.flume_grammar.specs.declared.tree.Form.{Form}
use Rattle.flume_grammar.specs.declared.tree.Form.TheVariants as form
use Rattle.flume_grammar.specs.declared.tree.Function.{Function as Written}
use Rattle.flume_grammar.specs.declared.tree.Operation.{Operation}
use Rattle.flume_grammar.specs.declared.tree.Operation.TheVariants as operation
use Rattle.flume_grammar.specs.declared.tree.Repeat.{Repeat as WrittenRepeat}
use Rattle.flume_grammar.specs.declared.tree.Statement.{Statement}
use Rattle.flume_grammar.specs.declared.tree.TurnLet.{TurnLet}
use Rattle.flume_grammar.specs.declared.tree.Type as tree
use Rattle.script_program.specs.of_body_check.Bodies.{body_of}
use Rattle.build_law.specs.of_script_rules.Arguments.{are_plain, sole, takes_both, takes_members}
use Rattle.build_law.specs.of_script_rules.Arguments.{takes_objects}
use Rattle.build_law.specs.of_script_rules.Operations as spec
use Rattle.build_law.specs.of_script_rules.Rules as rules
use Rattle.script_program.specs.Limits.{most_collections, most_files, most_functions, most_outputs}
use Rattle.script_program.specs.Script.{Callee, Making, Operand, State, empty_state}
use Rattle.script_program.specs.Script.{find_function, find_node, with_hidden, with_statement}
use Rattle.written_types.specs.Answer.{Checked}
use Rattle.written_types.specs.Named.{Named, fresh}
use Rattle.written_types.specs.Written.{shallow, whole_type}
use Rattle.script_loading.proofs.ToldBodies.{told-body, told-fresh}
use Rattle.script_loading.proofs.ToldLemmas.{IsTold, told-then, told-test, told-option}
use Rattle.script_loading.proofs.ToldLemmas.{told-found, told-kept}
use Rattle.script_loading.proofs.ToldLemmas.{told-shallow, told-whole}

module _ (line : ℕ) where
  -- ---- operations

  told-collection : (name : List ℕ) (s : State) → IsTold (spec.operand_named line name s)
  told-collection name s = told-option line Unknown (find_node name s)

  told-behind : (found : List Operand) (names : List (List ℕ)) (s : State)
      → IsTold (spec.collections_behind line found names s)
  told-behind found [] s = tt
  told-behind found (name ∷ names) s =
      told-then (spec.operand_named line name s) _ (told-collection name s)
      (λ one. told-behind (found ++ one ∷ []) names s)

  told-comb : (by : Combiner) → IsTold (spec.comb_for line by)
  told-comb combiner.Sum = tt
  told-comb combiner.Count = tt
  told-comb combiner.Min = tt
  told-comb combiner.Max = tt
  told-comb combiner.All = tt
  told-comb combiner.Any = tt
  told-comb (combiner.Top digits) =
      told-found line BadNumber (number_within 1 1000 digits) _ (λ number. tt)
  told-comb combiner.Mean = tt
  told-comb combiner.Distinct = tt

  told-pair : (t : Ty) → IsTold (spec.pair_of line t)
  told-pair t = told-option line NotTable (spec.pair_in (out-Ty t))

  told-group : (source : Operand) → IsTold (spec.group_making line source)
  told-group source =
      told-then (spec.pair_of line source.type) _ (told-pair source.type)
      (λ pair. told-kept line Mistyped (not source.is_object) _ (λ plain. tt))

  told-combine : (source : Operand) (by : Comb) → IsTold (spec.combine_of line source by)
  told-combine source by =
      told-then (spec.pair_of line source.type) _ (told-pair source.type)
      (λ pair. told-found line NotTable (spec.member_type_in (out-Ty pair.value)) _
      (λ member. told-kept line Mistyped (not source.is_object) _
      (λ plain. told-found line Mistyped (spec.combined_type by member) _ (λ value. tt))))

  told-one : (sources : List Operand) → IsTold (spec.one_type line sources)
  told-one [] = tt
  told-one (first ∷ others) =
      told-kept line Mistyped (spec.all_same first.type (first ∷ others)) _ (λ same. tt)

  told-flatten : (sources : List Operand) → IsTold (spec.flatten_of line sources)
  told-flatten sources =
      told-then (spec.one_type line sources) _ (told-one sources) (λ t. tt)

  told-join : (left right_ : Operand) → IsTold (spec.join_of line left right_)
  told-join left right_ =
      told-then (spec.pair_of line left.type) _ (told-pair left.type)
      (λ lefts. told-then (spec.pair_of line right_.type) _ (told-pair right_.type)
      (λ rights. told-kept line Mistyped (are_plain left right_ && type_eq lefts.key rights.key) _
      (λ same. tt)))

  told-do : (source : Operand) (function : Callee) → IsTold (spec.do_of line source function)
  told-do source function =
      told-kept line Mistyped (takes_members source function.takes) _ (λ same. tt)

  told-whole-of : (source : Operand) (by : Comb) → IsTold (spec.combine_all_of line source by)
  told-whole-of source by =
      told-kept line Mistyped (not source.is_object) _
      (λ plain. told-found line Mistyped (spec.combined_type by source.type) _ (λ value. tt))

  told-operate : (objects : List Operand) (function : Callee)
      → IsTold (spec.operate_of line objects function)
  told-operate objects function =
      told-kept line Mistyped (takes_objects objects function.takes) _
      (λ fit. told-found line Mistyped (sole function.gives) _ (λ value. tt))

  told-do-with : (source : Operand) (function : Callee) (object : Operand)
      → IsTold (spec.do_with_of line source function object)
  told-do-with source function object =
      told-kept line Mistyped (takes_both source object function.takes) _
      (λ fit. told-found line Mistyped (sole function.gives) _ (λ member. tt))

  told-alone : (r : Checked Making) → IsTold r → IsTold (spec.one_making r)
  told-alone r told = told-then r _ told (λ one. tt)

  told-made : (by : Operation) (s : State) → IsTold (spec.made_by line by s)
  told-made (operation.Do source function) s =
      told-then (spec.operand_named line source s) _ (told-collection source s)
      (λ one. told-found line Unknown (find_function function s.functions) _
      (λ by. told-do one by))
  told-made (operation.Group source) s =
      told-alone (spec.group_rule line source s)
      (told-then (spec.operand_named line source s) _ (told-collection source s)
      (λ one. told-group one))
  told-made (operation.Combine source by) s =
      told-alone (spec.combine_rule line source by s)
      (told-then (spec.operand_named line source s) _ (told-collection source s)
      (λ one. told-then (spec.comb_for line by) _ (told-comb by)
      (λ comb. told-combine one comb)))
  told-made (operation.Flatten sources) s =
      told-alone (spec.flattened line sources s)
      (told-then (spec.collections_behind line [] sources s) _ (told-behind [] sources s)
      (λ all. told-flatten all))
  told-made (operation.Count source) s =
      told-alone (spec.count_rule line source s)
      (told-then (spec.operand_named line source s) _ (told-collection source s)
      (λ one. told-kept line Mistyped (not one.is_object) _ (λ plain. tt)))
  told-made (operation.Join left right_) s =
      told-alone (spec.join_rule line left right_ s)
      (told-then (spec.operand_named line left s) _ (told-collection left s)
      (λ one. told-then (spec.operand_named line right_ s) _ (told-collection right_ s)
      (λ other. told-join one other)))
  told-made (operation.Top digits source) s =
      told-alone (spec.top_rule line digits source s)
      (told-then (spec.operand_named line source s) _ (told-collection source s)
      (λ one. told-found line BadNumber (number_within 1 1000 digits) _
      (λ number. told-kept line Mistyped (not one.is_object) _ (λ plain. tt))))
  told-made (operation.CombineAll source by) s =
      told-alone (spec.combine_all_rule line source by s)
      (told-then (spec.operand_named line source s) _ (told-collection source s)
      (λ one. told-then (spec.comb_for line by) _ (told-comb by)
      (λ comb. told-whole-of one comb)))
  told-made (operation.Operate objects function) s =
      told-alone (spec.operate_rule line objects function s)
      (told-then (spec.collections_behind line [] objects s) _ (told-behind [] objects s)
      (λ all. told-found line Unknown (find_function function s.functions) _
      (λ by. told-operate all by)))
  told-made (operation.DoWith source function object) s =
      told-alone (spec.do_with_rule line source function object s)
      (told-then (spec.operand_named line source s) _ (told-collection source s)
      (λ one. told-found line Unknown (find_function function s.functions) _
      (λ by. told-then (spec.operand_named line object s) _ (told-collection object s)
      (λ other. told-do-with one by other))))

  -- ---- statements

  told-types : (found : List Ty) (types : List tree.Type) (known : Named Ty)
      → IsTold (rules.types_behind line found types known)
  told-types found [] known = tt
  told-types found (type ∷ types) known =
      told-then (rules.type_behind line found type known) _
      (told-then (whole_type line type known) _ (told-whole line type known) (λ t. tt))
      (λ more. told-types more types known)

  told-given : (function : Written) (known : Named Ty)
      → IsTold (rules.types_given line function known)
  told-given function known =
      told-then (rules.types_behind line [] (function.gives ∷ function.more) known) _
      (told-types [] (function.gives ∷ function.more) known)
      (λ types. told-kept line TooMany (nat_le (length types) most_outputs) _ (λ few. tt))

  told-scale : (digits : Option (List ℕ)) → IsTold (rules.scale_written line digits)
  told-scale None = tt
  told-scale (Some digits) = told-option line BadNumber (number_within 0 10000 digits)

  told-room : {A : Type 0} (more limit : ℕ) (names : Named A)
      → IsTold (rules.room line more limit names)
  told-room more limit names = told-test line TooMany (nat_le (length names + more) limit)

  told-signature : (function : Written) (s : State) → IsTold (rules.signature_of line function s)
  told-signature function s =
      told-then (rules.room line 1 most_functions s.functions) _
      (told-room 1 most_functions s.functions)
      (λ few. told-then (fresh line function.name s.functions) _
      (told-fresh line function.name s.functions)
      (λ new. told-then (whole_type line function.takes s.types) _
      (told-whole line function.takes s.types)
      (λ takes. told-then (rules.types_given line function s.types) _ (told-given function s.types)
      (λ gives. told-then (rules.scale_written line function.scale) _ (told-scale function.scale)
      (λ scale. tt)))))

  told-names : (taken names : List (List ℕ)) → IsTold (rules.all_fresh line taken names)
  told-names taken [] = tt
  told-names taken (name ∷ names) =
      told-kept line Twice (not (list_any (bytes_eq name) taken)) _
      (λ new. told-names (taken ++ name ∷ []) names)

  told-depths : (makings : List Making) → IsTold (rules.all_shallow line makings)
  told-depths [] = tt
  told-depths (making ∷ makings) =
      told-then (shallow line making.type) _ (told-shallow line making.type)
      (λ low. told-depths makings)

  told-fit : (count : ℕ) (makings : List Making) → IsTold (rules.all_fit line count makings)
  told-fit count makings =
      told-kept line Mistyped (length makings == count) _ (λ same. told-depths makings)

  told-type : (name : List ℕ) (type : tree.Type) (s : State)
      → IsTold (rules.rule_type line name type s)
  told-type name type s =
      told-then (fresh line name s.types) _ (told-fresh line name s.types)
      (λ new. told-then (whole_type line type s.types) _ (told-whole line type s.types)
      (λ t. tt))

  told-input : (name : List ℕ) (type : tree.Type) (file : List ℕ) (s : State)
      → IsTold (rules.rule_input line name type file s)
  told-input name type file s =
      told-then (rules.room line 1 most_collections s.nodes) _
      (told-room 1 most_collections s.nodes)
      (λ few. told-then (fresh line name s.names) _ (told-fresh line name s.names)
      (λ new. told-then (whole_type line type s.types) _ (told-whole line type s.types)
      (λ t. told-found line NotFlat (input_columns_of t) _ (λ columns. tt))))

  told-function : (function : Written) (s : State) → IsTold (rules.rule_function line function s)
  told-function function s =
      told-then (rules.signature_of line function s) _ (told-signature function s)
      (λ it. told-then (body_of s.types function.argument it.takes it.gives function.body) _
      (told-body s.types function.argument it.takes it.gives function.body) (λ body. tt))

  told-named : (names : List (List ℕ)) (by : Operation) (s : State)
      → IsTold (rules.let_rule line names by s)
  told-named names by s =
      told-then (rules.all_fresh line (keys_of s.names) names) _
      (told-names (keys_of s.names) names)
      (λ new. told-then (spec.made_by line by s) _ (told-made by s)
      (λ makings. told-then (rules.all_fit line (length names) makings) _
      (told-fit (length names) makings) (λ fit. tt)))

  told-let : (names : List (List ℕ)) (by : Operation) (s : State)
      → IsTold (rules.rule_let line names by s)
  told-let names by s =
      told-then (rules.room line (length names) most_collections s.nodes) _
      (told-room (length names) most_collections s.nodes)
      (λ few. told-named names by s)

  told-output : (name file : List ℕ) (s : State) → IsTold (rules.rule_output line name file s)
  told-output name file s =
      told-then (rules.room line 1 most_files s.outputs) _ (told-room 1 most_files s.outputs)
      (λ few. told-then (spec.operand_named line name s) _ (told-collection name s)
      (λ one. told-found line NotFlat (columns_of one.type) _
      (λ columns. told-then (fresh line file s.outputs) _ (told-fresh line file s.outputs)
      (λ new. tt))))

-- ---- repeats

told-lets : (lets : List TurnLet) (s : State) → IsTold (rules.all_named lets s)
told-lets [] s = tt
told-lets (it ∷ lets) s =
    told-then (rules.let_rule it.line it.names it.by s) _ (told-named it.line it.names it.by s)
    (λ next. told-lets lets next)

module _ (line : ℕ) where
  told-entry : (names : List (List ℕ)) (written : WrittenRepeat) (s : State)
      → IsTold (rules.repeat_entry line names written s)
  told-entry names written s =
      let hidden = with_hidden names s in
      told-then (rules.all_fresh line (keys_of s.names) names) _
      (told-names line (keys_of s.names) names)
      (λ new. told-then (rules.all_fresh line (keys_of hidden.names) written.entering) _
      (told-names line (keys_of hidden.names) written.entering)
      (λ free. told-then (spec.collections_behind line [] written.from hidden) _
      (told-behind line [] written.from hidden)
      (λ from. told-found line BadNumber (number_within 1 256 written.turns) _
      (λ turns. told-kept line Mistyped (rules.as_many (length names) written) _
      (λ many. tt)))))

  told-gives : (names : List (List ℕ)) (from : List Operand) (body : State)
      → IsTold (rules.repeat_gives line names from body)
  told-gives names from body =
      told-then (spec.collections_behind line [] names body) _ (told-behind line [] names body)
      (λ given. told-kept line Mistyped (rules.alike from given) _ (λ same. tt))

  told-repeat-of : (names : List (List ℕ)) (entry : rules.Entry) (outside front : ℕ) (body : State)
      → IsTold (rules.repeat_of line names entry outside front body)
  told-repeat-of names entry outside front body =
      told-then (rules.repeat_gives line names entry.from body) _ (told-gives names entry.from body)
      (λ gives. told-then
      (rules.room_for line outside entry.turns (length (drop front body.nodes))) _
      (told-test line TooMany
      (nat_le (outside + entry.turns * length (drop front body.nodes)) most_collections))
      (λ few. tt))

  told-repeat : (names : List (List ℕ)) (written : WrittenRepeat) (s : State)
      → IsTold (rules.rule_repeat line names written s)
  told-repeat names written s =
      told-then (rules.repeated line names written s) _
      (told-then (rules.repeat_entry line names written s) _ (told-entry names written s)
      (λ entry. let before = rules.entering_state names written.entering entry.from s in
      told-then (rules.all_named written.lets before) _ (told-lets written.lets before)
      (λ body. told-then
      (rules.repeat_of line written.gives entry (length s.nodes) (length before.nodes) body) _
      (told-repeat-of written.gives entry (length s.nodes) (length before.nodes) body)
      (λ repeat. tt))))
      (λ it. tt)

  told-rule : (it : Form) (s : State) → IsTold (rules.rule line it s)
  told-rule (form.Type name type) s = told-type line name type s
  told-rule (form.Input name type file) s = told-input line name type file s
  told-rule (form.Function function) s = told-function line function s
  told-rule (form.Let names by) s = told-let line names by s
  told-rule (form.Repeat names written) s = told-repeat names written s
  told-rule (form.Output name file) s = told-output line name file s

told-defined : (statements : List Statement) (s : State) → IsTold (rules.defined statements s)
told-defined [] s = tt
told-defined (statement ∷ rest) s =
    told-then (rules.rule statement.line statement.form s) _
    (told-rule statement.line statement.form s)
    (λ next. told-defined rest (with_statement next))

pub told-script : (statements : List Statement) → IsTold (rules.script_of statements)
told-script statements =
    told-then (rules.defined statements empty_state) _ (told-defined statements empty_state)
    (λ s. told-kept 0 NoOutput (nat_lt 0 (length s.outputs)) _ (λ some. tt))
