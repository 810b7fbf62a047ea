-- The script of the sums is accepted: each of its statements keeps its rules.
use Rattle.std.proofs.Common.{◌≡◌, ◌∙◌, ◌+◌, ℕ, Bool, true, List, [], ◌∷◌, ◌++◌, codes, Option, Some, refl, sym, ap, ap₂}
use Rattle.std.specs.Prelude.{Err, IfErr, IfOk, None, Ok, Result, if◌then◌else◌, length, max, nat_le, nat_lt}
use Rattle.flume_grammar.specs.declared.tree.Body.TheVariants as body
use Rattle.flume_grammar.specs.declared.tree.Combiner.TheVariants as combiner
use Rattle.flume_grammar.specs.declared.tree.Expr.{Expr}
use Rattle.flume_grammar.specs.declared.tree.Expr.TheVariants as expr
use Rattle.flume_grammar.specs.declared.tree.Form.TheVariants as form_
use Rattle.flume_grammar.specs.declared.tree.Operation.TheVariants as operation
use Rattle.flume_grammar.specs.declared.tree.Statement.{Statement}
use Rattle.flume_grammar.specs.declared.tree.Type as tree
use Rattle.flume_grammar.specs.declared.tree.Type.TheVariants as form
use Rattle.flume_grammar.specs.declared.fault.ScriptFault.{ScriptFault}
use Rattle.flume_grammar.specs.declared.fault.ScriptFault.TheVariants.{Memory, Refused}
use Rattle.flume_grammar.specs.declared.fault.ScriptKind.TheVariants.{Mistyped, NoOutput, NotFlat, NotTable, TooDeep, TooMany, Unknown}
use Rattle.flume_types.proofs.DepthLemmas.{depth_of-Int, depth_of-List, depth_of-Rec}
use Rattle.flume_types.proofs.SameLemmas.{ty_eq-Decides}
use Rattle.flume_types.specs.Columns.{columns_of, input_columns_of}
use Rattle.flume_types.specs.Depth.{depth_of}
use Rattle.flume_types.specs.Equality.{type_eq}
use Rattle.flume_types.specs.Tables.{table_of}
use Rattle.flume_types.specs.declared.column.Column.{Column}
use Rattle.flume_types.specs.declared.types.Field.{Field}
use Rattle.flume_types.specs.declared.types.Ty.{Ty, Ty-F, out-Ty}
use Rattle.flume_types.specs.declared.types.Ty.TheVariants as ty
use Rattle.combine_table.specs.declared.comb.Comb.TheVariants as comb
use Rattle.body_check.proofs.FormLemmas.{after-step}
use Rattle.body_check.specs.Bodies.{sight_after, at_start, body_of, layer_after}
use Rattle.expression_check.proofs.FormLemmas.{type_of-step}
use Rattle.expression_check.specs.Types.{layer_type, type_of}
use Rattle.expression_types.specs.Fields.{named_field, fields_layer}
use Rattle.expression_types.specs.Sight.{Sight}
use Rattle.expression_types.specs.Types.{place_under, record_type}
use Rattle.direct_meaning.specs.of_script_rules.Operations.{combined_type, made_by, member_type_in, pair_in}
use Rattle.direct_meaning.specs.of_script_rules.Rules.{all_fit, defined, rule, script_of}
use Rattle.script_program.specs.Limits.{most_outputs}
use Rattle.script_program.specs.Script.{Making, Script, Signature, State, empty_state, script_from, with_function, with_node, with_nodes, with_output, with_statement, with_named_type}
use Rattle.script_program.specs.declared.made.Output.{Output}
use Rattle.script_program.specs.declared.made.Made.TheVariants as made
use Rattle.direct_meaning.proofs.of_script_laws.RuleLemmas.{well-formed}
use Rattle.direct_meaning.specs.of_script_laws.WellFormed.{IsWellFormed}
use Rattle.written_types.specs.Answer.{Checked, Gives, ◌>>=◌, or_fault, unless}
use Rattle.written_types.specs.Named.{Named}
use Rattle.written_types.specs.Written.{fields_behind, layer_written, shallow, whole_type, written}
use Rattle.made_rows.proofs.Columns.{named, pair_fields, row_columns_are, row_fields, sum_columns_are}
use Rattle.made_rows.specs.Sums.{field_of_row, both_fields, function_body, function_statement, input_statement, int_table, let_statement, output_statement, pairing, row_columns, row_type, sum_columns, sums_script, sums_statements, type_statement}

-- ---- types

abbrev pub pair_type : Ty
pair_type = table_of ty.Int ty.Int

abbrev group_type : Ty
group_type = table_of ty.Int (ty.List ty.Int)

pair_depth : (key value : List ℕ) (t u : Ty) (m n : ℕ) → depth_of t ≡ m → depth_of u ≡ n
    → depth_of (ty.Rec (named key t ∷ named value u ∷ [])) ≡ max m (max n 0) + 1
pair_depth key value t u m n is also =
    depth_of-Rec (named key t ∷ named value u ∷ [])
    ∙ ap₂ (λ (a b : ℕ). max a (max b 0) + 1) is also

low : (line : ℕ) (t : Ty) (n : ℕ) → depth_of t ≡ n → nat_le n 8 ≡ true → shallow line t ≡ Ok t
low line t n is small =
    ap (λ (k : ℕ). unless line TooDeep (nat_le k 8) >>= λ few. Ok t) is
    ∙ ap (λ (b : Bool). unless line TooDeep b >>= λ few. Ok t) small

row_low : (line : ℕ) → shallow line row_type ≡ Ok row_type
row_low line =
    low line row_type 2
    (pair_depth (codes "k") (codes "v") ty.Int ty.Int 1 1 depth_of-Int depth_of-Int) refl

pair_low : (line : ℕ) → shallow line pair_type ≡ Ok pair_type
pair_low line =
    low line pair_type 2
    (pair_depth (codes "key") (codes "value") ty.Int ty.Int 1 1 depth_of-Int depth_of-Int) refl

group_low : (line : ℕ) → shallow line group_type ≡ Ok group_type
group_low line =
    low line group_type 3
    (pair_depth (codes "key") (codes "value") ty.Int (ty.List ty.Int) 1 2 depth_of-Int
    (depth_of-List ty.Int ∙ ap (λ (n : ℕ). n + 1) depth_of-Int)) refl

same : (t : Ty) → type_eq t t ≡ true
same t = (ty_eq-Decides t t).1 refl

-- ---- types as they are written

module _ (line : ℕ) (known : Named Ty) where
  abbrev parts_of : tree.Type-F tree.Type → tree.Type-F (Named Ty → Checked Ty)
  parts_of x = tree.map-Type tree.Type (Named Ty → Checked Ty) (written line) x

  by_form : (type : tree.Type) (x : tree.Type-F tree.Type) → tree.out-Type type ≡ x
      → written line type known ≡ layer_written line (λ m. m) (parts_of x) known
  by_form type x is =
      ap (λ f. f known)
      (tree.fold_out-Type (Named Ty → Checked Ty) (layer_written line (λ m. m)) type)
      ∙ ap (λ y. layer_written line (λ m. m) (parts_of y) known) is

  int_written : written line form.Int known ≡ Ok ty.Int
  int_written = by_form form.Int tree.Type-F.Int form.outs-Int

abbrev known : Named Ty
known = (codes "r", row_type) ∷ []

abbrev names : List (List ℕ)
names = codes "k" ∷ codes "v" ∷ []

row_written : written 1 (form.Record names (form.Int ∷ form.Int ∷ [])) [] ≡ Ok row_type
row_written =
    by_form 1 [] (form.Record names (form.Int ∷ form.Int ∷ [])) _
    (form.outs-Record names (form.Int ∷ form.Int ∷ []))
    ∙ ap₂ (λ (a b : Checked Ty).
    fields_behind 1 (λ (m : Named Ty → Checked Ty). m) [] names ((λ n. a) ∷ (λ n. b) ∷ []) []
    >>= λ all. Ok (ty.Rec all)) (int_written 1 []) (int_written 1 [])

row_whole : whole_type 1 (form.Record names (form.Int ∷ form.Int ∷ [])) [] ≡ Ok row_type
row_whole = ap (λ (r : Checked Ty). r >>= shallow 1) row_written ∙ row_low 1

named_whole : (line : ℕ) → whole_type line (form.Named (codes "r")) known ≡ Ok row_type
named_whole line =
    ap (λ (r : Checked Ty). r >>= shallow line)
    (by_form line known (form.Named (codes "r")) _ (form.outs-Named (codes "r")))
    ∙ row_low line

table_whole : (line : ℕ) → whole_type line int_table known ≡ Ok pair_type
table_whole line =
    ap (λ (r : Checked Ty). r >>= shallow line)
    (by_form line known int_table _ (form.outs-Table form.Int form.Int)
    ∙ ap₂ (λ (a b : Checked Ty). a >>= λ t. b >>= λ u. Ok (table_of t u)) (int_written line known)
    (int_written line known))
    ∙ pair_low line

-- ---- the body of the function

abbrev start : Sight
start = at_start known (codes "x") row_type

abbrev record_made : Expr
record_made = expr.Record (codes "key" ∷ codes "value" ∷ []) both_fields

name_typed : type_of 3 (expr.Name (codes "x")) start ≡ Ok row_type
name_typed =
    type_of-step 3 (expr.Name (codes "x")) start
    ∙ ap (λ y. layer_type 3 (type_of 3) y start) (expr.outs-Name (codes "x"))

field_typed : (name : List ℕ) (at : ℕ) → named_field name 0 row_fields ≡ Some (at, ty.Int)
    → type_of 3 (field_of_row name) start ≡ Ok ty.Int
field_typed name at there =
    type_of-step 3 (field_of_row name) start
    ∙ ap (λ y. layer_type 3 (type_of 3) y start) (expr.outs-Field (expr.Name (codes "x")) name)
    ∙ ap (λ (r : Checked Ty). r >>= λ t. place_under 3 name t >>= λ place. Ok place.1) name_typed
    ∙ ap (λ (y : Ty-F Ty). (or_fault 3 Mistyped (fields_layer y) >>= λ all.
    or_fault 3 Unknown (named_field name 0 all)) >>= λ place. Ok place.1) (ty.outs-Rec row_fields)
    ∙ ap (λ (o : Option (ℕ × Ty)). or_fault 3 Unknown o >>= λ place. Ok place.1) there

record_typed : type_of 3 record_made start ≡ Ok pair_type
record_typed =
    type_of-step 3 record_made start
    ∙ ap (λ y. layer_type 3 (type_of 3) y start)
    (expr.outs-Record (codes "key" ∷ codes "value" ∷ []) both_fields)
    ∙ ap₂ (λ (a b : Checked Ty).
    (a >>= λ t. ((b >>= λ u. Ok (u ∷ [])) >>= λ ts. Ok (t ∷ ts))) >>= λ types.
    record_type 3 (codes "key" ∷ codes "value" ∷ []) types)
    (field_typed (codes "k") 0 refl) (field_typed (codes "v") 1 refl)
    ∙ pair_low 3

body_kept : body_of known (codes "x") row_type (pair_type ∷ []) function_body ≡ Ok tt
body_kept =
    ap (λ (r : Checked Sight). (r >>= λ next. Ok next) >>= λ end. Ok tt)
    (after-step (pair_type ∷ []) (body.Emit 3 None record_made) start
    ∙ ap (λ y. layer_after (pair_type ∷ []) (sight_after (pair_type ∷ [])) y start)
    (body.outs-Emit 3 None record_made)
    ∙ ap (λ (r : Checked Ty). r >>= λ t. unless 3 Mistyped (type_eq t pair_type) >>= λ is. Ok start)
    record_typed
    ∙ ap (λ (b : Bool). unless 3 Mistyped b >>= λ is. Ok start) (same pair_type))

-- ---- the statements

abbrev s1 : State
s1 = with_statement (with_named_type (codes "r") row_type empty_state)

abbrev input_made : Making
input_made = record { made = made.Input (codes "made.csv") row_columns; type = row_type }

abbrev s2 : State
s2 = with_statement (with_node (codes "made") input_made s1)

abbrev s3 : State
s3 = with_statement (with_function (codes "pair") pairing s2)

abbrev pairs_made : Making
pairs_made = record { made = made.Do 0 0 0; type = pair_type }

abbrev s4 : State
s4 = with_statement (with_node (codes "p") pairs_made s3)

abbrev groups_made : Making
groups_made = record { made = made.Group 1; type = group_type }

abbrev s5 : State
s5 = with_statement (with_node (codes "g") groups_made s4)

abbrev sums_made : Making
sums_made = record { made = made.Combine 2 comb.Sum; type = pair_type }

abbrev s6 : State
s6 = with_statement (with_node (codes "s") sums_made s5)

abbrev output_columns : List Column → Output
output_columns columns = record { name = codes "s"; reads = 3; columns = columns }

abbrev s7 : State
s7 = with_statement (with_output (codes "sums.csv") (output_columns sum_columns) s6)

first : rule 1 type_statement.form empty_state
    ≡ Ok (with_named_type (codes "r") row_type empty_state)
first = ap (λ (r : Checked Ty). r >>= λ t. Ok (with_named_type (codes "r") t empty_state)) row_whole

second : rule 2 input_statement.form s1 ≡ Ok (with_node (codes "made") input_made s1)
second =
    ap (λ (r : Checked Ty). r >>= λ t. or_fault 2 NotFlat (input_columns_of t) >>= λ columns.
    Ok (with_node (codes "made")
    (record { made = made.Input (codes "made.csv") columns; type = t }) s1)) (named_whole 2)
    ∙ ap (λ (o : Option (List Column)). or_fault 2 NotFlat o >>= λ columns.
    Ok (with_node (codes "made")
    (record { made = made.Input (codes "made.csv") columns; type = row_type }) s1))
    row_columns_are

third : rule 3 function_statement.form s2 ≡ Ok (with_function (codes "pair") pairing s2)
third =
    ap₂ (λ (a b : Checked Ty).
    (a >>= λ takes. (((b >>= λ t. Ok ([] ++ t ∷ [])) >>= λ more. Ok more) >>= λ types.
    unless 3 TooMany (nat_le (length types) most_outputs) >>= λ few. Ok types) >>= λ gives.
    Ok (record { takes = takes; gives = gives; scale = 100 })) >>= λ (signature : Signature).
    body_of known (codes "x") signature.takes signature.gives function_body >>= λ kept.
    Ok (with_function (codes "pair") (record {
      types = known;
      argument = codes "x";
      signature = signature;
      body = function_body;
    }) s2)) (named_whole 3) (table_whole 3)
    ∙ ap (λ (r : Checked (Unit {0})). r >>= λ kept. Ok (with_function (codes "pair") pairing s2))
    body_kept

-- one collection that is made, of a type that is low
let_made : (line : ℕ) (name : List ℕ) (making : Making) (s : State) (r : Checked (List Making))
    → r ≡ Ok (making ∷ []) → shallow line making.type ≡ Ok making.type
    → (r >>= λ makings. all_fit line 1 makings >>= λ fit.
    Ok (with_nodes (name ∷ []) makings s))
    ≡ Ok (with_node name making s)
let_made line name making s r is deep =
    ap (λ (q : Checked (List Making)). q >>= λ makings. all_fit line 1 makings >>= λ fit.
    Ok (with_nodes (name ∷ []) makings s)) is
    ∙ ap (λ (q : Checked Ty). (q >>= λ low. Ok tt) >>= λ fit. Ok (with_node name making s)) deep

pairs_are : made_by 4 (operation.Do (codes "made") (codes "pair")) s3 ≡ Ok (pairs_made ∷ [])
pairs_are = ap (λ (b : Bool). unless 4 Mistyped b >>= λ is. Ok (pairs_made ∷ [])) (same row_type)

fourth : rule 4 (form_.Let (codes "p" ∷ []) (operation.Do (codes "made") (codes "pair"))) s3
    ≡ Ok (with_node (codes "p") pairs_made s3)
fourth =
    let_made 4 (codes "p") pairs_made s3
    (made_by 4 (operation.Do (codes "made") (codes "pair")) s3) pairs_are (pair_low 4)

groups_are : made_by 5 (operation.Group (codes "p")) s4 ≡ Ok (groups_made ∷ [])
groups_are =
    ap (λ (y : Ty-F Ty). (or_fault 5 NotTable (pair_in y) >>= λ pair.
    Ok (record { made = made.Group 1; type = table_of pair.key (ty.List pair.value) }))
    >>= λ (one : Making). Ok (one ∷ []))
    (ty.outs-Rec pair_fields)

fifth : rule 5 (form_.Let (codes "g" ∷ []) (operation.Group (codes "p"))) s4
    ≡ Ok (with_node (codes "g") groups_made s4)
fifth =
    let_made 5 (codes "g") groups_made s4 (made_by 5 (operation.Group (codes "p")) s4) groups_are
    (group_low 5)

abbrev group_fields : List (Field Ty)
group_fields = named (codes "key") ty.Int ∷ named (codes "value") (ty.List ty.Int) ∷ []

sums_are : made_by 6 (operation.Combine (codes "g") combiner.Sum) s5 ≡ Ok (sums_made ∷ [])
sums_are =
    ap (λ (y : Ty-F Ty). (or_fault 6 NotTable (pair_in y) >>= λ pair.
    or_fault 6 NotTable (member_type_in (out-Ty pair.value)) >>= λ member.
    or_fault 6 Mistyped (combined_type comb.Sum member) >>= λ value.
    Ok (record { made = made.Combine 2 comb.Sum; type = table_of pair.key value }))
    >>= λ (one : Making). Ok (one ∷ []))
    (ty.outs-Rec group_fields)
    ∙ ap (λ (y : Ty-F Ty). (or_fault 6 NotTable (member_type_in y) >>= λ member.
    or_fault 6 Mistyped (combined_type comb.Sum member) >>= λ value.
    Ok (record { made = made.Combine 2 comb.Sum; type = table_of ty.Int value }))
    >>= λ (one : Making). Ok (one ∷ []))
    (ty.outs-List ty.Int)
    ∙ ap (λ (b : Bool). (or_fault 6 Mistyped (if b then Some ty.Int else None) >>= λ value.
    Ok (record { made = made.Combine 2 comb.Sum; type = table_of ty.Int value }))
    >>= λ (one : Making). Ok (one ∷ [])) (same ty.Int)

sixth : rule 6 (form_.Let (codes "s" ∷ []) (operation.Combine (codes "g") combiner.Sum)) s5
    ≡ Ok (with_node (codes "s") sums_made s5)
sixth =
    let_made 6 (codes "s") sums_made s5
    (made_by 6 (operation.Combine (codes "g") combiner.Sum) s5) sums_are (pair_low 6)

seventh : rule 7 output_statement.form s6
    ≡ Ok (with_output (codes "sums.csv") (output_columns sum_columns) s6)
seventh =
    ap (λ (o : Option (List Column)). or_fault 7 NotFlat o >>= λ columns.
    Ok (with_output (codes "sums.csv") (output_columns columns) s6)) sum_columns_are

-- ---- all of them

-- a statement that keeps its rules, before others
step : (statement : Statement) (rest : List Statement) (s t : State)
    → rule statement.line statement.form s ≡ Ok t
    → defined (statement ∷ rest) s ≡ defined rest (with_statement t)
step statement rest s t is =
    ap (λ (r : Checked State). r >>= λ next. defined rest (with_statement next)) is

abbrev pairs_let : Statement
pairs_let = let_statement 4 (codes "p") (operation.Do (codes "made") (codes "pair"))

abbrev groups_let : Statement
groups_let = let_statement 5 (codes "g") (operation.Group (codes "p"))

abbrev sums_let : Statement
sums_let = let_statement 6 (codes "s") (operation.Combine (codes "g") combiner.Sum)

-- the statements behind the fourth, and behind the first
abbrev last : List Statement
last = groups_let ∷ sums_let ∷ output_statement ∷ []

abbrev others : List Statement
others = input_statement ∷ function_statement ∷ pairs_let ∷ last

all_defined : defined sums_statements empty_state ≡ Ok s7
all_defined =
    step type_statement others empty_state _ first
    ∙ step input_statement (function_statement ∷ pairs_let ∷ last) s1 _ second
    ∙ step function_statement (pairs_let ∷ last) s2 _ third ∙ step pairs_let last s3 _ fourth
    ∙ step groups_let (sums_let ∷ output_statement ∷ []) s4 _ fifth
    ∙ step sums_let (output_statement ∷ []) s5 _ sixth ∙ step output_statement [] s6 _ seventh

pub accepted : script_of sums_statements ≡ Ok sums_script
accepted =
    ap (λ (r : Checked State). r >>= λ s. unless 0 NoOutput (nat_lt 0 (length s.outputs))
    >>= λ some. Ok (script_from s)) all_defined

-- ---- what checking it gives

pub checked : {X : Type 0} (view : X → Script) (r : Result X ScriptFault)
    → Gives view r (script_of sums_statements) → IfOk r (λ x. view x ≡ sums_script)
checked view (Ok x) is = let one : Ok sums_script ≡ Ok (view x) = sym accepted ∙ is in cc one
checked view (Err e) is = tt

pub only_memory : {X : Type 0} (view : X → Script) (r : Result X ScriptFault)
    → Gives view r (script_of sums_statements) → IfErr r (λ e. e ≡ Memory)
only_memory view (Ok x) is = tt
only_memory view (Err Memory) is = refl
only_memory view (Err (Refused line kind)) is =
    let one : ◌≡◌ {A = Checked Script} (Ok sums_script) (Err (Refused line kind))
    = sym accepted ∙ is in
    cc one

pub well_formed : IsWellFormed sums_script
well_formed = well-formed sums_statements sums_script accepted
