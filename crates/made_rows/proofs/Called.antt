-- What the function of the script emits on a row: the row itself, as a pair.
use Rattle.std.proofs.Common.{◌≡◌, ◌∙◌, ℕ, List, [], ◌∷◌, ◌++◌, codes, None, Option, Some, slice_get, refl, ap, ap₂}
use Rattle.std.specs.Prelude.{Ok}
use Rattle.body_check.proofs.FormLemmas.{emitted_in-step}
use Rattle.body_check.specs.Call.{NameState, emitted_behind, emitted_in, layer_emitted, state}
use Rattle.direct_meaning.specs.Calls.{answer_of, call_answered}
use Rattle.dofn_eval.specs.Outcome.{Gives, Outcome, then, with_part}
use Rattle.dofn_eval.specs.Run.{Emissions}
use Rattle.expression_check.proofs.FormLemmas.{given_in-step}
use Rattle.expression_check.specs.Given.{Environment, Thing, dotted_thing, given_in, layer_given, recorded, tagged}
use Rattle.expression_types.specs.Fields.{named_field, fields_layer as fields_in}
use Rattle.flume_grammar.specs.declared.tree.Body.TheVariants as body
use Rattle.flume_grammar.specs.declared.tree.Expr.TheVariants as expr
use Rattle.flume_types.specs.declared.types.Ty.{Ty, Ty-F}
use Rattle.flume_types.specs.declared.types.Ty.TheVariants as ty
use Rattle.flume_value.specs.Parts.{record_layer}
use Rattle.flume_value.specs.declared.value.Value.{Value, Value-F}
use Rattle.flume_value.specs.declared.value.Value.TheVariants as value
use Rattle.written_types.specs.Named.{Named}
use Rattle.made_rows.proofs.Checked.{pair_type}
use Rattle.made_rows.proofs.Columns.{row_fields}
use Rattle.made_rows.specs.Rows.{last_digit, made_row}
use Rattle.made_rows.specs.Sums.{field_of_row, both_fields, function_body, pairing, row_type}

abbrev known : Named Ty
known = (codes "r", row_type) ∷ []

-- a row of these cells
module _ (key number : Value) where
  abbrev row : Value
  row = value.Rec (key ∷ number ∷ [])

  abbrev env : Environment
  env = (codes "x", (row_type, row)) ∷ []

  name_given : given_in 3 known (expr.Name (codes "x")) env ≡ Gives (row_type, row)
  name_given =
      given_in-step 3 known (expr.Name (codes "x")) env
      ∙ ap (λ y. layer_given 3 known (given_in 3 known) y env) (expr.outs-Name (codes "x"))

  field_given : (name : List ℕ) (at : ℕ) (cell : Value)
      → named_field name 0 row_fields ≡ Some (at, ty.Int)
      → slice_get (key ∷ number ∷ []) at ≡ Some cell
      → given_in 3 known (field_of_row name) env ≡ Gives (ty.Int, cell)
  field_given name at cell place there =
      given_in-step 3 known (field_of_row name) env
      ∙ ap (λ y. layer_given 3 known (given_in 3 known) y env)
      (expr.outs-Field (expr.Name (codes "x")) name)
      ∙ ap (λ (o : Outcome Thing). then o (dotted_thing name)) name_given
      ∙ ap₂ (λ (y : Ty-F Ty) (z : Value-F Value). with_part (fields_in y) (λ all.
      with_part (named_field name 0 all) (λ p.
      tagged p.1 (with_part (record_layer z) (λ xs. with_part (slice_get xs p.0) Gives)))))
      (ty.outs-Rec row_fields) (value.outs-Rec (key ∷ number ∷ []))
      ∙ ap (λ (o : Option (ℕ × Ty)). with_part o (λ p.
      tagged p.1 (with_part (slice_get (key ∷ number ∷ []) p.0) Gives))) place
      ∙ ap (λ (o : Option Value). tagged ty.Int (with_part o Gives)) there

  pair_given : given_in 3 known (expr.Record (codes "key" ∷ codes "value" ∷ []) both_fields) env
      ≡ Gives (pair_type, row)
  pair_given =
      given_in-step 3 known (expr.Record (codes "key" ∷ codes "value" ∷ []) both_fields) env
      ∙ ap (λ y. layer_given 3 known (given_in 3 known) y env)
      (expr.outs-Record (codes "key" ∷ codes "value" ∷ []) both_fields)
      ∙ ap₂ (λ (a b : Outcome Thing).
      then (then a (λ x. then b (λ y.
      Gives (([] ++ x.0 ∷ []) ++ y.0 ∷ [], ([] ++ x.1 ∷ []) ++ y.1 ∷ []))))
      (recorded (codes "key" ∷ codes "value" ∷ [])))
      (field_given (codes "k") 0 key refl refl) (field_given (codes "v") 1 number refl refl)

  abbrev before : NameState
  before = state env ([] ∷ [])

  emits : emitted_in known
      (body.Emit 3 None (expr.Record (codes "key" ∷ codes "value" ∷ []) both_fields))
      before ≡ Gives (state env ((row ∷ []) ∷ []))
  emits =
      emitted_in-step known
      (body.Emit 3 None (expr.Record (codes "key" ∷ codes "value" ∷ []) both_fields)) before
      ∙ ap (λ y. layer_emitted known (emitted_in known) y before)
      (body.outs-Emit 3 None (expr.Record (codes "key" ∷ codes "value" ∷ []) both_fields))
      ∙ ap (λ (o : Outcome Thing). then (then o (λ x. emitted_behind None x.1 ([] ∷ [])))
      (λ out. Gives (state env out))) pair_given

  pub answers_row : answer_of pairing row ≡ Some (Ok ((row ∷ []) ∷ []))
  unfolding answer_of
  answers_row =
      ap (λ (o : Outcome NameState). call_answered row (then (then o (λ s. Gives s))
      (λ s. Gives s.out)))
      emits
