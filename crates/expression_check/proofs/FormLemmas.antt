-- The types of expressions and what they give, one level at a time.
use Rattle.std.proofs.Common.{◌≡◌, ℕ, Ok, List, [], ◌∷◌, ◌++◌, map, refl, ap, ◌∙◌}
use Rattle.flume_value.specs.declared.value.Value.{Value}
use Rattle.type_table.specs.of_flume_types.declared.types.Ty.{Ty}
use Rattle.flume_grammar.specs.declared.tree.Expr.{Expr, Expr-F, out-Expr, map-Expr, fold_out-Expr}
use Rattle.dofn_eval.specs.Outcome.{Outcome, then}
use Rattle.dofn_eval.proofs.MeaningLemmas.{then_same}
use Rattle.expression_types.specs.of_written_types.Answer.{Checked, ◌>>=◌}
use Rattle.expression_types.specs.of_written_types.Named.{Named}
use Rattle.expression_types.proofs.of_written_types.FailsLemmas.{bind-same}
use Rattle.expression_types.specs.Sight.{Sight}
use Rattle.expression_types.specs.Types.{record_type, list_type}
use Rattle.expression_check.specs.Types.{all_types, layer_type, type_of}
use Rattle.expression_check.specs.Given.{Thing, Environment, all_given, recorded, list_of_things, layer_given, given_in}

types_mapped : {X : Type 0} (f : X → Sight → Checked Ty) (xs : List X) (s : Sight)
    → all_types (λ m. m) (map f xs) s ≡ all_types f xs s
types_mapped f [] s = refl
types_mapped f (x ∷ xs) s =
    bind-same (f x s) _ _ (λ t. ap (λ o. o >>= λ ts. Ok (t ∷ ts)) (types_mapped f xs s))

given_mapped : {X : Type 0} (f : X → Environment → Outcome Thing) (xs : List X)
    (env : Environment) (ts : List Ty) (vs : List Value)
    → all_given (λ m. m) (map f xs) env ts vs ≡ all_given f xs env ts vs
given_mapped f [] env ts vs = refl
given_mapped f (x ∷ xs) env ts vs =
    then_same (f x env) _ _ (λ t. given_mapped f xs env (ts ++ t.0 ∷ []) (vs ++ t.1 ∷ []))

module _ (line : ℕ) where
  type_mapped : (f : Expr → Sight → Checked Ty) (x : Expr-F Expr) (s : Sight)
      → layer_type line (λ m. m) (map-Expr Expr (Sight → Checked Ty) f x) s
      ≡ layer_type line f x s
  type_mapped f (Expr-F.Record names parts) s =
      ap (λ o. o >>= λ types. record_type line names types) (types_mapped f parts s)
  type_mapped f (Expr-F.List parts) s =
      ap (λ o. o >>= λ types. list_type line types) (types_mapped f parts s)
  type_mapped f _ s = refl

  pub type_of-step : (e : Expr) (s : Sight)
      → type_of line e s ≡ layer_type line (type_of line) (out-Expr e) s
  type_of-step e s = (λ i. fold_out-Expr _ (layer_type line (λ m. m)) e i s)
      ∙ type_mapped (type_of line) (out-Expr e) s

module _ (line : ℕ) (known : Named Ty) where
  expr_mapped : (f : Expr → Environment → Outcome Thing) (x : Expr-F Expr) (env : Environment)
      → layer_given line known (λ m. m) (map-Expr Expr (Environment → Outcome Thing) f x) env
      ≡ layer_given line known f x env
  expr_mapped f (Expr-F.Record names parts) env =
      ap (λ o. then o (recorded names)) (given_mapped f parts env [] [])
  expr_mapped f (Expr-F.List parts) env =
      ap (λ o. then o list_of_things) (given_mapped f parts env [] [])
  expr_mapped f _ env = refl

  pub given_in-step : (e : Expr) (env : Environment)
      → given_in line known e env ≡ layer_given line known (given_in line known) (out-Expr e) env
  given_in-step e env = (λ i. fold_out-Expr _ (layer_given line known (λ m. m)) e i env)
      ∙ expr_mapped (given_in line known) (out-Expr e) env
