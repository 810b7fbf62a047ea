-- A `for` whose block emits each member as it is, and does no more.
use Rattle.std.specs.Prelude.{ℕ, ◌==◌, Bool, false, cond, Option, Some, None, List, [], ◌∷◌, ◌++◌}
use Rattle.std.specs.Prelude.{slice_get, slice_set}
use Rattle.flume_value.specs.declared.value.Value.{Value}
use Rattle.flume_value.specs.Parts.{members_of}
use Rattle.dofn_eval.specs.declared.expr.Expr.{Expr, Expr-F, out-Expr}
use Rattle.dofn_eval.specs.declared.expr.Expr.TheVariants as expr
use Rattle.dofn_eval.specs.declared.stmt.Stmt.{Stmt, Stmt-F, out-Stmt}
use Rattle.dofn_eval.specs.declared.stmt.Stmt.TheVariants as stmt
use Rattle.dofn_eval.specs.Outcome.{Outcome, Gives, with_part}
use Rattle.dofn_eval.specs.Run.{Emissions}

-- the block that does so
abbrev pub passes : ℕ → List Stmt
passes n = stmt.Emit n (expr.Variable 0) ∷ []

abbrev pub newest_layer : {X : Type 0} → Expr-F X → Bool
newest_layer (Expr-F.Variable i) = i == 0
newest_layer _ = false

-- the expression is the newest value
abbrev pub is_newest : Expr → Bool
is_newest e = newest_layer (out-Expr e)

abbrev pub passed_layer : {X : Type 0} → Stmt-F X → Option ℕ
passed_layer (Stmt-F.Emit n e) = cond (is_newest e) (Some n) None
passed_layer _ = None

-- the output to which a statement emits the newest value
abbrev pub passed_by : Stmt → Option ℕ
passed_by s = passed_layer (out-Stmt s)

-- the output to which a block emits its newest value as it is, where it does no more
abbrev pub passed_to : List Stmt → Option ℕ
passed_to [] = None
passed_to (s ∷ []) = passed_by s
passed_to (s ∷ t ∷ rest) = None

-- values behind those of the output of this number, where there is one
abbrev pub all_emitted_to : ℕ → List Value → Emissions → Outcome Emissions
all_emitted_to n xs out = with_part (slice_get out n) (λ vs. Gives (slice_set out n (vs ++ xs)))

-- no output is needed where there is no member
abbrev pub passed : ℕ → List Value → Emissions → Outcome Emissions
passed n [] out = Gives out
passed n (x ∷ xs) out = all_emitted_to n (x ∷ xs) out

-- the same for the members of a list
abbrev pub passed_of : ℕ → Value → Emissions → Outcome Emissions
passed_of n x out = with_part (members_of x) (λ xs. passed n xs out)
