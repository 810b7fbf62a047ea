-- What an evaluation leaves.
use Rattle.std.specs.Prelude.{◌≡◌, ℕ, Result, Ok, Err, List, ◌∷◌}
use Rattle.flume_value.specs.declared.value.Value.{Value}
use Rattle.flume_value.specs.declared.value.Value.TheVariants as variant
use Rattle.flume_value.specs.declared.fault.CallFault.{CallFault}
use Rattle.flume_value.specs.Parts.{left_of, right_of}
use Rattle.dofn_eval.specs.Outcome.{Outcome, Gives, IsFaultIn, then, then_both}
use Rattle.dofn_eval.specs.Operations.{of_two, member_in, chosen}
use Rattle.dofn_eval.specs.declared.expr.Expr.{Expr, size-Expr}
use Rattle.dofn_eval.specs.declared.stmt.Stmt.{Stmt}
use Rattle.dofn_calls.specs.declared.scope.Scope.{Scope}
use Rattle.dofn_calls.specs.declared.evaluate.Pairing.{Pairing}
use Rattle.dofn_calls.specs.declared.evaluate.Pairing.TheVariants.{Operation, Member}
use Rattle.dofn_calls.specs.declared.evaluate.Branch.{Branch}
use Rattle.dofn_calls.specs.declared.evaluate.Branch.TheVariants.{Truth, Part}
use Rattle.dofn_eval.specs.Meaning.{expression_value}
use Rattle.dofn_eval.specs.Run.{Emissions, SlotState, state, emitted_to, run_statements, run_one as one_run}
use Rattle.dofn_eval.specs.Run.{for_each, side_of, by_side}
use Rattle.dofn_calls.specs.inner.Operands.{values, named}

-- what was returned, as the view sees it, is what the outcome gives; or it is the outcome's trap,
-- or a want of memory
abbrev pub Evaluates : {A B : Type 0} → (A → B) → Result A CallFault → Outcome B → Type 0
Evaluates view (Ok a) outcome = outcome ≡ Gives (view a)
Evaluates view (Err fault) outcome = IsFaultIn outcome fault

abbrev pub Returns : {A : Type 0} → Result A CallFault → Outcome A → Type 0
Returns = Evaluates (λ a. a)

-- what an expression gives with these values in scope
abbrev pub value_in : Scope → Expr → Outcome Value
value_in scope e = expression_value e (values scope)

abbrev pub paired : Pairing → Value → Value → Outcome Value
paired (Operation op) = of_two op
paired Member = member_in

abbrev pub two : Scope → Pairing → Expr → Expr → Outcome Value
two scope pairing a b = then_both (value_in scope a) (value_in scope b) (paired pairing)

abbrev pub branch : Scope → Branch → Outcome Value
branch scope (Truth b) = Gives (variant.Bool b)
branch scope (Part e) = value_in scope e.now

-- what a test chooses of two
abbrev pub one_of : Scope → Expr → Branch → Branch → Outcome Value
one_of scope test a b = chosen (value_in scope test) (branch scope a) (branch scope b)

-- how deep it is
abbrev pub branch_size : Branch → ℕ
branch_size (Truth b) = 0
branch_size (Part e) = size-Expr e.now

-- what a block emits with these values in scope, behind what was emitted so far
abbrev pub run_in : Scope → List Stmt → Emissions → Outcome Emissions
run_in scope block out = run_statements block (values scope) out

-- ---- where a block has named values so far

abbrev pub state_in : Scope → List Value → Emissions → SlotState
state_in outer names out = state (named names (values outer)) out

abbrev pub run_one : Scope → Stmt → List Value → Emissions → Outcome SlotState
run_one outer stmt names out = one_run stmt (state_in outer names out)

abbrev pub value_behind : Scope → List Value → Expr → Outcome Value
value_behind outer names e = expression_value e (named names (values outer))

-- the values in scope with that of an expression more
abbrev pub name : Scope → List Value → Expr → Outcome (List Value)
name outer names e = then (value_behind outer names e) (λ v. Gives (v ∷ named names (values outer)))

-- ---- each form of statement, with these values in scope

abbrev pub emit : Scope → ℕ → Expr → Emissions → Outcome Emissions
emit scope n e out = then (value_in scope e) (λ v. emitted_to n v out)

abbrev pub run_if : Scope → Expr → List Stmt → List Stmt → Emissions → Outcome Emissions
run_if scope c a b out = chosen (value_in scope c) (run_in scope a out) (run_in scope b out)

abbrev pub run_for : Scope → Expr → List Stmt → Emissions → Outcome Emissions
run_for scope e body out = for_each (run_statements body) (value_in scope e) (values scope) out

abbrev pub run_case : Scope → Expr → List Stmt → List Stmt → Emissions → Outcome Emissions
run_case scope e a b out =
    by_side (run_statements a) (run_statements b) (value_in scope e) (values scope) out

-- the same for an either that is there
abbrev pub run_side : Scope → Value → List Stmt → List Stmt → Emissions → Outcome Emissions
run_side scope x a b out =
    side_of (run_statements a) (run_statements b) (left_of x) (right_of x) (values scope) out
