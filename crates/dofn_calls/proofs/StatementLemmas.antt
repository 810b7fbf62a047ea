-- What is used of statements where they are run.
use Rattle.std.proofs.Common.{◌≡◌, ◌<◌, ℕ, max, List, arith, sym, ap, ◌∙◌, subst}
use denote.Param.Weighed.{most}
use Rattle.flume_value.specs.declared.value.Value.{Value}
use Rattle.dofn_eval.specs.declared.expr.Expr.{Expr}
use Rattle.dofn_eval.specs.declared.stmt.Stmt.{Stmt, size-Stmt}
use Rattle.dofn_eval.specs.declared.stmt.Stmt.TheViews.{sized-If, sized-For, sized-Case}
use Rattle.dofn_eval.specs.declared.stmt.Stmt.TheVariants as stmt
use Rattle.dofn_eval.specs.Outcome.{IsSafe, then}
use Rattle.dofn_eval.specs.Operations.{chosen}
use Rattle.dofn_eval.specs.Meaning.{expression_value}
use Rattle.dofn_eval.specs.Run.{Emissions, state, run_one, run_statements, emitted_to, for_each, by_side}
use Rattle.dofn_eval.proofs.MeaningLemmas.{run_one-Emit, run_one-If, run_one-For, run_one-Case, run_rules}
use Rattle.dofn_calls.proofs.ScopeLemmas.{named-push}
use Rattle.dofn_calls.proofs.EvaluateLemmas.{safe_then}

pub ruleset statement_rules = (run_rules, named-push)

-- ---- the blocks of a statement are less deep

abbrev pub deepest : List Stmt → ℕ
deepest ss = most (λ s. size-Stmt s) ss

pub falls_If : (s : Stmt) (c : Expr) (a b : List Stmt) → s ≡ stmt.If c a b
    → max (deepest a) (deepest b) < size-Stmt s
falls_If s c a b is = omega (arith, sized-If c a b, ap (λ x. size-Stmt x) is)

pub falls_For : (s : Stmt) (e : Expr) (a : List Stmt) → s ≡ stmt.For e a → deepest a < size-Stmt s
falls_For s e a is = omega (arith, sized-For e a, ap (λ x. size-Stmt x) is)

pub falls_Case : (s : Stmt) (e : Expr) (a b : List Stmt) → s ≡ stmt.Case e a b
    → max (deepest a) (deepest b) < size-Stmt s
falls_Case s e a b is = omega (arith, sized-Case e a b, ap (λ x. size-Stmt x) is)

-- ---- and safe, where the statement is

pub safe_If : (s : Stmt) (c : Expr) (a b : List Stmt) (env here : List Value) (out : Emissions)
    → s ≡ stmt.If c a b → here ≡ env → IsSafe (run_one s (state env out))
    → IsSafe (chosen (expression_value c here) (run_statements a here out)
    (run_statements b here out))
safe_If s c a b env here out is same h =
    subst (λ (vs : List Value). IsSafe (chosen (expression_value c vs) (run_statements a vs out)
    (run_statements b vs out)))
    (sym same) (safe_then _ _ (subst IsSafe (ap (λ x. run_one x (state env out)) is
    ∙ run_one-If c a b (state env out)) h))

pub safe_For : (s : Stmt) (e : Expr) (a : List Stmt) (env here : List Value) (out : Emissions)
    → s ≡ stmt.For e a → here ≡ env → IsSafe (run_one s (state env out))
    → IsSafe (for_each (run_statements a) (expression_value e here) here out)
safe_For s e a env here out is same h =
    subst (λ (vs : List Value). IsSafe (for_each (run_statements a) (expression_value e vs) vs out))
    (sym same)
    (safe_then _ _ (subst IsSafe (ap (λ x. run_one x (state env out)) is
    ∙ run_one-For e a (state env out)) h))

pub safe_Case : (s : Stmt) (e : Expr) (a b : List Stmt) (env here : List Value) (out : Emissions)
    → s ≡ stmt.Case e a b → here ≡ env → IsSafe (run_one s (state env out))
    → IsSafe (by_side (run_statements a) (run_statements b) (expression_value e here) here out)
safe_Case s e a b env here out is same h =
    subst (λ (vs : List Value). IsSafe (by_side (run_statements a) (run_statements b)
    (expression_value e vs) vs out)) (sym same)
    (safe_then _ _ (subst IsSafe (ap (λ x. run_one x (state env out)) is
    ∙ run_one-Case e a b (state env out)) h))
