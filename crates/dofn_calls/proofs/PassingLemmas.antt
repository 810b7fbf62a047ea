-- A `for` whose block emits its member, and does no more, emits the members all together.
use Rattle.std.proofs.Common.{◌≡◌, ℕ, zero, suc, ◌<◌, ◌≤◌, Option, Some, None, List, [], ◌∷◌, ◌++◌, length, get_or, arith, refl, sym, ap, ◌∙◌, append_assoc}
use Rattle.std.specs.Prelude.{slice_get, slice_set}
use Rattle.flume_value.specs.declared.value.Value.{Value}
use Rattle.flume_value.specs.Parts.{members_of}
use Rattle.dofn_eval.specs.declared.expr.Expr.TheVariants as expr
use Rattle.dofn_eval.specs.declared.stmt.Stmt.{Stmt}
use Rattle.dofn_eval.specs.Outcome.{Outcome, Gives, Traps, Stuck, then, with_part}
use Rattle.dofn_eval.specs.Run.{Emissions, emitted_to, each, for_each, run_statements}
use Rattle.dofn_calls.specs.inner.Passing.{passes, passed_by, passed_to, passed, passed_of}
use Rattle.dofn_eval.proofs.MeaningLemmas.{value_of-Variable, run-Emit}

-- ---- the output of a block, by how many statements it has

pub passed_to-none : (ss : List Stmt) → length ss < 1 → passed_to ss ≡ None
passed_to-none [] few = refl
passed_to-none (s ∷ ss) few = absurd (omega (arith, few))

pub passed_to-one : (ss : List Stmt) (s : Stmt) → 1 ≤ length ss → length ss < 2 → s ≡ get_or ss 0 s
    → passed_to ss ≡ passed_by s
passed_to-one [] s some few is = absurd (omega (arith, some))
passed_to-one (t ∷ []) s some few is = ap passed_by (sym is)
passed_to-one (t ∷ u ∷ ss) s some few is = absurd (omega (arith, few))

pub passed_to-more : (ss : List Stmt) → 2 ≤ length ss → passed_to ss ≡ None
passed_to-more [] many = refl
passed_to-more (s ∷ []) many = absurd (omega (arith, many))
passed_to-more (s ∷ t ∷ ss) many = refl

pub ruleset passing_rules = (passed_to-none, passed_to-one, passed_to-more)

-- ---- a block that passes on

nothing_more : {A : Type 0} (o : Outcome A) → then o Gives ≡ o
nothing_more (Gives a) = refl
nothing_more (Traps k) = refl
nothing_more Stuck = refl

-- the block emits its newest value
run-passes : (n : ℕ) (v : Value) (env : List Value) (out : Emissions)
    → run_statements (passes n) (v ∷ env) out ≡ emitted_to n v out
run-passes n v env out =
    run-Emit n (expr.Variable 0) [] (v ∷ env) out
    ∙ ap (λ o. then o (λ x. then (emitted_to n x out) Gives)) (value_of-Variable 0 (v ∷ env))
    ∙ nothing_more (emitted_to n v out)

-- ---- an output that was added to

get_set : (out : Emissions) (n : ℕ) (vs ws : List Value) → slice_get out n ≡ Some vs
    → slice_get (slice_set out n ws) n ≡ Some ws
get_set [] n vs ws e = cc
get_set (u ∷ out) zero vs ws e = refl
get_set (u ∷ out) (suc n) vs ws e = get_set out n vs ws e

set_set : (out : Emissions) (n : ℕ) (vs ws : List Value)
    → slice_set (slice_set out n vs) n ws ≡ slice_set out n ws
set_set [] n vs ws = refl
set_set (u ∷ out) zero vs ws = refl
set_set (u ∷ out) (suc n) vs ws = ap (λ l. u ∷ l) (set_set out n vs ws)

-- ---- one member after another

-- where what the members behind emit is known
each-behind : (n : ℕ) (x : Value) (xs : List Value) (env : List Value) (out : Emissions)
    (o : Option (List Value)) → slice_get out n ≡ o
    → ((more : Emissions) → each (run_statements (passes n)) xs env more ≡ passed n xs more)
    → then (with_part o (λ vs. Gives (slice_set out n (vs ++ x ∷ []))))
    (each (run_statements (passes n)) xs env)
    ≡ with_part o (λ vs. Gives (slice_set out n (vs ++ x ∷ xs)))
each-behind n x xs env out None e behind = refl
each-behind n x [] env out (Some vs) e behind = refl
each-behind n x (y ∷ ys) env out (Some vs) e behind =
    let more = slice_set out n (vs ++ x ∷ []) in
    behind more
    ∙ ap (λ o. with_part o (λ ws. Gives (slice_set more n (ws ++ y ∷ ys))))
    (get_set out n vs (vs ++ x ∷ []) e)
    ∙ ap Gives (set_set out n (vs ++ x ∷ []) ((vs ++ x ∷ []) ++ y ∷ ys))
    ∙ ap (λ ws. Gives (slice_set out n ws)) (append_assoc vs (x ∷ []) (y ∷ ys))

each-passes : (n : ℕ) (xs : List Value) (env : List Value) (out : Emissions)
    → each (run_statements (passes n)) xs env out ≡ passed n xs out
each-passes n [] env out = refl
each-passes n (x ∷ xs) env out =
    ap (λ o. then o (each (run_statements (passes n)) xs env)) (run-passes n x env out)
    ∙ each-behind n x xs env out (slice_get out n) refl (each-passes n xs env)

members-passes : (n : ℕ) (o : Option (List Value)) (env : List Value) (out : Emissions)
    → with_part o (λ xs. each (run_statements (passes n)) xs env out)
    ≡ with_part o (λ xs. passed n xs out)
members-passes n (Some xs) env out = each-passes n xs env out
members-passes n None env out = refl

pub for_each-passes : (n : ℕ) (o : Outcome Value) (env : List Value) (out : Emissions)
    → for_each (run_statements (passes n)) o env out ≡ then o (λ x. passed_of n x out)
for_each-passes n (Gives x) env out = members-passes n (members_of x) env out
for_each-passes n (Traps k) env out = refl
for_each-passes n Stuck env out = refl
