-- What has a limit of depth, by what has a lower one.
use Rattle.std.proofs.Common.{◌≡◌, ℕ, zero, suc, ◌-◌, ◌≤◌, List, refl, ap, sym, ◌∙◌, arith}
use Rattle.flume_tokens.specs.declared.token.Token.{Token}
use Rattle.flume_grammar.specs.Limits.{Limits}
use Rattle.flume_grammar.specs.inner.Out.{Out}
use Rattle.flume_grammar.specs.inner.Types as t
use Rattle.flume_grammar.specs.inner.Types.{type_layer, type_within}
use Rattle.flume_grammar.specs.inner.Expressions as e
use Rattle.flume_grammar.specs.inner.Expressions.{expression_layer, expression_within}
use Rattle.flume_grammar.specs.inner.Bodies.{Block, block_layer, block_within}

less_one : (n : ℕ) → suc n - 1 ≡ n
less_one n = omega arith

step : {A : Type 0} (within : ℕ → A) (layer : ℕ → A → A)
    → ((n : ℕ) → within (suc n) ≡ layer (suc n) (within n)) → (n : ℕ) → 1 ≤ n
    → within n ≡ layer n (within (n - 1))
step within layer h zero l = absurd (omega arith)
step within layer h (suc n) l = h n ∙ ap (λ m. layer (suc n) (within m)) (sym (less_one n))

pub type_step : (l : Limits) (n : ℕ) (ts : List Token) → 1 ≤ n
    → type_within l n ts ≡ type_layer l n (type_within l (n - 1)) ts
unfolding type_within
type_step l n ts h =
    ap (λ (f : t.Inner). f ts) (step (type_within l) (type_layer l) (λ m. refl) n h)

pub expression_step : (l : Limits) (n least : ℕ) (ts : List Token) → 1 ≤ n
    → expression_within l n least ts ≡ expression_layer l n (expression_within l (n - 1)) least ts
unfolding expression_within
expression_step l n least ts h = ap (λ (f : e.Inner). f least ts)
    (step (expression_within l) (expression_layer l) (λ m. refl) n h)

pub block_step : (l : Limits) (n : ℕ) (ts : List Token) → 1 ≤ n
    → block_within l n ts ≡ block_layer l n (block_within l (n - 1)) ts
unfolding block_within
block_step l n ts h = ap (λ (f : List Token → Out Block). f ts)
    (step (block_within l) (block_layer l) (λ m. refl) n h)
