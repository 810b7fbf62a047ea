-- How a statement of a function's body is read.
use Rattle.std.specs.Prelude.{ℕ, List, Result}
use Rattle.flume_tokens.specs.declared.token.Token.{Token}
use Rattle.flume_grammar.specs.declared.fault.Stop.{Stop}
use Rattle.flume_grammar.specs.declared.tree.Body.{Body}
use Rattle.flume_grammar.specs.Limits.{Limits, the_limits}
use Rattle.flume_grammar.specs.inner.Out.{Out}
use Rattle.flume_grammar.specs.inner.Reads.{ReadsSuch, Within}
use Rattle.flume_grammar.specs.inner.Bodies.{Block, block_below}

-- what a call answers that reads a statement of this form, which begins on that line and is at most
-- as deep as the limit
abbrev pub ReadsBody : (Limits → ℕ → (List Token → Out Block) → ℕ → List Token → Out (Body × ℕ)) → ℕ
    → ℕ → List Token → List Token → Result (Body × ℕ) Stop → Type 0
ReadsBody form limit line ts us r =
    ReadsSuch (Within limit) (form the_limits limit (block_below limit) line) ts us r
