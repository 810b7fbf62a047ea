use Rattle.std.proofs.Common.{◌≡◌, ◌≤◌, ◌+◌, ◌++◌, [], ◌∷◌, ap, sym, subst, ◌∙◌}
use Rattle.statement_texts.specs.inner.Passing.{all_texts}
use Rattle.statement_texts.proofs.Passed.{few_more, no_more, one_more}
use Rattle.statement_texts.proofs.texts.with_front.Goals as goal

pub loop-token-preserved : goal.loop-token-preserved
loop-token-preserved c = record {
  texts = one_more c.loop-token.texts.items c.with_token.new.texts.items
      (all_texts c.args.tokens.now) c.loop-token.text.items c.in_ok-text.text.items
      c.args.tokens.now c.loop-token.token-index c.loop-token.depth c.braces_behind-depth.result
      c.token-item.result c.loop-token-test.true c.token-item.is c.braces_behind-depth.ensures
      c.in_ok-text.ensures c.loop-token.invariant.texts;
  few = subst (λ d. d ≤ c.loop-token.token-index + 1) (sym c.braces_behind-depth.ensures)
      (few_more c.loop-token.depth c.loop-token.token-index c.token-item.result.kind
      c.loop-token.invariant.few);
}

pub returns : goal.returns
returns c =
    c.in_ok-push.ensures.items
    ∙ ap (λ t. c.loop-token.texts.items ++ t ∷ []) c.in_ok-from_vec.ensures.made
    ∙ no_more c.loop-token.texts.items (all_texts c.args.tokens.now) c.loop-token.text.items
    c.args.tokens.now c.loop-token.token-index c.loop-token.depth c.loop-token-test.false
    c.loop-token.invariant.texts
