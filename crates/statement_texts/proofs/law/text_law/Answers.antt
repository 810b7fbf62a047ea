use Rattle.std.proofs.Common.{ap, map}
use Rattle.statement_texts.specs.Texts.{spaced_tokens, statements_of}
use Rattle.statement_texts.proofs.Apart.{joined_apart}
use Rattle.statement_texts.proofs.law.text_law.Goals as goal

pub returns-clause-same : goal.returns-clause-same
returns-clause-same c =
    λ bytes more list other p q e. ap (λ ks. map spaced_tokens (statements_of ks)) e

pub returns-clause-apart : goal.returns-clause-apart
returns-clause-apart c = joined_apart c.spelling_law.ensures.cut
