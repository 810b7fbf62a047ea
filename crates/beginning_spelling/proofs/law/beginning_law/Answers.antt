use Rattle.std.proofs.Common.{subst}
use Rattle.token_spelling.specs.Spellable.{AreSpellable}
use Rattle.token_spelling.specs.Spelled.{spelled}
use Rattle.beginning_spelling.proofs.PlainTokens.{front_spelled}
use Rattle.beginning_spelling.proofs.Written.{have_tokens, written, only}
use Rattle.beginning_spelling.proofs.law.beginning_law.Goals as goal

pub returns-clause-bytes : goal.returns-clause-bytes
returns-clause-bytes c ts h =
    (spelled ts, have_tokens c.spelling_law.ensures.cut c.spelling_law.ensures.text ts h)

pub returns-clause-written : goal.returns-clause-written
returns-clause-written c = written c.spelling_law.ensures.cut c.spelling_law.ensures.text

pub returns-clause-front : goal.returns-clause-front
returns-clause-front c limits bytes list front back q e =
    written c.spelling_law.ensures.cut c.spelling_law.ensures.text limits front
    (front_spelled front back
    (subst (λ ts. AreSpellable ts) e (c.spelling_law.ensures.all bytes list q)))

pub returns-clause-only : goal.returns-clause-only
returns-clause-only c = only
