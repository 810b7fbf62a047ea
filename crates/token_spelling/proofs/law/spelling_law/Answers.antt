use Rattle.token_spelling.proofs.CutAgain.{cut_from, spelled_utf8}
use Rattle.token_spelling.proofs.LastLines.{script}
use Rattle.token_spelling.proofs.FoundTokens.{spellable}
use Rattle.token_spelling.proofs.law.spelling_law.Goals as goal

pub returns-clause-cut : goal.returns-clause-cut
returns-clause-cut c ts h = cut_from c.keyword_law.ensures 1 ts h.each h.lines

pub returns-clause-text : goal.returns-clause-text
returns-clause-text c ts h = spelled_utf8 1 ts h.each

pub returns-clause-script : goal.returns-clause-script
returns-clause-script c ts h small = script c.keyword_law.ensures ts h small

pub returns-clause-all : goal.returns-clause-all
returns-clause-all c = spellable
