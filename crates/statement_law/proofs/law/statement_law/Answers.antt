use Rattle.statement_law.proofs.Blanks.{outlines_alike}
use Rattle.statement_law.proofs.Texting.{blanks, many, same}
use Rattle.flume_grammar.specs.Limits.{the_limits}
use Rattle.statement_law.proofs.law.statement_law.Goals as goal

pub returns-clause-texts : goal.returns-clause-texts
returns-clause-texts c = λ bytes list statements p h.
    many the_limits list.items statements h (c.spelling_law.ensures.all bytes list p).each

pub returns-clause-same : goal.returns-clause-same
returns-clause-same c = λ bytes more list other ss rs j k s r text p h q i e f m n.
    same c.script_law.ensures.one_tree c.text_law.ensures.apart list.items other.items ss rs
    (c.spelling_law.ensures.all bytes list p).each (c.spelling_law.ensures.all more other q).each
    h i j k s r text e f m n

pub returns-clause-blanks : goal.returns-clause-blanks
returns-clause-blanks c = blanks c.script_law.ensures.one_tree

pub returns-clause-keys : goal.returns-clause-keys
returns-clause-keys c = outlines_alike
