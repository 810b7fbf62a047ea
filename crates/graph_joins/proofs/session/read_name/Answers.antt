use Rattle.std.proofs.Common.{sym, ◌∙◌}
use Rattle.std.proofs.lemmas.Bool.{false≢true}
use Rattle.graph_joins.proofs.Tests.{reader_is_tested, reader_is_told, reader_passes}
use Rattle.graph_joins.proofs.session.read_name.Goals as goal

pub is_told-requires : goal.is_told-requires
is_told-requires c = c.requires.lists

pub returns-then-not-reads-clause-none : goal.returns-then-not-reads-clause-none
returns-then-not-reads-clause-none c = λ n r.
    false≢true (sym c.if-not-reads.true ∙ c.reads.ensures
    ∙ reader_is_tested c.args.joins.now.graph c.args.kid.keeper c.args.kid.output c.args.kid.reader
    n c.input-read.result c.input-read.ensures r)

pub returns-then-is_told-clause-some : goal.returns-then-is_told-clause-some
returns-then-is_told-clause-some c =
    reader_passes c.args.joins.now.graph c.args.kid.keeper c.args.kid.output c.args.kid.reader
    c.input-read.result c.requires.stands.apart c.input-read.ensures
    (sym c.reads.ensures ∙ c.if-not-reads.false) (sym c.is_told.ensures ∙ c.if-is_told.true)

pub returns-else-is_told-clause-none : goal.returns-else-is_told-clause-none
returns-else-is_told-clause-none c = λ n r.
    false≢true (sym c.if-is_told.false ∙ c.is_told.ensures
    ∙ reader_is_told c.args.joins.now.graph c.args.kid.keeper c.args.kid.output c.args.kid.reader
    n c.input-read.result c.input-read.ensures r)
