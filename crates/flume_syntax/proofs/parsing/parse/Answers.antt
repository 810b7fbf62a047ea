use Rattle.flume_grammar.proofs.Parsed.{all_accepted, only_accepted}
use Rattle.flume_grammar.proofs.Refused.{refused, only_refused}
use Rattle.flume_syntax.proofs.parsing.parse.Goals as goal

pub returns-clause-accepted : goal.returns-clause-accepted
returns-clause-accepted c = all_accepted c.args.bytes.now c.parsed.result c.parsed.ensures.ok

pub returns-clause-only : goal.returns-clause-only
returns-clause-only c =
    only_accepted c.args.bytes.now c.parsed.result c.parsed.ensures.ok c.parsed.ensures.err

pub returns-clause-refused : goal.returns-clause-refused
returns-clause-refused c = refused c.args.bytes.now c.parsed.result c.parsed.ensures.err

pub returns-clause-only_refused : goal.returns-clause-only_refused
returns-clause-only_refused c =
    only_refused c.args.bytes.now c.parsed.result c.parsed.ensures.ok c.parsed.ensures.err
