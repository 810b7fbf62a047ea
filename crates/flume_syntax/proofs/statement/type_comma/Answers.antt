use Rattle.std.proofs.Common.{◌+◌}
use Rattle.flume_grammar.proofs.SoundTokens.{comma_read}
use Rattle.flume_syntax.proofs.statement.type_comma.Goals as goal

pub returns-clause-few : goal.returns-clause-few
returns-clause-few c =
    (comma_read (1 + c.args.types) 8 tt c.args.tokens.now c.comma.new.tokens
    c.in_ok-comma.ensures.value).fewer
