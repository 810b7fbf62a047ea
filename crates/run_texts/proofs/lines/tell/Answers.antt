use Rattle.outside.proofs.SaidLemmas.{has_line}
use Rattle.run_texts.specs.Lines.{line_of}
use Rattle.run_texts.proofs.lines.tell.Goals as goal

pub returns-clause-line : goal.returns-clause-line
returns-clause-line g c =
    has_line (line_of c.args.status.now) (g.P.Screen.seen c.args.screen.now)
    (g.P.Screen.seen c.say_line.new.screen) c.say_line.result c.say_line.ensures
