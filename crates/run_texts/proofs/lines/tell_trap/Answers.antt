use Rattle.outside.proofs.SaidLemmas.{has_line}
use Rattle.run_texts.specs.Lines.{trap_line}
use Rattle.run_texts.proofs.lines.tell_trap.Goals as goal

pub returns-clause-line : goal.returns-clause-line
returns-clause-line g c =
    has_line (trap_line c.args.name.now c.args.kind c.args.element.now)
    (g.P.Screen.seen c.args.screen.now)
    (g.P.Screen.seen c.say_trap.new.screen) c.say_trap.result c.say_trap.ensures
