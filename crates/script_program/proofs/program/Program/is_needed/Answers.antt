use Rattle.std.proofs.Common.{◌≡◌, ◌<◌, length, sym, subst}
use Rattle.script_program.specs.Needed.{is_needed}
use Rattle.script_program.proofs.FlagLemmas.{tells}
use Rattle.script_program.proofs.program.Program.is_needed.Goals as goal

pub returns : goal.returns
returns c =
    let own = c.self.inside in
    subst (λ program. c.index.result.now ≡ is_needed program.script c.args.number) c.self.view_is
    (tells own.known own.functions.entries own.nodes own.outputs.entries
    own.needed.items c.args.number c.index.result.now c.self.invariant.1
    (subst (λ program. c.args.number < length program.script.nodes) (sym c.self.view_is)
    c.requires) c.index.ensures)
