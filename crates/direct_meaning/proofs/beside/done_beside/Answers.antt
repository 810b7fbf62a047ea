use Rattle.std.proofs.Common.{◌||◌}
use Rattle.script_program.specs.Program.{function_in}
use Rattle.direct_meaning.proofs.OnceLemmas.{beside_kept, does_found}
use Rattle.direct_meaning.specs.inner.Objects.{value_kept}
use Rattle.direct_meaning.proofs.beside.done_beside.Goals as goal

pub returns-in-Some : goal.returns-in-Some
returns-in-Some c f at =
    beside_kept c.args.number c.function.result.now.fun f
    (does_found c.function.result.now.fun _
    (function_in c.args.program.now.known c.function.result.now) f c.function.ensures.does
    c.function.ensures.is at)
    (c.args.source.now.trapped || c.args.object.now.trapped) (value_kept c.args.object.now)
    c.in-Some.value.now c.in-Some.ensures c.args.source.now c.called_beside.result
    c.args.traps.now.items c.called_beside.new.traps.items c.called_beside.ensures.members
    c.called_beside.ensures.traps c.called_beside.ensures.trapped
