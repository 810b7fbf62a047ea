use Rattle.std.proofs.Common.{◌∙◌, Some, ap, map, sym}
use Rattle.std.specs.List.{list_any}
use Rattle.std.specs.Option.{option_map}
use Rattle.script_program.specs.Program.{function_in}
use Rattle.direct_meaning.proofs.OnceLemmas.{does_found, operated_kept}
use Rattle.direct_meaning.specs.inner.Kept.{is_trapped, kept_in}
use Rattle.direct_meaning.specs.inner.Objects.{values_in}
use Rattle.direct_meaning.proofs.operate.operated.Goals as goal

pub returns-in_ok-single-in-Some : goal.returns-in_ok-single-in-Some
returns-in_ok-single-in-Some c f at =
    operated_kept c.args.number c.function.result.now.fun f
    (does_found c.function.result.now.fun _
    (function_in c.args.program.now.known c.function.result.now) f c.function.ensures.does
    c.function.ensures.is at)
    (list_any (λ object. is_trapped (kept_in c.args.table.now object)) c.args.objects.now)
    (values_in c.args.table.now c.args.objects.now)
    (map (λ value. value.now) c.as_slice.result.now)
    (ap (λ l. Some (map (λ value. value.now) l)) c.as_slice.ensures.value
    ∙ (ap (option_map (λ all. map (λ value. value.now) all.items)) (sym c.in-Some.is)
    ∙ c.in_ok-values.ensures))
    c.in_ok-single-in-Some.single c.in_ok-single-in-Some.ensures c.object.result
    c.args.traps.now.items c.object.new.traps.items c.object.ensures.members
    c.object.ensures.trapped c.object.ensures.traps
