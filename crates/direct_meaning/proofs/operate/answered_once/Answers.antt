use Rattle.std.proofs.Common.{◌∙◌, List, Some, Err, ap, sym}
use Rattle.std.specs.Prelude.{Result}
use Rattle.std.specs.Option.{option_map}
use Rattle.std.proofs.lemmas.Result.{IfOk-weaker}
use Rattle.flume_value.specs.declared.value.Value.{Value}
use Rattle.flume_collection.specs.declared.trap.Trap.{Trap}
use Rattle.direct_meaning.proofs.CallLemmas.{gives_answer, traps_answer}
use Rattle.direct_meaning.specs.Objects.{answered_once as once, emission_on, only}
use Rattle.direct_meaning.proofs.operate.answered_once.Goals as goal

abbrev no_single : Trap → Result Value Trap
no_single trap = Err trap

pub returns-in-Ok : goal.returns-in-Ok
returns-in-Ok c =
    let x = c.args.argument.now in
    let answer = gives_answer c.args.fun.now x c.in-Ok.lists c.in-Ok.ensures.ok in
    IfOk-weaker c.one_of.result _ _
    (λ one is. ap (option_map (once c.args.origin x)) answer
    ∙ ap (λ (s : Result Value Trap). Some s)
    (ap (λ (l : List Value). emission_on c.args.origin x (only l)) (sym c.emitted.ensures) ∙ sym
    is))
    c.one_of.ensures

pub returns-in_ok-trap-in-Err-Trap : goal.returns-in_ok-trap-in-Err-Trap
returns-in_ok-trap-in-Err-Trap c =
    let x = c.args.argument.now in
    let trap = rw c.in-Err-Trap.field-0-is at c.in-Err-Trap.ensures.trap in
    let answer = traps_answer c.args.fun.now x c.in-Err-Trap.kind trap in
    ap (option_map (once c.args.origin x)) answer
    ∙ ap (λ (t : Trap). Some (no_single t)) (sym c.in_ok-trap-in-Err-Trap.ensures)
