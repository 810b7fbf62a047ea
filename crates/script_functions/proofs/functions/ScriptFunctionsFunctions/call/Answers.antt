use Rattle.std.proofs.Common.{◌≡◌, ◌≤◌, ◌∙◌, ℕ, Ok, Some, length, sym, ap, subst}
use Rattle.build_law.specs.of_script_program.Program.{function_in}
use Rattle.build_law.specs.of_script_program.Script.{Script}
use Rattle.build_law.specs.of_script_laws.WellFormed.{function_at}
use Rattle.forest_steps.specs.Answers.{lists_of}
use Rattle.script_functions.proofs.Calling.{emits, silent, traps}
use Rattle.script_functions.proofs.functions.ScriptFunctionsFunctions.call.Goals as goal

at : (c : goal.After-call_function) → function_at c.args.self.now.functions c.args.number
    ≡ Some (function_in c.self.inside.program.now.known c.function.result.now)
at c =
    ap (λ (s : Script). function_at s.functions c.args.number) (sym c.self.view_is)
    ∙ c.function.ensures.is

pub returns-then-number-function_count-clause-emissions :
    goal.returns-then-number-function_count-clause-emissions
returns-then-number-function_count-clause-emissions c =
    emits (function_at c.args.self.now.functions c.args.number)
    (function_in c.self.inside.program.now.known c.function.result.now) (at c)
    c.function.result.now.fun c.function.ensures.does c.args.element.now lists_of
    c.call_function.result c.call_function.ensures.emissions

pub returns-then-number-function_count-clause-trap :
    goal.returns-then-number-function_count-clause-trap
returns-then-number-function_count-clause-trap c =
    traps (function_at c.args.self.now.functions c.args.number)
    (function_in c.self.inside.program.now.known c.function.result.now) (at c)
    c.function.result.now.fun c.function.ensures.does c.args.element.now c.call_function.result
    c.call_function.ensures.trap

pub returns-else-number-function_count-clause-emissions :
    goal.returns-else-number-function_count-clause-emissions
returns-else-number-function_count-clause-emissions c =
    let count : c.function_count.result ≡ length c.args.self.now.functions =
    c.function_count.ensures ∙ ap (λ (s : Script). length s.functions) c.self.view_is in
    silent c.args.self.now.functions c.args.number
    (subst (λ (n : ℕ). n ≤ c.args.number) count c.if-number-function_count.false)
    c.args.element.now
    ∙ ap Ok (sym c.new.ensures.items)
