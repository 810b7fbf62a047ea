use Rattle.std.proofs.Common.{◌≡◌, ℕ, map, Some, None, sym, subst}
use Rattle.script_program.specs.inner.Tables.{FunctionIn}
use Rattle.type_table.specs.Table.{type_at}
use Rattle.script_program.specs.Script.{Callee, Function, find_function}
use Rattle.script_program.specs.Program.{HasTypes, function_in}
use Rattle.body_check.proofs.of_written_types.NamedLemmas.{found-within}
use Rattle.script_state.proofs.StateLemmas.{placed-found, placed-none}
use Rattle.script_state.proofs.state.State.function.Goals as goal

abbrev called : ℕ → Function → Callee
called number function = record {
  number = number;
  takes = function.signature.takes;
  gives = function.signature.gives;
}

pub returns-in_err-number-clause-ok : goal.returns-in_err-number-clause-ok
returns-in_err-number-clause-ok c =
    let own = c.self.inside in
    rw c.from_residual.ensures
    (subst
    (λ checking. None ≡ find_function c.args.name.now checking.state.functions)
    c.self.view_is
    (placed-none (function_in own.known) called c.args.name.now own.functions.entries
    c.in_err-number.ensures.value))

pub returns-clause-ok : goal.returns-clause-ok
returns-clause-ok c =
    let own = c.self.inside in
    let found = c.in_ok-number in
    subst
    (λ checking. Some (record {
      number = found.number;
      takes = type_at checking.types found.function.now.signature.takes;
      gives = map (type_at checking.types) found.function.now.signature.gives;
    })
    ≡ find_function c.args.name.now checking.state.functions)
    c.self.view_is
    (placed-found (function_in own.known) called c.args.name.now own.functions.entries
    found.number found.function.now found.ensures.index found.ensures.value)

pub returns-clause-within : goal.returns-clause-within
returns-clause-within c =
    let own = c.self.inside in
    let found = c.in_ok-number in
    let held =
    found-within (FunctionIn own.known) c.args.name.now own.functions.entries
    found.function.now c.self.invariant.0 (sym found.ensures.value) in
    subst (λ checking. HasTypes checking.types found.function.now.signature) c.self.view_is
    held.within
