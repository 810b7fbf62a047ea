use Rattle.std.proofs.Common.{◌≡◌, ◌++◌, ◌∷◌, [], ℕ, false, is_some, List, length, map, take, None}
use Rattle.std.proofs.Common.{sym, ap, ◌∙◌, subst, arith}
use Rattle.std.proofs.Math.Seq.{take-length}
use Rattle.flume_types.specs.declared.types.Ty.{Ty}
use Rattle.flume_grammar.specs.declared.tree.Function.{Function as Written}
use Rattle.dofn_eval.specs.Function.{SlotFunction as Fun}
use Rattle.body_check.specs.of_written_types.Known.{Known}
use Rattle.body_check.specs.of_written_types.Named.{Named, find}
use Rattle.script_program.specs.declared.made.Function.{Function as HeldFunction}
use Rattle.script_program.specs.declared.made.Signature.{Signature as HeldSignature}
use Rattle.script_program.specs.Script.{Function, function_from, with_function}
use Rattle.script_program.specs.Program.{signature_in, HasTypes, function_in, DoesAsWritten}
use Rattle.script_program.specs.inner.Tables.{function_of, FunctionIn}
use Rattle.script_state.specs.Held.{Checking}
use Rattle.script_state.specs.declared.state.State.TheInside.{Inside}
use Rattle.body_check.proofs.of_written_types.NamedLemmas.{mapped-put, within-put}
use Rattle.script_state.proofs.StateLemmas.{as-seen, none-is, state_in, told}
use Rattle.script_state.proofs.state.State.add_function.Goals as goal

abbrev held : ℕ → Written → HeldSignature → Fun → HeldFunction
held type_names function signature fun = record {
  type_names = type_names;
  argument = function.argument;
  signature = signature;
  body = function.body;
  fun = fun;
}

-- the function, where these are the names of types that are known
abbrev under : Known → HeldFunction → Named Ty → Function
under known it names = record (function_in known it) { types = names }

all-names : (known : Known) (it : HeldFunction) → it.type_names ≡ length known.names
    → take it.type_names known.names ≡ known.names
all-names known it many = ap (λ n. take n known.names) many ∙ take-length known.names

is-new : {seen : Checking} (own : Inside) (name : List ℕ) → told own ≡ seen
    → is_some (find name seen.state.functions) ≡ false
    → find name (state_in own).functions ≡ None
is-new own name is absent =
    none-is _
    (subst (λ checking. is_some (find name checking.state.functions) ≡ false) (sym is) absent)

pub invariant_of-self-2 : goal.invariant_of-self-2
invariant_of-self-2 c =
    let known = c.self.inside.known in
    let it = held c.name_count-type_names.result c.args.function c.args.signature c.args.fun in
    let new = is-new c.self.inside c.args.function.name c.self.view_is c.requires.new in
    let within =
    subst (λ checking. HasTypes checking.types c.args.signature) (sym c.self.view_is)
    c.requires.within in
    let does =
    subst
    (λ (checking : Checking).
    DoesAsWritten c.args.fun (function_from c.args.function
    (signature_in checking.types c.args.signature) checking.state))
    (sym c.self.view_is) c.requires.does in
    let in_ : FunctionIn known it = record {
      within = within;
      named = omega (arith, c.name_count-type_names.ensures);
      does =
          subst (λ names. DoesAsWritten c.args.fun (under known it names))
          (sym (all-names known it c.name_count-type_names.ensures)) does;
    } in (
      within-put (function_in known) c.self.inside.functions c.insert.new.self
          c.args.function.name it new c.in_ok-insert.ensures.entries
          (λ (entry : List ℕ × HeldFunction). FunctionIn known entry.1) c.self.invariant.0 in_,
      c.self.invariant.1,
    )

pub returns-clause-state : goal.returns-clause-state
returns-clause-state c =
    let known = c.self.inside.known in
    let it = held c.name_count-type_names.result c.args.function c.args.signature c.args.fun in
    let new = is-new c.self.inside c.args.function.name c.self.view_is c.requires.new in
    let functions =
    mapped-put (function_in known) c.self.inside.functions c.insert.new.self
    c.args.function.name it new c.in_ok-insert.ensures.entries
    ∙ ap
    (λ (names : Named Ty). map (function_of known) c.self.inside.functions.entries
    ++ (c.args.function.name, under known it names) ∷ [])
    (all-names known it c.name_count-type_names.ensures) in
    as-seen
    (λ checking. with_function c.args.function.name
    (function_from c.args.function (signature_in checking.types c.args.signature) checking.state)
    checking.state)
    c.self.view_is
    (λ i. record (state_in c.self.inside) { functions = functions i })
