-- Each Pdo of a script's graph has one step, with few outputs.
use Rattle.std.proofs.Common.{◌≡◌, ◌≤◌, ◌-◌, ℕ, zero, suc, Bool, List, [], ◌∷◌, get_or, length, Some, None, refl, subst, arith}
use Rattle.std.specs.List.{AllByRecursion as Each}
use Rattle.flume_value.proofs.EachLemmas.{each_from}
use Rattle.exec_graph.specs.declared.step.Does.{Does}
use Rattle.exec_graph.specs.Forests.{Bare, Forest}
use Rattle.graph_laws.specs.Single.{AllSteps, HasNarrowSteps, HasSteps, IsOneStep, IsUnfused, most_outputs, width}
use Rattle.graph_build.specs.Built.{built}
use Rattle.graph_build.specs.Calls.{emitted_at, names_needed, needed_from, next_if, other_names, output_numbers}
use Rattle.graph_build.specs.Graphs.{graph_of}
use Rattle.graph_build.specs.Nodes.{call_branch, call_step, one_step}
use Rattle.graph_build.specs.of_script_program.declared.made.Made.TheVariants as made
use Rattle.graph_build.specs.of_script_program.Script.{Function, Script}
use Rattle.written_types.specs.Named.{Named}
use Rattle.direct_meaning.specs.of_script_laws.WellFormed.{HasOutputs, IsWellFormed, function_at}
use Rattle.build_law.proofs.Calling.{built_made}
use Rattle.build_law.proofs.MadeKinds.{built_of}
use Rattle.build_law.proofs.Names.{length_needed}
use Rattle.build_law.proofs.Naming.{as_many, fits_at}
use Rattle.build_law.proofs.EachNode.{each_node}
use Rattle.build_law.proofs.Outputs.{buds_width, no_kids}

-- the step of a call in a script, whose first name has that number
abbrev the_call : Script → ℕ → ℕ → Forest
the_call script first f =
    call_step first f (emitted_at script first)
    (needed_from script (suc first) (other_names script f))

-- what holds of each step of its own
record OfOne (script : Script) (P : Forest → Type 0) : Type 0 where
  pub step : (origin : ℕ) (last : Bool) (does : Does) → P (one_step origin last does)
  pub call : (t number input f o : ℕ)
      → get_or (built script) t None ≡ Some (built_of number (made.Do input f o))
      → P (the_call script (number - o) f)

graph_steps : (script : Script) (P : Forest → Type 0) → OfOne script P
    → AllSteps P (graph_of script)
graph_steps script P one =
    each_node script (HasSteps P)
    (record {
      source = λ t number mk is_object found is. tt;
      flatten = λ ins. tt;
      call = λ t number input f o c found. one.call t number input f o found;
      step = λ c origin last does. one.step origin last does;
      group = λ c origin last. tt;
      whole = λ origin act ins. tt;
    })

one_alone : (origin : ℕ) (last : Bool) (does : Does) → IsOneStep (one_step origin last does)
one_alone origin last does = record {
  step = record {
    origin = origin;
    last = last;
    does = does;
    first = record { out = Some 0; kids = Bare };
    more = [];
  };
  alone = refl;
  first = refl;
  more = tt;
}

call_alone : (origin f : ℕ) (first : Bool) (others : List Bool)
    → IsOneStep (call_step origin f first others)
call_alone origin f first others = record {
  step = call_branch origin f first others;
  alone = refl;
  first = refl;
  more = no_kids (output_numbers (next_if first 0) others);
}

pub is_unfused : (script : Script) → IsUnfused (graph_of script)
is_unfused script =
    graph_steps script IsOneStep
    (record {
      step = one_alone;
      call = λ t number input f o found.
          call_alone (number - o) f (emitted_at script (number - o))
          (needed_from script (suc (number - o)) (other_names script f));
    })

one_narrow : (origin : ℕ) (last : Bool) (does : Does)
    → width (one_step origin last does) ≤ most_outputs
one_narrow origin last does = omega arith

few_at : (functions : Named Function) (f : ℕ) (function : Function)
    → Each (λ entry. HasOutputs entry.1) functions → function_at functions f ≡ Some function
    → length function.signature.gives ≤ 8
few_at [] f function h is = cc
few_at (entry ∷ functions) zero function h is =
    let same : entry.1 ≡ function = cc in
    subst (λ (it : Function). length it.signature.gives ≤ 8) same h.0.few
few_at (entry ∷ functions) (suc f) function h is = few_at functions f function h.1 is

module _ (script : Script) (well : IsWellFormed script) where
  -- each function has few outputs
  has_few : (f : ℕ) (function : Function) → function_at script.functions f ≡ Some function
      → length function.signature.gives ≤ 8
  has_few f function is = few_at script.functions f function
      (each_from (λ (entry : List ℕ × Function). HasOutputs entry.1) script.functions well.gives)
      is

  call_narrow : (t number input f o : ℕ)
      → get_or (built script) t None ≡ Some (built_of number (made.Do input f o))
      → width (the_call script (number - o) f) ≤ most_outputs
  call_narrow t number input f o found =
      let fit =
      fits_at script well number (made.Do input f o)
      (built_made script t number (made.Do input f o) found) in
      let many =
      as_many script well f fit.fit.function o fit.type fit.fit.calls fit.fit.gives in
      let few = has_few f fit.fit.function fit.fit.calls in
      let wide =
      buds_width
      (call_branch (number - o) f (emitted_at script (number - o))
      (needed_from script (suc (number - o)) (other_names script f)))
      0 0 (names_needed script (number - o) f) in
      let all = length_needed script (number - o) (suc (other_names script f)) in
      omega arith

  pub has_narrow_steps : HasNarrowSteps (graph_of script)
  has_narrow_steps =
      graph_steps script (λ f. width f ≤ most_outputs)
      (record { step = one_narrow; call = call_narrow })
