-- Each statement's rules keep what is well formed so far.
use Rattle.std.proofs.Common.{◌≡◌, ℕ, ◌+◌, ◌<◌, ◌≤◌, nat_le, nat_lt, List, []}
use Rattle.std.proofs.Common.{◌∷◌, ◌++◌, length, map, Ok, Some, refl, sym, ap, subst, arith}
use Rattle.std.proofs.Common.{length-append, slice_get, IsSomeAnd}
use Rattle.std.specs.List.{All}
use Rattle.std.proofs.lemmas.Bool.{leb-true}
use Rattle.std.proofs.lemmas.List.{map-append}
use Rattle.std.proofs.lemmas.Bool.Decides.{Decides-ltb}
use Rattle.std.proofs.lemmas.List.Elements.{All-push, All-nil}
use Rattle.flume_value.proofs.EachLemmas.{Each-at, Each-map}
use Rattle.flume_types.specs.Columns.{columns_of, input_columns_of}
use Rattle.flume_types.specs.declared.types.Ty.{Ty}
use Rattle.flume_grammar.specs.declared.tree.Type as tree
use Rattle.flume_grammar.specs.declared.tree.Form.{Form}
use Rattle.flume_grammar.specs.declared.tree.Form.TheVariants as form
use Rattle.flume_grammar.specs.declared.tree.Function.{Function as WrittenFunction}
use Rattle.flume_grammar.specs.declared.tree.Operation.{Operation}
use Rattle.flume_grammar.specs.declared.tree.Repeat.{Repeat as WrittenRepeat}
use Rattle.flume_grammar.specs.declared.tree.Statement.{Statement}
use Rattle.flume_grammar.specs.declared.fault.ScriptKind.TheVariants.{NotFlat, NoOutput, TooMany}
use Rattle.script_rules.specs.of_written_types.Answer.{unless, or_fault}
use Rattle.script_rules.specs.of_written_types.Named.{Named, fresh}
use Rattle.script_rules.specs.of_written_types.Written.{whole_type}
use Rattle.script_rules.specs.of_script_program.Limits.{most_collections, most_files, most_functions, most_outputs}
use Rattle.script_rules.specs.of_script_program.Kinds.{emitted_as}
use Rattle.script_rules.specs.of_script_program.Saved.{HasNoSaved, IsUnsaved}
use Rattle.script_rules.specs.of_script_program.declared.made.Emitted.{Emitted}
use Rattle.script_rules.specs.of_script_program.declared.made.Made.{Made}
use Rattle.script_rules.specs.of_script_program.declared.made.Made.TheVariants as made
use Rattle.script_rules.specs.of_script_program.declared.made.Output.{Output}
use Rattle.script_rules.specs.of_script_program.Script.{Function, Making, Node, Script, Signature, State, empty_state}
use Rattle.script_rules.specs.of_script_program.Script.{node_from, script_from, with_node}
use Rattle.script_rules.specs.of_script_program.Script.{with_statement}
use Rattle.script_rules.specs.Operations.{operand_named}
use Rattle.script_rules.specs.Repeats.{unrolled}
use Rattle.script_rules.specs.Rules as spec
use Rattle.script_rules.proofs.CheckedLemmas.{both, holds, there, ok-same}
use Rattle.script_rules.proofs.FoundLemmas.{ruled}
use Rattle.script_laws.specs.WellFormed.{Fits, AllFit, AllReadKinds, HasColumns, HasOutputs}
use Rattle.script_laws.specs.WellFormed.{IsCallOf, IsNameOf, IsWellTyped, IsWellFormed}
use Rattle.script_laws.proofs.FitLemmas.{all-fit-more, fit-append, kinds-append, outputs-kept}
use Rattle.script_laws.proofs.OperandLemmas.{is-read}
use Rattle.script_laws.proofs.NewLemmas.{how_made}
use Rattle.script_laws.proofs.BodyLemmas.{has-named}
use Rattle.script_laws.proofs.CallLemmas.{Stands, CallsStand, calls-more, calls-push}
use Rattle.script_laws.proofs.CopyLemmas.{calls-joined, turns-stand}
use Rattle.script_laws.proofs.FittingLemmas.{unrolled-fits, unrolled-kinds}
use Rattle.script_laws.proofs.RepeatLemmas.{has-turns, turns-long}
use Rattle.script_laws.proofs.UnsavedLemmas.{AreUnsaved, both-unsaved, places-unsaved}
use Rattle.script_laws.proofs.UnsavedLemmas.{turns-unsaved}

-- functions and collections that are well formed
record AreMade (defined : Named Function) (made_ : Named Node) : Type 0 where
  pub functions : All (λ (entry : List ℕ × Function). IsWellTyped entry.1) defined
  pub gives : All (λ (entry : List ℕ × Function). HasOutputs entry.1) defined
  pub nodes : AllFit defined [] made_
  pub kinds : AllReadKinds [] made_
  pub calls : CallsStand defined (map how_made made_)
  pub unsaved : AreUnsaved made_
  pub few : length made_ ≤ most_collections

-- what is defined so far is well formed
record AreGood (defined : Named Function) (made_ : Named Node) (written : Named Output) : Type 0
  where
    pub made_well : AreMade defined made_
    pub open made_well use *
    pub outputs : All (λ (entry : List ℕ × Output). HasColumns made_ entry.1) written

abbrev IsGood : State → Type 0
IsGood s = AreGood s.functions s.nodes s.outputs

-- where there is room for so many more, there is
has-room : {A : Type 0} (line more limit : ℕ) (names : Named A) (u : Unit {0})
    → spec.room line more limit names ≡ Ok u → length names + more ≤ limit
has-room line more limit names u room =
    leb-true (length names + more) limit (holds line TooMany _ u room)

-- what is as good as before, with more nodes, where they are not too many
nodes-more : (s after : State) (more : Named Node) → IsGood s → AllFit s.functions s.nodes more
    → AllReadKinds s.nodes more
    → CallsStand s.functions (map how_made s.nodes ++ map how_made more) → AreUnsaved more
    → after.nodes ≡ s.nodes ++ more → after.functions ≡ s.functions → after.outputs ≡ s.outputs
    → length after.nodes ≤ most_collections → IsGood after
nodes-more s after more good fits kinds calls unsaved nodes functions outputs few =
    let all : AreGood s.functions (s.nodes ++ more) s.outputs = record {
      made_well = record {
        functions = good.functions;
        gives = good.gives;
        nodes = fit-append s.functions [] s.nodes more good.nodes fits;
        kinds = kinds-append [] s.nodes more good.kinds kinds;
        calls = subst (CallsStand s.functions) (sym (map-append how_made s.nodes more)) calls;
        unsaved = both-unsaved s.nodes more good.unsaved unsaved;
        few = subst (λ all. length all ≤ most_collections) nodes few;
      };
      outputs = outputs-kept s.nodes more s.outputs good.outputs;
    } in
    subst (AreGood after.functions after.nodes) (sym outputs)
    (subst (λ all. AreGood after.functions all s.outputs) (sym nodes)
    (subst (λ all. AreGood all (s.nodes ++ more) s.outputs) (sym functions) all))

-- a function gives to as many outputs as types are written
types-many : (line : ℕ) (found : List Ty) (types : List tree.Type) (known : Named Ty)
    (all : List Ty) → spec.types_behind line found types known ≡ Ok all
    → length all ≡ length found + length types
types-many line found [] known all e =
    omega (arith, ap length (ok-same found all e))
types-many line found (type ∷ types) known all e =
    let next = both (spec.type_behind line found type known) _ all e in
    let t = both (whole_type line type known) _ next.part next.first in
    let one = ap length (ok-same (found ++ t.part ∷ []) next.part t.then) in
    let rest = types-many line next.part types known all next.then in
    omega (arith, rest, one, length-append found (t.part ∷ []))

module _ (line : ℕ) (s after : State) (good : IsGood s) where
  type-good : (name : List ℕ) (type : tree.Type) → spec.rule_type line name type s ≡ Ok after
      → IsGood after
  type-good name type e =
      let new = both (fresh line name s.types) _ after e in
      let t = both (whole_type line type s.types) _ after new.then in
      subst IsGood (ok-same _ after t.then) good

  input-good : (name : List ℕ) (type : tree.Type) (file : List ℕ)
      → spec.rule_input line name type file s ≡ Ok after → IsGood after
  input-good name type file e =
      let few = both (spec.room line 1 most_collections s.nodes) _ after e in
      let new = both (fresh line name s.names) _ after few.then in
      let t = both (whole_type line type s.types) _ after new.then in
      let columns = both (or_fault line NotFlat (input_columns_of t.part)) _ after t.then in
      let making : Making = record { made = made.Input file columns.part; type = t.part } in
      let fits : Fits s.functions s.nodes making.made making.type =
      there line NotFlat _ columns.part columns.first in
      let more : Named Node = (name, node_from s.statements making) ∷ [] in
      let below = has-room line 1 most_collections s.nodes few.part few.first in
      subst IsGood (ok-same _ after columns.then)
      (nodes-more s (with_node name making s) more good (fits, tt)
      (record { members = tt; values = tt }, tt)
      (calls-push s.functions (map how_made s.nodes) making.made tt good.calls) (tt, tt)
      refl refl refl
      (omega (arith, below, length-append s.nodes more)))

  given-good : (function : WrittenFunction) (types : List Ty)
      → spec.types_given line function s.types ≡ Ok types
      → (1 ≤ length types) × (length types ≤ most_outputs)
  given-good function types e =
      let all =
      both (spec.types_behind line [] (function.gives ∷ function.more) s.types) _ types e in
      let few = both (unless line TooMany (nat_le (length all.part) most_outputs)) _
      types all.then in
      let many =
      types-many line [] (function.gives ∷ function.more) s.types all.part all.first in
      let below =
      leb-true (length all.part) most_outputs (holds line TooMany _ few.part few.first) in
      subst (λ types. (1 ≤ length types) × (length types ≤ most_outputs))
      (ok-same all.part types few.then) (omega (arith, many), below)

  signature-good : (function : WrittenFunction) (signature : Signature)
      → spec.signature_of line function s ≡ Ok signature
      → (1 ≤ length signature.gives) × (length signature.gives ≤ most_outputs)
  signature-good function signature e =
      let few = both (spec.room line 1 most_functions s.functions) _ signature e in
      let new = both (fresh line function.name s.functions) _ signature few.then in
      let takes = both (whole_type line function.takes s.types) _ signature new.then in
      let gives = both (spec.types_given line function s.types) _ signature takes.then in
      let scale = both (spec.scale_written line function.scale) _ signature gives.then in
      subst
      (λ (it : Signature). (1 ≤ length it.gives) × (length it.gives ≤ most_outputs))
      (ok-same _ signature scale.then) (given-good function gives.part gives.first)

  function-good : (function : WrittenFunction) → spec.rule_function line function s ≡ Ok after
      → IsGood after
  function-good function e =
      let it = ruled line function s after e in
      let many = signature-good function it.signature it.signed in
      subst IsGood it.is (record {
        made_well = record {
          functions =
              All-push (λ (entry : List ℕ × Function). IsWellTyped entry.1) s.functions _
              good.functions it.typed;
          gives =
              All-push (λ (entry : List ℕ × Function). HasOutputs entry.1) s.functions _
              good.gives (record { some = many.0; few = many.1 });
          nodes = all-fit-more s.functions _ [] s.nodes good.nodes;
          kinds = good.kinds;
          calls = calls-more s.functions _ (map how_made s.nodes) good.calls;
          unsaved = good.unsaved;
          few = good.few;
        };
        outputs = good.outputs;
      })

  let-good : (names : List (List ℕ)) (by : Operation) → spec.rule_let line names by s ≡ Ok after
      → IsGood after
  let-good names by e =
      let few = both (spec.room line (length names) most_collections s.nodes) _ after e in
      let below = has-room line (length names) most_collections s.nodes few.part few.first in
      let it = has-named line s after names by few.then in
      let has = it.has in
      nodes-more s after has.lets good has.fit has.kinds
      (has.calls (map how_made s.nodes) good.calls)
      (places-unsaved 0 has.lets (has.in_place 0))
      has.nodes has.functions has.outputs (omega (arith, below, it.few))

  repeat-good : (names : List (List ℕ)) (written : WrittenRepeat)
      → spec.rule_repeat line names written s ≡ Ok after → IsGood after
  repeat-good names written e =
      let it = both (spec.repeated line names written s) _ after e in
      let repeat = it.part.repeat in
      let first = length s.names in
      let has = has-turns line names written s it.part first it.first in
      let more = unrolled repeat in
      let many = turns-long repeat repeat.turns 1 repeat.from repeat.outside in
      let long = ap length has.nodes in
      subst IsGood (ok-same _ after it.then)
      (nodes-more s (spec.with_repeat repeat first it.part.behind) more good
      (unrolled-fits s.functions s.nodes repeat has.fits)
      (unrolled-kinds s.functions s.nodes repeat has.fits)
      (calls-joined s.functions (map how_made s.nodes) (map how_made more) good.calls
      (turns-stand s.functions repeat has.calls repeat.turns 1 repeat.from repeat.outside))
      (turns-unsaved repeat (places-unsaved 0 repeat.body has.fits.in_place) repeat.turns 1
      repeat.from repeat.outside)
      has.nodes has.functions has.outputs
      (omega (arith, has.few, many, long, length-append s.nodes more)))

  output-good : (name file : List ℕ) → spec.rule_output line name file s ≡ Ok after → IsGood after
  output-good name file e =
      let few = both (spec.room line 1 most_files s.outputs) _ after e in
      let one = both (operand_named line name s) _ after few.then in
      let columns = both (or_fault line NotFlat (columns_of one.part.type)) _ after one.then in
      let new = both (fresh line file s.outputs) _ after columns.then in
      subst IsGood (ok-same _ after new.then) (record {
        made_well = good.made_well;
        outputs =
            All-push (λ (entry : List ℕ × Output). HasColumns s.nodes entry.1) s.outputs _
            good.outputs
            (record {
              type = one.part.type;
              reads = (is-read line s name one.part one.first).members;
              columns = there line NotFlat _ columns.part columns.first;
            });
      })

  rule-good : (form : Form) → spec.rule line form s ≡ Ok after → IsGood after
  rule-good (form.Type name type) e = type-good name type e
  rule-good (form.Input name type file) e = input-good name type file e
  rule-good (form.Function function) e = function-good function e
  rule-good (form.Let names by) e = let-good names by e
  rule-good (form.Repeat names written) e = repeat-good names written e
  rule-good (form.Output name file) e = output-good name file e

defined-good : (statements : List Statement) (s after : State) → IsGood s
    → spec.defined statements s ≡ Ok after → IsGood after
defined-good [] s after good e = subst IsGood (ok-same s after e) good
defined-good (statement ∷ rest) s after good e =
    let next = both (spec.rule statement.line statement.form s) _ after e in
    defined-good rest (with_statement next.part) after
    (rule-good statement.line s next.part good statement.form next.first) next.then

nothing-good : IsGood empty_state
nothing-good = record {
  made_well = record {
    functions = All-nil (λ (entry : List ℕ × Function). IsWellTyped entry.1);
    gives = All-nil (λ (entry : List ℕ × Function). HasOutputs entry.1);
    nodes = tt;
    kinds = tt;
    calls = λ number source called output is. cc;
    unsaved = tt;
    few = omega arith;
  };
  outputs = All-nil (λ (entry : List ℕ × Output). HasColumns [] entry.1);
}

-- ---- calls, where nothing is kept

abbrev emission : ℕ → ℕ → Emitted
emission called output = record { function = called; output = output }

call-from : (s : State) (number source called output : ℕ)
    → Stands s.functions (map how_made s.nodes) number source called output
    → IsCallOf (script_from s) number (emission called output)
call-from s number source called output it = record {
  first = it.first;
  place = it.place;
  function = it.function;
  calls = it.calls;
  source = source;
  names =
      λ k below.
      subst (λ o. IsSomeAnd o (IsNameOf source called k)) (sym (it.outputs k below)) refl;
}

call-at : (s : State) → CallsStand s.functions (map how_made s.nodes)
    → (number : ℕ) (how : Made) (it : Emitted) → IsUnsaved how
    → slice_get (map how_made s.nodes) number ≡ Some how → emitted_as how ≡ Some it
    → IsCallOf (script_from s) number it
call-at s stand number (made.Do source called output) it own is emitted =
    let same : emission called output ≡ it = cc in
    subst (IsCallOf (script_from s) number) same
    (call-from s number source called output (stand number source called output is))
call-at s stand number (made.Saved is_object call) it own is emitted = absurd own
call-at s stand number _ it own is emitted = cc

-- ---- the whole

well-formed-from : (s : State) → IsGood s → 0 < length s.outputs → IsWellFormed (script_from s)
well-formed-from s good some = record {
  functions = good.functions;
  gives = good.gives;
  nodes = good.nodes;
  kinds = good.kinds;
  calls =
      λ number how it is emitted.
      call-at s good.calls number how it
      (Each-at IsUnsaved (map how_made s.nodes) number how
      (Each-map IsUnsaved how_made s.nodes good.unsaved) (sym is)) is emitted;
  outputs = good.outputs;
  some = some;
  few = good.few;
}

-- what an accepted script comes from
record Comes (script : Script) : Type 0 where
  state : State
  is : script_from state ≡ script
  good : IsGood state
  some : 0 < length state.outputs

comes : (statements : List Statement) (script : Script) → spec.script_of statements ≡ Ok script
    → Comes script
comes statements script e =
    let s = both (spec.defined statements empty_state) _ script e in
    let some = both (unless 0 NoOutput (nat_lt 0 (length s.part.outputs))) _ script s.then in
    record {
      state = s.part;
      is = ok-same _ script some.then;
      good = defined-good statements empty_state s.part nothing-good s.first;
      some =
          (Decides-ltb 0 (length s.part.outputs)).0 (holds 0 NoOutput _ some.part some.first);
    }

pub well-formed : (statements : List Statement) (script : Script)
    → spec.script_of statements ≡ Ok script → IsWellFormed script
well-formed statements script e =
    let it = comes statements script e in
    subst IsWellFormed it.is (well-formed-from it.state it.good it.some)

pub unsaved : (statements : List Statement) (script : Script)
    → spec.script_of statements ≡ Ok script → HasNoSaved script
unsaved statements script e =
    let it = comes statements script e in
    subst HasNoSaved it.is it.good.unsaved
