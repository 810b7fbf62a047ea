-- The collections that a let makes, behind those there are.
use Rattle.std.proofs.Common.{◌≡◌, ℕ, zero, suc, ◌+◌, ◌≤◌, List, [], ◌∷◌, ◌++◌, length, map, Some}
use Rattle.std.proofs.Common.{false, slice_get, refl, sym, ap, ◌∙◌, subst, arith, append_assoc}
use Rattle.std.proofs.lemmas.List.{append-nil}
use Rattle.flume_types.specs.declared.types.Ty.{Ty}
use Rattle.script_rules.specs.of_written_types.Named.{Named}
use Rattle.script_rules.specs.Operations.{outputs_from}
use Rattle.script_rules.specs.of_script_program.declared.made.Made.{Made}
use Rattle.script_rules.specs.of_script_program.Script.{Function, Making, Node, State, node_from, with_node}
use Rattle.script_rules.specs.of_script_program.Script.{with_nodes}
use Rattle.script_rules.specs.of_script_program.Kinds.{gives_object}
use Rattle.script_laws.specs.WellFormed.{members_at, function_at, object_at, AllFit, AllReadKinds}
use Rattle.script_laws.proofs.MakingLemmas.{IsAlone, AreOutputs}
use Rattle.script_laws.proofs.PlaceLemmas.{mapped-kept}

-- what a statement of that number makes, under these names
abbrev pub named : ℕ → List (List ℕ) → List Making → Named Node
named statement [] makings = []
named statement (name ∷ names) [] = []
named statement (name ∷ names) (making ∷ makings) =
    (name, node_from statement making) ∷ named statement names makings

pub nodes-are : (names : List (List ℕ)) (makings : List Making) (s : State)
    → (with_nodes names makings s).nodes ≡ s.nodes ++ named s.statements names makings
nodes-are [] makings s = sym (append-nil s.nodes)
nodes-are (name ∷ names) [] s = sym (append-nil s.nodes)
nodes-are (name ∷ names) (making ∷ makings) s =
    nodes-are names makings (with_node name making s) ∙ simp append_assoc

-- functions and outputs stay
others-are : (names : List (List ℕ)) (makings : List Making) (s : State)
    → ((with_nodes names makings s).functions ≡ s.functions)
    × ((with_nodes names makings s).outputs ≡ s.outputs)
others-are [] makings s = (refl, refl)
others-are (name ∷ names) [] s = (refl, refl)
others-are (name ∷ names) (making ∷ makings) s = others-are names makings (with_node name making s)

pub functions-are : (names : List (List ℕ)) (makings : List Making) (s : State)
    → (with_nodes names makings s).functions ≡ s.functions
functions-are names makings s = (others-are names makings s).0

pub outputs-are : (names : List (List ℕ)) (makings : List Making) (s : State)
    → (with_nodes names makings s).outputs ≡ s.outputs
outputs-are names makings s = (others-are names makings s).1

pub named-few : (statement : ℕ) (names : List (List ℕ)) (makings : List Making)
    → length (named statement names makings) ≤ length names
named-few statement [] makings = omega arith
named-few statement (name ∷ names) [] = omega arith
named-few statement (name ∷ names) (making ∷ makings) =
    let few = named-few statement names makings in
    omega (arith, few)

abbrev pub how_made : List ℕ × Node → Made
how_made entry = entry.1.made

abbrev pub how_making : Making → Made
how_making making = making.made

-- with as many names, all are made
pub named-made : (statement : ℕ) (names : List (List ℕ)) (makings : List Making)
    → length makings ≡ length names
    → map how_made (named statement names makings) ≡ map how_making makings
named-made statement [] [] same = refl
named-made statement [] (making ∷ makings) same = absurd (omega (arith, same))
named-made statement (name ∷ names) [] same = refl
named-made statement (name ∷ names) (making ∷ makings) same =
    ap (λ all. making.made ∷ all) (named-made statement names makings (omega (arith, same)))

-- ---- what is made fits

module _ (functions : Named Function) (statement : ℕ) where
  pub alone-fits : (nodes : Named Node) (names : List (List ℕ)) (makings : List Making)
      → IsAlone functions nodes makings → AllFit functions nodes (named statement names makings)
  alone-fits nodes names makings is =
      subst (λ makings. AllFit functions nodes (named statement names makings)) (sym is.are)
      (at-names names)
    where
      at-names : (names : List (List ℕ))
          → AllFit functions nodes (named statement names (is.making ∷ []))
      at-names [] = tt
      at-names (name ∷ []) = (is.fits, tt)
      at-names (name ∷ other ∷ names) = (is.fits, tt)

  module _ (source called : ℕ) (function : Function)
      (calls : function_at functions called ≡ Some function) where
    from-fits : (before : Named Node) (names : List (List ℕ)) (output : ℕ) (types : List Ty)
        → members_at before source ≡ Some function.signature.takes
        → ((k : ℕ) (t : Ty) → slice_get types k ≡ Some t
        → slice_get function.signature.gives (output + k) ≡ Some t)
        → AllFit functions before
        (named statement names (outputs_from source called output types))
    from-fits before [] output types takes gives = tt
    from-fits before (name ∷ names) output [] takes gives = tt
    from-fits before (name ∷ names) output (t ∷ types) takes gives =
        let here : output + 0 ≡ output = omega arith in (
          record {
            function = function;
            calls = calls;
            takes = takes;
            gives =
                subst (λ k. slice_get function.signature.gives k ≡ Some t) here (gives 0 t refl);
          },
          from-fits (before ++ _ ∷ []) names (suc output) types
              (mapped-kept (λ (entry : List ℕ × Node). entry.1.type) before _ source
              function.signature.takes takes)
              (λ k u is.
              let next : output + suc k ≡ suc output + k = omega arith in
              subst (λ n. slice_get function.signature.gives n ≡ Some u) next
              (gives (suc k) u is)),
        )

  pub outputs-fit : (nodes : Named Node) (names : List (List ℕ)) (makings : List Making)
      → AreOutputs functions nodes makings
      → AllFit functions nodes (named statement names makings)
  outputs-fit nodes names makings are =
      subst (λ makings. AllFit functions nodes (named statement names makings)) (sym are.are)
      (from-fits are.source are.called are.function are.calls nodes names 0
      are.function.signature.gives are.takes
      (λ k t is.
      let here : k ≡ 0 + k = omega arith in
      subst (λ n. slice_get are.function.signature.gives n ≡ Some t) here is))

-- ---- what is made reads objects where it should

module _ (statement : ℕ) where
  pub alone-kinds : (functions : Named Function) (nodes : Named Node) (names : List (List ℕ))
      (makings : List Making) → IsAlone functions nodes makings
      → AllReadKinds nodes (named statement names makings)
  alone-kinds functions nodes names makings is =
      subst (λ makings. AllReadKinds nodes (named statement names makings)) (sym is.are)
      (at-names names)
    where
      at-names : (names : List (List ℕ))
          → AllReadKinds nodes (named statement names (is.making ∷ []))
      at-names [] = tt
      at-names (name ∷ []) = (is.kinds, tt)
      at-names (name ∷ other ∷ names) = (is.kinds, tt)

  from-kinds : (source called : ℕ) (before : Named Node) (names : List (List ℕ)) (output : ℕ)
      (types : List Ty) → object_at before source ≡ Some false
      → AllReadKinds before (named statement names (outputs_from source called output types))
  from-kinds source called before [] output types plain = tt
  from-kinds source called before (name ∷ names) output [] plain = tt
  from-kinds source called before (name ∷ names) output (t ∷ types) plain = (
    record { members = (plain, tt); values = tt },
    from-kinds source called (before ++ _ ∷ []) names (suc output) types
        (mapped-kept (λ (entry : List ℕ × Node). gives_object entry.1.made) before _ source false
        plain),
  )

  pub outputs-kinds : (functions : Named Function) (nodes : Named Node) (names : List (List ℕ))
      (makings : List Making) → AreOutputs functions nodes makings
      → AllReadKinds nodes (named statement names makings)
  outputs-kinds functions nodes names makings are =
      subst (λ makings. AllReadKinds nodes (named statement names makings)) (sym are.are)
      (from-kinds are.source are.called nodes names 0 are.function.signature.gives are.plain)
