-- What lets add behind the collections there are, as statements and in the body of a repeat.
use Rattle.std.proofs.Common.{◌≡◌, ◌⊎◌, inl, inr, ℕ, suc, ◌+◌, ◌≤◌, eqb, List, [], ◌∷◌, ◌++◌}
use Rattle.std.proofs.Common.{length, map, Ok, refl, sym, ap, ◌∙◌, subst, arith, append_assoc}
use Rattle.std.proofs.Common.{length-append}
use Rattle.std.specs.Map.{keys_of}
use Rattle.std.proofs.lemmas.Bool.{eqb-true}
use Rattle.std.proofs.lemmas.List.{append-nil, map-append}
use Rattle.flume_types.specs.declared.types.Ty.{Ty}
use Rattle.flume_grammar.specs.declared.tree.Operation.{Operation}
use Rattle.flume_grammar.specs.declared.tree.TurnLet.{TurnLet}
use Rattle.flume_grammar.specs.declared.fault.ScriptKind.TheVariants.{Mistyped}
use Rattle.script_rules.specs.of_written_types.Answer.{unless}
use Rattle.script_rules.specs.of_written_types.Named.{Named}
use Rattle.script_rules.specs.of_script_program.declared.made.Made.{Made}
use Rattle.script_rules.specs.of_script_program.declared.made.Made.TheVariants as made
use Rattle.script_rules.specs.of_script_program.Script.{Making, Node, State, with_nodes}
use Rattle.script_rules.specs.Operations.{made_by, outputs_from}
use Rattle.script_rules.specs.Rules as spec
use Rattle.script_rules.proofs.CheckedLemmas.{both, holds, ok-same}
use Rattle.script_laws.specs.Fitting.{AreInPlace, IsInPlace}
use Rattle.script_laws.specs.WellFormed.{AllFit, AllReadKinds}
use Rattle.script_laws.proofs.CallLemmas.{CallsStand, calls-outputs, calls-push, other-no-call}
use Rattle.script_laws.proofs.FitLemmas.{fit-append, kinds-append}
use Rattle.script_laws.proofs.MakingLemmas.{AreOutputs, IsAlone, IsOther}
use Rattle.script_laws.proofs.NewLemmas.{alone-fits, alone-kinds, functions-are, how_made}
use Rattle.script_laws.proofs.NewLemmas.{how_making, named, named-few, named-made, nodes-are}
use Rattle.script_laws.proofs.NewLemmas.{outputs-are, outputs-fit, outputs-kinds}
use Rattle.script_laws.proofs.OperationLemmas.{made-is}

-- what lets add fits, and its calls stand as they should
pub record HasLets (s after : State) : Type 0 where
  pub lets : Named Node
  pub nodes : after.nodes ≡ s.nodes ++ lets
  pub functions : after.functions ≡ s.functions
  pub outputs : after.outputs ≡ s.outputs
  pub fit : AllFit s.functions s.nodes lets
  pub kinds : AllReadKinds s.nodes lets
  pub in_place : (place : ℕ) → AreInPlace place (map how_made lets)
  pub calls : (all : List Made) → CallsStand s.functions all
      → CallsStand s.functions (all ++ map how_made lets)

-- ---- none, and some behind others

no-lets : (s : State) → HasLets s s
no-lets s = record {
  lets = [];
  nodes = sym (append-nil s.nodes);
  functions = refl;
  outputs = refl;
  fit = tt;
  kinds = tt;
  in_place = λ place. tt;
  calls = λ all stand. subst (CallsStand s.functions) (sym (append-nil all)) stand;
}

places-append : (place : ℕ) (first second : List Made) → AreInPlace place first
    → ((place : ℕ) → AreInPlace place second) → AreInPlace place (first ++ second)
places-append place [] second here later = later place
places-append place (how ∷ first) second here later =
    (here.0, places-append (suc place) first second here.1 later)

module _ (s middle after : State) (first : HasLets s middle) (second : HasLets middle after) where
  abbrev firsts : List Made
  firsts = map how_made first.lets

  abbrev others : List Made
  others = map how_made second.lets

  both-made : firsts ++ others ≡ map how_made (first.lets ++ second.lets)
  both-made = sym (map-append how_made first.lets second.lets)

  both-stand : (all : List Made) → CallsStand s.functions all
      → CallsStand s.functions (all ++ firsts ++ others)
  both-stand all stand =
      subst (λ fs. CallsStand fs (all ++ firsts ++ others)) first.functions
      (second.calls (all ++ firsts)
      (subst (λ fs. CallsStand fs (all ++ firsts)) (sym first.functions)
      (first.calls all stand)))

  lets-behind : HasLets s after
  lets-behind = record {
    lets = first.lets ++ second.lets;
    nodes =
        second.nodes
        ∙ ap (λ nodes. nodes ++ second.lets) first.nodes
        ∙ append_assoc s.nodes first.lets second.lets;
    functions = second.functions ∙ first.functions;
    outputs = second.outputs ∙ first.outputs;
    fit =
        fit-append s.functions s.nodes first.lets second.lets first.fit
        (subst (λ nodes. AllFit s.functions nodes second.lets) first.nodes
        (subst (λ fs. AllFit fs middle.nodes second.lets) first.functions second.fit));
    kinds =
        kinds-append s.nodes first.lets second.lets first.kinds
        (subst (λ nodes. AllReadKinds nodes second.lets) first.nodes second.kinds);
    in_place =
        λ place. subst (AreInPlace place) both-made
        (places-append place firsts others (first.in_place place) second.in_place);
    calls =
        λ all stand. subst (CallsStand s.functions)
        (append_assoc all firsts others ∙ ap (λ more. all ++ more) both-made)
        (both-stand all stand);
  }

-- ---- one let

other-in-place : (place : ℕ) (how : Made) → IsOther how → IsInPlace place how
other-in-place place (made.Input file columns) other = other
other-in-place place (made.Do source called output) other = absurd other
other-in-place place (made.Saved is_object call) other = other
other-in-place place _ other = tt

outputs-in-place : (source called place output : ℕ) (types : List Ty) → output ≤ place
    → AreInPlace place (map how_making (outputs_from source called output types))
outputs-in-place source called place output [] within = tt
outputs-in-place source called place output (t ∷ types) within = (
  within,
  outputs-in-place source called (suc place) (suc output) types (omega (arith, within)),
)

module _ (s : State) (names : List (List ℕ)) (makings : List Making)
    (many : length makings ≡ length names) where
  made-lets : AllFit s.functions s.nodes (named s.statements names makings)
      → AllReadKinds s.nodes (named s.statements names makings)
      → ((place : ℕ) → AreInPlace place (map how_making makings))
      → ((all : List Made) → CallsStand s.functions all
      → CallsStand s.functions (all ++ map how_making makings))
      → HasLets s (with_nodes names makings s)
  made-lets fits kinds places calls =
      let made = named-made s.statements names makings many in
      record {
        lets = named s.statements names makings;
        nodes = nodes-are names makings s;
        functions = functions-are names makings s;
        outputs = outputs-are names makings s;
        fit = fits;
        kinds = kinds;
        in_place = λ place. subst (AreInPlace place) (sym made) (places place);
        calls =
            λ all stand. subst (λ more. CallsStand s.functions (all ++ more)) (sym made)
            (calls all stand);
      }

  lets-made : IsAlone s.functions s.nodes makings ⊎ AreOutputs s.functions s.nodes makings
      → HasLets s (with_nodes names makings s)
  lets-made (inl alone) =
      made-lets (alone-fits s.functions s.statements s.nodes names makings alone)
      (alone-kinds s.statements s.functions s.nodes names makings alone)
      (λ place. subst (λ it. AreInPlace place (map how_making it)) (sym alone.are)
      (other-in-place place alone.making.made alone.other, tt))
      (λ all stand. subst (λ it. CallsStand s.functions (all ++ map how_making it))
      (sym alone.are)
      (calls-push s.functions all alone.making.made
      (other-no-call alone.making.made alone.other) stand))
  lets-made (inr call) =
      made-lets (outputs-fit s.functions s.statements s.nodes names makings call)
      (outputs-kinds s.statements s.functions s.nodes names makings call)
      (λ place. subst (λ it. AreInPlace place (map how_making it)) (sym call.are)
      (outputs-in-place call.source call.called place 0 call.function.signature.gives
      (omega arith)))
      (λ all stand. subst (λ it. CallsStand s.functions (all ++ map how_making it))
      (sym call.are)
      (calls-outputs s.functions all call.source call.called call.function call.calls stand))

-- ---- lets as they are written

-- what a let adds, at most as many collections as it has names
pub record HasNamed (s after : State) (names : List (List ℕ)) : Type 0 where
  pub has : HasLets s after
  pub few : length after.nodes ≤ length s.nodes + length names

module _ (line : ℕ) (s after : State) where
  pub has-named : (names : List (List ℕ)) (by : Operation)
      → spec.let_rule line names by s ≡ Ok after
      → HasNamed s after names
  has-named names by e =
      let new = both (spec.all_fresh line (keys_of s.names) names) _ after e in
      let makings = both (made_by line by s) _ after new.then in
      let fit = both (spec.all_fit line (length names) makings.part) _ after makings.then in
      let same =
      both (unless line Mistyped (eqb (length makings.part) (length names))) _ fit.part
      fit.first in
      let many =
      eqb-true (length makings.part) (length names)
      (holds line Mistyped _ same.part same.first) in
      let more = named s.statements names makings.part in
      subst (λ after. HasNamed s after names) (ok-same _ after fit.then) (record {
        has = lets-made s names makings.part many (made-is line s by makings.part makings.first);
        few =
            omega (
              arith,
              ap length (nodes-are names makings.part s),
              length-append s.nodes more,
              named-few s.statements names makings.part,
            );
      })

pub has-all-named : (lets : List TurnLet) (s after : State) → spec.all_named lets s ≡ Ok after
    → HasLets s after
has-all-named [] s after e = subst (HasLets s) (ok-same s after e) (no-lets s)
has-all-named (it ∷ lets) s after e =
    let next = both (spec.let_rule it.line it.names it.by s) _ after e in
    let first = has-named it.line s next.part it.names it.by next.first in
    lets-behind s next.part after first.has (has-all-named lets next.part after next.then)
