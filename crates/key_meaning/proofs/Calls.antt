-- The lines of a body have no part in what a call of its function answers.
use Rattle.std.proofs.Common.{◌≡◌, List, [], ◌∷◌, map, length, replicate, refl, sym, ap, ◌∙◌, subst}
use Rattle.flume_value.specs.declared.value.Value.{Value}
use Rattle.flume_types.specs.declared.types.Ty.{Ty}
use Rattle.flume_grammar.specs.declared.tree.Body.{Body, Body-F, out-Body, roll-Body}
use Rattle.flume_grammar.specs.declared.tree.Body.{out-roll-Body, map-Body, ind-Body, fold_out-Body}
use Rattle.flume_grammar.specs.declared.tree.Body.TheVariants as body
use Rattle.dofn_eval.specs.Outcome.{Outcome, Gives, then}
use Rattle.dofn_eval.specs.Operations.{chosen}
use Rattle.dofn_eval.proofs.MeaningLemmas.{then_same}
use Rattle.written_types.specs.Named.{Named}
use Rattle.expression_check.specs.Given.{Thing, valued}
use Rattle.body_check.specs.Call.{Emits, NameState, after, block, by_side, emitted_behind, emitted_in, for_each}
use Rattle.body_check.specs.Call.{layer_emitted, run_all, state}
use Rattle.body_check.proofs.FormLemmas.{emitted_in-step}
use Rattle.statement_law.specs.Lineless.{body_lineless, layer_lineless}
use Rattle.script_program.specs.Script.{Function}
use Rattle.direct_meaning.specs.Calls.{answer_of, call_answered}
use Rattle.key_meaning.proofs.Alike.{SameFunction}
use Rattle.key_meaning.proofs.Values.{same_value}

module _ (known : Named Ty) where
  abbrev does : Body → NameState → Outcome NameState
  does = emitted_in known

  abbrev SameBody : Body → Type 0
  SameBody b = (s : NameState) → does b s ≡ does (body_lineless b) s

  abbrev plain : (b : Body) × SameBody b → Body
  plain p = p.0

  run_same : (bs : List ((b : Body) × SameBody b)) (s : NameState)
      → run_all does (map plain bs) s ≡ run_all does (map body_lineless (map plain bs)) s
  run_same [] s = refl
  run_same (p ∷ bs) s =
      ap (λ o. then o (run_all does (map plain bs))) (p.1 s)
      ∙ then_same (does (body_lineless p.0) s) (run_all does (map plain bs))
      (run_all does (map body_lineless (map plain bs))) (λ t. run_same bs t)

  block_same : (bs : List ((b : Body) × SameBody b))
      → block does (map plain bs) ≡ block does (map body_lineless (map plain bs))
  block_same bs = λ i env out. then (run_same bs (state env out) i) (λ s. Gives s.out)

  -- one statement, by its form
  at_form : (b : Body) (x : Body-F Body) (s : NameState) → out-Body b ≡ x
      → does b s ≡ layer_emitted known does x s
  at_form b x s is = emitted_in-step known b s ∙ ap (λ y. layer_emitted known does y s) is

  abbrev AtBody : NameState → Body-F Body → Type 0
  AtBody s z =
      layer_emitted known does z s
      ≡ does (layer_lineless (map-Body Body Body body_lineless z)) s

  by_body : (y : Body-F ((b : Body) × SameBody b)) (s : NameState)
      → AtBody s (map-Body ((b : Body) × SameBody b) Body plain y)
  by_body (Body-F.Let line name e) s =
      ap (λ (o : Outcome Thing). then o (λ x. Gives (state ((name, x) ∷ s.env) s.out)))
      (same_value line 0 known e s.env)
      ∙ sym (at_form (body.Let 0 name e) (Body-F.Let 0 name e) s (body.outs-Let 0 name e))
  by_body (Body-F.Emit line to e) s =
      ap (λ (o : Outcome Thing). after s.env (then o (λ x. emitted_behind to x.1 s.out)))
      (same_value line 0 known e s.env)
      ∙ sym (at_form (body.Emit 0 to e) (Body-F.Emit 0 to e) s (body.outs-Emit 0 to e))
  by_body (Body-F.If line e a b) s =
      let lefts = map body_lineless (map plain a) in
      let rights = map body_lineless (map plain b) in
      (λ i. after s.env (chosen (valued (same_value line 0 known e s.env i))
      (block_same a i s.env s.out) (block_same b i s.env s.out)))
      ∙ sym (at_form (body.If 0 e lefts rights) (Body-F.If 0 e lefts rights) s
      (body.outs-If 0 e lefts rights))
  by_body (Body-F.For line name e inner) s =
      let each = map body_lineless (map plain inner) in
      (λ i. after s.env (then (same_value line 0 known e s.env i)
      (λ x. for_each (block_same inner i) name x s.env s.out)))
      ∙ sym (at_form (body.For 0 name e each) (Body-F.For 0 name e each) s
      (body.outs-For 0 name e each))
  by_body (Body-F.Case line e left a right_ b) s =
      let lefts = map body_lineless (map plain a) in
      let rights = map body_lineless (map plain b) in
      (λ i. after s.env (then (same_value line 0 known e s.env i)
      (λ x. by_side (block_same a i) left (block_same b i) right_ x s.env s.out)))
      ∙ sym (at_form (body.Case 0 e left lefts right_ rights)
      (Body-F.Case 0 e left lefts right_ rights) s
      (body.outs-Case 0 e left lefts right_ rights))

  from_body : (b : Body) (s : NameState) → AtBody s (out-Body b)
      → does b s ≡ does (body_lineless b) s
  from_body b s same =
      emitted_in-step known b s ∙ same
      ∙ ap (λ c. does c s) (sym (fold_out-Body Body layer_lineless b))

  same_body : (b : Body) → SameBody b
  same_body =
      ind-Body SameBody
      (λ x y same s. from_body (roll-Body x) s
      (subst (AtBody s) (same ∙ sym (out-roll-Body x)) (by_body y s)))

  all_same : (bs : List Body) (s : NameState)
      → run_all does bs s ≡ run_all does (map body_lineless bs) s
  all_same [] s = refl
  all_same (b ∷ bs) s =
      ap (λ o. then o (run_all does bs)) (same_body b s)
      ∙ then_same (does (body_lineless b) s) (run_all does bs)
      (run_all does (map body_lineless bs)) (λ t. all_same bs t)

  bodies_same : (bs : List Body) → block does bs ≡ block does (map body_lineless bs)
  bodies_same bs = λ i env out. then (all_same bs (state env out) i) (λ s. Gives s.out)

-- functions that are the same but for lines answer the same
pub same_answer : (f g : Function) → SameFunction f g → (x : Value) → answer_of f x ≡ answer_of g x
unfolding answer_of
same_answer f g same x =
    ap (λ (e : Emits). call_answered x (e ((f.argument, (f.signature.takes, x)) ∷ [])
    (replicate (length f.signature.gives) []))) (bodies_same f.types f.body)
    ∙ (λ i. call_answered x (block (emitted_in (same.types i)) (same.body i)
    ((same.argument i, ((same.signature i).takes, x)) ∷ [])
    (replicate (length (same.signature i).gives) [])))
    ∙ ap (λ (e : Emits). call_answered x (e ((g.argument, (g.signature.takes, x)) ∷ [])
    (replicate (length g.signature.gives) []))) (sym (bodies_same g.types g.body))
