use Rattle.std.proofs.Common.{rules, List, map, sym, ap, ◌∙◌, arith}
use Rattle.graph_laws.specs.of_exec_graph.Forests.{Branch, grown}
use Rattle.graph_laws.specs.of_exec_graph.Twigs.{twig}
use Rattle.graph_laws.specs.of_exec_graph.declared.step.Output.{Output}
use Rattle.graph_walks.specs.inner.Plants.{on_branch, on_twig, put_branch, put_twig, put_twigs}
use Rattle.graph_walks.proofs.Falling.{more_fall}
use Rattle.graph_walks.proofs.InPlace.{as_held, as_twigs}
use Rattle.graph_walks.proofs.PlantTurns.{none_passed, passed_here, passed_next, passed_none, step_found, step_next, step_off, step_on, twig_on, twig_put}
use Rattle.graph_walks.proofs.Relabeling.{held}
use Rattle.graph_walks.proofs.planting.+put.Goals as goal

pub put_steps-loop-i-init : goal.put_steps-loop-i-init
put_steps-loop-i-init t c = record {
  passed = passed_none (λ (bs : List Branch). bs) (λ (b : Branch). b) as_held
      (on_branch c.args.output)
      (λ (bs : List Branch). put_branch c.args.output c.args.keep (grown bs))
      c.args.steps.now.items c.args.others.now.items;
  left = search rules;
}

pub put_steps-loop-i-preserved : goal.put_steps-loop-i-preserved
put_steps-loop-i-preserved t c = record {
  passed = passed_next (λ (bs : List Branch). bs) (λ (b : Branch). b) as_held
      c.loop-i.invariant.passed c.index_mut.result.now c.put_step.new.step _ (search rules)
      c.index_mut.ensures.value c.in_ok-put_step.ensures.found c.in_ok-put_step.ensures.step _
      c.if-branch.false (c.in_ok-put_step.ensures.others c.if-branch.false);
  left = search rules;
}

pub put_steps-returns-then-branch : goal.put_steps-returns-then-branch
put_steps-returns-then-branch t c =
    let here = passed_here (λ (bs : List Branch). bs) (λ (b : Branch). b) as_held
    c.loop-i.invariant.passed c.index_mut.result.now c.put_step.new.step _ (search rules)
    c.index_mut.ensures.value c.in_ok-put_step.ensures.found c.in_ok-put_step.ensures.step
    c.if-branch.true in record {
      found = here.0;
      steps = here.1;
      others = search rules;
    }

pub put_steps-returns : goal.put_steps-returns
put_steps-returns t c =
    let none = none_passed (λ (bs : List Branch). bs) (λ (b : Branch). b) as_held
    c.loop-i.invariant.passed (omega arith) in record {
      found = none.0;
      steps = none.1;
      others = λ _. c.loop-i.invariant.passed.kept;
    }

pub put_outputs-loop-i-init : goal.put_outputs-loop-i-init
put_outputs-loop-i-init t c = record {
  passed = passed_none (λ (os : List Output). map twig os) twig as_twigs (on_twig c.args.output)
      (λ (bs : List Branch). put_twig c.args.output c.args.keep (grown bs))
      c.args.outputs.now.items c.args.others.now.items;
  left = search rules;
}

pub put_outputs-loop-i-preserved : goal.put_outputs-loop-i-preserved
put_outputs-loop-i-preserved t c = record {
  passed = passed_next (λ (os : List Output). map twig os) twig as_twigs
      c.loop-i.invariant.passed c.index_mut.result.now c.put_output.new.one _ (search rules)
      c.index_mut.ensures.value c.in_ok-put_output.ensures.found
      c.in_ok-put_output.ensures.output _ c.if-branch.false
      (c.in_ok-put_output.ensures.others c.if-branch.false);
  left = search rules;
}

pub put_outputs-returns-then-branch : goal.put_outputs-returns-then-branch
put_outputs-returns-then-branch t c =
    let here = passed_here (λ (os : List Output). map twig os) twig as_twigs
    c.loop-i.invariant.passed c.index_mut.result.now c.put_output.new.one _ (search rules)
    c.index_mut.ensures.value c.in_ok-put_output.ensures.found
    c.in_ok-put_output.ensures.output c.if-branch.true in record {
      found = here.0;
      outputs = here.1;
      others = search rules;
    }

pub put_outputs-returns : goal.put_outputs-returns
put_outputs-returns t c =
    let none = none_passed (λ (os : List Output). map twig os) twig as_twigs
    c.loop-i.invariant.passed (omega arith) in record {
      found = none.0;
      outputs = none.1;
      others = λ _. c.loop-i.invariant.passed.kept;
    }

pub put_step-returns-then-branch : goal.put_step-returns-then-branch
put_step-returns-then-branch t c =
    let j = c.args.output in
    let k = c.args.keep in
    let g = grown c.args.others.now.items in
    let b = held c.step.inside in
    let on = sym c.in_ok-put_output.ensures.found ∙ c.if-branch.true in record {
      found = step_on j b on ∙ ap (on_branch j) c.step.view_is;
      step = step_found j k g b _ on c.in_ok-put_output.ensures.output
          ∙ ap (put_branch j k g) c.step.view_is;
      others = search rules;
    }

pub put_step-returns : goal.put_step-returns
put_step-returns t c =
    let j = c.args.output in
    let k = c.args.keep in
    let g = grown c.args.others.now.items in
    let b = held c.step.inside in
    let off = sym c.in_ok-put_output.ensures.found ∙ c.if-branch.false in
    let same = c.in_ok-put_output.ensures.others c.if-branch.false in record {
      found = step_off j b _ off c.in_ok-found.ensures.found ∙ ap (on_branch j) c.step.view_is;
      step = step_next j k g b _ _ off c.in_ok-put_output.ensures.output
          (c.in_ok-found.ensures.outputs
          ∙ ap (λ (os : List Branch). put_twigs j k (grown os) b.more) same)
          ∙ ap (put_branch j k g) c.step.view_is;
      others = λ e. c.in_ok-found.ensures.others e ∙ same;
    }

pub put_output-returns-clause-found : goal.put_output-returns-clause-found
put_output-returns-clause-found t c =
    let o = c.args.one.now in
    twig_on c.args.output o.number o.kids.items _ (sym c.is_out.ensures ∙ c.if-is_out.false)
    c.in_ok-found.ensures.found

pub put_output-returns-clause-output : goal.put_output-returns-clause-output
put_output-returns-clause-output t c =
    let o = c.args.one.now in
    twig_put c.args.output c.args.keep (grown c.args.others.now.items) o.number o.kids.items _
    (sym c.is_out.ensures ∙ c.if-is_out.false) c.in_ok-found.ensures.steps

pub put_step-put_outputs-requires : goal.put_step-put_outputs-requires
put_step-put_outputs-requires t c = (
  omega (arith, c.decreases, more_fall c.step.inside _ c.step.view_is),
  tt,
)
