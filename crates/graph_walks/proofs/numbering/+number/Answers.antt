use Rattle.std.proofs.Common.{rules, ℕ, List, ◌++◌, length, map, ap, ap₂, ◌∙◌, arith}
use Rattle.graph_laws.specs.of_exec_graph.Forests.{Branch, Twig}
use Rattle.graph_laws.specs.of_exec_graph.Twigs.{twig}
use Rattle.graph_laws.specs.of_exec_graph.declared.step.Output.{Output}
use Rattle.graph_walks.specs.inner.Numbering.{after_branch, after_twig, branch_outs, numbered_branch, numbered_twig, numbered_twigs, twig_outs}
use Rattle.graph_walks.proofs.Ends.{outs_behind, twig_numbered, twig_outs_told}
use Rattle.graph_walks.proofs.Falling.{more_fall}
use Rattle.graph_walks.proofs.InPlace.{as_held, as_twigs}
use Rattle.graph_walks.proofs.NumberLemmas.{branch_count, counted, twig_count}
use Rattle.graph_walks.proofs.Relabeling.{held, step_of}
use Rattle.graph_walks.proofs.Turns.{numbered_end, numbered_next, numbered_none}
use Rattle.graph_walks.proofs.numbering.+number.Goals as goal

pub number_steps-loop-i-init : goal.number_steps-loop-i-init
number_steps-loop-i-init t c = record {
  numbered = numbered_none (λ (bs : List Branch). bs) (λ (b : Branch). b) as_held
      numbered_branch after_branch branch_outs c.args.steps.now.items c.args.outs.now.items;
  left = search rules;
}

pub number_steps-loop-i-preserved : goal.number_steps-loop-i-preserved
number_steps-loop-i-preserved t c = record {
  numbered = numbered_next (λ (bs : List Branch). bs) (λ (b : Branch). b) as_held
      c.loop-i.invariant.numbered branch_count c.index_mut.result.now c.number_step.new.step _
      (search rules) c.index_mut.ensures.value c.in_ok-number_step.ensures.step
      c.in_ok-number_step.ensures.outs;
  left = search rules;
}

pub number_steps-returns : goal.number_steps-returns
number_steps-returns t c =
    let e = numbered_end (λ (bs : List Branch). bs) (λ (b : Branch). b) as_held
    c.loop-i.invariant.numbered branch_count (omega arith) in record {
      steps = e.0;
      outs = e.1;
    }

pub number_outputs-loop-i-init : goal.number_outputs-loop-i-init
number_outputs-loop-i-init t c = record {
  numbered = numbered_none (λ (os : List Output). map twig os) twig as_twigs numbered_twig
      after_twig twig_outs c.args.outputs.now.items c.args.outs.now.items;
  left = search rules;
}

pub number_outputs-loop-i-preserved : goal.number_outputs-loop-i-preserved
number_outputs-loop-i-preserved t c = record {
  numbered = numbered_next (λ (os : List Output). map twig os) twig as_twigs
      c.loop-i.invariant.numbered twig_count c.index_mut.result.now
      c.number_output.new.output _ (search rules) c.index_mut.ensures.value
      c.in_ok-number_output.ensures.output c.in_ok-number_output.ensures.outs;
  left = search rules;
}

pub number_outputs-returns : goal.number_outputs-returns
number_outputs-returns t c =
    let e = numbered_end (λ (os : List Output). map twig os) twig as_twigs
    c.loop-i.invariant.numbered twig_count (omega arith) in record {
      outputs = e.0;
      outs = e.1;
    }

-- what the number that was given says of the former one
pub number_output-returns : goal.number_output-returns
number_output-returns t c =
    let before = c.args.outs.now.items in
    let first = c.next_number.new.outs.items in
    let out = c.args.output.now.number in
    let kids = c.args.output.now.kids.items in record {
      output = twig_numbered out kids before first c.in_ok-output.ensures.outs _ _
          c.in_ok-output.ensures.number c.in_ok-number_steps.ensures.steps;
      outs = twig_outs_told out kids before first c.in_ok-output.ensures.outs _
          c.in_ok-number_steps.ensures.outs;
    }

pub number_step-returns : goal.number_step-returns
number_step-returns t c =
    let before = c.args.outs.now.items in
    let first = c.number_output.new.outs.items in
    let b = held c.step.inside in
    let one = c.in_ok-number_output.ensures in
    let rest = c.in_ok-number_outputs.ensures in record {
      step = ap₂ (λ (f : Twig) (ms : List Twig). step_of b f ms) one.output
          (rest.outputs
          ∙ ap (λ (n : ℕ). numbered_twigs n b.more)
          (counted after_twig twig_outs twig_count before first b.first one.outs))
          ∙ ap (λ (x : Branch). numbered_branch (length before) x) c.step.view_is;
      outs = outs_behind before first c.number_outputs.new.outs.items b.first b.more one.outs
          rest.outs
          ∙ ap (λ (x : Branch). before ++ branch_outs x) c.step.view_is;
    }

pub number_step-number_outputs-requires : goal.number_step-number_outputs-requires
number_step-number_outputs-requires t c = (
  omega (arith, c.decreases, more_fall c.step.inside _ c.step.view_is),
  tt,
)
