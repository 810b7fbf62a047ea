use Rattle.std.proofs.Common.{rules, refl, sym, List, map, ◌∙◌, arith, length-set}
use borrow.Author.Rules.{lives}
use Rattle.graph_laws.specs.of_exec_graph.Forests.{Branch}
use Rattle.graph_laws.specs.of_exec_graph.Twigs.{twig}
use Rattle.graph_laws.specs.of_exec_graph.declared.step.Output.{Output}
use Rattle.graph_walks.specs.inner.Relabels.{relabelled_branch, relabelled_twig}
use Rattle.graph_walks.proofs.Falling.{more_fall}
use Rattle.graph_walks.proofs.InPlace.{all_done, as_held, as_twigs, each_more}
use Rattle.graph_walks.proofs.Relabeling.{relabelled_end}
use Rattle.graph_walks.proofs.labels.+relabel.Goals as goal

pub relabel-loop-i-preserved : goal.relabel-loop-i-preserved
relabel-loop-i-preserved g t c =
    let l = c.loop-i in record {
      same = length-set _ _ _ ∙ l.invariant.same;
      done = each_more (λ (bs : List Branch). bs) (λ (b : Branch). b) as_held l.steps.items l.i
          c.index_mut.result.now c.relabel_step.new.step (search rules) c.index_mut.ensures.value
          (relabelled_branch (g.L.Labels.label_of c.args.by.now)) c.in_ok-relabel_step.ensures
          ∙ l.invariant.done;
      left = search rules;
    }

pub relabel-returns : goal.relabel-returns
relabel-returns g t c =
    let k = relabelled_branch (g.L.Labels.label_of c.args.by.now) in
    sym (all_done (λ (bs : List Branch). bs) (λ (b : Branch). b) as_held c.loop-i.steps.items
    c.loop-i.i (omega arith) (map k) refl) ∙ c.loop-i.invariant.done

pub relabel_outputs-loop-i-preserved : goal.relabel_outputs-loop-i-preserved
relabel_outputs-loop-i-preserved g t c =
    let l = c.loop-i in record {
      same = length-set _ _ _ ∙ l.invariant.same;
      done = each_more (λ (os : List Output). map twig os) twig as_twigs l.outputs.items l.i
          c.index_mut.result.now c.relabel_output.new.output (search rules)
          c.index_mut.ensures.value (relabelled_twig (g.L.Labels.label_of c.args.by.now))
          c.in_ok-relabel_output.ensures ∙ l.invariant.done;
      left = search rules;
    }

pub relabel_outputs-returns : goal.relabel_outputs-returns
relabel_outputs-returns g t c =
    let k = relabelled_twig (g.L.Labels.label_of c.args.by.now) in
    sym (all_done (λ (os : List Output). map twig os) twig as_twigs c.loop-i.outputs.items
    c.loop-i.i (omega arith) (map k) refl) ∙ c.loop-i.invariant.done

pub relabel_output-returns : goal.relabel_output-returns
relabel_output-returns g t c =
    let o = c.args.output.now in
    relabelled_end (g.L.Labels.label_of c.args.by.now) o.number _ o.kids.items _
    c.in_ok-output.ensures c.in_ok-relabel.ensures

pub relabel_step-relabel_outputs-requires : goal.relabel_step-relabel_outputs-requires
relabel_step-relabel_outputs-requires g t c κs within = (
  omega (arith, c.decreases, more_fall c.step.inside _ c.step.view_is),
  search (rules, lives, within) depth 24 fits 20000,
)
