use Rattle.std.proofs.Common.{ℕ, List, ◌++◌, map, sym, ap, ◌∙◌, append_assoc}
use Rattle.exec_graph.specs.Forests.{Branch}
use Rattle.exec_graph.specs.Twigs.{twig}
use Rattle.exec_graph.specs.declared.step.Output.{Output}
use Rattle.graph_walks.specs.Outs.{out_list}
use Rattle.graph_walks.specs.inner.Numbering.{branch_outs, branches_outs, twig_outs, twigs_outs}
use Rattle.graph_walks.proofs.NumberLemmas.{outs_grown}
use Rattle.graph_joins.proofs.lists.+names.Goals as goal

pub push_step-loop-output-init : goal.push_step-loop-output-init
push_step-loop-output-init t c =
    let a = c.step.inside in
    let old = c.args.names.now.items in
    let os = c.deref-output-items.result.now in
    ap (λ (ns : List ℕ). ns ++ twigs_outs (map twig os)) c.in_ok-push_output.ensures
    ∙ append_assoc old (twig_outs (twig a.first)) (twigs_outs (map twig os))
    ∙ ap (λ (xs : List Output). old ++ (twig_outs (twig a.first) ++ twigs_outs (map twig xs)))
    c.deref-output-items.ensures.value
    ∙ ap (λ (b : Branch). old ++ branch_outs b) c.step.view_is

pub push_output-loop-kid-init : goal.push_output-loop-kid-init
push_output-loop-kid-init t c =
    let o = c.args.output.now in
    let old = c.args.names.now.items in
    let bs = c.deref-kid-items.result.now in
    ap (λ (ns : List ℕ). ns ++ branches_outs bs) c.in_ok-push_name.ensures
    ∙ append_assoc old (out_list o.number) (branches_outs bs)
    ∙ ap (λ (xs : List Branch). old ++ (out_list o.number ++ branches_outs xs))
    c.deref-kid-items.ensures.value
    ∙ ap (λ (ns : List ℕ). old ++ (out_list o.number ++ ns)) (outs_grown o.kids.items)
