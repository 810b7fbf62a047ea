use Rattle.std.proofs.Common.{ap, ap₂, sym, subst, ◌∙◌}
use Rattle.exec_graph.specs.Forests.{Forest}
use Rattle.exec_graph.specs.Meaning.{OutsDiffer, has_out}
use Rattle.graph_laws.specs.Joining.{grafted}
use Rattle.graph_laws.specs.Kids.{kept_by}
use Rattle.graph_states.specs.of_graph_rewrites.Rewrites.{input_at}
use Rattle.graph_states.specs.States.{all_but}
use Rattle.graph_walks.specs.Outs.{outs}
use Rattle.graph_joins.specs.inner.Splices.{spliced}
use Rattle.graph_joins.proofs.TakenLemmas.{taken_again}
use Rattle.graph_joins.proofs.taking.hung.Goals as goal

pub put-requires-clause-differ : goal.put-requires-clause-differ
put-requires-clause-differ c =
    subst OutsDiffer (sym c.take_apart-left.ensures.stays) c.requires.outs

pub put-requires-clause-other : goal.put-requires-clause-other
put-requires-clause-other c =
    ap (has_out c.args.name) c.take_apart-left.ensures.goes ∙ c.requires.apart

pub returns : goal.returns
returns c =
    let g = c.args.graph in
    let n = c.args.name in
    let k = c.args.keep in
    let x = c.take_apart-left.result in
    let e = c.take_apart-left.ensures in
    let put = c.in_ok-is_bare.ensures.put
    ∙ ap₂ (λ (i f : Forest). kept_by (all_but n k) (grafted n i f)) e.goes e.stays in record {
      graph = taken_again g x.graph c.with_steps.result c.args.keeper c.args.other
          (input_at g c.args.keeper) x.input _ _ e.graph e.input put c.with_steps.ensures;
      outs = λ bare. ap outs (sym put) ∙ c.in_ok-is_bare.ensures.outs bare
          ∙ ap₂ (λ (i f : Forest). spliced n k (outs i) (outs f)) e.goes e.stays;
    }
