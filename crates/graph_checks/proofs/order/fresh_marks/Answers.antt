use Rattle.std.proofs.Common.{◌≡◌, arith, List, sym, subst}
use Rattle.std.specs.List.{AllByRecursion}
use Rattle.std.proofs.lemmas.Grind.{common_steps}
use Rattle.graph_checks.specs.declared.order.Mark.{Mark}
use Rattle.graph_checks.specs.declared.order.Mark.TheVariants.{Fresh}
use Rattle.graph_checks.proofs.Walks.{fresh_none, fresh_partly, fresh_push}
use Rattle.graph_checks.proofs.order.fresh_marks.Goals as goal

pub loop-edge-init : goal.loop-edge-init
loop-edge-init c = record {
  size = grind (arith, common_steps);
  all = subst (λ (ms : List Mark). AllByRecursion (λ m. m ≡ Fresh) ms)
      (sym c.new-marks.ensures.items) tt;
}

pub loop-edge-preserved : goal.loop-edge-preserved
loop-edge-preserved c =
    let i = c.loop-edge.invariant.size in
    let e = c.in_ok-push.ensures.items in
    record {
      size = grind (arith, common_steps);
      all = subst (λ (ms : List Mark). AllByRecursion (λ m. m ≡ Fresh) ms) (sym e)
          (fresh_push c.loop-edge.marks.items c.loop-edge.invariant.all);
    }

pub returns-clause-size : goal.returns-clause-size
returns-clause-size c = let s = c.loop-edge.invariant.size in omega arith

pub returns-clause-none : goal.returns-clause-none
returns-clause-none c = fresh_none c.loop-edge.marks.items c.loop-edge.invariant.all

pub returns-clause-partly : goal.returns-clause-partly
returns-clause-partly c = let s = c.loop-edge.invariant.size in
    fresh_partly c.args.edges.now c.loop-edge.marks.items (omega arith) c.loop-edge.invariant.all
