use Rattle.std.proofs.Common.{ap, sym, subst}
use Rattle.exec_plan.specs.ObjectFree.{IsPlanObjectFree}
use Rattle.exec_plan.specs.declared.plan.Plan.{Plan}
use Rattle.form_laws.specs.Formed.{AreFormed}
use Rattle.mscr_form.proofs.Planned.{formed_small, plan_formed, plan_same, plan_types_fit, plan_well}
use Rattle.mscr_form.proofs.forming.form.Goals as goal

pub make_plan-requires : goal.make_plan-requires
make_plan-requires c =
    let b = c.args.blocked.now in
    let formed = subst (AreFormed b) (sym c.as_slice.ensures.value) c.in_ok-operations.ensures in
    record {
      small = formed_small c.args.sources b c.as_slice.result.now c.requires.ok c.requires.bounds
          formed;
    }

pub returns : goal.returns
returns c =
    let n = c.args.sources in
    let b = c.args.blocked.now in
    let os = c.as_slice.result.now in
    let p = c.in_ok-plan.plan in
    let formed = subst (AreFormed b) (sym c.as_slice.ensures.value) c.in_ok-operations.ensures in
    let made = c.in_ok-plan.ensures.made in record {
      formed = plan_formed n b os p formed made;
      sources = ap (λ (q : Plan). q.sources) made;
      same = plan_same n b os p c.requires.ok formed made;
      well_formed = plan_well n b os p c.requires.ok c.requires.bounds formed made;
      types = plan_types_fit n b os p c.requires.ok formed made;
      object_free = λ free. subst IsPlanObjectFree (sym made)
          (c.object_free_law.ensures n b.graph os free);
    }
