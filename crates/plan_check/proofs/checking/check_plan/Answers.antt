use Rattle.std.proofs.Common.{Err, subst}
use Rattle.exec_graph.specs.ObjectFree.{IsObjectFree}
use Rattle.exec_graph.specs.Typing.{IsTyped, Signatures}
use Rattle.exec_graph.specs.World.{World}
use Rattle.exec_plan.specs.ObjectFree.{IsPlanObjectFree}
use Rattle.exec_plan.specs.Typing.{IsPlanTyped}
use Rattle.exec_plan.specs.Wellformed.{IsPlanOk}
use Rattle.plan_laws.specs.Operations.{SamePlan}
use Rattle.plan_check.specs.Checked.{Forms, IsFormedOf}
use Rattle.plan_check.proofs.Parts.{carried, compared_checked, file_refused, formed_refused}
use Rattle.plan_check.proofs.checking.check_plan.Goals as goal

pub returns-in-Ok-formed-clause-checked : goal.returns-in-Ok-formed-clause-checked
returns-in-Ok-formed-clause-checked g c =
    compared_checked (g.N.Names.naming c.args.names.now) c.args.graph c.args.bytes.now
    c.in-Ok.file c.in-Ok-formed.plan c.compared.result c.in-Ok.ensures
    (subst (λ rs. Forms c.args.graph rs c.in-Ok-formed.plan) c.as_slice.ensures
    c.in-Ok-formed.ensures.formed) c.compared.ensures.plan c.compared.ensures.compared

pub returns-in-Ok-formed-clause-same : goal.returns-in-Ok-formed-clause-same
returns-in-Ok-formed-clause-same g c =
    carried (λ p. (w : World) → SamePlan w c.args.graph p) c.compared.result
    c.in-Ok-formed.plan c.compared.ensures.plan c.in-Ok-formed.ensures.same

pub returns-in-Ok-formed-clause-well_formed : goal.returns-in-Ok-formed-clause-well_formed
returns-in-Ok-formed-clause-well_formed g c =
    carried IsPlanOk c.compared.result c.in-Ok-formed.plan c.compared.ensures.plan
    c.in-Ok-formed.ensures.well_formed

pub returns-in-Ok-formed-clause-types : goal.returns-in-Ok-formed-clause-types
returns-in-Ok-formed-clause-types g c =
    carried (λ p. (s : Signatures) → IsTyped s c.args.graph → IsPlanTyped s p)
    c.compared.result c.in-Ok-formed.plan c.compared.ensures.plan c.in-Ok-formed.ensures.types

pub returns-in-Ok-formed-clause-object_free : goal.returns-in-Ok-formed-clause-object_free
returns-in-Ok-formed-clause-object_free g c =
    carried (λ p. IsObjectFree c.args.graph → IsPlanObjectFree p) c.compared.result
    c.in-Ok-formed.plan c.compared.ensures.plan c.in-Ok-formed.ensures.object_free

pub returns-in-Ok-clause-checked : goal.returns-in-Ok-clause-checked
returns-in-Ok-clause-checked g c =
    formed_refused (g.N.Names.naming c.args.names.now) c.args.graph c.args.bytes.now
    c.in-Ok.file c.in-Err-formed.fault c.in-Ok.ensures
    (subst (λ rs. IsFormedOf c.args.graph rs (Err c.in-Err-formed.fault)) c.as_slice.ensures
    c.in-Err-formed.ensures.formed)

pub returns-clause-checked : goal.returns-clause-checked
returns-clause-checked g c =
    file_refused (g.N.Names.naming c.args.names.now) c.args.graph c.args.bytes.now
    c.in-Err.fault c.of_file.result c.in-Err.ensures c.of_file.ensures
