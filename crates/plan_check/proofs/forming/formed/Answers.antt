use Rattle.std.proofs.Common.{ℕ, ◌<◌, ◌^◌, sym, ap, ◌∙◌, subst}
use Rattle.exec_graph.specs.declared.graph.Graph.{Graph}
use Rattle.optimise.specs.of_form_laws.Formed.{IsFormed}
use Rattle.optimise.specs.Optimised.{source_count}
use Rattle.graph_rewrites.specs.of_plan_rules.Fitting.{HasSourcesBelow}
use Rattle.plan_check.proofs.Narrow.{narrow_forests}
use Rattle.plan_check.proofs.Parts.{replay_refused, same_plan}
use Rattle.plan_check.proofs.forming.formed.Goals as goal

pub form-requires-clause-ok : goal.form-requires-clause-ok
form-requires-clause-ok c =
    c.replay_law.ensures.well_formed c.args.rewrites.now c.args.graph c.in-Ok.blocked
    c.requires.ok c.in-Ok.ensures

pub form-requires-clause-bounds : goal.form-requires-clause-bounds
form-requires-clause-bounds c =
    c.replay_law.ensures.bounds c.in_ok-sources.sources c.args.rewrites.now c.args.graph
    c.in-Ok.blocked c.requires.ok c.in-Ok.ensures
    (subst (λ (n : ℕ). HasSourcesBelow n c.args.graph)
    (sym (c.in_ok-sources.ensures ∙ ap source_count c.as_slice.ensures)) c.requires.sources)
    c.requires.kinds (narrow_forests c.args.graph c.requires.unfused c.requires.narrow)
    (subst (λ (n : ℕ). n < 2 ^ 32) c.next_number-next.ensures.same
    c.next_number-next.ensures.small)

pub returns-clause-formed : goal.returns-clause-formed
returns-clause-formed c = record {
  blocked = c.in-Ok.blocked;
  leads = c.in-Ok.ensures;
  formed = subst (λ (n : ℕ). IsFormed n c.in-Ok.blocked c.in_ok-plan.plan)
      (c.in_ok-sources.ensures ∙ ap source_count c.as_slice.ensures)
      c.in_ok-plan.ensures.formed;
}

pub returns-clause-same : goal.returns-clause-same
returns-clause-same c =
    same_plan c.args.graph c.in-Ok.blocked.graph c.in_ok-plan.plan
    (c.replay_law.ensures.same c.args.rewrites.now c.args.graph c.in-Ok.blocked
    c.requires.ok c.in-Ok.ensures) c.in_ok-plan.ensures.same

pub returns-clause-types : goal.returns-clause-types
returns-clause-types c = λ s typed.
    c.in_ok-plan.ensures.types s
    (c.replay_law.ensures.types c.args.rewrites.now c.args.graph c.in-Ok.blocked
    c.requires.ok c.in-Ok.ensures s typed)

pub returns-clause-object_free : goal.returns-clause-object_free
returns-clause-object_free c = λ free.
    c.in_ok-plan.ensures.object_free
    (c.replay_law.ensures.object_free c.args.rewrites.now c.args.graph c.in-Ok.blocked
    c.in-Ok.ensures free)

pub returns-in-Err-clause-formed : goal.returns-in-Err-clause-formed
returns-in-Err-clause-formed c =
    replay_refused c.args.graph c.args.rewrites.now c.in-Err.fault c.of_replay.result
    c.in-Err.ensures c.of_replay.ensures
