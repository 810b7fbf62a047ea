use Rattle.std.proofs.Common.{ℕ, ◌<◌, ◌^◌, sym, ap, ◌∙◌, subst}
use Rattle.std.specs.List.{AllByRecursion}
use Rattle.graph_tracing.specs.of_form_laws.Formed.{IsFormed}
use Rattle.plan_check.specs.of_optimise.Optimised.{source_count}
use Rattle.plan_check.proofs.Narrow.{narrow_forests}
use Rattle.plan_file_law.specs.of_plan_files.Written.{HasSmallNumbers}
use Rattle.graph_rewrites.specs.of_plan_rules.Fitting.{HasSourcesBelow}
use Rattle.plan_tracing.proofs.Refined.{forms, optimised}
use Rattle.plan_tracing.proofs.tracing.optimise_traced.Goals as goal

pub form-requires-clause-ok : goal.form-requires-clause-ok
form-requires-clause-ok c =
    c.replay_law.ensures.well_formed c.in_ok-refined.refined.rewrites c.args.graph
    c.in_ok-refined.refined.blocked c.requires.ok.ok c.in_ok-refined.ensures.marked.leads

pub form-requires-clause-bounds : goal.form-requires-clause-bounds
form-requires-clause-bounds c =
    c.replay_law.ensures.bounds c.in_ok-sources.sources c.in_ok-refined.refined.rewrites
    c.args.graph c.in_ok-refined.refined.blocked c.requires.ok.ok
    c.in_ok-refined.ensures.marked.leads
    (subst (λ (n : ℕ). HasSourcesBelow n c.args.graph)
    (sym (c.in_ok-sources.ensures ∙ ap source_count c.as_slice.ensures)) c.requires.ok.sources)
    c.requires.ok.kinds (narrow_forests c.args.graph c.requires.ok.unfused c.requires.ok.narrow)
    (subst (λ (n : ℕ). n < 2 ^ 32) c.next_number-next.ensures.same
    c.next_number-next.ensures.small)

pub returns-clause-optimised : goal.returns-clause-optimised
returns-clause-optimised c =
    optimised c.args.scales.now c.args.graph c.in_ok-refined.refined.rewrites
    c.in_ok-refined.refined.blocked c.in_ok-plan.plan c.in_ok-refined.ensures
    (c.replay_law.ensures.well_formed c.in_ok-refined.refined.rewrites c.args.graph
    c.in_ok-refined.refined.blocked c.requires.ok.ok c.in_ok-refined.ensures.marked.leads)
    (subst (λ (n : ℕ). IsFormed n c.in_ok-refined.refined.blocked c.in_ok-plan.plan)
    (c.in_ok-sources.ensures ∙ ap source_count c.as_slice.ensures)
    c.in_ok-plan.ensures.formed)

pub returns-clause-forms : goal.returns-clause-forms
returns-clause-forms c =
    forms c.args.scales.now c.args.graph c.in_ok-refined.refined.rewrites
    c.in_ok-refined.refined.blocked c.in_ok-plan.plan c.in_ok-refined.ensures
    (subst (λ (n : ℕ). IsFormed n c.in_ok-refined.refined.blocked c.in_ok-plan.plan)
    (c.in_ok-sources.ensures ∙ ap source_count c.as_slice.ensures)
    c.in_ok-plan.ensures.formed)

pub returns-clause-order : goal.returns-clause-order
returns-clause-order c = c.in_ok-refined.ensures.order

pub returns-clause-small : goal.returns-clause-small
returns-clause-small c =
    subst (AllByRecursion HasSmallNumbers) c.as_slice-2.ensures c.are_small.ensures
