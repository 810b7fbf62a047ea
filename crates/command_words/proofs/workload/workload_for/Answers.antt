use Rattle.std.proofs.Common.{◌∙◌, refl}
use Rattle.std.specs.Prelude.{Option}
use Rattle.command_words.specs.Words.{flume_app, workload_of}
use Rattle.command_words.specs.Workloads.{IsWithinLimits}
use Rattle.command_words.specs.declared.workload.Workload.{Workload}
use Rattle.command_words.proofs.AnswerLemmas.{free, refusal_within, refused_for, simple, taken_by}
use Rattle.command_words.proofs.workload.workload_for.Goals as goal

pub returns-in-Ok-clause-value : goal.returns-in-Ok-clause-value
returns-in-Ok-clause-value c =
    c.workload_of-made.ensures.value
    ∙ taken_by flume_app simple free workload_of _ _ c.in-Ok.matches
    c.in_ok-command_line.ensures c.in-Ok.ensures.matches c.in-Ok.ensures.kinds

pub returns-in-Err-clause-value : goal.returns-in-Err-clause-value
returns-in-Err-clause-value c =
    refused_for flume_app simple free (λ (made : Option Workload). made) workload_of _ _
    c.in-Err.error _ c.refused.result refl c.in_ok-command_line.ensures c.in-Err.ensures.kinds
    refl c.refused.ensures.nothing c.refused.ensures.memory

pub returns-in-Err-clause-within : goal.returns-in-Err-clause-within
returns-in-Err-clause-within c =
    refusal_within IsWithinLimits c.refused.result c.refused.ensures.nothing
