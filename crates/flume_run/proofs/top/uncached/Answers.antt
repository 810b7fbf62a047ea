use Rattle.std.proofs.Common.{◌≡◌, ◌∙◌, ℕ, arith, drop, map, refl, string_bytes, subst, sym}
use Rattle.std.specs.Prelude.{IfSome, Option}
use Rattle.command_words.specs.Workloads.{IsWithinLimits}
use Rattle.command_words.specs.declared.workload.Workload.{Workload}
use Rattle.crew.proofs.Accounts.{all_grew_not}
use Rattle.made_course.specs.of_run_course.Outside.{world}
use Rattle.run_texts.specs.declared.status.Status.{Status}
use Rattle.flume_run.proofs.Promised.{lends_made, lends_other, of_make, of_no_memory, of_script}
use Rattle.flume_run.specs.Promises.{Promises}
use Rattle.flume_run.proofs.top.uncached.Goals as goal

-- ---- words of `make`

pub make-requires-clause-within : goal.make-requires-clause-within
make-requires-clause-within g c lives bounds =
    subst (λ (made : Option Workload). IfSome made IsWithinLimits) c.in-Ok-Some.field-0-is
    c.in-Ok-Some.ensures.within

pub returns-in-Ok-Some-clause-promises : goal.returns-in-Ok-Some-clause-promises
returns-in-Ok-Some-clause-promises g c =
    of_make _ _ _ _ c.in-Ok-Some.workload (sym c.in-Ok-Some.field-0-is ∙ c.in-Ok-Some.ensures.value)
    (c.make.ensures.promises (g.R.Source.seen c.args.source.now))

pub returns-in-Ok-Some-clause-hosts : goal.returns-in-Ok-Some-clause-hosts
returns-in-Ok-Some-clause-hosts g c =
    subst (λ (n : ℕ). drop n c.make.new.hosts ≡ drop n c.args.hosts.now)
    (lends_made (map string_bytes c.args.words.now) c.in-Ok-Some.workload
    (sym c.in-Ok-Some.field-0-is ∙ c.in-Ok-Some.ensures.value)) c.make.ensures.hosts

-- ---- other words

pub returns-in-Ok-None-clause-promises : goal.returns-in-Ok-None-clause-promises
returns-in-Ok-None-clause-promises g c =
    of_script _ _ _ _ (sym c.in-Ok-None.field-0-is ∙ c.in-Ok-None.ensures.value)
    c.run.ensures.promises

pub returns-in-Ok-None-clause-hosts : goal.returns-in-Ok-None-clause-hosts
returns-in-Ok-None-clause-hosts g c =
    subst (λ (n : ℕ). drop n c.run.new.hosts ≡ drop n c.args.hosts.now)
    (lends_other (map string_bytes c.args.words.now)
    (sym c.in-Ok-None.field-0-is ∙ c.in-Ok-None.ensures.value)) c.run.ensures.hosts

-- ---- no memory was found for the words

pub returns-in-Err-clause-promises : goal.returns-in-Err-clause-promises
returns-in-Err-clause-promises g c =
    rw c.no_memory.ensures.answer
    (of_no_memory _ _ _ (record { shelf = refl; line = c.no_memory.ensures.line })
    (record {
      told = refl;
      source = omega arith;
      shelf = omega arith;
      screen = c.no_memory.ensures.later;
      hosts = all_grew_not (map g.H.Host.account c.args.hosts.now);
    }) refl refl)
