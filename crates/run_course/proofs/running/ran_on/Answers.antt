use Rattle.std.proofs.Common.{◌≡◌, ◌++◌, ◌∙◌, List, arith, ap, length, map, subst, sym}
use Rattle.std.specs.Prelude.{IfErr}
use Rattle.std.proofs.lemmas.List.{map-append}
use Rattle.outside.specs.Accounts.{Account}
use Rattle.crew.specs.Hosts.{Grew}
use Rattle.crew.proofs.Accounts.{all_grew-append, all_grew_not}
use Rattle.script_run.specs.Runs.{IsRunFault}
use Rattle.run_course.specs.Lent.{lent}
use Rattle.run_course.proofs.HostLemmas.{front_map, map_size}
use Rattle.run_course.proofs.RunLemmas.{as_many}
use Rattle.run_course.proofs.running.ran_on.Goals as goal

pub returns-clause-grew : goal.returns-clause-grew
returns-clause-grew g c =
    let f : g.row.H.Denot → Account = g.H.Host.account in
    let cut = c.split_at_mut-lent in
    let first = c.run_script.new.hosts in
    rw (
      cut.ensures.value,
      map-append f cut.result.0.now cut.result.1.now,
      map-append f first cut.result.1.now,
    ) (all_grew-append _ _ _ _ c.run_script.ensures.grew (all_grew_not (map f cut.result.1.now)))

pub returns-clause-fault : goal.returns-clause-fault
returns-clause-fault g c =
    let f : g.row.H.Denot → Account = g.H.Host.account in
    let s = c.args.settings.now in
    let held = c.as_program-held in
    let script = held.result.now.script in
    let r = c.run_script.result in
    let cut = c.split_at_mut-lent in
    let first = c.run_script.new.hosts in
    let long : length cut.result.0.now ≡ s.workers
    = omega (arith, cut.ensures.front_len, c.workers.ensures.value) in
    let many = as_many Grew (map f cut.result.0.now) (map f first) c.run_script.ensures.grew in
    let size : length first ≡ s.workers
    = sym (map_size f first) ∙ many ∙ map_size f cut.result.0.now ∙ long in
    let olds : lent s (map f c.args.hosts.now) ≡ map f cut.result.0.now
    = ap (λ l. lent s (map f l)) cut.ensures.value
    ∙ front_map f s.workers cut.result.0.now cut.result.1.now long in
    let news = front_map f s.workers first cut.result.1.now size in
    rw (← held.ensures.is)
    (subst
    (λ (l : List Account). IfErr r
    (IsRunFault s script c.args.inputs c.args.plan.now l
    (lent s (map f (first ++ cut.result.1.now)))))
    (sym olds)
    (subst
    (λ (l : List Account). IfErr r
    (IsRunFault s script c.args.inputs c.args.plan.now (map f cut.result.0.now) l))
    (sym news) c.run_script.ensures.fault))
