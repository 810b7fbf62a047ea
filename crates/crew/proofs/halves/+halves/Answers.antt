use Rattle.std.proofs.Common.{◌++◌, rules, map}
use Rattle.std.specs.Prelude.{IfOk}
use Rattle.std.specs.List.{AllZip}
use Rattle.outside.specs.Accounts.{Account}
use Rattle.crew.specs.Hosts.{Grew}
use Rattle.crew.specs.Workers.{AllTook, Phased}
use Rattle.crew.proofs.Accounts.{all_grew-append}
use Rattle.crew.proofs.Joining.{of_both, phased_kept, took_both}
use Rattle.crew.proofs.halves.+halves.Goals as goal

pub both_halves-returns-clause-phased : goal.both_halves-returns-clause-phased
both_halves-returns-clause-phased g t c =
    let f : g.row.H.Denot → Account = g.H.Host.account in
    let is_value = g.T.Tasks.is_value c.args.tasks.now in
    let places = g.T.Tasks.places c.args.tasks.now in
    let tasks = g.T.Tasks.count_of c.args.tasks.now in
    let s = c.args.phase.now in
    let grew : AllZip Grew (map f c.args.first_hosts.now) (map f c.first_hosts-1.given.0) =
    search rules in
    let first : IfOk c.join_mut-first.result.0 (Phased tasks s is_value places
    c.first_passes-1.given.0 (map f c.args.first_hosts.now) (map f c.first_hosts-1.given.0)) =
    search rules in
    let last : IfOk c.join_mut-first.result.1 (Phased tasks s is_value places
    c.last_passes-1.given.0 (map f c.args.last_hosts.now) (map f c.last_hosts-1.given.0)) =
    search rules in
    phased_kept tasks s is_value places c.join_mut-first.result.0 c.join_mut-first.result.1
    c.both_kept.result _ _ _ _ _ _ grew first last c.both_kept.ensures

pub work_all-returns-clause-grew : goal.work_all-returns-clause-grew
work_all-returns-clause-grew g t c =
    let cut = c.split_at_mut-first_hosts in
    of_both g.H.Host.account (AllZip Grew) _ _ _ c.both_halves.new.first_hosts
    c.both_halves.new.last_hosts cut.ensures.value
    (all_grew-append _ _ _ _ c.both_halves.ensures.first c.both_halves.ensures.last)

pub work_all-returns-clause-asked : goal.work_all-returns-clause-asked
work_all-returns-clause-asked g t c =
    let cut = c.split_at_mut-first_hosts in
    let passes = c.both_halves.new.first_passes ++ c.both_halves.new.last_passes in
    of_both g.H.Host.account
    (AllTook (g.T.Tasks.count_of c.args.tasks.now) c.args.phase.now
    (g.T.Tasks.places c.args.tasks.now) passes) _ _ _ c.both_halves.new.first_hosts
    c.both_halves.new.last_hosts cut.ensures.value
    (took_both _ _ _ _ _ _ _ _ _ c.both_halves.ensures.first_asked
    c.both_halves.ensures.last_asked)
