use Rattle.std.proofs.Common.{List, map, refl, string_bytes}
use Rattle.outside.specs.Accounts.{Account}
use Rattle.run_course.specs.Outside.{world}
use Rattle.run_course.specs.declared.files.Written.{Written}
use Rattle.run_course.proofs.AskLemmas.{delivered_for}
use Rattle.run_course.proofs.CauseLemmas.{delivered}
use Rattle.run_course.proofs.HostLemmas.{delivered_asks}
use Rattle.run_course.proofs.PromiseLemmas.{promises, stop_promises}
use Rattle.run_course.proofs.course.run.Goals as goal

pub returns-in-Ok-clause-promises : goal.returns-in-Ok-clause-promises
returns-in-Ok-clause-promises g c =
    let words = map string_bytes c.args.words.now in
    let source = g.R.Source.seen c.args.source.now in
    let olds : List Account = map g.H.Host.account c.args.hosts.now in
    let news : List Account = map g.H.Host.account c.prepare.new.hosts in
    let before = world source (g.K.Shelf.seen c.args.shelf.now)
    (g.P.Screen.seen c.args.screen.now) olds in
    let after = world (g.R.Source.seen c.prepare.new.source)
    (g.K.Shelf.seen c.deliver.new.shelf) (g.P.Screen.seen c.deliver.new.screen) news in
    promises words before after c.deliver.result
    (delivered words before after _ _ c.deliver.result c.in-Ok.ensures.ok
    c.deliver.ensures.delivered)
    (record {
      told = c.in-Ok.ensures.files;
      source = c.in-Ok.ensures.later;
      shelf = c.deliver.ensures.shelf;
      screen = c.deliver.ensures.screen;
      hosts = c.in-Ok.ensures.grew;
    })
    (delivered_for words source after.source _ _ _ _ _ _ c.deliver.result
    c.deliver.ensures.delivered c.in-Ok.ensures.asked)
    (delivered_asks words source.files olds news _ _ _ _ _ _ c.deliver.result c.in-Ok.written
    c.deliver.ensures.delivered c.in-Ok.ensures.asked_hosts)

pub returns-in-Err-clause-promises : goal.returns-in-Err-clause-promises
returns-in-Err-clause-promises g c =
    stop_promises Written _ _ _ c.in-Err.stop _ c.in-Err.ensures.err
    c.stop_told.ensures.told refl
    c.in-Err.ensures.files c.in-Err.ensures.later c.stop_told.ensures.later c.in-Err.ensures.grew
    c.in-Err.ensures.asked c.in-Err.ensures.asked_hosts
