use Rattle.std.proofs.Common.{map, refl, arith}
use Rattle.run_course.specs.Outside.{world}
use Rattle.made_course.proofs.Delivered.{delivered, stopped}
use Rattle.made_course.proofs.Promised.{makes}
use Rattle.made_course.proofs.course.make.Goals as goal

pub returns-in-Ok-clause-promises : goal.returns-in-Ok-clause-promises
returns-in-Ok-clause-promises g c source =
    let before = world source (g.K.Shelf.seen c.args.shelf.now) (g.P.Screen.seen c.args.screen.now)
    (map g.H.Host.account c.args.hosts.now) in
    let after = world source (g.K.Shelf.seen c.deliver.new.shelf)
    (g.P.Screen.seen c.deliver.new.screen) (map g.H.Host.account c.prepare.new.hosts) in
    makes c.args.workload before after c.deliver.result
    (delivered c.args.workload before after _ _ c.deliver.result c.in-Ok.ensures.files
    c.in-Ok.ensures.line c.in-Ok.ensures.ran c.deliver.ensures.delivered)
    (record {
      told = refl;
      source = omega arith;
      shelf = c.deliver.ensures.shelf;
      screen = c.deliver.ensures.screen;
      hosts = c.in-Ok.ensures.grew;
    }) refl c.in-Ok.ensures.asked

pub returns-in-Err-clause-promises : goal.returns-in-Err-clause-promises
returns-in-Err-clause-promises g c source =
    let before = world source (g.K.Shelf.seen c.args.shelf.now) (g.P.Screen.seen c.args.screen.now)
    (map g.H.Host.account c.args.hosts.now) in
    let after = world source (g.K.Shelf.seen c.args.shelf.now) (g.P.Screen.seen c.tell.new.screen)
    (map g.H.Host.account c.prepare.new.hosts) in
    makes c.args.workload before after c.in-Err.status
    (stopped c.args.workload before after c.in-Err.status c.in-Err.ensures.stop refl
    c.tell.ensures.line)
    (record {
      told = refl;
      source = omega arith;
      shelf = omega arith;
      screen = c.tell.ensures.later;
      hosts = c.in-Err.ensures.grew;
    }) refl c.in-Err.ensures.asked
