use Rattle.std.proofs.Common.{arith}
use Rattle.stage_results.proofs.SideBySide.{joined_inside, joined_past}
use Rattle.stage_results.proofs.joining.join_at.Goals as goal

pub returns-in_ok-join : goal.returns-in_ok-join
returns-in_ok-join c first next place are =
    let lists = c.args.lists.now in
    joined_inside first next lists.items c.args.at c.args.list place are c.index_mut.result.now
    c.join.new.list (omega (arith, c.if-at-len.true, c.len.ensures, lists.ok.0))
    c.index_mut.ensures.value c.in_ok-join.ensures

pub returns-in_ok-push : goal.returns-in_ok-push
returns-in_ok-push c first next place are =
    let lists = c.args.lists.now in
    joined_past first next lists.items c.args.at c.args.list place are c.push.new.self.items
    (omega (arith, c.if-at-len.false, c.len.ensures, lists.ok.0)) c.in_ok-push.ensures.items
