use Rattle.std.proofs.Common.{◌++◌, List, sym, subst}
use Rattle.std.specs.List.{AllByRecursion, AllZip}
use Rattle.flume_value.specs.declared.value.Value.{Value}
use Rattle.map_shard.specs.inner.Fillings.{IsFilled}
use Rattle.map_shard.specs.inner.Sending.{CanSend, taken}
use Rattle.map_shard.proofs.legs.Steps.send_given.Goals as goal

pub send_more-requires-clause-fit : goal.send_more-requires-clause-fit
send_more-requires-clause-fit g c =
    let t = c.args.self.now in
    subst (λ (ls : List (List Value)). AllByRecursion (CanSend t.m ls) t.channels.now)
    (sym c.into_parts-lists.ensures.lists) c.requires.fit

pub returns-clause-filled : goal.returns-clause-filled
returns-clause-filled g c before z =
    let t = c.args.self.now in
    subst (λ (ls : List (List Value)).
    AllZip (IsFilled t.partitions (λ takes. before takes ++ taken t.m ls takes)) t.channels.now
    c.in_ok-fillings.fillings.items) c.into_parts-lists.ensures.lists
    (c.in_ok-fillings.ensures before z)
