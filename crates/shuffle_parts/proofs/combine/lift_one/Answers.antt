use Rattle.std.proofs.Common.{[], get_or, arith}
use Rattle.shuffle_parts.specs.Partitions.{in_parts}
use Rattle.shuffle_parts.proofs.Lifting.{here, lifted_at, put_at}
use Rattle.shuffle_parts.proofs.combine.lift_one.Goals as goal

pub index_mut-requires : goal.index_mut-requires
index_mut-requires c =
    omega (
      arith,
      here c.args.comb c.args.partitions c.partition-at.result c.requires.stands.0
          c.args.parts.now.items c.requires.stands.1 c.partition-at.ensures.within,
      c.args.parts.now.ok.0,
    )

pub put-requires-clause-comb : goal.put-requires-clause-comb
put-requires-clause-comb c =
    (lifted_at c.args.comb c.args.partitions c.partition-at.result c.requires.stands.0
    c.args.parts.now.items c.requires.stands.1 c.partition-at.ensures.within
    c.index_mut.result.now c.index_mut.ensures.value).1

pub put-requires-clause-room : goal.put-requires-clause-room
put-requires-clause-room c =
    (lifted_at c.args.comb c.args.partitions c.partition-at.result c.requires.stands.0
    c.args.parts.now.items c.requires.stands.1 c.partition-at.ensures.within
    c.index_mut.result.now c.index_mut.ensures.value).2

pub returns : goal.returns
returns c done stands =
    let n = c.args.partitions in
    let at = c.partition-at.result in
    let parts = c.args.parts.now.items in
    let within = c.partition-at.ensures.within in
    put_at c.args.comb n at done parts stands within c.put.new.self c.args.pair.now
    c.key.result.now c.key.ensures c.partition-at.ensures.part
    (c.in_ok-put.ensures (get_or (in_parts n done) at [])
    (lifted_at c.args.comb n at done parts stands within c.index_mut.result.now
    c.index_mut.ensures.value))
