use Rattle.std.proofs.Common.{arith}
use Rattle.shuffle_parts.proofs.Parting.{length-parted, parted_more}
use Rattle.shuffle_parts.proofs.parts.put_in.Goals as goal

pub index_mut-requires : goal.index_mut-requires
index_mut-requires c =
    omega (
      arith,
      length-parted c.args.partitions c.requires.stands.0 c.args.parts.now.items
          c.requires.stands.1,
      c.partition-at.ensures.within,
      c.args.parts.now.ok.0,
    )

pub returns : goal.returns
returns c done stands =
    parted_more c.args.partitions c.partition-at.result done c.args.parts.now.items
    c.key.result.now c.args.couple c.index_mut.result.now c.push.new.self stands c.key.ensures
    c.partition-at.ensures.part c.partition-at.ensures.within c.index_mut.ensures.value
    c.in_ok-push.ensures.ok
