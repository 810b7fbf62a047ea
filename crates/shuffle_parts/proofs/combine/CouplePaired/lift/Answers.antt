use Rattle.std.proofs.Common.{◌≡◌, ◌++◌, ◌∷◌, [], Some, arith, get_or, subst}
use Rattle.flume_value.specs.declared.value.Value.{Value}
use Rattle.bag_groups.specs.Pairs.{key_of}
use Rattle.bag_groups.proofs.PairLemmas.{key_of-pair}
use Rattle.partial_tables.specs.Lifted.{IsLifted}
use Rattle.shuffle_parts.specs.Partitions.{in_parts}
use Rattle.shuffle_parts.proofs.Lifting.{here, lifted_at, put_at}
use Rattle.shuffle_parts.proofs.combine.CouplePaired.lift.Goals as goal

pub index_mut-requires : goal.index_mut-requires
index_mut-requires c =
    omega (
      arith,
      here c.args.comb c.args.partitions c.partition-at.result c.requires.stands.0
          c.args.parts.now.items c.requires.stands.1 c.partition-at.ensures.within,
      c.args.parts.now.ok.0,
    )

pub put_parts-requires-clause-comb : goal.put_parts-requires-clause-comb
put_parts-requires-clause-comb c =
    (lifted_at c.args.comb c.args.partitions c.partition-at.result c.requires.stands.0
    c.args.parts.now.items c.requires.stands.1 c.partition-at.ensures.within
    c.index_mut.result.now c.index_mut.ensures.value).1

pub put_parts-requires-clause-room : goal.put_parts-requires-clause-room
put_parts-requires-clause-room c =
    (lifted_at c.args.comb c.args.partitions c.partition-at.result c.requires.stands.0
    c.args.parts.now.items c.requires.stands.1 c.partition-at.ensures.within
    c.index_mut.result.now c.index_mut.ensures.value).2

pub returns : goal.returns
returns c done stands =
    let n = c.args.partitions in
    let at = c.partition-at.result in
    let parts = c.args.parts.now.items in
    let within = c.partition-at.ensures.within in
    let key = c.in_ok-key.key in
    let whole = c.in_ok-key.ensures in
    let old = get_or (in_parts n done) at [] in
    put_at c.args.comb n at done parts stands within c.put_parts.new.self c.args.self key
    (subst (λ (p : Value). key_of p ≡ Some key) whole (key_of-pair key c.in_ok-key.value))
    c.partition-at.ensures.part
    (subst (λ (p : Value). IsLifted c.args.comb c.put_parts.new.self (old ++ p ∷ [])) whole
    (c.in_ok-put_parts.ensures old
    (lifted_at c.args.comb n at done parts stands within c.index_mut.result.now
    c.index_mut.ensures.value)))
