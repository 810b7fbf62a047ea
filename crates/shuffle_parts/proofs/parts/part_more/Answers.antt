use Rattle.std.proofs.Common.{◌≡◌, ◌++◌, ◌∷◌, [], length, map, rules, ap, ◌∙◌}
use Rattle.flume_value.specs.declared.value.Value.{Value}
use Rattle.shuffle_parts.specs.Partitions.{in_parts}
use Rattle.shuffle_parts.proofs.Putting.{all_put, none_put, one_put}
use Rattle.shuffle_parts.proofs.parts.part_more.Goals as goal

pub loop-pair-init : goal.loop-pair-init
loop-pair-init g c = none_put _ _ _ _ _ (search rules)

pub put_in-requires-clause-stands : goal.put_in-requires-clause-stands
put_in-requires-clause-stands g c = (
  c.requires.stands.0 ++ map g.P.Paired.as_pair c.loop-pair.yielded,
  c.loop-pair.invariant.stands c.requires.stands.0 c.requires.stands.1,
)

pub loop-pair-preserved : goal.loop-pair-preserved
loop-pair-preserved g c =
    let next : c.loop-pair.pair-iterator.rest.items ≡ c.in-Some.pair ∷ c.next.new.self.rest.items =
    search rules in
    one_put _ _ _ _ _ _ _ _ _ _ c.loop-pair.invariant next
    (λ done stands. c.in_ok-put_in.ensures done stands
    ∙ ap (λ (v : Value). in_parts c.args.partitions (done ++ v ∷ [])) c.into_couple.ensures)

pub returns : goal.returns
returns g c =
    let none : length c.loop-pair.pair-iterator.rest.items ≡ 0 = search rules in
    all_put _ _ _ _ _ _ _ c.loop-pair.invariant none
