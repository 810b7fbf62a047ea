use Rattle.std.proofs.Common.{◌∙◌, ap, refl, subst, sym}
use Rattle.std.specs.Prelude.{All, IsSomeAnd}
use Rattle.std.proofs.lemmas.Option.{same_Some}
use Rattle.bag_groups.specs.Groups.{grouped}
use Rattle.bag_groups.specs.Pairs.{IsPair}
use Rattle.bag_groups.proofs.MemberLemmas.{referred_all}
use Rattle.shuffle_parts.specs.Outs.{all_pairs}
use Rattle.reduce_part.proofs.Gathering.{some_there}
use Rattle.reduce_part.proofs.reduce.group_gathered.Goals as goal

pub gather_pairs-requires : goal.gather_pairs-requires
gather_pairs-requires c =
    some_there (All IsPair) (all_pairs c.args.outs.now c.args.channel c.args.partition) c.requires

pub group_numbered-requires : goal.group_numbered-requires
group_numbered-requires c =
    referred_all IsPair c.in_ok-pairs.pairs.items _ refl
    (subst (λ o. IsSomeAnd o (All IsPair)) c.in_ok-pairs.ensures c.requires)

pub returns : goal.returns
returns c pairs found =
    c.in_ok-groups.ensures.groups
    ∙ ap grouped (same_Some _ pairs (sym c.in_ok-pairs.ensures ∙ found))
