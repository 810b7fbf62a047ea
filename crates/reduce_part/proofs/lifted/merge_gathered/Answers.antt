use Rattle.std.proofs.Common.{◌∙◌, ap, refl, subst, sym}
use Rattle.std.specs.Prelude.{All, IsSomeAnd}
use Rattle.std.proofs.lemmas.Option.{same_Some}
use Rattle.bag_groups.proofs.MemberLemmas.{referred_all}
use Rattle.partial_tables.specs.Merges.{merged_by_key}
use Rattle.partial_tables.specs.Tables.{IsPartialOf}
use Rattle.shuffle_parts.specs.Outs.{all_partials}
use Rattle.reduce_part.proofs.Gathering.{some_there}
use Rattle.reduce_part.proofs.lifted.merge_gathered.Goals as goal

pub gather_partials-requires : goal.gather_partials-requires
gather_partials-requires c =
    some_there (All (IsPartialOf c.args.comb))
    (all_partials c.args.outs.now c.args.channel c.args.partition) c.requires

pub merge_borrowed-requires : goal.merge_borrowed-requires
merge_borrowed-requires c =
    referred_all (IsPartialOf c.args.comb) c.in_ok-partials.partials.items _ refl
    (subst (λ o. IsSomeAnd o (All (IsPartialOf c.args.comb))) c.in_ok-partials.ensures c.requires)

pub returns : goal.returns
returns c partials found =
    c.in_ok-merged.ensures
    ∙ ap (merged_by_key c.args.comb)
    (same_Some _ partials (sym c.in_ok-partials.ensures ∙ found))
