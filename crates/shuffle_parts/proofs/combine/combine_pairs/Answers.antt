use Rattle.bag_groups.specs.Pairs.{pairs_of}
use Rattle.partial_tables.specs.Runs.{AreTabled}
use Rattle.shuffle_parts.proofs.Lifting.{finished_ok, stands_one, tabled_one}
use Rattle.shuffle_parts.proofs.Parting.{Stands}
use Rattle.shuffle_parts.proofs.combine.combine_pairs.Goals as goal

pub returns-clause-stands : goal.returns-clause-stands
returns-clause-stands c =
    finished_ok c.args.comb (Stands c.args.comb) (stands_one c.args.comb) c.finish_each.result
    c.in_ok-parts.parts.items _ c.in_ok-parts.ensures c.finish_each.ensures

pub returns-clause-tables : goal.returns-clause-tables
returns-clause-tables c =
    finished_ok c.args.comb (λ partials part. AreTabled c.args.comb (pairs_of part) partials)
    (tabled_one c.args.comb) c.finish_each.result c.in_ok-parts.parts.items _
    c.in_ok-parts.ensures c.finish_each.ensures
