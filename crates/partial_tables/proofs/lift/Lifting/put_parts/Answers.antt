use Rattle.std.proofs.Common.{◌∷◌, [], ◌∙◌, sym, ap, subst}
use Rattle.bag_groups.specs.Pairs.{pair}
use Rattle.bag_groups.proofs.PairLemmas.{parts_of-pair}
use Rattle.combine_table.specs.Accumulators.{HasShape, accumulator}
use Rattle.combine_table.specs.declared.comb.Comb.{Comb}
use Rattle.combine_table.proofs.Merging.{accumulator-HasShape}
use Rattle.partial_tables.proofs.Tabling.{value_tables}
use Rattle.partial_tables.proofs.lift.Lifting.put_parts.Goals as goal

pub put-requires-clause-shape : goal.put-requires-clause-shape
put-requires-clause-shape c =
    subst (λ (d : Comb). HasShape d c.in-Ok.acc) (sym c.requires.comb)
    (subst (HasShape c.args.comb) (sym c.in-Ok.ensures)
    (accumulator-HasShape c.args.comb (c.args.value.now ∷ [])))

pub returns-in_ok-put-in-Ok : goal.returns-in_ok-put-in-Ok
returns-in_ok-put-in-Ok c pairs was =
    let put = c.in_ok-put-in-Ok.ensures in
    let self = c.args.self.now in
    let key = c.args.key in
    let value = c.args.value.now in (
      value_tables c.args.comb self.table.comb pairs (pair key value) key value self.others.items
          self.table.partials c.put.new.others.items c.put.new.table.partials was.1
          (parts_of-pair key value)
          (λ ps tables. put.tables ps value
          (c.in-Ok.ensures ∙ ap (λ (d : Comb). accumulator d (value ∷ [])) (sym was.1)) tables)
          was.0,
      put.comb ∙ was.1,
      put.room ∙ was.2,
    )
