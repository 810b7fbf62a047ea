use Rattle.std.proofs.Common.{◌∷◌, [], ◌∙◌, sym, ap, subst}
use Rattle.combine_table.specs.Accumulators.{HasShape, accumulator}
use Rattle.combine_table.specs.declared.comb.Comb.{Comb}
use Rattle.combine_table.proofs.Merging.{accumulator-HasShape}
use Rattle.partial_tables.proofs.Tabling.{value_tables}
use Rattle.partial_tables.proofs.lift.Lifting.put.Goals as goal

pub put_copy-requires-clause-shape : goal.put_copy-requires-clause-shape
put_copy-requires-clause-shape c =
    subst (λ (d : Comb). HasShape d c.in_ok-acc.acc) (sym c.requires.comb)
    (subst (HasShape c.args.comb) (sym c.in_ok-acc.ensures)
    (accumulator-HasShape c.args.comb (c.parts.result.1.now ∷ [])))

pub returns : goal.returns
returns c pairs was =
    let put = c.in_ok-put_copy.ensures in
    let self = c.args.self.now in
    let key = c.parts.result.0.now in
    let value = c.parts.result.1.now in (
      value_tables c.args.comb self.table.comb pairs c.args.pair.now key value self.others.items
          self.table.partials c.put_copy.new.others.items c.put_copy.new.table.partials was.1
          c.parts.ensures
          (λ ps tables. put.tables ps value
          (c.in_ok-acc.ensures ∙ ap (λ (d : Comb). accumulator d (value ∷ [])) (sym was.1)) tables)
          was.0,
      put.comb ∙ was.1,
      put.room ∙ was.2,
    )
