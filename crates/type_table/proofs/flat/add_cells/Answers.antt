use Rattle.std.proofs.Common.{◌≡◌, ◌+◌, ◌++◌, Some, drop, map, sym, ap, ◌∙◌}
use Rattle.flume_types.specs.declared.types.Ty.{out-Ty}
use Rattle.flume_types.specs.Columns.{columns_and, cell_column, cells_under}
use Rattle.type_table.specs.Table.{type_at, field_at}
use Rattle.type_table.proofs.FlatLemmas.{drop-item, joined-more}
use Rattle.type_table.proofs.flat.add_cells.Goals as goal

pub loop-part-preserved : goal.loop-part-preserved
loop-part-preserved c =
    let types = c.args.types.now in
    let prefix = c.args.prefix.now in
    let part = c.part-item.result in
    let rest =
    cells_under prefix
    (map (field_at types) (drop (c.loop-part.part-index + 1) c.args.parts.now)) in
    let one : columns_and (Some c.loop-part.columns)
    (cell_column (prefix ++ part.name) (out-Ty (type_at types part.ty))) ≡ Some
    c.add_cell_at.new.columns =
    ap (λ name. columns_and (Some c.loop-part.columns)
    (cell_column name (out-Ty (type_at types part.ty)))) (sym c.in_ok-name.ensures)
    ∙ c.in_ok-add_cell_at.ensures.flat in
    joined-more c.loop-part.columns c.add_cell_at.new.columns
    (cell_column (prefix ++ part.name) (out-Ty (type_at types part.ty))) rest one
    ∙ sym
    (ap (λ parts. columns_and (Some c.loop-part.columns)
    (cells_under prefix (map (field_at types) parts)))
    (drop-item c.args.parts.now c.loop-part.part-index part c.loop-part-test.true
    c.part-item.is))
    ∙ c.loop-part.invariant
