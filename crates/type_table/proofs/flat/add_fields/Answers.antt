use Rattle.std.proofs.Common.{◌+◌, Some, drop, map, sym, ap, ◌∙◌}
use Rattle.flume_types.specs.declared.types.Ty.{out-Ty}
use Rattle.flume_types.specs.Columns.{columns_and, field_columns, record_columns}
use Rattle.type_table.specs.Table.{type_at, field_at}
use Rattle.type_table.proofs.FlatLemmas.{drop-item, joined-more}
use Rattle.type_table.proofs.flat.add_fields.Goals as goal

pub loop-part-preserved : goal.loop-part-preserved
loop-part-preserved c =
    let types = c.args.types.now in
    let part = c.part-item.result in
    let rest =
    record_columns (map (field_at types) (drop (c.loop-part.part-index + 1) c.args.parts.now))
    in
    joined-more c.loop-part.columns c.add_field.new.columns
    (field_columns part.name (out-Ty (type_at types part.ty))) rest
    c.in_ok-add_field.ensures.flat
    ∙ sym
    (ap (λ parts. columns_and (Some c.loop-part.columns)
    (record_columns (map (field_at types) parts)))
    (drop-item c.args.parts.now c.loop-part.part-index part c.loop-part-test.true
    c.part-item.is))
    ∙ c.loop-part.invariant
