use Rattle.std.proofs.Common.{◌≡◌, take}
use Rattle.flume_types.proofs.copies.+copy.Given as goal

abbrev pub invariant-copy_fields-loop-field : goal.invariant-copy_fields-loop-field
invariant-copy_fields-loop-field l = l.copied.items ≡ take l.field-index l.fields
