-- Pairs that are kept may cross threads. A type that holds itself is shown by its parts as a field.
use denote.Param.Send.{IsSend, IsSync, sendable, recorded_send, recorded_sync, struct_send, struct_sync, view_send, view_sync}
use denote.Struct.Struct.{Struct}
use denote.Struct.Declared.{shape}
use Rattle.std.proofs.Crossing.{crosses}
use Rattle.flume_value.specs.contracts.value.Value as value
use Rattle.flume_value.proofs.value.Value.TheLaws.TheKnot as knot
use Rattle.flume_value.proofs.CrossLemmas.{Held-send, Held-sync, Pile-send, Pile-sync, Str-send, Str-sync}
use Rattle.key_order.specs.contracts.couple.Couple as couple
use Rattle.key_order.specs.contracts.couple.Couple.TheInside as inside
use Rattle.key_order.specs.contracts.sides.Side as side
use Rattle.key_order.specs.contracts.sides.Sided as sided

Value-send : IsSend (value.the_field).row
Value-send = search (sendable, crosses, knot.crosses, Str-send, Pile-send, Held-send) depth 60

Value-sync : IsSync (value.the_field).row
Value-sync = search (sendable, crosses, knot.crosses, Str-sync, Pile-sync, Held-sync) depth 60

Side-send : IsSend (side.the_field).row
Side-send = search (sendable, crosses) depth 40

Side-sync : IsSync (side.the_field).row
Side-sync = search (sendable, crosses) depth 40

Sided-send : IsSend (sided.the_field).row
Sided-send =
    search (sendable, crosses, Side-send, Value-send, Str-send, Pile-send, Held-send) depth 60

Sided-sync : IsSync (sided.the_field).row
Sided-sync =
    search (sendable, crosses, Side-sync, Value-sync, Str-sync, Pile-sync, Held-sync) depth 60

Inside-send : IsSend inside.the_row
Inside-send =
    recorded_send (Struct (shape inside.the_type)) _ _ (inside.the_type).to_one
    (struct_send (shape inside.the_type) (Value-send, (Sided-send, tt)))

Inside-sync : IsSync inside.the_row
Inside-sync =
    recorded_sync (Struct (shape inside.the_type)) _ _ (inside.the_type).to_one
    (struct_sync (shape inside.the_type) (Value-sync, (Sided-sync, tt)))

pub Couple-send : IsSend couple.the_row
Couple-send = view_send inside.the_row _ _ _ _ Inside-send

pub Couple-sync : IsSync couple.the_row
Couple-sync = view_sync inside.the_row _ _ _ _ Inside-sync
