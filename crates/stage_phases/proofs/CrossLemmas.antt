-- What a map task gives may go from the thread that made it to another.
use denote.Param.Send.{IsSend, sendable}
use Rattle.std.proofs.Crossing.{crosses}
use Rattle.flume_value.proofs.CrossLemmas.{values_cross}
use Rattle.key_order.proofs.CrossLemmas.{Couple-send}
use Rattle.shuffle_parts.specs.contracts.out.Sent as sent
use Rattle.shuffle_parts.specs.contracts.out.MapOut as map_out

Sent-send : IsSend sent.the_row
Sent-send = search (sendable, crosses, values_cross, Couple-send) depth 60

pub MapOut-send : IsSend map_out.the_row
MapOut-send = search (sendable, crosses, values_cross, Sent-send) depth 60
