-- Values, and the types that hold them, may cross threads.
use denote.RattleType.{RattleType}
use denote.Param.Send.{IsSend, IsSync, sendable}
use Rattle.std.proofs.Crossing.{crosses}
use Rattle.flume_value.specs.contracts.value.Value as value
use Rattle.flume_value.specs.contracts.pile.Pile as pile
use Rattle.flume_value.specs.contracts.held.Held as held
use Rattle.flume_value.specs.contracts.text.Str as text
use Rattle.flume_value.proofs.value.Value.TheLaws.TheKnot as knot
use Rattle.flume_value.proofs.pile.Pile.TheSendSync as pile_crosses
use Rattle.flume_value.proofs.held.Held.TheSendSync as held_crosses
use Rattle.flume_value.proofs.text.Str.TheSendSync as text_crosses

pub Str-send : IsSend text.the_row
Str-send = search (sendable, crosses, text_crosses.the_send) depth 40

pub Str-sync : IsSync text.the_row
Str-sync = search (sendable, crosses, text_crosses.the_sync) depth 40

pub Pile-send : (T : RattleType) → IsSend T → IsSend (pile.the_row T)
Pile-send T s = search (sendable, crosses, pile_crosses.the_send) depth 40

pub Pile-sync : (T : RattleType) → IsSync T → IsSync (pile.the_row T)
Pile-sync T s = search (sendable, crosses, pile_crosses.the_sync) depth 40

pub Held-send : (T : RattleType) → IsSend T → IsSend (held.the_row T)
Held-send T s = search (sendable, crosses, held_crosses.the_send) depth 40

pub Held-sync : (T : RattleType) → IsSync T → IsSync (held.the_row T)
Held-sync T s = search (sendable, crosses, held_crosses.the_sync) depth 40

pub Value-send : IsSend value.the_row
Value-send = search (sendable, crosses, knot.crosses, Str-send, Pile-send, Held-send) depth 60

pub Value-sync : IsSync value.the_row
Value-sync = search (sendable, crosses, knot.crosses, Str-sync, Pile-sync, Held-sync) depth 60

pub ruleset values_cross = (
  Str-send,
  Str-sync,
  Pile-send,
  Pile-sync,
  Held-send,
  Held-sync,
  Value-send,
  Value-sync,
)
