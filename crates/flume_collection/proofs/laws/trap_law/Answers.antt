use Rattle.std.proofs.Common.{refl}
use Rattle.flume_collection.specs.Traps.{trap_le}
use Rattle.flume_collection.proofs.Members.{no_members, one_set, same_set, set_known, set_members, set_sum}
use Rattle.flume_collection.proofs.Orders.{trap_order}
use Rattle.flume_collection.proofs.TrapSets.{set_rises, set_settled}
use Rattle.flume_collection.proofs.laws.trap_law.Goals as goal

pub returns : goal.returns
returns c = record {
  members = set_members trap_le trap_order;
  ascending = set_rises;
  same = λ xs ys. (one_set trap_le trap_order xs ys, same_set trap_le trap_order xs ys);
  settled = set_settled;
  sum = set_sum trap_le trap_order;
  known = set_known trap_le trap_order;
  none = refl;
  empty = no_members trap_le trap_order;
}
