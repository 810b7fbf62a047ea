-- What an output channel gets in the end is what it was given.
use Rattle.std.proofs.Common.{◌≡◌, ℕ, List, [], ◌∷◌, map, Option, Some, None, ap, ◌∙◌, subst, sym}
use Rattle.std.specs.List.{AllZip}
use Rattle.flume_value.specs.declared.value.Value.{Value}
use Rattle.combine_table.specs.declared.comb.Comb.{Comb}
use Rattle.shuffle_parts.specs.declared.out.MapOut.{MapOut}
use Rattle.shuffle_parts.specs.declared.out.Sent.TheVariants as sent
use Rattle.shuffle_parts.specs.Partitions.{in_parts}
use Rattle.shuffle_parts.proofs.Lifting.{finished}
use Rattle.exec_graph.specs.Forests.{Forest}
use Rattle.exec_graph.specs.World.{World}
use Rattle.exec_plan.specs.declared.plan.OutChannel.{OutChannel}
use Rattle.exec_plan.specs.declared.plan.OutChannel.TheVariants.{Group, Pass}
use Rattle.exec_plan.specs.declared.plan.Take.{Take}
use Rattle.task_safety.specs.of_task_lists.Outs.{AreSentPairs, IsSent}
use Rattle.task_safety.specs.of_task_lists.Runs.{all_emissions}
use Rattle.map_shard.specs.declared.filling.Filling.{Filling}
use Rattle.map_shard.specs.declared.filling.Filling.TheVariants.{Passed, Grouped, Combined}
use Rattle.map_shard.specs.declared.legs.Legs.{Legs}
use Rattle.map_shard.specs.inner.Fillings.{AreFilled, IsFilled, sent_of}
use Rattle.map_shard.specs.inner.Legs.{AreLegs, IsWhole}
use Rattle.map_shard.specs.inner.Sending.{taken}

module _ (p : ℕ) where
  pairs_sent : (l : Option Comb) (f : Filling) (pairs : List Value) → AreFilled l p f pairs
      → AreSentPairs l p (sent_of f) pairs
  pairs_sent None (Passed all) pairs e = absurd e
  pairs_sent None (Grouped parts) pairs e = e
  pairs_sent None (Combined parts) pairs e = absurd e
  pairs_sent (Some c) (Passed all) pairs e = absurd e
  pairs_sent (Some c) (Grouped parts) pairs e = absurd e
  pairs_sent (Some c) (Combined parts) pairs e = finished c parts.items (in_parts p pairs) e

  module _ (given : List Take → List Value) where
    one_sent : (o : OutChannel) (f : Filling) → IsFilled p given o f → IsSent p given o (sent_of f)
    one_sent (Pass k n) (Passed all) e = ap sent.Passed e
    one_sent (Pass k n) (Grouped parts) e = absurd e
    one_sent (Pass k n) (Combined parts) e = absurd e
    one_sent (Group g) f e = pairs_sent g.lifted f (given g.takes) e

    each_sent : (os : List OutChannel) (fs : List Filling) → AllZip (IsFilled p given) os fs
        → AllZip (IsSent p given) os (map sent_of fs)
    each_sent [] [] z = tt
    each_sent [] (f ∷ fs) z = absurd z
    each_sent (o ∷ os) [] z = absurd z
    each_sent (o ∷ os) (f ∷ fs) z = (one_sent o f z.0, each_sent os fs z.1)

pub whole_is : (w : World) (p m : ℕ) (does : Option Forest) (os : List OutChannel)
    (xs : List Value) (legs : Legs) (out : MapOut) → AreLegs w p m does os xs legs
    → out.sent ≡ map sent_of legs.fillings.items → out.counts ≡ legs.counts.items
    → IsWhole w p m does os xs out
whole_is w p m does os xs legs out are sends counts = record {
  calm = are.calm;
  sent = subst (AllZip (IsSent p (taken m (all_emissions w does xs))) os) (sym sends)
      (each_sent p (taken m (all_emissions w does xs)) os legs.fillings.items are.filled);
  counts = counts ∙ are.counts;
}
