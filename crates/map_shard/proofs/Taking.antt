-- What a channel takes of the lists of an input channel's outputs.
use Rattle.std.proofs.Common.{◌≡◌, ◌<◌, ◌+◌, ◌-◌, ℕ, zero, suc, true, false, cond, List, [], ◌∷◌, ◌++◌, map, Option, Some, None, refl, sym, ap, ◌∙◌, subst, arith}
use Rattle.std.specs.Prelude.{◌==◌, slice_get}
use Rattle.std.specs.List.{AllByRecursion, AllZip}
use Rattle.flume_value.specs.declared.value.Value.{Value}
use Rattle.flume_collection.specs.Calls.{or_none}
use Rattle.shuffle_parts.specs.declared.out.Sent.{Sent}
use Rattle.shuffle_parts.specs.declared.out.Sent.TheVariants.{Passed}
use Rattle.exec_graph.specs.Forests.{Forest, Bare, Grow, next_after, after_out}
use Rattle.exec_graph.specs.World.{World}
use Rattle.exec_plan.specs.Channels.{output_numbers_of}
use Rattle.exec_plan.specs.Wellformed.{Exists, IsNumbered, outputs_told, out_count, count_of_outputs, outputs_count_at}
use Rattle.exec_plan.specs.declared.plan.Take.{Take}
use Rattle.exec_plan.specs.declared.plan.InChannel.{InChannel}
use Rattle.exec_plan.specs.declared.plan.OutChannel.{OutChannel}
use Rattle.exec_plan.specs.declared.plan.OutChannel.TheVariants.{Group, Pass}
use Rattle.task_safety.specs.of_task_lists.Runs.{all_emissions, emissions_at}
use Rattle.task_safety.specs.of_task_lists.Outs.{AreSentPairs, IsSent}
use Rattle.task_safety.specs.of_task_lists.Tasks.{Task, given_to, task_gives, world_for}
use Rattle.task_safety.proofs.of_forest_courses.Numbering.{from_numbered, outs_ups, ups}
use Rattle.task_safety.specs.of_task_lists.Typing.{AreGroupable}
use Rattle.map_shard.specs.Work.{IsFit}
use Rattle.map_shard.specs.inner.Sending.{CanSend, taken, taken_by}

-- ---- the lists of the outputs, by their numbers
ups_at : {A : Type 0} (F : ℕ → List A) (a k j : ℕ) → j < k
    → slice_get (map F (ups a k)) j ≡ Some (F (a + j))
ups_at F a zero j h = absurd (omega arith)
ups_at F a (suc k) zero h = let e : a ≡ a + 0 = omega arith in ap (λ i. Some (F i)) e
ups_at F a (suc k) (suc j) h =
    ups_at F (suc a) k j (omega arith)
    ∙ (let e : suc a + j ≡ a + suc j = omega arith in ap (λ i. Some (F i)) e)

out_up : (n : ℕ) (o : Option ℕ) → after_out n o ≡ n + out_count o
out_up n None = omega arith
out_up n (Some j) = refl

after_kept : (n : ℕ) (f : Forest) → next_after n f ≡ n + outputs_told f
after_kept n Bare = omega arith
after_kept n (Grow l kids rest) =
    let a = out_up n l.out in
    let b = after_kept (after_out n l.out) kids in
    let c = after_kept (next_after (after_out n l.out) kids) rest in omega arith

at_number : (F : ℕ → List Value) (does : Option Forest) (j : ℕ) → IsNumbered does
    → j < count_of_outputs does → or_none (slice_get (map F (output_numbers_of does)) j) ≡ F j
at_number F None zero is h = refl
at_number F None (suc j) is h = absurd (omega arith)
at_number F (Some f) j is h =
    let count = after_kept 0 f in
    let below : j < next_after 0 f - 0 = omega arith in
    ap (λ l. or_none (slice_get (map F l) j)) (outs_ups f 0 (from_numbered 0 f is))
    ∙ ap or_none (ups_at F 0 (next_after 0 f - 0) j below)
    ∙ (let e : 0 + j ≡ j = omega arith in ap F e)

-- ---- what is taken is what the task gives
module _ (w : World) (ins : List InChannel) (m : ℕ) (c : InChannel) (task : Task)
    (is : slice_get ins m ≡ Some c) (does : task.does ≡ c.does) (numbered : IsNumbered c.does)
    (lists : List (List Value))
    (made : lists ≡ all_emissions (world_for w task) task.does task.elements) where
  one_taken : (k : Take) → Exists ins k
      → taken_by m lists k ≡ cond (k.channel == m) (task_gives w task k.out) []
  one_taken k there = elim (k.channel == m) as
      (λ b. (k.channel == m) ≡ b
      → cond b (or_none (slice_get lists k.out)) [] ≡ cond b (task_gives w task k.out) []) [
        | true ↦ λ e. let same : k.channel ≡ m = grind (arith, e) in
            let found : slice_get ins k.channel ≡ Some c = ap (slice_get ins) same ∙ is in
            ap (λ l. or_none (slice_get l k.out)) made
            ∙ at_number (λ j. emissions_at (world_for w task) task.does task.elements j) task.does
            k.out
            (subst IsNumbered (sym does) numbered)
            (subst (λ d. k.out < count_of_outputs d) (sym does)
            (subst (λ o. k.out < outputs_count_at o) found there))
        | false ↦ λ e. refl
      ] refl

  all_taken : (takes : List Take) → AllByRecursion (Exists ins) takes
      → taken m lists takes ≡ given_to w task m takes
  all_taken [] all = refl
  all_taken (k ∷ ks) all = λ j. one_taken k all.0 j ++ all_taken ks all.1 j

  pub can_send : (os : List OutChannel) → AllByRecursion (IsFit ins (given_to w task m)) os
      → AllByRecursion (CanSend m lists) os
  can_send [] all = tt
  can_send (Pass k n ∷ os) all = (tt, can_send os all.1)
  can_send (Group g ∷ os) all = (
    subst (AreGroupable g.lifted) (sym (all_taken g.takes all.0.0)) all.0.1,
    can_send os all.1,
  )

  sent_one : (p : ℕ) (o : OutChannel) (s : Sent) → IsFit ins (given_to w task m) o
      → IsSent p (taken m lists) o s → IsSent p (given_to w task m) o s
  sent_one p (Pass k n) s fit sent =
      subst (λ vs. s ≡ Passed vs) (all_taken (k ∷ []) (fit, tt)) sent
  sent_one p (Group g) s fit sent =
      subst (λ vs. AreSentPairs g.lifted p s vs) (all_taken g.takes fit.0) sent

  pub sent_given : (p : ℕ) (os : List OutChannel) (ss : List Sent)
      → AllByRecursion (IsFit ins (given_to w task m)) os
      → AllZip (IsSent p (taken m lists)) os ss → AllZip (IsSent p (given_to w task m)) os ss
  sent_given p [] [] all sent = tt
  sent_given p [] (s ∷ ss) all sent = absurd sent
  sent_given p (o ∷ os) [] all sent = absurd sent
  sent_given p (o ∷ os) (s ∷ ss) all sent =
      (sent_one p o s all.0 sent.0, sent_given p os ss all.1 sent.1)
