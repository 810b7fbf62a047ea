-- What holds of the object of each value and of that of each trap holds of all objects that calls
-- and combiners give; and if it holds of what has no value, and of calls beside an object, of all
-- that acts give.
use Rattle.std.proofs.Common.{ℕ, List, [], ◌∷◌, Option, Some, None, Result, Ok, Err}
use Rattle.std.specs.List.{slice_get}
use Rattle.std.specs.Option.{option_and_then}
use Rattle.flume_value.specs.declared.value.Value.{Value}
use Rattle.flume_value.specs.declared.fault.Kind.{Kind}
use Rattle.flume_collection.specs.of_bag_groups.Pairs.{value_of}
use Rattle.combine_table.specs.declared.comb.Comb.{Comb}
use Rattle.combine_table.specs.Combinations.{combined}
use Rattle.flume_collection.specs.declared.trap.Trap.{Trap}
use Rattle.flume_collection.specs.Collection.{Collection}
use Rattle.flume_collection.specs.Calls.{Called, or_none}
use Rattle.exec_graph.specs.declared.graph.Act.{Act}
use Rattle.exec_graph.specs.declared.graph.Act.TheVariants.{SideInput, Operate, Singleton}
use Rattle.exec_graph.specs.World.{World}
use Rattle.exec_graph.specs.Objects.{argument, value_object, trap_object, act_result, none_of, one_answer, one_emitted, singleton_value, only, operated_on, or_of_nothing, side_input, unless_behind, values_in, whole_combined}

module _ (P : Collection → Type 0) (of_value : (v : Value) → P (value_object v))
    (of_trap : (t : Trap) → P (trap_object t)) where
  emitted_holds : (o : ℕ) (x : Value) (v : Option Value) → P (one_emitted o x v)
  emitted_holds o x None = of_trap _
  emitted_holds o x (Some v) = of_value v

  pub answer_holds : (o : ℕ) (x : Value) (answer : Called) → P (one_answer o x answer)
  answer_holds o x (Ok outputs) = emitted_holds o x (only (or_none (slice_get outputs 0)))
  answer_holds o x (Err trap) = of_trap _

  combined_holds : (o : ℕ) (r : Result Value Kind) → P (whole_combined o r)
  combined_holds o (Ok v) = of_value v
  combined_holds o (Err k) = of_trap _

  pub nothing_holds : (o : ℕ) (k : Comb) (v : Option Value) → P (or_of_nothing o k v)
  nothing_holds o k None = combined_holds o (combined k [])
  nothing_holds o k (Some v) = of_value v

  module _ (of_none : (cs : List Collection) → P (none_of cs))
      (of_calls : (w : World) (o f : ℕ) (c object : Collection) → P (side_input w o f c object))
    where
      operated_holds : (w : World) (o f : ℕ) (vs : Option (List Value)) (cs : List Collection)
          → P (operated_on w o f vs cs)
      operated_holds w o f None cs = of_none cs
      operated_holds w o f (Some vs) cs =
          answer_holds o (argument vs) (w.called f (argument vs))

      behind_holds : (ts : List Trap) (none some : Collection) → P none → P some
          → P (unless_behind ts none some)
      behind_holds [] none some h i = i
      behind_holds (t ∷ ts) none some h i = h

      single_holds : (o : ℕ) (k : Comb) (c : Collection) → P (singleton_value o k c)
      single_holds o k c =
          let v : Option Value = option_and_then value_of (only c.bag) in
          behind_holds c.traps (none_of (c ∷ [])) (or_of_nothing o k v) (of_none (c ∷ []))
          (nothing_holds o k v)

      pub act_holds : (w : World) (o : ℕ) (a : Act) (cs : List Collection) → P (act_result w o a cs)
      unfolding act_result
      act_holds w o (SideInput f) [] = of_none []
      act_holds w o (SideInput f) (c ∷ []) = of_none (c ∷ [])
      act_holds w o (SideInput f) (c ∷ (object ∷ [])) = of_calls w o f c object
      act_holds w o (SideInput f) (c ∷ (object ∷ (d ∷ ds))) = of_none (c ∷ (object ∷ (d ∷ ds)))
      act_holds w o (Operate f) cs = operated_holds w o f (values_in cs) cs
      act_holds w o (Singleton k) [] = of_none []
      act_holds w o (Singleton k) (c ∷ []) = single_holds o k c
      act_holds w o (Singleton k) (c ∷ (d ∷ ds)) = of_none (c ∷ (d ∷ ds))
