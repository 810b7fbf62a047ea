-- What a combination answers of a group.
use Rattle.std.proofs.Common.{◌≡◌, ℕ, List, [], ◌∷◌, ◌++◌, Option, Some, None, sym, ap, ◌∙◌}
use Rattle.std.specs.Prelude.{Result, Ok, Err, slice_get}
use Rattle.std.specs.List.{flat_map, cons_option}
use Rattle.flume_value.specs.declared.fault.Kind.{Kind}
use Rattle.flume_value.specs.declared.value.Value.{Value}
use Rattle.flume_value.specs.Bag.{bag_of}
use Rattle.bag_groups.specs.Combining.{combined_each, combined_pair, group_of, trapped_key, traps_of_each}
use Rattle.bag_groups.specs.Pairs.{pair}
use Rattle.combine_table.specs.Combinations.{combined}
use Rattle.combine_table.specs.declared.comb.Comb.{Comb}
use Rattle.keyed_steps.specs.declared.fault.KeyFault.TheVariants as key
use Rattle.keyed_steps.specs.Keyed.{IsFirst}
use Rattle.flume_collection.specs.Calls.{Called, trap_of}
use Rattle.exec_graph.specs.Calls.{called, of_combine, of_group}
use Rattle.exec_graph.specs.World.{World}
use Rattle.exec_graph.specs.declared.step.Does.TheVariants as does

abbrev Group : Type 0
Group = Value × List Value

abbrev pair_of : Comb → Group → List Value
pair_of c g = combined_pair g.0 (combined c (bag_of g.1))

abbrev key_trap : Comb → Group → List (Kind × Value)
key_trap c g = trapped_key g.0 (combined c (bag_of g.1))

-- ---- by what the list comes to
one_given : (k p : Value) (r : Result Value Kind) → bag_of (combined_pair k r ++ []) ≡ p ∷ []
    → of_combine k r ≡ Ok ((p ∷ []) ∷ [])
one_given k p (Ok v) e = let same : pair k v ≡ p = cc in ap (λ q. Ok ((q ∷ []) ∷ [])) same
one_given k p (Err kind) e = cc e

one_trapped : (k : Value) (kind : Kind) (at : Value) (r : Result Value Kind)
    → slice_get (trapped_key k r ++ []) 0 ≡ Some (kind, at) → of_combine k r ≡ Err (kind, at)
one_trapped k kind at (Ok v) e = cc e
one_trapped k kind at (Err c) e =
    let same : ◌≡◌ {A = Kind × Value} (c, k) (kind, at) = cc in ap Err same

-- ---- by the group
group_given : (c : Comb) (p : Value) (o : Option Group)
    → bag_of (flat_map (pair_of c) (cons_option o [])) ≡ p ∷ []
    → of_group c o ≡ Ok ((p ∷ []) ∷ [])
group_given c p None e = cc e
group_given c p (Some g) e = one_given g.0 p (combined c (bag_of g.1)) e

group_trapped : (c : Comb) (kind : Kind) (at : Value) (o : Option Group)
    → slice_get (flat_map (key_trap c) (cons_option o [])) 0 ≡ Some (kind, at)
    → of_group c o ≡ Err (kind, at)
group_trapped c kind at None e = cc e
group_trapped c kind at (Some g) e = one_trapped g.0 kind at (combined c (bag_of g.1)) e

-- ---- of the step
pub combine_given : (w : World) (c : Comb) (x p : Value)
    → combined_each (combined c) (x ∷ []) ≡ p ∷ []
    → called w (does.Combine c) x ≡ Ok ((p ∷ []) ∷ [])
unfolding called
combine_given w c x p e = group_given c p (group_of x) e

pub combine_trapped : (w : World) (c : Comb) (x : Value) (kind : Kind) (at : Value)
    → IsFirst (traps_of_each (combined c) (x ∷ [])) (key.Trap kind at)
    → called w (does.Combine c) x ≡ Err (kind, at)
unfolding called
combine_trapped w c x kind at e = group_trapped c kind at (group_of x) e

-- the trap of a call, with its script node
pub trap_at : (n : ℕ) (answer : Called) (kind : Kind) (at element : Value)
    → answer ≡ Err (kind, at) → element ≡ at
    → trap_of n answer ≡ record { origin = n; element = element; kind = kind } ∷ []
trap_at n answer kind at element e same =
    ap (trap_of n) e ∙ (λ i. record { origin = n; element = sym same i; kind = kind } ∷ [])
