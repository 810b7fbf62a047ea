-- The only pair of a list is that of its bag.
use Rattle.std.proofs.Common.{◌≡◌, ℕ, suc, List, [], ◌∷◌, get_or, length, Option, None, Some, refl, sym, ap, ◌∙◌, arith}
use Rattle.std.specs.Prelude.{IfOk, Result, Ok, Err}
use Rattle.std.specs.Option.{option_and_then}
use Rattle.flume_value.specs.declared.value.Value.{Value}
use Rattle.flume_value.specs.Bag.{bag_of}
use Rattle.flume_value.proofs.BagLemmas.{length-bag_of}
use Rattle.bag_groups.specs.Pairs.{value_of}
use Rattle.combine_table.specs.declared.comb.Comb.{Comb}
use Rattle.flume_collection.specs.declared.trap.Trap.{Trap}
use Rattle.exec_graph.specs.declared.graph.Act.TheVariants as act
use Rattle.exec_graph.specs.Objects.{act_result, only, or_of_nothing, untrapped}
use Rattle.exec_graph.specs.World.{World}
use Rattle.exec_graph.proofs.Barriers.{barrier_singleton}
use Rattle.operate_step.specs.Results.{object_of}

only_none : (xs : List Value) (n : ℕ) → length xs ≡ suc (suc n) → only xs ≡ None
only_none [] n many = absurd (omega (arith, many))
only_none (x ∷ []) n many = absurd (omega (arith, many))
only_none (x ∷ (y ∷ ys)) n many = refl

only_bag : (xs : List Value) → only (bag_of xs) ≡ only xs
only_bag [] = refl
only_bag (x ∷ []) = refl
only_bag (x ∷ (y ∷ ys)) =
    only_none (bag_of (x ∷ (y ∷ ys))) (length ys) (length-bag_of (x ∷ (y ∷ ys)))

single_made : (w : World) (o : ℕ) (k : Comb) (xs : List Value)
    → act_result w o (act.Singleton k) (untrapped (bag_of xs) ∷ [])
    ≡ or_of_nothing o k (option_and_then value_of (only xs))
single_made w o k xs =
    barrier_singleton w o k (untrapped (bag_of xs))
    ∙ ap (λ (p : Option Value). or_of_nothing o k (option_and_then value_of p)) (only_bag xs)

-- ---- by how many there are

pub only_one : (xs : List Value) (x : Value) → length xs ≡ 1 → x ≡ get_or xs 0 x
    → only xs ≡ Some x
only_one [] x one e = absurd (omega (arith, one))
only_one (y ∷ []) x one e = ap Some (sym e)
only_one (y ∷ (z ∷ zs)) x one e = absurd (omega (arith, one))

pub only_none_of : (xs : List Value) → (length xs ≡ 1 → ⊥) → only xs ≡ None
only_none_of [] other = refl
only_none_of (x ∷ []) other = absurd (other refl)
only_none_of (x ∷ (y ∷ ys)) other = refl

pub singles : {E : Type 0} (w : World) (o : ℕ) (k : Comb) (xs : List Value) (p : Option Value)
    → only xs ≡ p → (r : Result (Result Value Trap) E)
    → IfOk r (λ made. or_of_nothing o k (option_and_then value_of p) ≡ object_of made)
    → IfOk r (λ made.
    act_result w o (act.Singleton k) (untrapped (bag_of xs) ∷ []) ≡ object_of made)
singles w o k xs p is (Err fault) e = tt
singles w o k xs p is (Ok made) e =
    single_made w o k xs
    ∙ ap (λ (q : Option Value). or_of_nothing o k (option_and_then value_of q)) is ∙ e
