-- The mean of a sum and a count: what calls answer, and the law of its rounding.
use Rattle.std.proofs.Common.{◌≡◌, ℤ, pos, List, length, Result, Ok, Err, refl, sym, ap, ◌∙◌, subst}
use Rattle.std.specs.Prelude.{IfOk, IfErr}
use Rattle.flume_value.specs.declared.value.Value.{Value}
use Rattle.flume_value.specs.declared.fault.Kind.{Kind}
use Rattle.flume_value.specs.declared.fault.CallFault.{CallFault}
use Rattle.flume_value.specs.Bag.{bag_of}
use Rattle.flume_value.proofs.BagLemmas.{length-bag_of}
use Rattle.combine_table.specs.declared.comb.Comb.{Comb}
use Rattle.combine_table.specs.declared.comb.Comb.TheVariants as by
use Rattle.combine_table.specs.Combinations.{int_total, wrapped, combined, mean, answer, IsTrapFault}
use Rattle.combine_table.proofs.Totals.{total-bag_of}

-- ---- what a call answers

answer_ok : (r : Result Value Kind) → IfOk (answer r) (λ v. r ≡ Ok v)
answer_ok (Ok v) = refl
answer_ok (Err kind) = tt

answer_fault : (r : Result Value Kind) → IfErr (answer r) (IsTrapFault r)
answer_fault (Ok v) = tt
answer_fault (Err kind) = refl

pub combined-Mean : (xs : List Value) → combined by.Mean (bag_of xs)
    ≡ mean (wrapped (int_total xs)) (wrapped (pos (length xs)))
combined-Mean xs =
    ap (λ (n : ℤ). mean (wrapped n) (wrapped (pos (length (bag_of xs))))) (total-bag_of xs)
    ∙ ap (λ n. mean (wrapped (int_total xs)) (wrapped (pos n))) (length-bag_of xs)

-- as the call tells it: vs is the slice of xs
module _ (by_mean : Comb) (is_mean : by_mean ≡ by.Mean) (xs vs : List Value)
    (r : Result Value CallFault) (s c : ℤ) (slice : vs ≡ xs)
    (sum : s ≡ wrapped (int_total vs)) (count : c ≡ wrapped (pos (length vs)))
    (is : r ≡ answer (mean s c)) where
  meant : r ≡ answer (combined by.Mean (bag_of xs))
  meant =
      is ∙ ap (λ (n : ℤ). answer (mean n c)) sum
      ∙ ap (λ (n : ℤ). answer (mean (wrapped (int_total vs)) n)) count
      ∙ ap answer (sym (combined-Mean vs)) ∙ ap (λ l. answer (combined by.Mean (bag_of l))) slice

  pub mean_ok : IfOk r (λ v. combined by_mean (bag_of xs) ≡ Ok v)
  mean_ok =
      subst (λ (b : Comb). IfOk r (λ v. combined b (bag_of xs) ≡ Ok v)) (sym is_mean)
      (subst (λ (a : Result Value CallFault). IfOk a (λ v. combined by.Mean (bag_of xs) ≡ Ok v))
      (sym meant) (answer_ok (combined by.Mean (bag_of xs))))

  pub mean_fault : IfErr r (IsTrapFault (combined by_mean (bag_of xs)))
  mean_fault =
      subst (λ (b : Comb). IfErr r (IsTrapFault (combined b (bag_of xs)))) (sym is_mean)
      (subst (λ (a : Result Value CallFault). IfErr a (IsTrapFault (combined by.Mean (bag_of xs))))
      (sym meant) (answer_fault (combined by.Mean (bag_of xs))))
