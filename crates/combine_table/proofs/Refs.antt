-- The greatest of the values that sorted references refer to.
use Rattle.std.proofs.Common.{◌≡◌, ℕ, ◌-◌, true, false, cond, Bool, List, [], ◌∷◌, refl, length, drop, sym, ap, ◌∙◌, take, arith, length-drop}
use Rattle.std.specs.Borrow.{Bor}
use Rattle.std.specs.List.{dedup, dedup_from}
use Rattle.std.proofs.lemmas.List.{drop-map, length-map, take_all}
use Rattle.flume_value.specs.declared.value.Value.{Value}
use Rattle.flume_value.specs.Equality.{value_eq}
use Rattle.flume_value.proofs.ReferenceLemmas.{referred}
use Rattle.combine_table.specs.Combinations.{greatest, distinct}

-- the slice from k on, as the code takes it
pub referred-greatest : (n k : ℕ) (b : List Value) (rs ss : List (Bor Value)) → referred rs ≡ b
    → ss ≡ rs → k ≡ length ss - n
    → referred (take (length ss - k) (drop k ss)) ≡ greatest n b
referred-greatest n k b rs ss e same at =
    ap referred (take_all (length ss - k) (drop k ss) (omega (arith, length-drop k ss)))
    ∙ sym (drop-map (λ (v : Bor Value). v.now) k ss) ∙ ap (λ l. drop k (referred l)) same
    ∙ ap (drop k) e
    ∙ (let count : k ≡ length b - n
    = omega (arith, length-map rs (λ (v : Bor Value). v.now), ap length e, ap length same) in
    ap (λ m. drop m b) count)

-- references deduplicated by the values that they refer to
module _ (E : Value → Value → Bool) where
  abbrev alike : Bor Value → Bor Value → Bool
  alike x y = E x.now y.now

  referred-dedup_from : (k : Bor Value) (rs : List (Bor Value))
      → referred (dedup_from alike k rs) ≡ dedup_from E k.now (referred rs)
  referred-dedup_from k [] = refl
  referred-dedup_from k (r ∷ rs) =
      elim (E r.now k.now) as
      (λ t. referred (cond t (dedup_from alike k rs) (k ∷ dedup_from alike r rs)) ≡ cond t
      (dedup_from E k.now (referred rs)) (k.now ∷ dedup_from E r.now (referred rs))) [
        | true ↦ referred-dedup_from k rs
        | false ↦ ap (λ l. k.now ∷ l) (referred-dedup_from r rs)
      ]

  referred-dedup : (rs : List (Bor Value)) → referred (dedup alike rs) ≡ dedup E (referred rs)
  referred-dedup [] = refl
  referred-dedup (r ∷ rs) = referred-dedup_from r rs

pub referred-distinct : (E : Value → Value → Bool) → E ≡ value_eq → (b : List Value)
    → (rs ss : List (Bor Value)) → referred rs ≡ b → ss ≡ dedup (λ x y. E x.now y.now) rs
    → referred ss ≡ distinct b
referred-distinct E same b rs ss e is =
    ap referred is ∙ referred-dedup E rs
    ∙ ap (λ (F : Value → Value → Bool). dedup F (referred rs)) same
    ∙ ap distinct e
