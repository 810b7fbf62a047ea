-- What was written is read again, where it has no more levels than that.
use Rattle.std.proofs.Common.{◌≡◌, ℕ, zero, suc, ◌+◌, ◌≤◌, ◌&&◌, true, List, [], ◌∷◌, ◌++◌, length, Some, refl, sym, ap, ◌∙◌, subst, append_assoc, arith}
use Rattle.std.specs.List.{list_all, flat_map}
use Rattle.flume_value.specs.declared.value.Value.{Value, Value-F, out-Value, roll-Value, roll-out-Value}
use Rattle.flume_value.specs.declared.value.Value.TheVariants as variant
use Rattle.flume_value.specs.Canonical.{length_bytes, int_bytes, wide_bytes, canonical}
use Rattle.flume_value.specs.Ranges.{fits_length, fits}
use Rattle.flume_value.proofs.BoolLemmas.{both_true}
use Rattle.flume_value.proofs.CanonicalLemmas.{canonical-Int, canonical-Bool, canonical-Text, canonical-List, canonical-Rec, canonical-Left, canonical-Right, canonical-Wide}
use Rattle.flume_value.proofs.RangeLemmas.{fits-Int, fits-Text, fits-List, fits-Rec, fits-Left, fits-Right, fits-Wide}
use Rattle.value_reading.specs.Levels.{greatest_by, levels_of}
use Rattle.value_reading.specs.declared.tag.Tag.{Tag}
use Rattle.value_reading.specs.declared.tag.Tag.TheVariants as tag
use Rattle.value_reading.specs.inner.Reading.{Out, bind, made, number_at, tag_at, parts_at, items_at, behind, value_at}
use Rattle.value_reading.proofs.Leaves.{tag_byte, tag_again, length_again, int_again, wide_again, bool_again, text_again}
use Rattle.value_reading.proofs.LevelLemmas.{Within, within_greatest, levels_positive, levels-List, levels-Rec, levels-Left, levels-Right}

-- a value of so many levels is read again by this
abbrev IsReadBy : (List ℕ → Out Value) → ℕ → Value → Type 0
IsReadBy part n v = (rest : List ℕ) → fits v ≡ true → levels_of v ≤ n
    → part (canonical v ++ rest) ≡ Some (v, rest)

module _ (part : List ℕ → Out Value) (n : ℕ) (again : (v : Value) → IsReadBy part n v) where
  parts_again : (xs : List Value) (rest : List ℕ) → list_all fits xs ≡ true → Within n xs
      → parts_at part (length xs) (flat_map canonical xs ++ rest) ≡ Some (xs, rest)
  unfolding parts_at
  parts_again [] rest p h = refl
  parts_again (x ∷ xs) rest p h =
      let both = both_true (fits x) (list_all fits xs) p in
      let next = λ (v : Value) (bs : List ℕ). made (λ vs. v ∷ vs) (parts_at part (length xs) bs) in
      ap (λ bs. bind (part bs) next) (append_assoc (canonical x) (flat_map canonical xs) rest)
      ∙ ap (λ o. bind o next) (again x (flat_map canonical xs ++ rest) both.0 h.0)
      ∙ ap (made (λ vs. x ∷ vs)) (parts_again xs rest both.1 h.1)

  items_again : (xs : List Value) (rest : List ℕ)
      → fits_length (length xs) && list_all fits xs ≡ true → Within n xs
      → items_at part ((length_bytes (length xs) ++ flat_map canonical xs) ++ rest)
      ≡ Some (xs, rest)
  unfolding items_at
  items_again xs rest p h =
      let both = both_true (fits_length (length xs)) (list_all fits xs) p in
      ap (λ bs. bind (number_at 8 bs) (parts_at part))
      (append_assoc (length_bytes (length xs)) (flat_map canonical xs) rest)
      ∙ ap (λ o. bind o (parts_at part))
      (length_again (length xs) (flat_map canonical xs ++ rest) both.0)
      ∙ parts_again xs rest both.1 h

-- by its first byte, and what is behind that
by_tag : (n : ℕ) (t : Tag) (v : Value) (text rest : List ℕ) → canonical v ≡ tag_byte t ∷ text
    → behind (value_at n) t (text ++ rest) ≡ Some (v, rest)
    → value_at (suc n) (canonical v ++ rest) ≡ Some (v, rest)
unfolding value_at
by_tag n t v text rest e h =
    ap (λ bs. bind (tag_at (bs ++ rest)) (behind (value_at n))) e
    ∙ ap (λ o. bind o (behind (value_at n))) (tag_again t (text ++ rest)) ∙ h

lower : (n m : ℕ) (v : Value) → levels_of v ≡ m + 1 → levels_of v ≤ suc n → m ≤ n
lower n m v e h = omega (arith, e, h)

module _ (n : ℕ) (again : (v : Value) → IsReadBy (value_at n) n v) where
  abbrev Above : Value → Type 0
  Above v = IsReadBy (value_at (suc n)) (suc n) v

  -- what holds of a variant holds of its layer
  of_layer : (v : Value) (x : Value-F Value) → out-Value v ≡ x → Above v → Above (roll-Value x)
  of_layer v x is = subst Above (sym (roll-out-Value v) ∙ ap roll-Value is)

  -- a value that a list makes, and one that a value makes, each by its tag
  items_above : (t : Tag) (make : List Value → Value) (xs : List Value) (x : Value-F Value)
      → out-Value (make xs) ≡ x
      → ((bs : List ℕ) → behind (value_at n) t bs ≡ made make (items_at (value_at n) bs))
      → canonical (make xs) ≡ tag_byte t ∷ (length_bytes (length xs) ++ flat_map canonical xs)
      → fits (make xs) ≡ (fits_length (length xs) && list_all fits xs)
      → levels_of (make xs) ≡ greatest_by levels_of xs + 1 → Above (roll-Value x)
  items_above t make xs x is read bytes held levels = of_layer (make xs) x is (λ rest p h.
      by_tag n t (make xs) (length_bytes (length xs) ++ flat_map canonical xs) rest bytes
      (read _ ∙ ap (made make) (items_again (value_at n) n again xs rest (sym held ∙ p)
      (within_greatest n xs (lower n (greatest_by levels_of xs) (make xs) levels h)))))

  part_above : (t : Tag) (make : Value → Value) (part : Value) (x : Value-F Value)
      → out-Value (make part) ≡ x
      → ((bs : List ℕ) → behind (value_at n) t bs ≡ made make (value_at n bs))
      → canonical (make part) ≡ tag_byte t ∷ canonical part → fits (make part) ≡ fits part
      → levels_of (make part) ≡ levels_of part + 1 → Above (roll-Value x)
  part_above t make part x is read bytes held levels = of_layer (make part) x is (λ rest p h.
      by_tag n t (make part) (canonical part) rest bytes
      (read _ ∙ ap (made make) (again part rest (sym held ∙ p)
      (lower n (levels_of part) (make part) levels h))))

  layer_above : (x : Value-F Value) → Above (roll-Value x)
  layer_above (Value-F.Int z) = of_layer (variant.Int z) _ (variant.outs-Int z) (λ rest p h.
      by_tag n tag.Int (variant.Int z) (int_bytes z) rest (canonical-Int z)
      (ap (made variant.Int) (int_again z rest (sym (fits-Int z) ∙ p))))
  layer_above (Value-F.Bool b) = of_layer (variant.Bool b) _ (variant.outs-Bool b) (λ rest p h.
      by_tag n tag.Bool (variant.Bool b) _ rest (canonical-Bool b)
      (ap (made variant.Bool) (bool_again b rest)))
  layer_above (Value-F.Text s) = of_layer (variant.Text s) _ (variant.outs-Text s) (λ rest p h.
      by_tag n tag.Text (variant.Text s) (length_bytes (length s) ++ s) rest (canonical-Text s)
      (ap (made variant.Text) (text_again s rest (sym (fits-Text s) ∙ p))))
  layer_above (Value-F.List xs) = items_above tag.List variant.List xs _ (variant.outs-List xs)
      (λ bs. refl) (canonical-List xs) (fits-List xs) (levels-List xs)
  layer_above (Value-F.Rec xs) = items_above tag.Rec variant.Rec xs _ (variant.outs-Rec xs)
      (λ bs. refl) (canonical-Rec xs) (fits-Rec xs) (levels-Rec xs)
  layer_above (Value-F.Left x) = part_above tag.Left variant.Left x _ (variant.outs-Left x)
      (λ bs. refl) (canonical-Left x) (fits-Left x) (levels-Left x)
  layer_above (Value-F.Right x) = part_above tag.Right variant.Right x _ (variant.outs-Right x)
      (λ bs. refl) (canonical-Right x) (fits-Right x) (levels-Right x)
  layer_above (Value-F.Wide z) = of_layer (variant.Wide z) _ (variant.outs-Wide z) (λ rest p h.
      by_tag n tag.Wide (variant.Wide z) (wide_bytes z) rest (canonical-Wide z)
      (ap (made variant.Wide) (wide_again z rest (sym (fits-Wide z) ∙ p))))

pub value_again : (n : ℕ) (v : Value) → IsReadBy (value_at n) n v
value_again zero v =
    λ rest p h. let one = levels_positive v in absurd (omega (arith, one, h))
value_again (suc n) v =
    subst (Above n (value_again n)) (roll-out-Value v) (layer_above n (value_again n) (out-Value v))
