-- Values that the derived `==` finds equal are one value.
use Rattle.std.specs.Prelude.{◌≡◌, Bool, true, false, List, [], ◌∷◌, map, refl, IsTrue}
use Rattle.std.proofs.Common.{sym, ap, ◌∙◌, subst, true≢false}
use Rattle.std.specs.declared.cmp.Ordering.{Ordering}
use Rattle.std.specs.declared.cmp.Ordering.TheVariants.{Less, Equal, Greater}
use Rattle.std.specs.Ordering.{ordering_then, bool_cmp, is_eq}
use Rattle.std.specs.FinMap.{nat_cmp-IsAntisymmetric, int_cmp-IsAntisymmetric, slice_cmp-IsAntisymmetric}
use Rattle.std.specs.Cmp.{Equal-is}
use Rattle.std.specs.Cmp.Lexicographic.{slice_cmp}
use denote.Hole.Carrier as carrier
use Rattle.flume_value.specs.declared.value.Value.{Value, Value-F, out-Value, roll-Value, roll-out-Value, out-roll-Value, map-Value, ind-Value}
use Rattle.flume_value.specs.declared.value.Value.TheVariants as variant
use Rattle.flume_value.specs.contracts.value.ValueOrd.TheImpl.{ghosts}
use Rattle.flume_value.specs.contracts.value.ValueOrd.TheImpl.Laws.{unfolded, is, matches_eq-law}
use Rattle.flume_value.specs.contracts.value.ValuePartialEq.TheImpl as equality
use Rattle.flume_value.specs.Order.{layer_cmp}

-- ---- the derived comparison, one level

derived : (a b : Value) → unfolded a b ≡ layer_cmp (ghosts).cmp (out-Value a) (out-Value b)
unfolding out-Value carrier.out
derived (variant.Int m) (variant.Int n) = refl
derived (variant.Bool m) (variant.Bool n) = refl
derived (variant.Text m) (variant.Text n) = refl
derived (variant.List' s r) (variant.List' t q) = refl
derived (variant.Rec' s r) (variant.Rec' t q) = refl
derived (variant.Left' s r) (variant.Left' t q) = refl
derived (variant.Right' s r) (variant.Right' t q) = refl
derived (variant.Wide m) (variant.Wide n) = refl
derived _ _ = refl

pub derived-step : (a b : Value) → (ghosts).cmp a b
    ≡ layer_cmp (ghosts).cmp (out-Value a) (out-Value b)
derived-step a b = is a b ∙ derived a b

-- ---- a comparison that goes level by level tells values apart

both_tied : (o p : Ordering) → ordering_then o p ≡ Equal → (o ≡ Equal) × (p ≡ Equal)
both_tied Less p e = absurd (true≢false (sym (ap is_eq e)))
both_tied Equal p e = (refl, e)
both_tied Greater p e = absurd (true≢false (sym (ap is_eq e)))

tied_bools : (a b : Bool) → bool_cmp a b ≡ Equal → a ≡ b
tied_bools false false e = refl
tied_bools true true e = refl
tied_bools false true e = absurd (true≢false (sym (ap is_eq e)))
tied_bools true false e = absurd (true≢false (sym (ap is_eq e)))

module _ (R : Value → Value → Ordering) where
  abbrev TellsApart : Value → Type 0
  TellsApart a = (b : Value) → R a b ≡ Equal → a ≡ b

  abbrev plain : (v : Value) × TellsApart v → Value
  plain e = e.0

  tied_lists : (es : List ((v : Value) × TellsApart v)) (ys : List Value)
      → slice_cmp R (map plain es) ys ≡ Equal → map plain es ≡ ys
  tied_lists [] [] h = refl
  tied_lists [] (y ∷ ys) h = absurd (true≢false (sym (ap is_eq h)))
  tied_lists (e ∷ es) [] h = absurd (true≢false (sym (ap is_eq h)))
  tied_lists (e ∷ es) (y ∷ ys) h =
      let k = both_tied (R e.0 y) (slice_cmp R (map plain es) ys) h in
      λ i. e.1 y k.0 i ∷ tied_lists es ys k.1 i

  tied_layer : (x : Value-F ((v : Value) × TellsApart v)) (y : Value-F Value)
      → layer_cmp R (map-Value ((v : Value) × TellsApart v) Value plain x) y ≡ Equal
      → map-Value ((v : Value) × TellsApart v) Value plain x ≡ y
  tied_layer (Value-F.Int m) (Value-F.Int n) h = ap Value-F.Int (int_cmp-IsAntisymmetric m n h)
  tied_layer (Value-F.Bool a) (Value-F.Bool b) h = ap Value-F.Bool (tied_bools a b h)
  tied_layer (Value-F.Text s) (Value-F.Text t) h =
      ap Value-F.Text (slice_cmp-IsAntisymmetric nat_cmp-IsAntisymmetric s t h)
  tied_layer (Value-F.List es) (Value-F.List ys) h = ap Value-F.List (tied_lists es ys h)
  tied_layer (Value-F.Rec es) (Value-F.Rec ys) h = ap Value-F.Rec (tied_lists es ys h)
  tied_layer (Value-F.Left e) (Value-F.Left y) h = ap Value-F.Left (e.1 y h)
  tied_layer (Value-F.Right e) (Value-F.Right y) h = ap Value-F.Right (e.1 y h)
  tied_layer (Value-F.Wide m) (Value-F.Wide n) h = ap Value-F.Wide (int_cmp-IsAntisymmetric m n h)
  tied_layer _ _ h = absurd (true≢false (sym (ap is_eq h)))

  pub tells_apart : ((a b : Value) → R a b ≡ layer_cmp R (out-Value a) (out-Value b))
      → (a : Value) → TellsApart a
  tells_apart step = ind-Value TellsApart (λ x y is b h.
      let at_layer = ap (λ z. layer_cmp R z (out-Value b)) (sym (out-roll-Value x))
      ∙ sym (step (roll-Value x) b) ∙ h in
      let same = subst (λ z. layer_cmp R z (out-Value b) ≡ Equal → z ≡ out-Value b) is
      (tied_layer y (out-Value b)) at_layer in
      ap roll-Value same ∙ roll-out-Value b)

-- ---- so does the derived `==`

pub found_equal : (a b : Value) → IsTrue ((equality.ghosts).eq a b) → a ≡ b
found_equal a b h =
    tells_apart (ghosts).cmp derived-step a b
    ((Equal-is ((ghosts).cmp a b)).0 (sym (matches_eq-law a b) ∙ h))
