-- The derived `==` of types decides equality.
use Rattle.std.proofs.Common.{◌≡◌, Decides, Bool, true, false, ◌&&◌, nat_eq, List, [], ◌∷◌, map, refl, sym, ap, ◌∙◌, subst}
use denote.Hole.Carrier as carrier
use Rattle.std.specs.Cmp.Lexicographic.{pointwise, same_text}
use Rattle.flume_value.proofs.BoolLemmas.{both_true}
use Rattle.flume_types.specs.declared.types.Ty.{Ty, Ty-F, out-Ty, roll-Ty, roll-out-Ty, out-roll-Ty, map-Ty, ind-Ty}
use Rattle.flume_types.specs.declared.types.Ty.TheVariants as variant
use Rattle.flume_types.specs.declared.types.Field.{Field}
use Rattle.flume_types.specs.contracts.types.TyPartialEq.TheImpl.{ghosts}
use Rattle.flume_types.specs.contracts.types.TyPartialEq.TheImpl.Laws.{unfolded, is}
use Rattle.flume_types.specs.contracts.types.TyEq.TheImpl.Laws.{laws-law}

-- fields are equal where their names are and their types
abbrev same_field : {X Y : Type 0} → (X → Y → Bool) → Field X → Field Y → Bool
same_field R f g = pointwise nat_eq f.name g.name && R f.ty g.ty

abbrev layer_same : {X Y : Type 0} → (X → Y → Bool) → Ty-F X → Ty-F Y → Bool
layer_same R Ty-F.Int Ty-F.Int = true
layer_same R Ty-F.Bool Ty-F.Bool = true
layer_same R Ty-F.Text Ty-F.Text = true
layer_same R (Ty-F.List t) (Ty-F.List u) = R t u
layer_same R (Ty-F.Rec fs) (Ty-F.Rec gs) = pointwise (same_field R) fs gs
layer_same R (Ty-F.Either t u) (Ty-F.Either v w) = R t v && R u w
layer_same R _ _ = false

derived : (a b : Ty) → unfolded a b ≡ layer_same (ghosts).eq (out-Ty a) (out-Ty b)
unfolding out-Ty carrier.out
derived variant.Int variant.Int = refl
derived variant.Bool variant.Bool = refl
derived variant.Text variant.Text = refl
derived (variant.List' s r) (variant.List' t q) = refl
derived (variant.Rec' s r) (variant.Rec' t q) = refl
derived (variant.Either' s r t q) (variant.Either' s' r' t' q') = refl
derived _ _ = refl

pub derived-step : (a b : Ty) → (ghosts).eq a b ≡ layer_same (ghosts).eq (out-Ty a) (out-Ty b)
derived-step a b = is a b ∙ derived a b

-- ---- the equation tells types apart

pointwise_tells : {A B : Type 0} (R : B → B → Bool) (h : A → B)
    → ((a : A) (b : B) → R (h a) b ≡ true → h a ≡ b) → (xs : List A) (ys : List B)
    → pointwise R (map h xs) ys ≡ true → map h xs ≡ ys
pointwise_tells R h tells [] [] e = refl
pointwise_tells R h tells [] (y ∷ ys) e = cc
pointwise_tells R h tells (x ∷ xs) [] e = cc
pointwise_tells R h tells (x ∷ xs) (y ∷ ys) e =
    let both = both_true (R (h x) y) (pointwise R (map h xs) ys) e in
    λ i. tells x y both.0 i ∷ pointwise_tells R h tells xs ys both.1 i

abbrev TellsApart : Ty → Type 0
TellsApart a = (b : Ty) → (ghosts).eq a b ≡ true → a ≡ b

abbrev plain : (t : Ty) × TellsApart t → Ty
plain e = e.0

tied_field : (f : Field ((t : Ty) × TellsApart t)) (g : Field Ty)
    → same_field (ghosts).eq (record { name = f.name; ty = plain f.ty }) g ≡ true
    → record { name = f.name; ty = plain f.ty } ≡ g
tied_field f g e =
    let both = both_true (pointwise nat_eq f.name g.name) ((ghosts).eq (plain f.ty) g.ty) e in
    let names : f.name ≡ g.name = same_text f.name g.name (sym both.0) in
    let types : plain f.ty ≡ g.ty = f.ty.1 g.ty both.1 in
    λ i. record { name = names i; ty = types i }

tied_layer : (x : Ty-F ((t : Ty) × TellsApart t)) (y : Ty-F Ty)
    → layer_same (ghosts).eq (map-Ty ((t : Ty) × TellsApart t) Ty plain x) y ≡ true
    → map-Ty ((t : Ty) × TellsApart t) Ty plain x ≡ y
tied_layer Ty-F.Int Ty-F.Int e = refl
tied_layer Ty-F.Bool Ty-F.Bool e = refl
tied_layer Ty-F.Text Ty-F.Text e = refl
tied_layer (Ty-F.List t) (Ty-F.List u) e = ap Ty-F.List (t.1 u e)
tied_layer (Ty-F.Rec fs) (Ty-F.Rec gs) e =
    ap Ty-F.Rec (pointwise_tells (same_field (ghosts).eq) _ tied_field fs gs e)
tied_layer (Ty-F.Either t u) (Ty-F.Either v w) e =
    let both = both_true ((ghosts).eq t.0 v) ((ghosts).eq u.0 w) e in
    λ i. Ty-F.Either (t.1 v both.0 i) (u.1 w both.1 i)
tied_layer _ _ e = cc

pub tells_apart : (a : Ty) → TellsApart a
tells_apart = ind-Ty TellsApart (λ x y is b e.
    let at_layer = ap (λ z. layer_same (ghosts).eq z (out-Ty b)) (sym (out-roll-Ty x))
    ∙ sym (derived-step (roll-Ty x) b) ∙ e in
    let same = subst (λ z. layer_same (ghosts).eq z (out-Ty b) ≡ true → z ≡ out-Ty b) is
    (tied_layer y (out-Ty b)) at_layer in
    ap roll-Ty same ∙ roll-out-Ty b)

pub ty_eq-Decides : (a b : Ty) → Decides ((ghosts).eq a b) (a ≡ b)
ty_eq-Decides a b = (tells_apart a b, λ e. subst (λ c. (ghosts).eq a c ≡ true) e (laws-law.refl a))

pub ruleset same_rules = (ty_eq-Decides, tells_apart)
