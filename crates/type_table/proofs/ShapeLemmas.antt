-- The derived `==` of shapes decides equality.
use Rattle.std.proofs.Common.{◌≡◌, Decides, Bool, true, nat_eq, List, [], ◌∷◌, refl, sym, subst, ap}
use Rattle.std.proofs.lemmas.Bool.Decides.{Decides-eqb}
use Rattle.std.specs.Cmp.{first_so, second_so}
use Rattle.std.specs.Cmp.Lexicographic.{pointwise, same_text}
use Rattle.type_table.specs.declared.shape.Shape.{Shape}
use Rattle.type_table.specs.declared.shape.Shape.TheVariants as shape
use Rattle.type_table.specs.declared.shape.Part.{Part}
use Rattle.type_table.specs.contracts.shape.ShapePartialEq.TheImpl.{ghosts}
use Rattle.type_table.specs.contracts.shape.PartPartialEq.TheImpl.{ghosts as part_ghosts}
use Rattle.type_table.specs.contracts.shape.ShapeEq.TheImpl.Laws.{laws-law}

abbrev same_part : Part → Part → Bool
same_part = (part_ghosts).eq

part-tells : (p q : Part) → same_part p q ≡ true → p ≡ q
part-tells p q e =
    let names : p.name ≡ q.name =
    same_text p.name q.name
    (sym (first_so (pointwise nat_eq p.name q.name) (nat_eq p.ty q.ty) e)) in
    let types : p.ty ≡ q.ty =
    (Decides-eqb p.ty q.ty).0 (second_so (pointwise nat_eq p.name q.name) (nat_eq p.ty q.ty) e)
    in
    λ i. record { name = names i; ty = types i }

parts-tell : (xs ys : List Part) → pointwise same_part xs ys ≡ true → xs ≡ ys
parts-tell [] [] e = refl
parts-tell [] (y ∷ ys) e = cc
parts-tell (x ∷ xs) [] e = cc
parts-tell (x ∷ xs) (y ∷ ys) e =
    let one = first_so (same_part x y) (pointwise same_part xs ys) e in
    let rest = second_so (same_part x y) (pointwise same_part xs ys) e in
    λ i. part-tells x y one i ∷ parts-tell xs ys rest i

pub tells_apart : (a b : Shape) → (ghosts).eq a b ≡ true → a ≡ b
tells_apart shape.Int shape.Int e = refl
tells_apart shape.Bool shape.Bool e = refl
tells_apart shape.Text shape.Text e = refl
tells_apart (shape.List a) (shape.List b) e = ap shape.List ((Decides-eqb a b).0 e)
tells_apart (shape.Rec a) (shape.Rec b) e = ap shape.Rec (parts-tell a b e)
tells_apart (shape.Either a b) (shape.Either c d) e =
    let left : a ≡ c = (Decides-eqb a c).0 (first_so (nat_eq a c) (nat_eq b d) e) in
    let right : b ≡ d = (Decides-eqb b d).0 (second_so (nat_eq a c) (nat_eq b d) e) in
    λ i. shape.Either (left i) (right i)
tells_apart _ _ e = cc

pub shape_eq-Decides : (a b : Shape) → Decides ((ghosts).eq a b) (a ≡ b)
shape_eq-Decides a b =
    (tells_apart a b, λ e. subst (λ c. (ghosts).eq a c ≡ true) e (laws-law.refl a))
