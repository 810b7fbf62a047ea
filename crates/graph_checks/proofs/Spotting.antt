-- What the outputs in preorder say of which outputs a forest has, and of the collections there.
use Rattle.std.proofs.Common.{◌≡◌, ℕ, Bool, true, false, eqb, ◌||◌, ◌&&◌, List, [], ◌∷◌, ◌++◌, Some, None, Option, refl, ap, ◌∙◌, arith}
use Rattle.std.specs.List.{list_any}
use Rattle.std.proofs.lemmas.Bool.Decides.{nat_tests}
use Rattle.exec_graph.specs.Forests.{Forest, Bare, Grow}
use Rattle.exec_graph.specs.Meaning.{place, is_out, has_out}
use Rattle.exec_graph.specs.Readers.{same_place}
use Rattle.exec_graph.specs.Spots.{spots}
use Rattle.exec_graph.specs.declared.graph.Place.{Place}
use Rattle.exec_graph.specs.declared.spots.Spot.{Spot}
use Rattle.graph_checks.specs.inner.Numbers.{spot_place}

any-append : (p : Spot → Bool) (xs ys : List Spot)
    → list_any p (xs ++ ys) ≡ (list_any p xs || list_any p ys)
any-append p [] ys = refl
any-append p (x ∷ xs) ys = by (p x) (any-append p xs ys)
  where
    by : (r : Bool) → list_any p (xs ++ ys) ≡ (list_any p xs || list_any p ys)
        → (r || list_any p (xs ++ ys)) ≡ ((r || list_any p xs) || list_any p ys)
    by true e = refl
    by false e = e

pub has_spots : (j : ℕ) (f : Forest) → list_any (λ s. is_out s.out j) (spots f) ≡ has_out j f
has_spots j Bare = refl
has_spots j (Grow l kids rest) = let a = has_spots j kids in let b = has_spots j rest in
    ap (λ (r : Bool). is_out l.out j || r) (any-append (λ s. is_out s.out j) (spots kids)
    (spots rest) ∙ (cc))

-- ---- places
pub swap : (a b : ℕ) → eqb a b ≡ eqb b a
swap a b = grind (arith, nat_tests)

pub spot_some : (n : ℕ) (d : Place) (s : Spot) (j : ℕ) → s.out ≡ Some j
    → spot_place n d s ≡ same_place d (place n j)
spot_some n d s j e = ap (λ (o : Option ℕ). eqb d.node n && is_out o d.out) e
    ∙ ap (λ (b : Bool). eqb d.node n && b) (swap j d.out)

and_false : (a : Bool) → (a && false) ≡ false
and_false true = refl
and_false false = refl

pub spot_none : (n : ℕ) (d : Place) (s : Spot) → s.out ≡ None → spot_place n d s ≡ false
spot_none n d s e = ap (λ (o : Option ℕ). eqb d.node n && is_out o d.out) e
    ∙ and_false (eqb d.node n)

any_and : (a : Bool) (p : Spot → Bool) (xs : List Spot)
    → list_any (λ s. a && p s) xs ≡ (a && list_any p xs)
any_and true p xs = refl
any_and false p [] = refl
any_and false p (x ∷ xs) = any_and false p xs

pub spots_given : (n : ℕ) (d : Place) (f : Forest)
    → list_any (spot_place n d) (spots f) ≡ (eqb d.node n && has_out d.out f)
spots_given n d f = any_and (eqb d.node n) (λ s. is_out s.out d.out) (spots f)
    ∙ ap (λ (b : Bool). eqb d.node n && b) (has_spots d.out f)
