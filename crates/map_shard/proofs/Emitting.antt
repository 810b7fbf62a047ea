-- Parts of a list of which all members are of a kind.
use Rattle.std.proofs.Common.{◌≡◌, List, [], ◌∷◌, ◌++◌, map, append_assoc, ap, ◌∙◌, subst, sym}
use Rattle.std.specs.Prelude.{All}
use Rattle.std.proofs.lemmas.List.{map-id}
use Rattle.std.proofs.lemmas.List.Elements.{All-cons, All-head, All-nil, All-tail}
use Rattle.flume_value.specs.declared.value.Value.{Value}

both : (P : Value → Type 0) (xs ys : List Value) → All P (xs ++ ys) → All P xs × All P ys
both P [] ys all = (All-nil P, all)
both P (x ∷ xs) ys all =
    let rest = both P xs ys (All-tail P x (xs ++ ys) all) in
    (All-cons P x xs (All-head P x (xs ++ ys) all) rest.0, rest.1)

pub of_parts : (P : Value → Type 0) (xs ys whole : List Value) → xs ++ ys ≡ whole → All P whole
    → All P xs × All P ys
of_parts P xs ys whole is all = both P xs ys (subst (All P) (sym is) all)

-- values and couples behind what was there
pub behind : (done values couples whole : List Value) → values ++ couples ≡ whole
    → (done ++ map (λ (v : Value). v) values) ++ map (λ (v : Value). v) couples ≡ done ++ whole
behind done values couples whole is =
    (λ i. (done ++ map-id values i) ++ map-id couples i) ∙ append_assoc done values couples
    ∙ ap (λ (l : List Value). done ++ l) is
