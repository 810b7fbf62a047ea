-- Two lists of nodes in order that have the same nodes are one list.
use Rattle.std.proofs.Common.{◌≡◌, ℕ, ◌<◌, ◌≤◌, Bool, true, false, cond, eqb, List, [], ◌∷◌, Some, refl, sym, ap, ap₂, ◌∙◌, arith}
use Rattle.std.specs.List.{AllByRecursion as Each}
use Rattle.std.proofs.lemmas.Bool.{eqb-true, eq-eqb}
use Rattle.flume_value.proofs.EachLemmas.{Each-both, Each-weaker}
use Rattle.exec_graph.specs.Meaning.{node_at}
use Rattle.exec_graph.specs.Wellformed.{Ascends}
use Rattle.exec_graph.specs.declared.graph.Node.{Node}
use Rattle.exec_graph.specs.declared.graph.Entry.{Entry}
use Rattle.exec_graph.proofs.Bools.{not_true}
use Rattle.exec_graph.proofs.Entries.{all_found, entry}

-- each node of the first stands in the second
abbrev pub StandIn : List Entry → List Entry → Type 0
StandIn xs ys = Each (λ e. node_at ys e.number ≡ Some e.node) xs

at_least : (y : Entry) (ys : List Entry) (n : ℕ) (z : Node) → Ascends (y ∷ ys)
    → node_at (y ∷ ys) n ≡ Some z → y.number ≤ n
at_least y ys n z u at =
    all_found (λ d. y.number ≤ d.number) (y ∷ ys) n z at (
      omega arith,
      Each-weaker (λ (d : Entry). y.number < d.number) (λ (d : Entry). y.number ≤ d.number)
          (λ d h. omega arith) ys u.0,
    )

behind : (x y : Entry) (xs ys : List Entry) → x.number ≡ y.number
    → Each (λ d. x.number < d.number) xs → StandIn xs (y ∷ ys) → StandIn xs ys
behind x y xs ys is a i =
    Each-both (λ (d : Entry). x.number < d.number)
    (λ (e : Entry). node_at (y ∷ ys) e.number ≡ Some e.node)
    (λ (e : Entry). node_at ys e.number ≡ Some e.node)
    (λ e less at.
    let apart : eqb y.number e.number ≡ false =
    not_true (eqb y.number e.number)
    (λ j. let same : y.number ≡ e.number = eqb-true y.number e.number j in omega arith) in
    sym (ap (λ (b : Bool). cond b (Some y.node) (node_at ys e.number)) apart) ∙ at) xs a i

pub one_list : (xs ys : List Entry) → Ascends xs → Ascends ys → StandIn xs ys → StandIn ys xs
    → xs ≡ ys
one_list [] [] u v i j = refl
one_list [] (y ∷ ys) u v i j = let at = j.0 in let bad : ⊥ = cc in absurd bad
one_list (x ∷ xs) [] u v i j = let at = i.0 in let bad : ⊥ = cc in absurd bad
one_list (x ∷ xs) (y ∷ ys) u v i j =
    let low : y.number ≤ x.number = at_least y ys x.number x.node v i.0 in
    let high : x.number ≤ y.number = at_least x xs y.number y.node u j.0 in
    let is : x.number ≡ y.number = omega arith in
    let found : Some y.node ≡ Some x.node =
    sym (ap (λ (b : Bool). cond b (Some y.node) (node_at ys x.number))
    (eq-eqb y.number x.number (sym is))) ∙ i.0 in
    let node : x.node ≡ y.node = cc in
    ap₂ (λ (e : Entry) (l : List Entry). e ∷ l)
    (ap₂ (λ (n : ℕ) (z : Node). entry n z) is node)
    (one_list xs ys u.1 v.1 (behind x y xs ys is u.0 i.1)
    (behind y x ys xs (sym is) v.0 j.1))
