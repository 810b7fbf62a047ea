-- Gbks are linked exactly where their places are.
use Rattle.std.proofs.Common.{◌≡◌, ◌<◌, ℕ, true, eqb, List, [], ◌∷◌, length, sym, ap, ◌∙◌, subst, inl, inr}
use Rattle.std.specs.List.{list_any}
use Rattle.flume_value.proofs.BoolLemmas.{and_both, both_true}
use Rattle.exec_graph.specs.Meaning.{AllDiffer, node_at}
use Rattle.exec_graph.specs.declared.graph.Blocked.{Blocked}
use Rattle.plan_roles.specs.declared.roles.Role.{Role}
use Rattle.plan_roles.specs.Levels.{level}
use Rattle.plan_roles.specs.Roles.{roles}
use Rattle.form_laws.specs.Classes.{AreLinked, IsGbk, IsLinked, has_same, keys_taken, related}
use Rattle.form_laws.proofs.Classing.{gbk_node, related_gbk, share_related}
use Rattle.mscr_form.specs.inner.Labels.{AreLabels, IsWay, at_key, role_keys, level_at, shares}
use Rattle.mscr_form.proofs.Labeling.{shares_one}
use Rattle.mscr_form.proofs.Placing.{PlaceOf, keys_placed, level_placed, number_at, one_place, place_of}

-- ---- links
placed_related : (b : Blocked) (i j : ℕ) → AllDiffer b.graph.nodes → i < length (roles b)
    → j < length (roles b) → shares (roles b) i j ≡ true
    → related b (number_at (roles b) i) (number_at (roles b) j) ≡ true
placed_related b i j d hi hj s =
    let rs : List Role = roles b in
    let o = shares_one rs i j s in
    share_related b (number_at rs i) (number_at rs j) o.key
    (sym (level_placed b i d hi) ∙ o.level ∙ level_placed b j d hj)
    (ap (λ ks. has_same ks o.key) (sym (keys_placed b i d hi)) ∙ o.first)
    (ap (λ ks. has_same ks o.key) (sym (keys_placed b j d hj)) ∙ o.second)

related_placed : (b : Blocked) (i j : ℕ) → AllDiffer b.graph.nodes → i < length (roles b)
    → j < length (roles b)
    → related b (number_at (roles b) i) (number_at (roles b) j) ≡ true
    → shares (roles b) i j ≡ true
related_placed b i j d hi hj h =
    let rs : List Role = roles b in
    let lev : eqb (level_at rs i) (level_at rs j)
    ≡ eqb (level b.graph.nodes (number_at rs i)) (level b.graph.nodes (number_at rs j)) =
    ap (λ (x : ℕ). eqb x (level_at rs j)) (level_placed b i d hi)
    ∙ ap (eqb (level b.graph.nodes (number_at rs i))) (level_placed b j d hj) in
    let any : list_any (has_same (role_keys rs i)) (role_keys rs j)
    ≡ list_any (has_same (keys_taken b (number_at rs i))) (keys_taken b (number_at rs j)) =
    ap (λ ks. list_any (has_same ks) (role_keys rs j)) (keys_placed b i d hi)
    ∙ ap (list_any (has_same (keys_taken b (number_at rs i)))) (keys_placed b j d hj) in
    let p = both_true
    (eqb (level b.graph.nodes (number_at rs i)) (level b.graph.nodes (number_at rs j)))
    (list_any (has_same (keys_taken b (number_at rs i))) (keys_taken b (number_at rs j))) h in
    and_both (eqb (level_at rs i) (level_at rs j))
    (list_any (has_same (role_keys rs i)) (role_keys rs j)) (lev ∙ p.0) (any ∙ p.1)

pub way_linked : (b : Blocked) (i : ℕ) (js : List ℕ) (k : ℕ) → AllDiffer b.graph.nodes
    → i < length (roles b) → IsWay (roles b) i js k
    → IsLinked b (number_at (roles b) i) (number_at (roles b) k)
way_linked b i [] k d hi p = inl (ap (number_at (roles b)) p)
way_linked b i (j ∷ js) k d hi p =
    let rs : List Role = roles b in
    let r = placed_related b i j d hi p.0 p.1 in
    elim (way_linked b j js k d p.0 p.2) [
      | inl e ↦ inr ([], subst (λ (x : ℕ). related b (number_at rs i) x ≡ true) e r)
      | inr c ↦ inr (number_at rs j ∷ c.0, (r, c.1))
    ]

pub gbk_place : (b : Blocked) (n : ℕ) → IsGbk b n → PlaceOf b n
gbk_place b n g = let x = gbk_node (node_at b.graph.nodes n) g in place_of b n x.0 x.1

related_label : (b : Blocked) (ls : List ℕ) (n k : ℕ) → AllDiffer b.graph.nodes
    → AreLabels (roles b) ls → (x : PlaceOf b n) (y : PlaceOf b k) → related b n k ≡ true
    → at_key ls x.at ≡ at_key ls y.at
related_label b ls n k d a x y h =
    a.shared x.at y.at x.within y.within (related_placed b x.at y.at d x.within y.within
    (ap (λ (m : ℕ). related b m (number_at (roles b) y.at)) x.number
    ∙ ap (related b n) y.number ∙ h))

chain_label : (b : Blocked) (ls : List ℕ) (n : ℕ) (is : List ℕ) (k : ℕ) → AllDiffer b.graph.nodes
    → AreLabels (roles b) ls → (x : PlaceOf b n) (y : PlaceOf b k) → AreLinked b n is k
    → at_key ls x.at ≡ at_key ls y.at
chain_label b ls n [] k d a x y h = related_label b ls n k d a x y h
chain_label b ls n (i ∷ is) k d a x y h =
    let z = gbk_place b i (related_gbk b n i h.0) in
    related_label b ls n i d a x z h.0 ∙ chain_label b ls i is k d a z y h.1

pub linked_label : (b : Blocked) (ls : List ℕ) (n k : ℕ) → AllDiffer b.graph.nodes
    → AreLabels (roles b) ls → (x : PlaceOf b n) (y : PlaceOf b k) → IsLinked b n k
    → at_key ls x.at ≡ at_key ls y.at
linked_label b ls n k d a x y (inl e) =
    ap (at_key ls) (one_place b x.at y.at d x.within y.within (x.number ∙ e ∙ sym y.number))
linked_label b ls n k d a x y (inr c) = chain_label b ls n c.0 k d a x y c.1
