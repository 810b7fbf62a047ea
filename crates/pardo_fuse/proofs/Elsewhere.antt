-- Nodes of other numbers, which read elsewhere.
use Rattle.std.proofs.Common.{◌≡◌, ℕ, true, List, [], ◌∷◌, map, refl, sym, ap, ◌∙◌, subst, inl, inr}
use Rattle.std.specs.List.{AllByRecursion as Each}
use Rattle.exec_graph.specs.of_flume_collection.Collection.{Collection, by_key, together}
use Rattle.exec_graph.specs.Meaning.{FitsForest, Holds, gives, place, reads}
use Rattle.exec_graph.specs.Objects.{act_result}
use Rattle.exec_graph.specs.Readers.{among, calls_on, collects, same_place, uses}
use Rattle.exec_graph.specs.World.{World}
use Rattle.exec_graph.specs.declared.graph.Place.{Place}
use Rattle.exec_graph.specs.declared.graph.Node.{Node}
use Rattle.exec_graph.specs.declared.graph.Node.TheVariants.{Source, Flatten, Pdo, Gbk, Barrier}
use Rattle.exec_graph.proofs.Bools.{or_cases, or_left, or_right}
use Rattle.graph_laws.specs.Joining.{reread}
use Rattle.graph_laws.proofs.Joining.{fits_moved, map_reread}
use Rattle.pardo_fuse.proofs.Places.{same_is, same_self}

-- ---- what they give and hold
pub gives_reread : (r : Place → Place) (z : Node) (j : ℕ) → gives (reread r z) j ≡ gives z j
gives_reread r (Source s) j = refl
gives_reread r _ j = refl

pub holds_moved : (w : World) (k m : Place → Collection) (r : Place → Place) (n i : ℕ) (z : Node)
    → Each (λ c. k (r c) ≡ m c) (reads z) → ((j : ℕ) → k (place i j) ≡ m (place n j))
    → Holds w m n z → Holds w k i (reread r z)
holds_moved w k m r n i (Source s) a o h = o 0 ∙ h
holds_moved w k m r n i (Flatten ins) a o h =
    o 0 ∙ h ∙ ap together (sym (map_reread k m r ins a))
holds_moved w k m r n i (Pdo c f) a o h =
    subst (λ (v : Collection). FitsForest w k i v f) (sym a.0)
    (fits_moved w m k n i (m c) f (λ j _. o j) h)
holds_moved w k m r n i (Gbk c s l e) a o h = o 0 ∙ h ∙ ap by_key (sym a.0)
holds_moved w k m r n i (Barrier ins s l e) a o h =
    o 0 ∙ h ∙ ap (act_result w s e) (sym (map_reread k m r ins a))

-- ---- who reads: what read y reads r y
to_same : (r : Place → Place) (y e : Place) → same_place y e ≡ true
    → same_place (r y) (r e) ≡ true
to_same r y e i =
    ap (λ (c : Place). same_place (r y) (r c)) (sym (same_is y e i)) ∙ same_self (r y)

pub among_to : (r : Place → Place) (y : Place) (cs : List Place) → among y cs ≡ true
    → among (r y) (map r cs) ≡ true
among_to r y [] h = h
among_to r y (e ∷ es) h =
    elim (or_cases (same_place y e) (among y es) h) [
      | inl i ↦ or_left (same_place (r y) (r e)) (among (r y) (map r es)) (to_same r y e i)
      | inr i ↦ or_right (same_place (r y) (r e)) (among (r y) (map r es)) (among_to r y es i)
    ]

pub calls_to : (r : Place → Place) (y : Place) (z : Node) → calls_on y z ≡ true
    → calls_on (r y) (reread r z) ≡ true
calls_to r y (Pdo c f) h = to_same r y c h
calls_to r y _ h = h

collects_to : (r : Place → Place) (y : Place) (z : Node) → collects y z ≡ true
    → collects (r y) (reread r z) ≡ true
collects_to r y (Source s) h = h
collects_to r y (Flatten ins) h = among_to r y ins h
collects_to r y (Pdo c f) h = h
collects_to r y (Gbk c o l k) h = to_same r y c h
collects_to r y (Barrier ins o l a) h = among_to r y ins h

pub uses_to : (r : Place → Place) (y : Place) (z : Node) → uses y z ≡ true
    → uses (r y) (reread r z) ≡ true
uses_to r y z h =
    elim (or_cases (calls_on y z) (collects y z) h) [
      | inl i ↦ or_left (calls_on (r y) (reread r z)) (collects (r y) (reread r z))
          (calls_to r y z i)
      | inr i ↦ or_right (calls_on (r y) (reread r z)) (collects (r y) (reread r z))
          (collects_to r y z i)
    ]

-- ---- and nothing else does, where r keeps y apart from what is read
abbrev pub KeepsApart : (Place → Place) → Place → Place → Type 0
KeepsApart r y e = r y ≡ r e → y ≡ e

from_same : (r : Place → Place) (y e : Place) → KeepsApart r y e
    → same_place (r y) (r e) ≡ true → same_place y e ≡ true
from_same r y e far h =
    ap (same_place y) (sym (far (same_is (r y) (r e) h))) ∙ same_self y

pub among_from : (r : Place → Place) (y : Place) (cs : List Place) → Each (KeepsApart r y) cs
    → among (r y) (map r cs) ≡ true → among y cs ≡ true
among_from r y [] a h = h
among_from r y (e ∷ es) a h =
    elim (or_cases (same_place (r y) (r e)) (among (r y) (map r es)) h) [
      | inl i ↦ or_left (same_place y e) (among y es) (from_same r y e a.0 i)
      | inr i ↦ or_right (same_place y e) (among y es) (among_from r y es a.1 i)
    ]

pub calls_from : (r : Place → Place) (y : Place) (z : Node) → Each (KeepsApart r y) (reads z)
    → calls_on (r y) (reread r z) ≡ true → calls_on y z ≡ true
calls_from r y (Pdo c f) a h = from_same r y c a.0 h
calls_from r y _ a h = h

pub collects_from : (r : Place → Place) (y : Place) (z : Node) → Each (KeepsApart r y) (reads z)
    → collects (r y) (reread r z) ≡ true → collects y z ≡ true
collects_from r y (Source s) a h = h
collects_from r y (Flatten ins) a h = among_from r y ins a h
collects_from r y (Pdo c f) a h = h
collects_from r y (Gbk c o l k) a h = from_same r y c a.0 h
collects_from r y (Barrier ins o l d) a h = among_from r y ins a h
