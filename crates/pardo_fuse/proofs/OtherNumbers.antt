-- Numbers that keep nodes apart: each node is found under its number, and the number tells it.
use Rattle.std.proofs.Common.{◌≡◌, ℕ, Bool, true, false, cond, eqb, List, [], ◌∷◌, map, Some, refl, sym, ap, ◌∙◌, arith}
use Rattle.std.specs.List.{AllByRecursion as Each}
use Rattle.std.proofs.lemmas.Bool.{eqb-true, eq-eqb, false≢true}
use Rattle.flume_value.proofs.EachLemmas.{Each-both}
use Rattle.exec_graph.specs.Meaning.{AllDiffer, node_at}
use Rattle.exec_graph.specs.Wellformed.{total_size}
use Rattle.exec_graph.specs.declared.graph.Node.{Node}
use Rattle.exec_graph.specs.declared.graph.Entry.{Entry}
use Rattle.exec_graph.proofs.Entries.{all_map}
use Rattle.graph_laws.specs.Joining.{reread}
use Rattle.graph_laws.proofs.Reading.{size_map}
use Rattle.pardo_fuse.specs.Renumbering.{at_number, renumbered_entry}

-- ---- numbers that keep nodes apart
abbrev pub AreApart : (ℕ → ℕ) → List Entry → Type 0
AreApart l es = (n m : ℕ) (y z : Node) → node_at es n ≡ Some y → node_at es m ≡ Some z
    → l n ≡ l m → n ≡ m

abbrev pub StandIn : List Entry → List Entry → Type 0
StandIn all es = Each (λ e. node_at all e.number ≡ Some e.node) es

-- the number that the node had before
abbrev pub former : (ℕ → ℕ) → List Entry → ℕ → ℕ
former l [] n = n
former l (e ∷ es) n = cond (eqb (l e.number) n) e.number (former l es n)

pub moved_differ : (l : ℕ → ℕ) (all es : List Entry) → AreApart l all → StandIn all es
    → AllDiffer es → AllDiffer (map (renumbered_entry l) es)
moved_differ l all [] far a u = tt
moved_differ l all (e ∷ es) far a u = (
  all_map (renumbered_entry l) (λ d. l d.number ≡ l e.number → ⊥)
      (λ d. d.number ≡ l e.number → ⊥) (λ d h. h) es
      (Each-both (λ (d : Entry). node_at all d.number ≡ Some d.node)
      (λ (d : Entry). d.number ≡ e.number → ⊥) (λ (d : Entry). l d.number ≡ l e.number → ⊥)
      (λ d at h i. h (far d.number e.number d.node e.node at a.0 i)) es a.1 u.0),
  moved_differ l all es far a.1 u.1,
)

-- Under its new number a node is found, and that number tells the former one.
abbrev pub IsMovedIn : (ℕ → ℕ) → List Entry → ℕ → Node → Type 0
IsMovedIn l es n z = (former l es (l n) ≡ n)
    × (node_at (map (renumbered_entry l) es) (l n) ≡ Some (reread (at_number l) z))

pub moved_at : (l : ℕ → ℕ) (all es : List Entry) → AreApart l all → StandIn all es → (n : ℕ)
    (z : Node) → node_at all n ≡ Some z → node_at es n ≡ Some z → IsMovedIn l es n z
moved_at l all [] far a n z at h = let no : ⊥ = cc in absurd no
moved_at l all (e ∷ es) far a n z at h =
    by (eqb (l e.number) (l n)) (eqb e.number n) refl refl h
    (λ i. moved_at l all es far a.1 n z at i)
  where
    by : (r s : Bool) → eqb (l e.number) (l n) ≡ r → eqb e.number n ≡ s
        → cond s (Some e.node) (node_at es n) ≡ Some z
        → (node_at es n ≡ Some z → IsMovedIn l es n z)
        → (cond r e.number (former l es (l n)) ≡ n)
        × (cond r (Some (reread (at_number l) e.node)) (node_at (map (renumbered_entry l) es) (l n))
        ≡ Some (reread (at_number l) z))
    by true true i j h rest =
        let same : e.node ≡ z = cc in (
          eqb-true e.number n j,
          ap (λ (y : Node). Some (reread (at_number l) y)) same,
        )
    by true false i j h rest =
        absurd (false≢true (sym j ∙ eq-eqb e.number n
        (far e.number n e.node z a.0 at (eqb-true (l e.number) (l n) i))))
    by false true i j h rest =
        absurd (false≢true (sym i ∙ eq-eqb (l e.number) (l n) (ap l (eqb-true e.number n j))))
    by false false i j h rest = rest h

pub moved_size : (l : ℕ → ℕ) (es : List Entry)
    → total_size (map (renumbered_entry l) es) ≡ total_size es
moved_size l [] = refl
moved_size l (e ∷ es) =
    let i = moved_size l es in
    let j = size_map (at_number l) (e ∷ []) in
    omega (arith, i, j)
