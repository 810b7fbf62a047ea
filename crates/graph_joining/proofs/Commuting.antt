-- Nodes that read elsewhere, are others or are gone, in one order or another.
use Rattle.std.proofs.Common.{◌≡◌, ◌⊎◌, ℕ, Bool, true, false, cond, eqb, List, [], ◌∷◌, map, inl, inr, refl, sym, ap, ap₂, subst, ◌∙◌}
use Rattle.std.proofs.lemmas.Bool.{eq-eqb, ne_eqb}
use Rattle.exec_graph.specs.Forests.{Forest}
use Rattle.exec_graph.specs.declared.graph.Entry.{Entry}
use Rattle.exec_graph.specs.declared.graph.Node.{Node}
use Rattle.exec_graph.specs.declared.graph.Node.TheVariants.{Source, Flatten, Pdo, Gbk, Barrier}
use Rattle.exec_graph.specs.declared.graph.Place.{Place}
use Rattle.exec_graph.proofs.Entries.{entry}
use Rattle.graph_laws.specs.Joining.{reread, reread_entry, set_node, without}
use Rattle.graph_laws.proofs.Setting.{set_on, set_set, without_on, without_set, without_set_other}

-- ---- read by one rule, and then by another

pub places_both : (r s : Place → Place) (cs : List Place)
    → map s (map r cs) ≡ map (λ (c : Place). s (r c)) cs
places_both r s [] = refl
places_both r s (c ∷ cs) = ap (λ (ds : List Place). s (r c) ∷ ds) (places_both r s cs)

reread_both : (r s : Place → Place) (x : Node)
    → reread s (reread r x) ≡ reread (λ (c : Place). s (r c)) x
reread_both r s (Source i) = refl
reread_both r s (Flatten ins) = ap (λ (ds : List Place). Flatten ds) (places_both r s ins)
reread_both r s (Pdo c f) = refl
reread_both r s (Gbk c o l k) = refl
reread_both r s (Barrier ins o l a) =
    ap (λ (ds : List Place). Barrier ds o l a) (places_both r s ins)

pub nodes_both : (r s : Place → Place) (es : List Entry)
    → map (reread_entry s) (map (reread_entry r) es)
    ≡ map (reread_entry (λ (c : Place). s (r c))) es
nodes_both r s [] = refl
nodes_both r s (e ∷ es) =
    ap₂ (λ (x : Node) (l : List Entry). entry e.number x ∷ l) (reread_both r s e.node)
    (nodes_both r s es)

-- ---- a node that is another

pub set_map : (r : Place → Place) (es : List Entry) (n : ℕ) (x : Node)
    → set_node (map (reread_entry r) es) n (reread r x) ≡ map (reread_entry r) (set_node es n x)
set_map r es n x = set_on (reread r) es n x

-- a Pdo of what is read where it was
pub set_over : (r : Place → Place) (es : List Entry) (n : ℕ) (y : Node) (c : Place) (f : Forest)
    → r c ≡ c → set_node (map (reread_entry r) (set_node es n y)) n (Pdo c f)
    ≡ map (reread_entry r) (set_node es n (Pdo c f))
set_over r es n y c f stays =
    ap (λ (d : Place). set_node (map (reread_entry r) (set_node es n y)) n (Pdo d f)) (sym stays)
    ∙ set_map r (set_node es n y) n (Pdo c f)
    ∙ ap (λ (l : List Entry). map (reread_entry r) l) (set_set es n y (Pdo c f))

-- ---- a node that is gone

pub without_map : (r : Place → Place) (es : List Entry) (n : ℕ)
    → without (map (reread_entry r) es) n ≡ map (reread_entry r) (without es n)
without_map r es n = without_on (reread r) es n

-- two nodes are others, and the first is gone
pub without_first : (es : List Entry) (p q : ℕ) (x y : Node) → (q ≡ p → ⊥)
    → without (set_node (set_node es p x) q y) p ≡ set_node (without es p) q y
without_first es p q x y apart =
    without_set_other (set_node es p x) q p y apart
    ∙ ap (λ (l : List Entry). set_node l q y) (without_set es p x)

-- one of two is gone, which both were the same
pub without_one : (es : List Entry) (p q n : ℕ) (x : Node) → (p ≡ q → ⊥)
    → (n ≡ p) ⊎ (n ≡ q) → without (set_node (set_node es p x) q x) (cond (eqb n p) q p)
    ≡ set_node (without es (cond (eqb n p) q p)) n x
without_one es p q n x apart (inl e) =
    subst (λ (m : ℕ). without (set_node (set_node es p x) q x) (cond (eqb m p) q p)
    ≡ set_node (without es (cond (eqb m p) q p)) m x) (sym e)
    (rw (eq-eqb p p refl) (without_set (set_node es p x) q x ∙ without_set_other es p q x apart))
without_one es p q n x apart (inr e) =
    subst (λ (m : ℕ). without (set_node (set_node es p x) q x) (cond (eqb m p) q p)
    ≡ set_node (without es (cond (eqb m p) q p)) m x) (sym e)
    (rw (ne_eqb q p (λ i. apart (sym i))) (without_first es p q x x (λ i. apart (sym i))))
