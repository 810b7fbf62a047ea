-- Two Pdos that become one step by step do so in one go.
use Rattle.std.proofs.Common.{◌≡◌, ℕ, Bool, true, false, cond, eqb, List, map, refl, sym, ap, ap₂, ◌∙◌}
use Rattle.std.proofs.lemmas.Bool.{eq-eqb, ne_eqb}
use Rattle.exec_graph.specs.Forests.{Forest, Bare}
use Rattle.exec_graph.specs.Meaning.{place}
use Rattle.exec_graph.specs.declared.graph.Entry.{Entry}
use Rattle.exec_graph.specs.declared.graph.Graph.{Graph}
use Rattle.exec_graph.specs.declared.graph.Node.{Node}
use Rattle.exec_graph.specs.declared.graph.Node.TheVariants.{Pdo}
use Rattle.exec_graph.specs.declared.graph.Place.{Place}
use Rattle.graph_laws.specs.Joining.{joined_into, moved, reread_entry, set_node, without}
use Rattle.graph_laws.specs.Kids.{apart, even, moved_out, named_by, odd}
use Rattle.graph_rewrites.specs.Exchange.{exchanged, swapped}
use Rattle.graph_joining.specs.inner.Apart.{apart_place}
use Rattle.graph_joining.specs.inner.Joined.{Differ}
use Rattle.graph_joining.specs.inner.Refits.{graph_of, parted, refitted_by}
use Rattle.graph_joining.proofs.Commuting.{nodes_both, places_both, set_over, without_first, without_map}
use Rattle.graph_joining.proofs.Rereads.{nodes_same}
use Rattle.graph_laws.proofs.Setting.{set_set, without_set, without_set_other}
use Rattle.graph_walks.proofs.Rereads.{places_same}

-- ---- places

out_far : (n : ℕ) (r : ℕ → ℕ) (c : Place) → eqb c.node n ≡ false → moved_out n r c ≡ c
out_far n r c i = ap (λ (b : Bool). cond b (place n (r c.out)) c) i

out_here : (n : ℕ) (r : ℕ → ℕ) (c : Place) → eqb c.node n ≡ true
    → moved_out n r c ≡ place n (r c.out)
out_here n r c i = ap (λ (b : Bool). cond b (place n (r c.out)) c) i

moved_far : (p q : ℕ) (c : Place) → eqb c.node q ≡ false → moved p q c ≡ c
moved_far p q c i = ap (λ (b : Bool). cond b (place p c.out) c) i

moved_here : (p q : ℕ) (c : Place) → eqb c.node q ≡ true → moved p q c ≡ place p c.out
moved_here p q c i = ap (λ (b : Bool). cond b (place p c.out) c) i

-- even, odd and together
at_once : (p q : ℕ) → (p ≡ q → ⊥) → (c : Place)
    → moved p q (moved_out q odd (moved_out p even c)) ≡ apart_place p q p c
at_once p q differ c = by (eqb c.node p) (eqb c.node q) refl
  where
    by : (a b : Bool) → eqb c.node q ≡ b
        → moved p q (moved_out q odd (cond a (place p (even c.out)) c))
        ≡ cond a (place p (even c.out)) (cond b (place p (odd c.out)) c)
    by true b i =
        ap (λ (d : Place). moved p q d) (out_far q odd (place p (even c.out)) (ne_eqb p q differ))
        ∙ moved_far p q (place p (even c.out)) (ne_eqb p q differ)
    by false true i =
        ap (λ (d : Place). moved p q d) (out_here q odd c i)
        ∙ moved_here p q (place q (odd c.out)) (eq-eqb q q refl)
    by false false i =
        ap (λ (d : Place). moved p q d) (out_far q odd c i) ∙ moved_far p q c i

-- the same after both have exchanged their numbers
after_exchange : (p q : ℕ) → (p ≡ q → ⊥) → (c : Place)
    → apart_place q p q (exchanged p q c) ≡ apart_place p q q c
after_exchange p q differ c = by (eqb c.node p) (eqb c.node q) refl refl
  where
    by : (a b : Bool) → eqb c.node p ≡ a → eqb c.node q ≡ b
        → apart_place q p q (place (cond a q (cond b p c.node)) c.out)
        ≡ cond a (place q (even c.out)) (cond b (place q (odd c.out)) c)
    by true b i j =
        ap (λ (x : Bool). cond x (place q (even c.out))
        (cond (eqb q p) (place q (odd c.out)) (place q c.out))) (eq-eqb q q refl)
    by false true i j =
        ap₂ (λ (x y : Bool). cond x (place q (even c.out))
        (cond y (place q (odd c.out)) (place p c.out))) (ne_eqb p q differ) (eq-eqb p p refl)
    by false false i j =
        ap₂ (λ (x y : Bool). cond x (place q (even c.out)) (cond y (place q (odd c.out)) c)) j i

other_at_once : (p q : ℕ) → (p ≡ q → ⊥) → (c : Place)
    → moved q p (moved_out p odd (moved_out q even (exchanged p q c))) ≡ apart_place p q q c
other_at_once p q differ c =
    at_once q p (λ e. differ (sym e)) (exchanged p q c) ∙ after_exchange p q differ c

exchanged_far : (p q : ℕ) (c : Place) → (c.node ≡ p → ⊥) → (c.node ≡ q → ⊥)
    → exchanged p q c ≡ c
exchanged_far p q c own away =
    ap₂ (λ (a b : Bool). place (cond a q (cond b p c.node)) c.out) (ne_eqb c.node p own)
    (ne_eqb c.node q away)

pub apart_far : (p q n : ℕ) (c : Place) → (c.node ≡ p → ⊥) → (c.node ≡ q → ⊥)
    → apart_place p q n c ≡ c
apart_far p q n c own away =
    ap₂ (λ (a b : Bool). cond a (place n (even c.out)) (cond b (place n (odd c.out)) c))
    (ne_eqb c.node p own) (ne_eqb c.node q away)

-- ---- nodes

places_thrice : (r s t : Place → Place) (cs : List Place)
    → map t (map s (map r cs)) ≡ map (λ (c : Place). t (s (r c))) cs
places_thrice r s t cs =
    ap (λ (ds : List Place). map t ds) (places_both r s cs)
    ∙ places_both (λ (c : Place). s (r c)) t cs

-- p is one Pdo and then another, and q is one and then gone
nodes_joined : (es : List Entry) (p q : ℕ) (c : Place) (x y : Node) (all : Forest)
    (r s t : Place → Place) → (p ≡ q → ⊥) → r c ≡ c → s c ≡ c
    → map (reread_entry t) (set_node (without (map (reread_entry s)
    (set_node (map (reread_entry r) (set_node es p x)) q y)) q) p (Pdo c all))
    ≡ map (reread_entry (λ (d : Place). t (s (r d)))) (set_node (without es q) p (Pdo c all))
nodes_joined es p q c x y all r s t differ rc sc =
    let R : List Entry → List Entry = λ l. map (reread_entry r) l in
    let S : List Entry → List Entry = λ l. map (reread_entry s) l in
    let T : List Entry → List Entry = λ l. map (reread_entry t) l in
    let both : Place → Place = λ d. s (r d) in
    let left : List Entry = without es q in
    let gone : without (S (set_node (R (set_node es p x)) q y)) q
    ≡ map (reread_entry both) (set_node left p x) =
    without_map s (set_node (R (set_node es p x)) q y) q
    ∙ ap S (without_set (R (set_node es p x)) q y
    ∙ without_map r (set_node es p x) q
    ∙ ap R (without_set_other es p q x differ))
    ∙ nodes_both r s (set_node left p x) in
    ap (λ (l : List Entry). T (set_node l p (Pdo c all))) gone
    ∙ ap T (set_over both left p x c all (ap s rc ∙ sc))
    ∙ nodes_both both t (set_node left p (Pdo c all))

pub joined_apart : (g : Graph) (p q : ℕ) (c d : Place) (f h all : Forest) → Differ p q c
    → joined_into (apart g p q c d f h) p q c all
    ≡ refitted_by (apart_place p q p) (parted g p q c) p c all
joined_apart g p q c d f h all differ =
    let r : Place → Place = moved_out p even in
    let s : Place → Place = moved_out q odd in
    let t : Place → Place = moved p q in
    let now : Place → Place = apart_place p q p in
    let left : List Entry = without g.nodes q in
    let is : (e : Place) → t (s (r e)) ≡ now e = at_once p q differ.apart in
    ap₂ (λ (es : List Entry) (cs : List Place). graph_of es cs g.next)
    (nodes_joined g.nodes p q c (Pdo c (named_by even f)) (Pdo (r d) (named_by odd h)) all r s t
    differ.apart (out_far p even c (ne_eqb c.node p differ.own))
    (out_far q odd c (ne_eqb c.node q differ.away))
    ∙ nodes_same (λ (e : Place). t (s (r e))) now is (set_node left p (Pdo c all))
    ∙ ap (λ (es : List Entry). map (reread_entry now) es)
    (sym (set_set left p (Pdo c Bare) (Pdo c all))))
    (places_thrice r s t g.outputs
    ∙ places_same (λ (e : Place). t (s (r e))) now is g.outputs)

pub joined_swapped : (g : Graph) (p q : ℕ) (c d e : Place) (f h all : Forest) → Differ p q c
    → joined_into (apart (swapped g p q c d f h) q p c e f h) q p c all
    ≡ refitted_by (apart_place p q q) (parted g q p c) q c all
joined_swapped g p q c d e f h all differ =
    let r : Place → Place = moved_out q even in
    let s : Place → Place = moved_out p odd in
    let t : Place → Place = moved q p in
    let x : Place → Place = exchanged p q in
    let now : Place → Place = apart_place p q q in
    let left : List Entry = without g.nodes p in
    let both : List Entry = set_node (set_node g.nodes p (Pdo d h)) q (Pdo c f) in
    let other : q ≡ p → ⊥ = λ i. differ.apart (sym i) in
    let three : Place → Place = λ k. t (s (r k)) in
    let is : (k : Place) → three (x k) ≡ now k = other_at_once p q differ.apart in
    let last : List Entry = set_node left q (Pdo c all) in
    let gone : without (map (reread_entry x) both) p
    ≡ map (reread_entry x) (set_node left q (Pdo c f)) =
    without_map x both p
    ∙ ap (λ (es : List Entry). map (reread_entry x) es)
    (without_first g.nodes p q (Pdo d h) (Pdo c f) other) in
    ap₂ (λ (es : List Entry) (cs : List Place). graph_of es cs g.next)
    (nodes_joined (map (reread_entry x) both) q p c (Pdo c (named_by even f))
    (Pdo (r e) (named_by odd h)) all r s t other
    (out_far q even c (ne_eqb c.node q differ.away)) (out_far p odd c (ne_eqb c.node p differ.own))
    ∙ ap (λ (es : List Entry). map (reread_entry three) (set_node es q (Pdo c all))) gone
    ∙ ap (λ (es : List Entry). map (reread_entry three) es)
    (set_over x left q (Pdo c f) c all (exchanged_far p q c differ.own differ.away))
    ∙ nodes_both x three last
    ∙ nodes_same (λ (k : Place). three (x k)) now is last
    ∙ ap (λ (es : List Entry). map (reread_entry now) es)
    (sym (set_set left q (Pdo c Bare) (Pdo c all))))
    (places_thrice r s t (map x g.outputs)
    ∙ places_both x three g.outputs
    ∙ places_same (λ (k : Place). three (x k)) now is g.outputs)
