-- No node behind the end of a node's readers reads it.
use Rattle.std.proofs.Common.{◌≡◌, ℕ, ◌<◌, ◌≤◌, Bool, true, false, not, eqb, ◌&&◌, ◌||◌, List, [], ◌∷◌, ◌++◌, length, get_or, take, drop, map, Option, Some, zero, suc, refl, sym, ap, ◌∙◌, arith}
use Rattle.std.proofs.lemmas.Bool.{eqb-false, ne_eqb}
use Rattle.std.specs.List.{list_any, AllByRecursion}
use Rattle.flume_value.proofs.EachLemmas.{Each-both, Each-drop, Each-weaker}
use Rattle.exec_graph.specs.Meaning.{place, reads}
use Rattle.exec_graph.specs.Readers.{among, any_node, uses}
use Rattle.exec_graph.specs.Wellformed.{IsGraphOk}
use Rattle.exec_graph.specs.declared.graph.Place.{Place}
use Rattle.exec_graph.specs.declared.graph.Node.{Node}
use Rattle.exec_graph.specs.declared.graph.Node.TheVariants.{Source, Flatten, Pdo, Gbk, Barrier}
use Rattle.exec_graph.specs.declared.graph.Entry.{Entry}
use Rattle.exec_graph.specs.declared.graph.Graph.{Graph}
use Rattle.sink_laws.specs.of_graph_laws.Joining.{reread, reread_entry}
use Rattle.sink_laws.specs.Sinking.{rerouted}
use Rattle.flatten_sink.specs.inner.Ends.{AreBelow, AreWithin, IsWithin}
use Rattle.flatten_sink.specs.inner.Places.{IsFirstFrom, gathers}
use Rattle.flatten_sink.proofs.Unread.{unread}

-- ---- ends

-- An end that is known.
pub below_end : (ends : ℕ → Option ℕ) (n k : ℕ) (es : List Entry) → ends n ≡ Some k
    → AreWithin ends es → AreBelow n k es
below_end ends n k es e a =
    Each-weaker (λ (d : Entry). IsWithin ends d.number d.node)
    (λ (d : Entry). AllByRecursion (λ (c : Place). c.node ≡ n → d.number < k) (reads d.node))
    (λ d h. Each-weaker (λ (c : Place). (m : ℕ) → ends c.node ≡ Some m → d.number < m)
    (λ (c : Place). c.node ≡ n → d.number < k) (λ c l i. l k (ap ends i ∙ e)) (reads d.node) h)
    es a

any_below : (n m end : ℕ) (cs : List Place) → m < end
    → AllByRecursion (λ (c : Place). c.node ≡ n → m < end) cs
any_below n m end [] l = tt
any_below n m end (c ∷ cs) l = (λ i. l, any_below n m end cs l)

-- Each node is below the next number.
pub below_next : (g : Graph) (n : ℕ) → IsGraphOk g → AreBelow n g.next g.nodes
below_next g n ok =
    Each-weaker (λ (e : Entry). e.number < g.next)
    (λ (e : Entry). AllByRecursion (λ (c : Place). c.node ≡ n → e.number < g.next) (reads e.node))
    (λ e l. any_below n e.number g.next (reads e.node) l) g.nodes ok.founded.below

-- ---- a node that does not read n

abbrev pub ReadsNot : ℕ → Node → Type 0
ReadsNot n x = AllByRecursion (λ (c : Place). eqb c.node n ≡ false) (reads x)

turned : (n m : ℕ) → eqb m n ≡ false → eqb n m ≡ false
turned n m h = ne_eqb n m (λ e. eqb-false m n h (sym e))

among_not : (n : ℕ) (cs : List Place) → AllByRecursion (λ (c : Place). eqb c.node n ≡ false) cs
    → among (place n 0) cs ≡ false
among_not n [] a = refl
among_not n (c ∷ cs) a =
    let apart : eqb n c.node ≡ false = turned n c.node a.0 in
    let rest = among_not n cs a.1 in rw (apart, rest) refl

any_not : (n : ℕ) (cs : List Place) → AllByRecursion (λ (c : Place). eqb c.node n ≡ false) cs
    → list_any (λ (c : Place). eqb c.node n) cs ≡ false
any_not n [] a = refl
any_not n (c ∷ cs) a =
    let h : eqb c.node n ≡ false = a.0 in
    let i = any_not n cs a.1 in rw (h, i) refl

uses_not : (n : ℕ) (x : Node) → ReadsNot n x → uses (place n 0) x ≡ false
uses_not n (Source r) a = refl
uses_not n (Flatten ins) a = among_not n ins a
uses_not n (Pdo c f) a = let apart : eqb n c.node ≡ false = turned n c.node a.0 in rw apart refl
uses_not n (Gbk c o l k) a = let apart : eqb n c.node ≡ false = turned n c.node a.0 in rw apart refl
uses_not n (Barrier ins o l i) a = among_not n ins a

place_not : (n base : ℕ) (c : Place) → eqb c.node n ≡ false → rerouted n base c ≡ c
place_not n base c h = rw h refl

reread_not : (n base : ℕ) (x : Node) → ReadsNot n x → reread (rerouted n base) x ≡ x
reread_not n base (Source r) a = refl
reread_not n base (Flatten ins) a = ap Flatten (unread n base ins (any_not n ins a))
reread_not n base (Pdo c f) a = ap (λ (d : Place). Pdo d f) (place_not n base c a.0)
reread_not n base (Gbk c o l k) a = ap (λ (d : Place). Gbk d o l k) (place_not n base c a.0)
reread_not n base (Barrier ins o l i) a =
    ap (λ (cs : List Place). Barrier cs o l i) (unread n base ins (any_not n ins a))

-- ---- the nodes behind the end

rest_from : (es : List Entry) (n i : ℕ)
    → ((k : ℕ) (d : Entry) → i ≤ k → k < length es → n ≤ (get_or es k d).number)
    → AllByRecursion (λ (e : Entry). n ≤ e.number) (drop i es)
rest_from [] n zero h = tt
rest_from [] n (suc i) h = tt
rest_from (e ∷ es) n zero h = (
  h 0 e (omega arith) (omega arith),
  rest_from es n 0 (λ k d a b. h (suc k) d (omega arith) (omega arith)),
)
rest_from (e ∷ es) n (suc i) h =
    rest_from es n i (λ k d a b. h (suc k) d (omega arith) (omega arith))

rest_not : (es : List Entry) (n end i : ℕ) → AreBelow n end es → IsFirstFrom es end i
    → AllByRecursion (λ (e : Entry). ReadsNot n e.node) (drop i es)
rest_not es n end i a f =
    Each-both (λ (e : Entry). end ≤ e.number)
    (λ (e : Entry). AllByRecursion (λ (c : Place). c.node ≡ n → e.number < end) (reads e.node))
    (λ (e : Entry). ReadsNot n e.node)
    (λ e l h. Each-weaker (λ (c : Place). c.node ≡ n → e.number < end)
    (λ (c : Place). eqb c.node n ≡ false)
    (λ c k. ne_eqb c.node n (λ j. let m : e.number < end = k j in omega arith)) (reads e.node) h)
    (drop i es) (rest_from es end i f.others)
    (Each-drop (λ (e : Entry).
    AllByRecursion (λ (c : Place). c.node ≡ n → e.number < end) (reads e.node)) i es a)

-- ---- a test of all nodes

none_pass : (t : Entry → Bool) (es : List Entry)
    → AllByRecursion (λ (e : Entry). t e ≡ false) es → list_any t es ≡ false
none_pass t [] a = refl
none_pass t (e ∷ es) a =
    let h : t e ≡ false = a.0 in
    let i = none_pass t es a.1 in rw (h, i) refl

any_take : (t : Entry → Bool) (es : List Entry) (i : ℕ)
    → AllByRecursion (λ (e : Entry). t e ≡ false) (drop i es)
    → list_any t (take i es) ≡ list_any t es
any_take t [] zero a = refl
any_take t [] (suc i) a = refl
any_take t (e ∷ es) zero a = sym (none_pass t (e ∷ es) a)
any_take t (e ∷ es) (suc i) a = ap (λ (b : Bool). t e || b) (any_take t es i a)

-- Of a test that no node passes which does not read n, those before the end tell enough.
any_front : (t : Entry → Bool) (es front : List Entry) (n end i : ℕ) → AreBelow n end es
    → IsFirstFrom es end i → front ≡ take i es → ((e : Entry) → ReadsNot n e.node → t e ≡ false)
    → list_any t front ≡ list_any t es
any_front t es front n end i below first e skips =
    ap (list_any t) e ∙ any_take t es i (Each-weaker (λ (d : Entry). ReadsNot n d.node)
    (λ (d : Entry). t d ≡ false) skips (drop i es) (rest_not es n end i below first))

pub others_front : (es front : List Entry) (n p end i : ℕ) → AreBelow n end es
    → IsFirstFrom es end i → front ≡ take i es
    → list_any (λ (e : Entry). not (eqb e.number p) && uses (place n 0) e.node) front
    ≡ list_any (λ (e : Entry). not (eqb e.number p) && uses (place n 0) e.node) es
others_front es front n p end i below first e =
    any_front (λ (d : Entry). not (eqb d.number p) && uses (place n 0) d.node) es front n end i
    below first e (λ d h. skipped (not (eqb d.number p)) (uses (place n 0) d.node)
    (uses_not n d.node h))
  where
    skipped : (a b : Bool) → b ≡ false → (a && b) ≡ false
    skipped true b h = h
    skipped false b h = refl

gathers_not : (n : ℕ) (x : Node) → ReadsNot n x → gathers n x ≡ false
gathers_not n (Flatten ins) a = any_not n ins a
gathers_not n _ a = refl

pub gathers_front : (es front : List Entry) (n end i : ℕ) → AreBelow n end es
    → IsFirstFrom es end i → front ≡ take i es
    → any_node (gathers n) front ≡ any_node (gathers n) es
gathers_front es front n end i below first e =
    any_front (λ (d : Entry). gathers n d.node) es front n end i below first e
    (λ d h. gathers_not n d.node h)

-- ---- what all nodes are to read

map_rest : (n base : ℕ) (es : List Entry)
    → AllByRecursion (λ (e : Entry). ReadsNot n e.node) es
    → map (reread_entry (rerouted n base)) es ≡ es
map_rest n base [] a = refl
map_rest n base (e ∷ es) a =
    let i = map_rest n base es a.1 in
    let j : reread (rerouted n base) e.node ≡ e.node = reread_not n base e.node a.0 in
    rw (i, j) refl

map_front : (n base : ℕ) (es : List Entry) (i : ℕ)
    → AllByRecursion (λ (e : Entry). ReadsNot n e.node) (drop i es)
    → map (reread_entry (rerouted n base)) (take i es) ++ drop i es
    ≡ map (reread_entry (rerouted n base)) es
map_front n base [] zero a = refl
map_front n base [] (suc i) a = refl
map_front n base (e ∷ es) zero a = sym (map_rest n base (e ∷ es) a)
map_front n base (e ∷ es) (suc i) a =
    ap (λ (l : List Entry). reread_entry (rerouted n base) e ∷ l) (map_front n base es i a)

pub all_rerouted : (es : List Entry) (p base end i : ℕ) → AreBelow p end es
    → IsFirstFrom es end i
    → map (reread_entry (rerouted p base)) (take i es) ++ drop i es
    ≡ map (reread_entry (rerouted p base)) es
all_rerouted es p base end i below first =
    map_front p base es i (rest_not es p end i below first)
