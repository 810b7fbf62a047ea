-- What feeds a Gbk feeds one of the next level, or of another.
use Rattle.std.proofs.Common.{◌≡◌, ℕ, ◌&&◌, ◌||◌, ◌==◌, Bool, true, false, cond, eqb, List, [], ◌∷◌, Option, Some, None, suc, refl, sym, ap, ◌∙◌, subst}
use Rattle.std.specs.Prelude.{not}
use Rattle.std.proofs.lemmas.Bool.{eqb-true, false≢true}
use Rattle.std.specs.List.{AllByRecursion, list_any}
use Rattle.flume_value.proofs.BoolLemmas.{and_both, both_true}
use Rattle.exec_graph.specs.Meaning.{gives_at, node_at, place, reads, IsThere}
use Rattle.exec_graph.specs.Readers.{among, same_place}
use Rattle.exec_graph.specs.Wellformed.{IsGraphOk}
use Rattle.exec_graph.specs.declared.graph.Place.{Place}
use Rattle.exec_graph.specs.declared.graph.Node.{Node}
use Rattle.exec_graph.specs.declared.graph.Node.TheVariants.{Source, Flatten, Pdo, Gbk, Barrier}
use Rattle.exec_graph.specs.declared.graph.Entry.{Entry}
use Rattle.exec_graph.specs.declared.graph.Graph.{Graph}
use Rattle.exec_graph.proofs.Bools.{or_else, or_left, or_right}
use Rattle.exec_graph.proofs.Entries.{all_three, entry}
use Rattle.exec_graph.proofs.Solving.{each_found}
use Rattle.exec_graph.proofs.Soundness.{differ_ascends}
use Rattle.fusion_blocks.specs.Feeding.{feeds, feeds_by, is_flatten_of, is_gbk_of, is_grouped}
use Rattle.fusion_blocks.specs.inner.Tables.{AllThere}
use Rattle.fusion_blocks.proofs.Marking.{is_same, same_is}
use Rattle.plan_laws.specs.Operations.{inputs_at, read_through}
use Rattle.plan_roles.specs.Levels.{level}
use Rattle.plan_roles.specs.Reading.{feeds_next, feeds_other, takes}

-- ---- some entry

-- an entry that passes the test, of which P holds
record OneIs (p : Entry → Bool) (P : Entry → Type 0) : Type 0 where
  pub entry : Entry
  pub is : p entry ≡ true
  pub holds : P entry

one_from : (p : Entry → Bool) (P : Entry → Type 0) (es : List Entry) → list_any p es ≡ true
    → AllByRecursion P es → OneIs p P
one_from p P [] h a = absurd (false≢true h)
one_from p P (e ∷ es) h a = or_else (OneIs p P) (p e) (list_any p es) h
    (λ q. record { entry = e; is = q; holds = a.0 }) (λ q. one_from p P es q a.1)

one_here : (p : Entry → Bool) (e : Entry) (n : ℕ) (x : Node) → e.number ≡ n
    → Some e.node ≡ Some x → p (entry n x) ≡ true → p e ≡ true
one_here p e n x q i h = let j : e.node ≡ x = cc in
    ap (λ (k : ℕ). p (entry k e.node)) q ∙ ap (λ (y : Node). p (entry n y)) j ∙ h

one_to : (p : Entry → Bool) (es : List Entry) (n : ℕ) (x : Node) → node_at es n ≡ Some x
    → p (entry n x) ≡ true → list_any p es ≡ true
one_to p [] n x h i = let bad : ⊥ = cc in absurd bad
one_to p (e ∷ es) n x h i = by (eqb e.number n) refl h (λ j. one_to p es n x j i)
  where
    by : (b : Bool) → eqb e.number n ≡ b → cond b (Some e.node) (node_at es n) ≡ Some x
        → (node_at es n ≡ Some x → list_any p es ≡ true) → (p e || list_any p es) ≡ true
    by true q j f = or_left (p e) (list_any p es) (one_here p e n x (eqb-true e.number n q) j i)
    by false q j f = or_right (p e) (list_any p es) (f j)

-- ---- two ways to feed

-- an entry under its number, whose node reads what is there
record IsPlaced (es : List Entry) (e : Entry) : Type 0 where
  pub found : node_at es e.number ≡ Some e.node
  pub there : AllByRecursion (IsThere es) (reads e.node)

all_placed : (es : List Entry)
    → AllByRecursion (λ (e : Entry). node_at es e.number ≡ Some e.node) es
    → AllThere es → AllByRecursion (IsPlaced es) es
all_placed es f t = all_three (λ (e : Entry). node_at es e.number ≡ Some e.node)
    (λ (e : Entry). AllByRecursion (IsThere es) (reads e.node))
    (λ (e : Entry). AllByRecursion (IsThere es) (reads e.node)) (IsPlaced es)
    (λ e a b c. record { found = a; there = b }) es f t t

first_of : (es : List Entry) (d : Place) (ins : List Place) → node_at es d.node ≡ Some (Flatten ins)
    → IsThere es d → place d.node 0 ≡ d
first_of es d ins h t =
    let z : eqb d.out 0 ≡ true = sym (ap (λ (o : Option Node). gives_at o d.out) h) ∙ t in
    ap (place d.node) (sym (eqb-true d.out 0 z))

-- one collection is another where it is among that alone
lone : (c d : Place) → among c (d ∷ []) ≡ true → same_place c d ≡ true
lone c d h = by (same_place c d) h
  where
    by : (b : Bool) → (b || false) ≡ true → b ≡ true
    by true h = refl
    by false h = h

itself : (es : List Entry) (c d : Place) (e : Entry) → node_at es e.number ≡ Some e.node
    → is_gbk_of d e.node ≡ true → same_place c d ≡ true → feeds es c ≡ true
itself es c d e f g h = one_to (feeds_by es c) es e.number e.node f
    (or_left (is_gbk_of c e.node) (is_grouped es (place e.number 0) && is_flatten_of c e.node)
    (subst (λ (x : Place). is_gbk_of x e.node ≡ true) (sym (same_is c d h)) g))

-- the Gbk e of d takes an input of the node of d
by_input : (es : List Entry) (c d : Place) (e : Entry) (o : Option Node) → node_at es d.node ≡ o
    → IsThere es d → node_at es e.number ≡ Some e.node → is_gbk_of d e.node ≡ true
    → among c (inputs_at d o) ≡ true → feeds es c ≡ true
by_input es c d e None h t f g a = itself es c d e f g (lone c d a)
by_input es c d e (Some (Source r)) h t f g a = itself es c d e f g (lone c d a)
by_input es c d e (Some (Flatten ins)) h t f g a =
    one_to (feeds_by es c) es d.node (Flatten ins) h
    (and_both (is_grouped es (place d.node 0)) (among c ins)
    (one_to (λ (x : Entry). is_gbk_of (place d.node 0) x.node) es e.number e.node f
    (subst (λ (x : Place). is_gbk_of x e.node ≡ true) (sym (first_of es d ins h t)) g)) a)
by_input es c d e (Some (Pdo b p)) h t f g a = itself es c d e f g (lone c d a)
by_input es c d e (Some (Gbk b k l q)) h t f g a = itself es c d e f g (lone c d a)
by_input es c d e (Some (Barrier ins u y v)) h t f g a = itself es c d e f g (lone c d a)

taken_by : (es : List Entry) (c : Place) (n : ℕ) (x : Node) → node_at es n ≡ Some x
    → AllByRecursion (IsThere es) (reads x) → takes es c x ≡ true → feeds es c ≡ true
taken_by es c n (Source r) f t h = absurd (false≢true h)
taken_by es c n (Flatten ins) f t h = absurd (false≢true h)
taken_by es c n (Pdo d p) f t h = absurd (false≢true h)
taken_by es c n (Gbk d k l q) f t h =
    or_else (feeds es c ≡ true) (same_place c d) (among c (read_through es d)) h
    (λ i. itself es c d (entry n (Gbk d k l q)) f (is_same d d refl) i)
    (λ i. by_input es c d (entry n (Gbk d k l q)) (node_at es d.node) refl t.0 f
    (is_same d d refl) i)
taken_by es c n (Barrier ins o l a) f t h = absurd (false≢true h)

grouping : (c : Place) (x : Node) → is_gbk_of c x ≡ true → (es : List Entry) → takes es c x ≡ true
grouping c (Source r) h es = absurd (false≢true h)
grouping c (Flatten ins) h es = absurd (false≢true h)
grouping c (Pdo d p) h es = absurd (false≢true h)
grouping c (Gbk d k l q) h es = or_left (same_place c d) (among c (read_through es d)) h
grouping c (Barrier ins o l a) h es = absurd (false≢true h)

-- the Gbk x of the Flatten n takes the inputs of that
through_flatten : (es : List Entry) (c : Place) (n : ℕ) (y x : Node) → node_at es n ≡ Some y
    → is_flatten_of c y ≡ true → is_gbk_of (place n 0) x ≡ true → takes es c x ≡ true
through_flatten es c n (Source r) x f h g = absurd (false≢true h)
through_flatten es c n (Pdo d p) x f h g = absurd (false≢true h)
through_flatten es c n (Gbk d k l q) x f h g = absurd (false≢true h)
through_flatten es c n (Flatten ins) (Source r) f h g = absurd (false≢true g)
through_flatten es c n (Flatten ins) (Flatten js) f h g = absurd (false≢true g)
through_flatten es c n (Flatten ins) (Pdo d p) f h g = absurd (false≢true g)
through_flatten es c n (Flatten ins) (Gbk d k l q) f h g =
    let at : n ≡ d.node = ap (λ (x : Place). x.node) (same_is (place n 0) d g) in
    or_right (same_place c d) (among c (read_through es d))
    (ap (λ (o : Option Node). among c (inputs_at d o))
    (subst (λ (m : ℕ). node_at es m ≡ Some (Flatten ins)) at f) ∙ h)
through_flatten es c n (Barrier ins o l a) x f h g = absurd (false≢true h)
through_flatten es c n (Flatten ins) (Barrier js o l a) f h g = absurd (false≢true g)

abbrev taken : List Entry → Place → Entry → Bool
taken es c e = takes es c e.node

fed_by : (es : List Entry) (c : Place) → AllByRecursion (IsPlaced es) es → (e : Entry)
    → IsPlaced es e → feeds_by es c e ≡ true → list_any (taken es c) es ≡ true
fed_by es c a e w h =
    or_else (list_any (taken es c) es ≡ true) (is_gbk_of c e.node)
    (is_grouped es (place e.number 0) && is_flatten_of c e.node) h
    (λ i. one_to (taken es c) es e.number e.node w.found (grouping c e.node i es))
    (λ i. let both = both_true (is_grouped es (place e.number 0)) (is_flatten_of c e.node) i in
    let g =
    one_from (λ (x : Entry). is_gbk_of (place e.number 0) x.node) (IsPlaced es) es both.0 a in
    one_to (taken es c) es g.entry.number g.entry.node g.holds.found
    (through_flatten es c e.number e.node g.entry.node w.found both.1 g.is))

-- ---- levels

parted : (es : List Entry) (c : Place) (rest : List Entry)
    → list_any (taken es c) rest
    ≡ (list_any (λ (e : Entry). takes es c e.node && (level es e.number == suc (level es c.node)))
    rest || list_any (λ (e : Entry). takes es c e.node
    && not (level es e.number == suc (level es c.node))) rest)
parted es c [] = refl
parted es c (e ∷ rest) = by (takes es c e.node) (level es e.number == suc (level es c.node))
    (list_any (λ (e : Entry). takes es c e.node && (level es e.number == suc (level es c.node)))
    rest)
    (list_any (λ (e : Entry). takes es c e.node
    && not (level es e.number == suc (level es c.node))) rest) (parted es c rest)
  where
    by : (t l a b : Bool) → list_any (taken es c) rest ≡ (a || b)
        → (t || list_any (taken es c) rest) ≡ (((t && l) || a) || ((t && not l) || b))
    by true true a b h = refl
    by true false true b h = refl
    by true false false b h = refl
    by false l a b h = h

alike : (a b : Bool) → (a ≡ true → b ≡ true) → (b ≡ true → a ≡ true) → a ≡ b
alike true true f g = refl
alike true false f g = sym (f refl)
alike false true f g = g refl
alike false false f g = refl

pub levels_feed : (g : Graph) → IsGraphOk g → (c : Place)
    → feeds g.nodes c ≡ (feeds_next g.nodes c || feeds_other g.nodes c)
levels_feed g ok c =
    let placed = all_placed g.nodes
    (each_found g.nodes (differ_ascends g.nodes ok.founded.ascends)) ok.founded.there in
    alike (feeds g.nodes c) (list_any (taken g.nodes c) g.nodes)
    (λ h. let e = one_from (feeds_by g.nodes c) (IsPlaced g.nodes) g.nodes h placed in
    fed_by g.nodes c placed e.entry e.holds e.is)
    (λ h. let e = one_from (taken g.nodes c) (IsPlaced g.nodes) g.nodes h placed in
    taken_by g.nodes c e.entry.number e.entry.node e.holds.found e.holds.there e.is)
    ∙ parted g.nodes c g.nodes
