-- Who reads an output, where each output has a Pdo of its own.
use Rattle.std.proofs.Common.{◌≡◌, ℕ, ◌/◌, ◌%◌, ◌<◌, Bool, true, false, cond, ◌||◌, List, [], ◌∷◌, ◌++◌, map, Option, Some, None, refl, sym, ap, ◌∙◌}
use Rattle.std.proofs.lemmas.Bool.{false≢true}
use Rattle.std.specs.List.{flat_map, list_any, AllByRecursion}
use Rattle.exec_graph.specs.Forests.{Label, Forest, Bare, Grow}
use Rattle.exec_graph.specs.Meaning.{node_at, reads, place, has_out, gives_at, IsThere}
use Rattle.exec_graph.specs.Readers.{among, any_node, calls_on, collects, readers, same_place, those}
use Rattle.exec_graph.specs.declared.graph.Place.{Place}
use Rattle.exec_graph.specs.declared.graph.Node.{Node}
use Rattle.exec_graph.specs.declared.graph.Node.TheVariants.{Source, Flatten, Pdo, Gbk, Barrier}
use Rattle.exec_graph.specs.declared.graph.Entry.{Entry}
use Rattle.exec_graph.specs.declared.graph.Graph.{Graph}
use Rattle.exec_graph.proofs.Solving.{each_found}
use Rattle.graph_laws.specs.Joining.{reread}
use Rattle.pardo_fuse.specs.Parting.{part_number, parts, parts_of_node, at_of, part_at, part_place, parted_nodes}
use Rattle.pardo_fuse.specs.Fusing.{step_in}
use Rattle.pardo_fuse.proofs.Finding.{any_append}
use Rattle.pardo_fuse.proofs.Lifting.{those-append}
use Rattle.pardo_fuse.proofs.Places.{same_is, same_self}
use Rattle.pardo_fuse.proofs.Parting.{EachLabel, all_parts, label_weaker, number_div, number_mod, out_at, outs_at, row_of}
use Rattle.pardo_fuse.proofs.Unparting.{CanPart, at_out, back, is_parted, low, step_at_node}
use Rattle.exec_graph.proofs.Bools.{not_true}

-- ---- which places fall together

pub same_parts : (g : Graph) → CanPart g → (c d : Place) → IsThere g.nodes c → IsThere g.nodes d
    → same_place (part_place g c) (part_place g d) ≡ same_place c d
same_parts g can c d t u =
    by (same_place (part_place g c) (part_place g d)) (same_place c d) refl refl
  where
    by : (x y : Bool) → same_place (part_place g c) (part_place g d) ≡ x → same_place c d ≡ y
        → x ≡ y
    by true true p q = refl
    by false false p q = refl
    by true false p q =
        let e : c ≡ d = sym (is_parted g can c t).back
        ∙ ap (back g) (same_is (part_place g c) (part_place g d) p) ∙ (is_parted g can d u).back in
        absurd (false≢true (sym q ∙ ap (same_place c) (sym e) ∙ same_self c))
    by false true p q =
        let e : c ≡ d = same_is c d q in
        absurd (false≢true (sym p
        ∙ ap (λ (x : Place). same_place (part_place g c) (part_place g x)) (sym e)
        ∙ same_self (part_place g c)))

-- No collection that is there comes to the Pdo of an output without number.
pub missed : (g : Graph) → CanPart g → (n : ℕ) (c : Place) (f : Forest)
    → node_at g.nodes n ≡ Some (Pdo c f)
    → EachLabel (λ l. l.out ≡ None → (d : Place) → IsThere g.nodes d
    → same_place (place (part_number g.next n l.at) 0) (part_place g d) ≡ false) f
missed g can n c f at = label_weaker (λ l. out_at l.at f ≡ l.out)
    (λ l. l.out ≡ None → (d : Place) → IsThere g.nodes d
    → same_place (place (part_number g.next n l.at) 0) (part_place g d) ≡ false)
    (λ l e none d t. not_true (same_place (place (part_number g.next n l.at) 0) (part_place g d))
    (λ same. hit l e none d t
    (same_is (place (part_number g.next n l.at) 0) (part_place g d) same))) f
    (outs_at 0 f (row_of f (step_at_node g can n c f at)))
  where
    hit : (l : Label) → out_at l.at f ≡ l.out → l.out ≡ None → (d : Place) → IsThere g.nodes d
        → place (part_number g.next n l.at) 0 ≡ part_place g d → ⊥
    hit l e none d t same =
        let k : ℕ = g.next in
        let low_n : n < k = low g can n (Pdo c f) at in
        let node : d.node ≡ n = sym (is_parted g can d t).node
        ∙ ap (λ (x : Place). x.node % k) (sym same) ∙ number_mod k n l.at low_n in
        let here : node_at g.nodes d.node ≡ Some (Pdo c f) = ap (node_at g.nodes) node ∙ at in
        let has : has_out d.out f ≡ true = sym (ap (λ (o : Option Node). gives_at o d.out) here)
        ∙ t in
        let row = row_of f (step_at_node g can n c f at) in
        let i = at_out (λ m. out_at m.at f ≡ m.out) 0 d.out f row (outs_at 0 f row) has in
        let is : part_place g d ≡ place (part_number k d.node (at_of d.out f)) 0 =
        ap (part_at k d) here in
        let numbers : part_number k n l.at ≡ part_number k n (at_of d.out f) =
        ap (λ (x : Place). x.node) (same ∙ is)
        ∙ ap (λ (x : ℕ). part_number k x (at_of d.out f)) node in
        let ats : l.at ≡ at_of d.out f = sym (number_div k n l.at low_n)
        ∙ ap (λ (x : ℕ). x / k) numbers ∙ number_div k n (at_of d.out f) low_n in
        let some : out_at l.at f ≡ Some d.out = ap (λ (x : ℕ). out_at x f) (ats ∙ i.at) ∙ i.holds
        ∙ i.out in
        let two : None ≡ Some d.out = sym none ∙ sym e ∙ some in
        let bad : ⊥ = cc in bad

-- ---- who reads

abbrev pub calls_by : (Place → Bool) → Node → Bool
calls_by t (Pdo d f) = t d
calls_by t _ = false

abbrev pub collects_by : (Place → Bool) → Node → Bool
collects_by t (Source r) = false
collects_by t (Flatten ins) = list_any t ins
collects_by t (Pdo d f) = false
collects_by t (Gbk d o l k) = t d
collects_by t (Barrier ins o l a) = list_any t ins

-- The outputs of a node's steps.
abbrev pub outputs_of : ℕ → ℕ → Forest → List ℕ
outputs_of k n Bare = []
outputs_of k n (Grow l kids rest) = part_number k n l.at ∷ outputs_of k n rest

abbrev pub sites : Graph → ℕ → List ℕ
sites g n = outputs_of g.next n (step_in (node_at g.nodes n))

abbrev pub all_sites : Graph → List ℕ → List ℕ
all_sites g ns = flat_map (sites g) ns

-- q is what t says of the former places.
abbrev pub Tells : Graph → Place → (Place → Bool) → Type 0
Tells g q t = (d : Place) → IsThere g.nodes d → same_place q (part_place g d) ≡ t d

pub among_by : (g : Graph) (q : Place) (t : Place → Bool) → Tells g q t → (ds : List Place)
    → AllByRecursion (IsThere g.nodes) ds → among q (map (part_place g) ds) ≡ list_any t ds
among_by g q t h [] a = refl
among_by g q t h (d ∷ ds) a = rw (h d a.0, among_by g q t h ds a.1) refl

parts_collect : (q : Place) (k n : ℕ) (d : Place) (f : Forest)
    → any_node (collects q) (parts k n d f) ≡ false
parts_collect q k n d Bare = refl
parts_collect q k n d (Grow l kids rest) = parts_collect q k n d rest

or_false : (b : Bool) → (b || false) ≡ b
or_false true = refl
or_false false = refl

node_collects : (g : Graph) (q : Place) (t : Place → Bool) → Tells g q t → (n : ℕ) (x : Node)
    → AllByRecursion (IsThere g.nodes) (reads x)
    → any_node (collects q) (parts_of_node g.next n (reread (part_place g) x)) ≡ collects_by t x
node_collects g q t h n (Source r) a = refl
node_collects g q t h n (Flatten ins) a = or_false (among q (map (part_place g) ins))
    ∙ among_by g q t h ins a
node_collects g q t h n (Pdo d f) a = parts_collect q g.next n (part_place g d) f
node_collects g q t h n (Gbk d o l k) a = or_false (same_place q (part_place g d)) ∙ h d a.0
node_collects g q t h n (Barrier ins o l d) a = or_false (among q (map (part_place g) ins))
    ∙ among_by g q t h ins a

pub collects_all : (g : Graph) (q : Place) (t : Place → Bool) → Tells g q t → (es : List Entry)
    → AllByRecursion (λ (e : Entry). AllByRecursion (IsThere g.nodes) (reads e.node)) es
    → any_node (collects q) (all_parts g.next (part_place g) es) ≡ any_node (collects_by t) es
collects_all g q t h [] a = refl
collects_all g q t h (e ∷ es) a =
    any_append (collects q) (parts_of_node g.next e.number (reread (part_place g) e.node))
    (all_parts g.next (part_place g) es)
    ∙ ap (λ (b : Bool). b || any_node (collects q) (all_parts g.next (part_place g) es))
    (node_collects g q t h e.number e.node a.0)
    ∙ ap (λ (b : Bool). collects_by t e.node || b) (collects_all g q t h es a.1)

pub parts_readers : (q : Place) (k n : ℕ) (d : Place) (f : Forest) (b : Bool) → same_place q d ≡ b
    → those (calls_on q) (parts k n d f) ≡ cond b (outputs_of k n f) []
parts_readers q k n d Bare true e = refl
parts_readers q k n d Bare false e = refl
parts_readers q k n d (Grow l kids rest) true e =
    ap (λ (b : Bool). cond b (part_number k n l.at ∷ those (calls_on q) (parts k n d rest))
    (those (calls_on q) (parts k n d rest))) e
    ∙ ap (λ (xs : List ℕ). part_number k n l.at ∷ xs) (parts_readers q k n d rest true e)
parts_readers q k n d (Grow l kids rest) false e =
    ap (λ (b : Bool). cond b (part_number k n l.at ∷ those (calls_on q) (parts k n d rest))
    (those (calls_on q) (parts k n d rest))) e
    ∙ parts_readers q k n d rest false e

node_readers : (g : Graph) (q : Place) (t : Place → Bool) → Tells g q t → (n : ℕ) (x : Node)
    → node_at g.nodes n ≡ Some x → AllByRecursion (IsThere g.nodes) (reads x)
    → those (calls_on q) (parts_of_node g.next n (reread (part_place g) x))
    ≡ cond (calls_by t x) (sites g n) []
node_readers g q t h n (Pdo d f) at a =
    parts_readers q g.next n (part_place g d) f (same_place q (part_place g d)) refl
    ∙ ap (λ (b : Bool). cond b (outputs_of g.next n f) []) (h d a.0)
    ∙ ap (λ (o : Option Node). cond (t d) (outputs_of g.next n (step_in o)) []) (sym at)
node_readers g q t h n _ at a = refl

readers_all : (g : Graph) (q : Place) (t : Place → Bool) → Tells g q t → (es : List Entry)
    → AllByRecursion (λ (e : Entry). node_at g.nodes e.number ≡ Some e.node) es
    → AllByRecursion (λ (e : Entry). AllByRecursion (IsThere g.nodes) (reads e.node)) es
    → readers (all_parts g.next (part_place g) es) q ≡ all_sites g (those (calls_by t) es)
readers_all g q t h [] f a = refl
readers_all g q t h (e ∷ es) f a =
    those-append (calls_on q) (parts_of_node g.next e.number (reread (part_place g) e.node))
    (all_parts g.next (part_place g) es)
    ∙ ap (λ (l : List ℕ). l ++ readers (all_parts g.next (part_place g) es) q)
    (node_readers g q t h e.number e.node f.0 a.0)
    ∙ ap (λ (l : List ℕ). cond (calls_by t e.node) (sites g e.number) [] ++ l)
    (readers_all g q t h es f.1 a.1)
    ∙ by (calls_by t e.node)
  where
    by : (b : Bool)
        → cond b (sites g e.number) [] ++ all_sites g (those (calls_by t) es)
        ≡ all_sites g (cond b (e.number ∷ those (calls_by t) es) (those (calls_by t) es))
    by true = refl
    by false = refl

pub calls_same : (c : Place) (x : Node) → calls_by (same_place c) x ≡ calls_on c x
calls_same c (Source r) = refl
calls_same c _ = refl

pub collects_same : (c : Place) (x : Node) → collects_by (same_place c) x ≡ collects c x
collects_same c (Source r) = refl
collects_same c _ = refl

abbrev pub never : Place → Bool
never d = false

pub none_any : (ds : List Place) → list_any never ds ≡ false
none_any [] = refl
none_any (d ∷ ds) = none_any ds

pub calls_never : (x : Node) → calls_by never x ≡ false
calls_never (Source r) = refl
calls_never _ = refl

pub collects_never : (x : Node) → collects_by never x ≡ false
collects_never (Flatten ins) = none_any ins
collects_never (Barrier ins o l a) = none_any ins
collects_never _ = refl

those_alike : (t u : Node → Bool) → ((x : Node) → t x ≡ u x) → (es : List Entry)
    → those t es ≡ those u es
those_alike t u h [] = refl
those_alike t u h (e ∷ es) =
    ap (λ (b : Bool). cond b (e.number ∷ those t es) (those t es)) (h e.node)
    ∙ ap (λ (l : List ℕ). cond (u e.node) (e.number ∷ l) l) (those_alike t u h es)

pub any_alike : (t u : Node → Bool) → ((x : Node) → t x ≡ u x) → (es : List Entry)
    → any_node t es ≡ any_node u es
any_alike t u h [] = refl
any_alike t u h (e ∷ es) = rw (h e.node, any_alike t u h es) refl

abbrev pub no_node : Node → Bool
no_node x = false

those_none : (es : List Entry) → those no_node es ≡ []
those_none [] = refl
those_none (e ∷ es) = those_none es

pub any_no : (es : List Entry) → any_node no_node es ≡ false
any_no [] = refl
any_no (e ∷ es) = any_no es

-- ---- the readers of a former collection, and of an output without number

pub found_all : (g : Graph) → CanPart g
    → AllByRecursion (λ (e : Entry). node_at g.nodes e.number ≡ Some e.node) g.nodes
found_all g can = each_found g.nodes can.ok.differ

pub readers_part : (g : Graph) → CanPart g → (c : Place) → IsThere g.nodes c
    → readers (parted_nodes g) (part_place g c) ≡ all_sites g (readers g.nodes c)
readers_part g can c t =
    readers_all g (part_place g c) (same_place c) (λ d u. same_parts g can c d t u) g.nodes
    (found_all g can) can.ok.there
    ∙ ap (all_sites g) (those_alike (calls_by (same_place c)) (calls_on c) (calls_same c) g.nodes)

pub readers_none : (g : Graph) → CanPart g → (q : Place) → Tells g q never
    → readers (parted_nodes g) q ≡ []
readers_none g can q h =
    readers_all g q never h g.nodes (found_all g can) can.ok.there
    ∙ ap (all_sites g) (those_alike (calls_by never) no_node calls_never g.nodes
    ∙ those_none g.nodes)
