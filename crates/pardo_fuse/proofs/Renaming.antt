-- The names of all outputs say where each collection is, so what is made is the fused graph.
use Rattle.std.proofs.Common.{◌≡◌, ℕ, Bool, true, false, cond, eqb, ◌||◌, List, [], ◌∷◌, ◌++◌, map, Option, Some, None, refl, sym, ap, ◌∙◌, append_assoc, append-nil}
use Rattle.std.specs.List.{flat_map}
use Rattle.exec_graph.specs.Forests.{Forest, Bare, Grow, next_after, after_out, numbered}
use Rattle.exec_graph.specs.declared.graph.Place.{Place}
use Rattle.exec_graph.specs.declared.graph.Node.{Node}
use Rattle.exec_graph.specs.declared.graph.Node.TheVariants.{Source, Flatten, Pdo, Gbk, Barrier}
use Rattle.exec_graph.specs.declared.graph.Entry.{Entry}
use Rattle.exec_graph.specs.declared.graph.Blocked.{Blocked}
use Rattle.exec_graph.specs.Meaning.{place, is_out, has_out}
use Rattle.graph_laws.specs.Joining.{reread, reread_entry}
use Rattle.graph_laws.specs.Kids.{number_after}
use Rattle.pardo_fuse.specs.declared.names.Name.{Name}
use Rattle.pardo_fuse.specs.Readers.{Cut}
use Rattle.pardo_fuse.specs.Fusing.{finished_entry, forest_over, joined_by, kept_nodes, kept_of, leads, moved_to}
use Rattle.exec_graph.specs.Places.{code}
use Rattle.pardo_fuse.specs.inner.Naming.{all_names, by_name, left_names, names_from, numbered_entry, out_names}

joint : (c : Place) (h s x y : ℕ) (o : Option ℕ) (k r : Bool) (z : Place) (rest : List Name)
    → by_name rest c ≡ cond k (place h x) (cond r (place h y) z)
    → by_name (out_names h s o ++ rest) c
    ≡ cond (is_out o (code c) || (k || r)) (place h (cond (is_out o (code c)) s (cond k x y))) z
joint c h s x y None true r z rest e = e
joint c h s x y None false true z rest e = e
joint c h s x y None false false z rest e = e
joint c h s x y (Some j) k r z rest e = by (eqb j (code c)) refl k r e
  where
    by : (t : Bool) → eqb j (code c) ≡ t → (k r : Bool)
        → by_name rest c ≡ cond k (place h x) (cond r (place h y) z)
        → cond t (place h s) (by_name rest c)
        ≡ cond (t || (k || r)) (place h (cond t s (cond k x y))) z
    by true i k r e = refl
    by false i true r e = e
    by false i false true e = e
    by false i false false e = e

by_forest : (c : Place) (h s : ℕ) (f : Forest) (ys : List Name)
    → by_name (names_from h s f ++ ys) c
    ≡ cond (has_out (code c) f) (place h (number_after s f (code c))) (by_name ys c)
by_forest c h s Bare ys = refl
by_forest c h s (Grow l kids rest) ys =
    let a : List Name = names_from h (after_out s l.out) kids in
    let b : List Name = names_from h (next_after (after_out s l.out) kids) rest in
    ap (λ (xs : List Name). by_name xs c) (append_assoc (out_names h s l.out) (a ++ b) ys
    ∙ ap (λ (xs : List Name). out_names h s l.out ++ xs) (append_assoc a b ys))
    ∙ joint c h s (number_after (after_out s l.out) kids (code c))
    (number_after (next_after (after_out s l.out) kids) rest (code c)) l.out (has_out (code c) kids)
    (has_out (code c) rest) (by_name ys c) (a ++ (b ++ ys))
    (by_forest c h (after_out s l.out) kids (b ++ ys)
    ∙ ap (cond (has_out (code c) kids) (place h (number_after (after_out s l.out) kids (code c))))
    (by_forest c h (next_after (after_out s l.out) kids) rest ys))

by_left : (b : Cut) (c : Place) (n : ℕ) (x : Node) (ys : List Name) (hs : List Entry)
    → by_name ys c ≡ moved_to hs c
    → by_name (left_names b n x ++ ys) c ≡ moved_to (kept_of b n x ++ hs) c
by_left b c n (Pdo d f) ys hs e = by (leads b n d)
  where
    by : (r : Bool) → by_name (cond r (names_from n 0 (forest_over b d)) [] ++ ys) c
        ≡ moved_to
        (cond r ((record { number = n; node = Pdo d (forest_over b d) }) ∷ []) [] ++ hs) c
    by true = by_forest c n 0 (forest_over b d) ys
        ∙ ap (cond (has_out (code c) (forest_over b d))
        (place n (number_after 0 (forest_over b d) (code c)))) e
    by false = e
by_left b c n _ ys hs e = e

names_place : (b : Cut) (es : List Entry) (c : Place)
    → by_name (flat_map (λ e. left_names b e.number e.node) es) c
    ≡ moved_to (flat_map (λ e. kept_of b e.number e.node) es) c
names_place b [] c = refl
names_place b (e ∷ es) c = by_left b c e.number e.node
    (flat_map (λ e. left_names b e.number e.node) es)
    (flat_map (λ e. kept_of b e.number e.node) es) (names_place b es c)

map_same : {X Y : Type 0} (f g : X → Y) → ((x : X) → f x ≡ g x) → (xs : List X) → map f xs
    ≡ map g xs
map_same f g e [] = refl
map_same f g e (x ∷ xs) = let i = map_same f g e xs in let a = e x in cc

reread_same : (f g : Place → Place) → ((c : Place) → f c ≡ g c) → (x : Node)
    → reread f x ≡ reread g x
reread_same f g e (Source r) = refl
reread_same f g e (Flatten ins) = ap Flatten (map_same f g e ins)
reread_same f g e (Pdo c t) = ap (λ (d : Place). Pdo d t) (e c)
reread_same f g e (Gbk c o l k) = ap (λ (d : Place). Gbk d o l k) (e c)
reread_same f g e (Barrier ins o l a) =
    ap (λ (cs : List Place). Barrier cs o l a) (map_same f g e ins)

entry_same : (f g : Place → Place) → ((c : Place) → f c ≡ g c) → (h : Entry)
    → reread_entry f h ≡ reread_entry g h
entry_same f g e h = ap (λ (x : Node). let d : Entry = record { number = h.number; node = x } in d)
    (reread_same f g e h.node)

map-append : {X Y : Type 0} (f : X → Y) (xs ys : List X) → map f (xs ++ ys) ≡ map f xs ++ map f ys
map-append f [] ys = refl
map-append {Y = Y} f (x ∷ xs) ys = ap (λ (l : List Y). f x ∷ l) (map-append f xs ys)

-- Reading elsewhere and numbering, one after the other.
left_finished : (b : Cut) (r : Place → Place) (es : List Entry)
    → map (reread_entry r)
    (flat_map (λ e. map numbered_entry (kept_of b e.number e.node)) es)
    ≡ map (finished_entry r) (flat_map (λ e. kept_of b e.number e.node) es)
left_finished b r [] = refl
left_finished b r (e ∷ es) =
    map-append (reread_entry r) (map numbered_entry (kept_of b e.number e.node))
    (flat_map (λ e. map numbered_entry (kept_of b e.number e.node)) es)
    ∙ ap (λ (l : List Entry). l ++ map (reread_entry r)
    (flat_map (λ e. map numbered_entry (kept_of b e.number e.node)) es))
    (twice (kept_of b e.number e.node))
    ∙ ap (λ (l : List Entry). map (finished_entry r) (kept_of b e.number e.node) ++ l)
    (left_finished b r es)
    ∙ sym (map-append (finished_entry r) (kept_of b e.number e.node)
    (flat_map (λ e. kept_of b e.number e.node) es))
  where
    twice : (hs : List Entry)
        → map (reread_entry r) (map numbered_entry hs) ≡ map (finished_entry r) hs
    twice [] = refl
    twice (h ∷ hs) = ap (λ (l : List Entry). finished_entry r h ∷ l) (twice hs)

abbrev made : Cut → (Place → Place) → List Entry → Blocked
made b r es = record {
  graph = record { nodes = es; outputs = map r b.graph.outputs; next = b.graph.next };
  marks = map r b.marks;
}

-- What the code makes is the fused graph.
pub fused_is : (b : Cut) (ns : List Entry) (r : Place → Place)
    → ns ≡ flat_map (λ e. map numbered_entry (kept_of b e.number e.node)) b.graph.nodes
    → ((d : Place) → r d ≡ by_name (all_names b) d)
    → made b r (map (reread_entry r) ns) ≡ joined_by b
unfolding joined_by
fused_is b ns r h n =
    let now : Place → Place = moved_to (kept_nodes b) in
    let same : (d : Place) → r d ≡ moved_to (kept_nodes b) d =
    λ d. n d ∙ names_place b b.graph.nodes d in
    let x : map (reread_entry r) ns ≡ map (finished_entry now) (kept_nodes b) =
    map_same (reread_entry r) (reread_entry now) (entry_same r now same) ns
    ∙ ap (map (reread_entry now)) h ∙ left_finished b now b.graph.nodes in
    let y : map r b.graph.outputs ≡ map now b.graph.outputs = map_same r now same b.graph.outputs in
    let z : map r b.marks ≡ map now b.marks = map_same r now same b.marks in
    ap (made b r) x
    ∙ ap (λ (l : List Place). let d : Blocked = record {
      graph = record {
        nodes = map (finished_entry now) (kept_nodes b);
        outputs = l;
        next = b.graph.next;
      };
      marks = map r b.marks;
    } in d) y
    ∙ ap (λ (l : List Place). let d : Blocked = record {
      graph = record {
        nodes = map (finished_entry now) (kept_nodes b);
        outputs = map now b.graph.outputs;
        next = b.graph.next;
      };
      marks = l;
    } in d) z

-- What a Pdo that does not lead leaves.
pub none_nodes : (b : Cut) (n : ℕ) (x : Node) (c : Place) (f : Forest) (xs : List Entry)
    → x ≡ Pdo c f → leads b n c ≡ false → xs ≡ xs ++ map numbered_entry (kept_of b n x)
none_nodes b n x c f xs e h = sym (append-nil xs) ∙ ap (λ (l : List Entry). xs ++ l)
    (sym (ap (λ (y : Node). map numbered_entry (kept_of b n y)) e
    ∙ ap (λ (r : Bool). map numbered_entry
    (cond r ((record { number = n; node = Pdo c (forest_over b c) }) ∷ []) [])) h))

pub none_names : (b : Cut) (n : ℕ) (x : Node) (c : Place) (f : Forest) (xs : List Name)
    → x ≡ Pdo c f → leads b n c ≡ false → xs ≡ xs ++ left_names b n x
none_names b n x c f xs e h = sym (append-nil xs) ∙ ap (λ (l : List Name). xs ++ l)
    (sym (ap (left_names b n) e
    ∙ ap (λ (r : Bool). cond r (names_from n 0 (forest_over b c)) []) h))

-- What one that leads leaves.
pub some_nodes : (b : Cut) (n : ℕ) (x : Node) (c : Place) (f g : Forest) (xs new : List Entry)
    → x ≡ Pdo c f → leads b n c ≡ true → g ≡ numbered 0 (forest_over b c)
    → new ≡ xs ++ (record { number = n; node = Pdo c g }) ∷ []
    → new ≡ xs ++ map numbered_entry (kept_of b n x)
some_nodes b n x c f g xs new e h i k = k
    ∙ ap (λ (y : Forest). let d : Entry = record { number = n; node = Pdo c y } in xs ++ d ∷ []) i
    ∙ ap (λ (l : List Entry). xs ++ l)
    (sym (ap (λ (y : Node). map numbered_entry (kept_of b n y)) e
    ∙ ap (λ (r : Bool). map numbered_entry
    (cond r ((record { number = n; node = Pdo c (forest_over b c) }) ∷ []) [])) h))

pub some_names : (b : Cut) (n : ℕ) (x : Node) (c : Place) (f : Forest) (xs new : List Name)
    → x ≡ Pdo c f → leads b n c ≡ true → new ≡ xs ++ names_from n 0 (forest_over b c)
    → new ≡ xs ++ left_names b n x
some_names b n x c f xs new e h k = k ∙ ap (λ (l : List Name). xs ++ l)
    (sym (ap (left_names b n) e
    ∙ ap (λ (r : Bool). cond r (names_from n 0 (forest_over b c)) []) h))
