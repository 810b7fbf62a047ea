-- To join two Pdos keeps a graph's meaning
use Rattle.std.proofs.Common.{◌≡◌, ℕ, Bool, true, false, cond, eqb, ◌&&◌, ◌||◌, List, [], ◌∷◌, ◌++◌, Option, Some, None, map, refl, sym, ap, ◌∙◌, subst, inl, inr, append_assoc}
use Rattle.std.proofs.lemmas.Bool.{eqb-true, eq-eqb}
use Rattle.std.proofs.lemmas.List.Folds.{flat_map-map}
use Rattle.std.specs.List.{flat_map, AllByRecursion}
use Rattle.combine_table.specs.of_flume_value.Bag.{put}
use Rattle.combine_table.specs.of_flume_value.declared.value.Value.{Value}
use Rattle.exec_graph.specs.of_flume_collection.Sets.{put_new, gather}
use Rattle.exec_graph.specs.Meaning.{through, place, IsGivenToKept, FitsForest, total, step_own, step_traps, Holds, Meets, own, traps, node_at, reads, is_out, has_out, gives_at, IsThere, IsSound, KeepsMeaning}
use Rattle.exec_graph.specs.of_flume_collection.Collection.{Collection, together, by_key}
use Rattle.exec_graph.specs.World.{World}
use Rattle.exec_graph.specs.Objects.{act_result}
use Rattle.exec_graph.specs.of_flume_collection.declared.trap.Trap.{Trap}
use Rattle.exec_graph.specs.of_flume_collection.Traps.{trap_le}
use Rattle.exec_graph.proofs.of_flume_collection.Bagging.{Swaps, gather-append, gather-gather}
use Rattle.exec_graph.proofs.of_flume_collection.Orders.{bags, sets, one_bag}
use Rattle.exec_graph.specs.Forests.{Label, Forest, Bare, Grow, with_out}
use Rattle.graph_laws.specs.Joining.{beside, grafted, HasOne, set_node, without, moved, reread, reread_entry, joined_into, CanJoin, as_kid, as_sibling}
use Rattle.exec_graph.proofs.Entries.{entry, all_map, all_found, flat_map_alike}
use Rattle.graph_laws.proofs.Changes.{all_set, all_without, all_set_others, differ_without, node_at-without_other, sum_set, sum_at}
use Rattle.exec_graph.specs.declared.graph.Place.{Place}
use Rattle.exec_graph.specs.declared.graph.Node.{Node}
use Rattle.exec_graph.specs.declared.graph.Node.TheVariants.{Source, Flatten, Pdo, Gbk, Barrier}
use Rattle.exec_graph.specs.declared.graph.Entry.{Entry}
use Rattle.exec_graph.specs.declared.graph.Graph.{Graph}
use Rattle.exec_graph.proofs.Bools.{or_left, or_right, or_false, not_true}
use Rattle.exec_graph.proofs.Solving.{kept_value}
use Rattle.combine_table.proofs.of_flume_value.EachLemmas.{Each-both, Each-weaker}

-- the outputs of a forest are changed one by one
pub record Relabels (out : Option ℕ → Option ℕ) (new : Forest → Forest) : Type 0 where
  pub bare : new Bare ≡ Bare
  pub grow : (l : Label) (kids rest : Forest)
      → new (Grow l kids rest) ≡ Grow (with_out (out l.out) l) (new kids) (new rest)

-- where it fits at one output, it fits at all
pub fits_relabelled : (w : World) (m k : Place → Collection) (n i : ℕ) (r : ℕ → ℕ)
    (out : Option ℕ → Option ℕ) (new : Forest → Forest) → Relabels out new
    → ((o : Option ℕ) (u : Collection)
    → ((j : ℕ) → is_out o j ≡ true → k (place i (r j)) ≡ m (place n j)) → IsGivenToKept m n o u
    → IsGivenToKept k i (out o) u) → (v : Collection) (f : Forest)
    → ((j : ℕ) → has_out j f ≡ true → k (place i (r j)) ≡ m (place n j)) → FitsForest w m n v f
    → FitsForest w k i v (new f)
fits_relabelled w m k n i r out new is one v Bare h a =
    subst (FitsForest w k i v) (sym is.bare) tt
fits_relabelled w m k n i r out new is one v (Grow l kids rest) h a =
    subst (FitsForest w k i v) (sym (is.grow l kids rest)) (
      one l.out (through w l v) (λ j p. h j
          (or_left (is_out l.out j) (has_out j kids || has_out j rest) p)) a.0,
      fits_relabelled w m k n i r out new is one (through w l v) kids (λ j p. h j
          (or_right (is_out l.out j) (has_out j kids || has_out j rest)
          (or_left (has_out j kids) (has_out j rest) p))) a.1,
      fits_relabelled w m k n i r out new is one v rest (λ j p. h j (or_right (is_out l.out j)
          (has_out j kids || has_out j rest) (or_right (has_out j kids) (has_out j rest) p))) a.2,
    )

kept_moved : (m k : Place → Collection) (n i : ℕ) (o : Option ℕ) (u : Collection)
    → ((j : ℕ) → is_out o j ≡ true → k (place i j) ≡ m (place n j)) → IsGivenToKept m n o u
    → IsGivenToKept k i o u
kept_moved m k n i None u h a = tt
kept_moved m k n i (Some j) u h a = h j (eq-eqb j j refl) ∙ a

-- m and k may differ elsewhere than at the outputs of the forest
pub fits_moved : (w : World) (m k : Place → Collection) (n i : ℕ) (v : Collection) (f : Forest)
    → ((j : ℕ) → has_out j f ≡ true → k (place i j) ≡ m (place n j)) → FitsForest w m n v f
    → FitsForest w k i v f
fits_moved w m k n i =
    fits_relabelled w m k n i (λ j. j) (λ o. o) (λ f. f)
    (record { bare = refl; grow = λ l kids rest. refl }) (kept_moved m k n i)

fits_beside : (w : World) (m : Place → Collection) (n : ℕ) (v : Collection) (f g : Forest)
    → FitsForest w m n v f → FitsForest w m n v g → FitsForest w m n v (beside f g)
fits_beside w m n v Bare g a b = b
fits_beside w m n v (Grow l kids rest) g a b = (a.0, a.1, fits_beside w m n v rest g a.2 b)

fits_graft : (w : World) (m : Place → Collection) (n j : ℕ) (v : Collection) (g : Forest)
    (l : Label)
    (kids rest : Forest) (b : Bool) → is_out l.out j ≡ b → FitsForest w m n v (Grow l kids rest)
    → FitsForest w m n (m (place n j)) g → FitsForest w m n (through w l v) (grafted j g kids)
    → FitsForest w m n v (grafted j g rest) → FitsForest w m n v
    (cond b (Grow l (beside kids g) rest) (Grow l (grafted j g kids) (grafted j g rest)))
fits_graft w m n j v g l kids rest true h a b c d = (
  a.0,
  fits_beside w m n (through w l v) kids g a.1
      (subst (λ (u : Collection). FitsForest w m n u g) (kept_value m n j l.out
      (through w l v) h a.0)
      b),
  a.2,
)
fits_graft w m n j v g l kids rest false h a b c d = (a.0, c, d)

fits_grafted : (w : World) (m : Place → Collection) (n j : ℕ) (v : Collection) (f g : Forest)
    → FitsForest w m n v f → FitsForest w m n (m (place n j)) g → FitsForest w m n v (grafted j g f)
fits_grafted w m n j v Bare g a b = a
fits_grafted w m n j v (Grow l kids rest) g a b =
    fits_graft w m n j v g l kids rest (is_out l.out j) refl a b
    (fits_grafted w m n j (through w l v) kids g a.1 b) (fits_grafted w m n j v rest g a.2 b)

pub lacks_grafted : (j : ℕ) (f g : Forest) → has_out j f ≡ false → grafted j g f ≡ f
lacks_grafted j Bare g h = refl
lacks_grafted j (Grow l kids rest) g h =
    let p = or_false (is_out l.out j) (has_out j kids || has_out j rest) h in
    let q = or_false (has_out j kids) (has_out j rest) p.1 in
    let e : is_out l.out j ≡ false = p.0 in
    let a : grafted j g kids ≡ kids = lacks_grafted j kids g q.0 in
    let b : grafted j g rest ≡ rest = lacks_grafted j rest g q.1 in
    rw e (ap (λ (x : Forest). Grow l x (grafted j g rest)) a ∙ ap (λ (x : Forest). Grow l kids x) b)

total-beside : (w : World) {Y : Type 0} (p : Collection → Label → List Y) (v : Collection)
    (f g : Forest)
    → total w p v (beside f g) ≡ total w p v f ++ total w p v g
total-beside w p v Bare g = refl
total-beside w p v (Grow l kids rest) g =
    ap (λ x. p v l ++ (total w p (through w l v) kids ++ x)) (total-beside w p v rest g)
    ∙ simp append_assoc

three : {Y B : Type 0} (q : Y → B → B) (x y z : List Y) (b : B)
    → gather q (x ++ (y ++ z)) b ≡ gather q x (gather q y (gather q z b))
three q x y z b = gather-append q x (y ++ z) b ∙ ap (gather q x) (gather-append q y z b)

more_between : {Y B : Type 0} (q : Y → B → B) → Swaps q → (x y y' z more : List Y) (b : B)
    → ((c : B) → gather q y' c ≡ gather q more (gather q y c))
    → gather q (x ++ (y' ++ z)) b ≡ gather q more (gather q (x ++ (y ++ z)) b)
more_between q s x y y' z more b h =
    three q x y' z b ∙ ap (gather q x) (h (gather q z b))
    ∙ gather-gather q s x more (gather q y (gather q z b))
    ∙ ap (gather q more) (sym (three q x y z b))

more_behind : {Y B : Type 0} (q : Y → B → B) → Swaps q → (x y z z' more : List Y) (b : B)
    → gather q z' b ≡ gather q more (gather q z b)
    → gather q (x ++ (y ++ z')) b ≡ gather q more (gather q (x ++ (y ++ z)) b)
more_behind q s x y z z' more b h =
    three q x y z' b ∙ ap (λ c. gather q x (gather q y c)) h
    ∙ ap (gather q x) (gather-gather q s y more (gather q z b))
    ∙ gather-gather q s x more (gather q y (gather q z b))
    ∙ ap (gather q more) (sym (three q x y z b))

gather_grafted : (w : World) {Y B : Type 0} (q : Y → B → B) → Swaps q
    → (p : Collection → Label → List Y) (m : Place → Collection) (n j : ℕ) (v : Collection)
    (f g : Forest) → FitsForest w m n v f → HasOne j f → (b : B)
    → gather q (total w p v (grafted j g f)) b ≡ gather q (total w p (m (place n j)) g)
    (gather q (total w p v f) b)
gather_grafted w q s p m n j v Bare g a h b = absurd h
gather_grafted w {Y = Y} q s p m n j v (Grow l kids rest) g a (inl h) b =
    let e : is_out l.out j ≡ true = h.0 in
    let u : Collection = through w l v in
    let more : List Y = total w p (m (place n j)) g in
    let k : List Y = total w p u kids in
    rw e (more_between q s (p v l) k (total w p u (beside kids g)) (total w p v rest) more b (λ c.
    ap (λ x. gather q x c) (total-beside w p u kids g) ∙ gather-append q k (total w p u g) c
    ∙ ap (λ (x : Collection). gather q k (gather q (total w p x g) c))
    (sym (kept_value m n j l.out u e a.0))
    ∙ gather-gather q s k more c))
gather_grafted w {Y = Y} q s p m n j v (Grow l kids rest) g a (inr (inl h)) b =
    let e : is_out l.out j ≡ false = h.0 in
    let u : Collection = through w l v in
    let more : List Y = total w p (m (place n j)) g in
    let same : grafted j g rest ≡ rest = lacks_grafted j rest g h.2 in
    rw e (ap (λ (x : Forest). gather q (p v l ++ (total w p u
    (grafted j g kids) ++ total w p v x)) b)
    same
    ∙ more_between q s (p v l) (total w p u kids) (total w p u (grafted j g kids))
    (total w p v rest) more
    b (λ c. gather_grafted w q s p m n j u kids g a.1 h.1 c))
gather_grafted w {Y = Y} q s p m n j v (Grow l kids rest) g a (inr (inr h)) b =
    let e : is_out l.out j ≡ false = h.0 in
    let u : Collection = through w l v in
    let more : List Y = total w p (m (place n j)) g in
    let same : grafted j g kids ≡ kids = lacks_grafted j kids g h.1 in
    rw e (ap (λ (x : Forest). gather q (p v l ++ (total w p u x ++ total w p v
    (grafted j g rest))) b)
    same
    ∙ more_behind q s (p v l) (total w p u kids) (total w p v rest) (total w p v
    (grafted j g rest)) more
    b (gather_grafted w q s p m n j v rest g a.2 h.2 b))

-- ---- the values after the join
abbrev pub joined_values : {A : Type 0} → (Place → A) → ℕ → ℕ → Forest → Place → A
joined_values m p q h c = cond (eqb c.node p && has_out c.out h) (m (place q c.out)) (m c)

pub taken_over : {A : Type 0} (m : Place → A) (p q j : ℕ) (h : Forest) → has_out j h ≡ true
    → joined_values m p q h (place p j) ≡ m (place q j)
taken_over m p q j h e = rw (eq-eqb p p refl, e) refl

pub elsewhere : {A : Type 0} (m : Place → A) (p q : ℕ) (h : Forest) (c : Place) (b : Bool)
    → eqb c.node p ≡ b → (c.node ≡ p → has_out c.out h ≡ false)
    → cond (b && has_out c.out h) (m (place q c.out)) (m c) ≡ m c
elsewhere m p q h c true i f = rw (f (eqb-true c.node p i)) refl
elsewhere m p q h c false i f = refl

-- what the kept Pdo's own outputs are stays
pub own_stays : {A : Type 0} (g : Graph) (m : Place → A) (p q : ℕ) (c d : Place) (f h : Forest)
    → CanJoin g p q c d f h → (j : ℕ) → has_out j f ≡ true
    → joined_values m p q h (place p j) ≡ m (place p j)
own_stays g m p q c d f h can j e = elsewhere m p q h (place p j) (eqb p p) refl
    (λ _. not_true (has_out j h) (λ i. can.disjoint j e i))

pub there_at : (es : List Entry) (c : Place) (n : ℕ) (t : Place) (f : Forest) → c.node ≡ n
    → node_at es n ≡ Some (Pdo t f) → IsThere es c → has_out c.out f ≡ true
there_at es c n t f e a h = sym (ap (λ (o : Option Node). gives_at o c.out) (ap (node_at es) e ∙ a))
    ∙ h

moved_by : {A : Type 0} (g : Graph) (m : Place → A) (p q : ℕ) (c d : Place) (f h : Forest)
    → CanJoin g p q c d f h → (x : Place) (b : Bool) → eqb x.node q ≡ b → IsThere g.nodes x
    → joined_values m p q h (cond b (place p x.out) x) ≡ m x
moved_by g m p q c d f h can x true i t =
    let e : x.node ≡ q = eqb-true x.node q i in
    taken_over m p q x.out h (there_at g.nodes x q d h e can.other t)
    ∙ ap (λ (n : ℕ). m (place n x.out)) (sym e)
moved_by g m p q c d f h can x false i t =
    elsewhere m p q h x (eqb x.node p) refl (λ e. not_true (has_out x.out h)
    (λ j. can.disjoint x.out (there_at g.nodes x p c f e can.keeper t) j))

pub moved_same : {A : Type 0} (g : Graph) (m : Place → A) (p q : ℕ) (c d : Place) (f h : Forest)
    → CanJoin g p q c d f h → (x : Place) → IsThere g.nodes x
    → joined_values m p q h (moved p q x) ≡ m x
moved_same g m p q c d f h can x t = moved_by g m p q c d f h can x (eqb x.node q) refl t

-- ---- nodes that read elsewhere
pub map_reread : (k m : Place → Collection) (r : Place → Place) (cs : List Place)
    → AllByRecursion (λ c. k (r c) ≡ m c) cs → map k (map r cs) ≡ map m cs
map_reread k m r [] a = refl
map_reread k m r (c ∷ cs) a = let i = map_reread k m r cs a.1 in let j : k (r c) ≡ m c = a.0 in cc

pub holds_reread : (w : World) (k m : Place → Collection) (r : Place → Place) (n : ℕ) (x : Node)
    → AllByRecursion (λ c. k (r c) ≡ m c) (reads x) → ((j : ℕ) → k (place n j) ≡ m (place n j))
    → Holds w m n x → Holds w k n (reread r x)
holds_reread w k m r n (Source s) a o h = o 0 ∙ h
holds_reread w k m r n (Flatten ins) a o h = o 0 ∙ h ∙ ap together (sym (map_reread k m r ins a))
holds_reread w k m r n (Pdo c f) a o h = subst (λ (v : Collection). FitsForest w k n v f) (sym a.0)
    (fits_moved w m k n n (m c) f (λ j _. o j) h)
holds_reread w k m r n (Gbk c i l e) a o h = o 0 ∙ h ∙ ap (by_key) (sym a.0)
holds_reread w k m r n (Barrier ins i l e) a o h =
    o 0 ∙ h ∙ ap (act_result w i e) (sym (map_reread k m r ins a))

pub own-reread : (w : World) (k m : Place → Collection) (r : Place → Place) (i : ℕ) (x : Node)
    → AllByRecursion (λ c. k (r c) ≡ m c) (reads x) → own w k i (reread r x) ≡ own w m i x
own-reread w k m r i (Source s) a = refl
own-reread w k m r i (Flatten ins) a = refl
own-reread w k m r i (Pdo c f) a = ap (λ (v : Collection). total w (step_own w i) v f) a.0
own-reread w k m r i (Gbk c o l e) a = ap (λ (v : Collection). cond (l && eqb o i) (by_key v).bag
    []) a.0
own-reread w k m r i (Barrier ins o l e) a =
    ap (λ (cs : List Collection). cond (l && eqb o i) (act_result w o e cs).bag [])
    (map_reread k m r ins a)

pub traps-reread : (w : World) (k m : Place → Collection) (r : Place → Place) (x : Node)
    → AllByRecursion (λ c. k (r c) ≡ m c) (reads x) → traps w k (reread r x) ≡ traps w m x
traps-reread w k m r (Source s) a = refl
traps-reread w k m r (Flatten ins) a = ap (λ (cs : List Collection). (together cs).traps)
    (map_reread k m r ins a)
traps-reread w k m r (Pdo c f) a = ap (λ (v : Collection). total w (step_traps w) v f) a.0
traps-reread w k m r (Gbk c o l e) a = ap (λ (v : Collection). v.traps) a.0
traps-reread w k m r (Barrier ins o l e) a =
    ap (λ (cs : List Collection). (act_result w o e cs).traps) (map_reread k m r ins a)

-- the parts of the nodes of a joined graph
sum_joined : {Y B : Type 0} (s : Y → B → B) → Swaps s
    → (F G : Entry → List Y) (es : List Entry) (p q : ℕ) (x y z : Node) (r : Place → Place) (b : B)
    → node_at es p ≡ Some x → node_at es q ≡ Some y → (p ≡ q → ⊥)
    → AllByRecursion (λ e. G (reread_entry r e) ≡ F e) (set_node (without es q) p z)
    → ((c : B) → gather s (F (entry p z)) c ≡ gather s (F (entry q y)) (gather s (F (entry p x)) c))
    → gather s (flat_map F es) b ≡ gather s (flat_map G
    (map (reread_entry r) (set_node (without es q) p z))) b
sum_joined s sw F G es p q x y z r b at_p at_q apart same join =
    let left : node_at (without es q) p ≡ Some x = node_at-without_other es q p x apart at_p in
    sum_at s sw F es q y b at_q
    ∙ ap (gather s (F (entry q y))) (sum_at s sw F (without es q) p x b left)
    ∙ sym (join (gather s (flat_map F (without (without es q) p)) b))
    ∙ sym (sum_set s sw F (without es q) p z x b left)
    ∙ sym (ap (λ l. gather s l b) (flat_map-map G (reread_entry r) (set_node (without es q) p z)
    ∙ flat_map_alike (λ e. G (reread_entry r e)) F (set_node (without es q) p z) same))

-- what a join has to show: the new forest holds, and adds up to what both did
pub record Joins (w : World) (m : Place → Collection) (p q : ℕ) (c d : Place)
    (f h new : Forest) : Type 0 where
  pub fits : FitsForest w (joined_values m p q h) p (m c) f
      → FitsForest w (joined_values m p q h) p (m d) h
      → FitsForest w (joined_values m p q h) p (m c) new
  pub own : (i : ℕ) (b : List Value) → gather put (total w (step_own w i) (m c) new) b
      ≡ gather put (total w (step_own w i) (m d) h) (gather put (total w (step_own w i) (m c) f) b)
  pub traps : (b : List Trap) → gather (put_new trap_le) (total w (step_traps w) (m c) new) b
      ≡ gather (put_new trap_le) (total w (step_traps w) (m d) h)
      (gather (put_new trap_le) (total w (step_traps w) (m c) f) b)

KeepsMeaning-joined : (g : Graph) (p q : ℕ) (c d : Place) (f h new : Forest) → IsSound g
    → CanJoin g p q c d f h → ((w : World) (m : Place → Collection) → Meets w g.nodes m
    → Joins w m p q c d f h new) → KeepsMeaning g (joined_into g p q c new)
KeepsMeaning-joined g p q c d f h new ok can joins w m meets =
    let k : Place → Collection = joined_values m p q h in
    let r : Place → Place = moved p q in
    let z : Node = Pdo c new in
    let set : List Entry = set_node (without g.nodes q) p z in
    let j : Joins w m p q c d f h new = joins w m meets in
    let same : (cs : List Place) → AllByRecursion (IsThere g.nodes) cs
    → AllByRecursion (λ x. k (r x) ≡ m x) cs =
    λ cs a. Each-weaker (IsThere g.nodes) (λ x. k (r x) ≡ m x)
    (λ x t. moved_same g m p q c d f h can x t) cs a in
    let R : Entry → Type 0 = λ e. AllByRecursion (λ x. k (r x) ≡ m x) (reads e.node) in
    let reads_all : AllByRecursion R g.nodes =
    Each-weaker (λ (e : Entry). AllByRecursion (IsThere g.nodes) (reads e.node)) R
    (λ e a. same (reads e.node) a) g.nodes ok.there in
    let reads_p : R (entry p (Pdo c f)) = all_found R g.nodes p (Pdo c f) can.keeper reads_all in
    let reads_left : AllByRecursion R (without g.nodes q) = all_without R g.nodes q reads_all in
    let reads_set : AllByRecursion R set = all_set R (without g.nodes q) p z reads_left reads_p in
    let at_p : FitsForest w m p (m c) f = all_found (λ e. Holds w m e.number e.node) g.nodes p
    (Pdo c f) can.keeper meets in
    let at_q : FitsForest w m q (m d) h = all_found (λ e. Holds w m e.number e.node) g.nodes q
    (Pdo d h) can.other meets in
    let k_p : FitsForest w k p (m c) f = fits_moved w m k p p (m c) f
    (λ i e. own_stays g m p q c d f h can i e) at_p in
    let k_q : FitsForest w k p (m d) h = fits_moved w m k q p (m d) h
    (λ i e. taken_over m p q i h e)
    at_q in
    let H : Entry → Type 0 = λ e. Holds w k e.number (reread r e.node) in
    let others : AllByRecursion (λ e. (e.number ≡ p → ⊥) → H e) (without g.nodes q) =
    Each-both (λ (e : Entry). Holds w m e.number e.node) R (λ e. (e.number ≡ p → ⊥) → H e)
    (λ e a b apart. holds_reread w k m r e.number e.node b
    (λ i. elsewhere m p q h (place e.number i) (eqb e.number p) refl (λ i. absurd (apart i))) a)
    (without g.nodes q) (all_without (λ e. Holds w m e.number e.node) g.nodes q meets)
    reads_left in
    let here : H (entry p z) = subst (λ (v : Collection). FitsForest w k p v new) (sym reads_p.0)
    (j.fits k_p k_q) in (
      k,
      all_map (reread_entry r) H (λ e. Holds w k e.number e.node) (λ e a. a) set
          (all_set_others H (without g.nodes q) p z (differ_without g.nodes q ok.differ) others
          here),
      record {
        outputs = sym (map_reread k m r g.outputs (same g.outputs ok.told));
        own = λ i. one_bag (flat_map (λ (e : Entry). own w m i e.node) g.nodes)
            (flat_map (λ (e : Entry). own w k i e.node) (joined_into g p q c new).nodes)
            (sum_joined put bags (λ (e : Entry). own w m i e.node) (λ (e : Entry). own w k i e.node)
            g.nodes p q (Pdo c f) (Pdo d h) z r [] can.keeper can.other can.apart
            (Each-weaker R (λ e. own w k i (reread r e.node) ≡ own w m i e.node)
            (λ e a. own-reread w k m r i e.node a) set reads_set) (j.own i));
        traps = sum_joined (put_new trap_le) sets (λ (e : Entry). traps w m e.node)
            (λ (e : Entry). traps w k e.node) g.nodes p q (Pdo c f) (Pdo d h) z r [] can.keeper
            can.other can.apart
            (Each-weaker R (λ e. traps w k (reread r e.node) ≡ traps w m e.node)
            (λ e a. traps-reread w k m r e.node a) set reads_set) j.traps;
      },
    )

-- a Pdo that reads an output of a step becomes kids of the step
pub KeepsMeaning-as_kid : (g : Graph) (p q : ℕ) (c : Place) (j : ℕ) (f h : Forest) → IsSound g
    → CanJoin g p q c (place p j) f h → HasOne j f → has_out j f ≡ true
    → KeepsMeaning g (as_kid g p q c j f h)
KeepsMeaning-as_kid g p q c j f h ok can one has =
    KeepsMeaning-joined g p q c (place p j) f h (grafted j h f) ok can (λ w m meets.
    let at_p : FitsForest w m p (m c) f = all_found (λ e. Holds w m e.number e.node) g.nodes p
    (Pdo c f) can.keeper meets in
    record {
      fits = λ a b. fits_grafted w (joined_values m p q h) p j (m c) f h a
          (subst (λ (v : Collection). FitsForest w (joined_values m p q h) p v h)
          (sym (own_stays g m p q c (place p j) f h can j has)) b);
      own = λ i b. gather_grafted w put bags (step_own w i) m p j (m c) f h at_p one b;
      traps = λ b. gather_grafted w (put_new trap_le) sets (step_traps w) m p j
          (m c) f h at_p one b;
    })

beside_sum : (w : World) {Y B : Type 0} (s : Y → B → B) → Swaps s
    → (p : Collection → Label → List Y) (v : Collection) (f h : Forest) (b : B)
    → gather s (total w p v (beside f h)) b ≡ gather s (total w p v h) (gather s (total w p v f) b)
beside_sum w s sw p v f h b = ap (λ l. gather s l b) (total-beside w p v f h)
    ∙ gather-append s (total w p v f) (total w p v h) b
    ∙ gather-gather s sw (total w p v f) (total w p v h) b

-- Pdos that read one collection become one
pub KeepsMeaning-as_sibling : (g : Graph) (p q : ℕ) (c : Place) (f h : Forest) → IsSound g
    → CanJoin g p q c c f h → KeepsMeaning g (as_sibling g p q c f h)
KeepsMeaning-as_sibling g p q c f h ok can =
    KeepsMeaning-joined g p q c c f h (beside f h) ok can (λ w m meets.
    record {
      fits = λ a b. fits_beside w (joined_values m p q h) p (m c) f h a b;
      own = λ i b. beside_sum w put bags (step_own w i) (m c) f h b;
      traps = λ b. beside_sum w (put_new trap_le) sets (step_traps w) (m c) f h b;
    })
