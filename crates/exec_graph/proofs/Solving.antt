-- A graph that is ok has one meaning
use Rattle.std.proofs.Common.{◌≡◌, ℕ, ◌+◌, ◌<◌, ◌≤◌, Bool, true, false, cond, eqb, ltb, ◌&&◌, ◌||◌, length, List, [], ◌∷◌, Option, Some, None, zero, suc, refl, sym, ap, ◌∙◌, subst, arith, inl, inr, ◌⊎◌}
use Rattle.std.proofs.lemmas.Bool.{eqb-true, eq-eqb, false≢true}
use Rattle.std.proofs.lemmas.Bool.Decides.{nat_tests}
use Rattle.std.specs.List.{AllByRecursion}
use Rattle.exec_graph.specs.Meaning.{total, step_own, step_traps, own, traps, Agrees, KeepsMeaning, SameMeaning, through, place, IsGivenToKept, FitsForest, Holds, Meets, node_at, reads, is_out, has_out, gives, gives_at, IsThere, AllDiffer, OutsDiffer, HasOuts, IsRankedBy, IsSound, first, out_of, or_nothing, value, value_at, solve, collection}
use Rattle.flume_collection.specs.Collection.{Collection, together, by_key}
use Rattle.exec_graph.specs.World.{World}
use Rattle.exec_graph.specs.Objects.{act_result}
use Rattle.flume_collection.specs.Traps.{trap_le}
use Rattle.flume_collection.specs.Sets.{put_new, gather}
use Rattle.exec_graph.specs.Forests.{Label, Forest, Bare, Grow}
use Rattle.exec_graph.proofs.Entries.{all_three, all_found, map_alike, flat_map_alike}
use Rattle.exec_graph.proofs.Bools.{or_left, or_right, or_false, or_cases, not_here}
use Rattle.flume_value.specs.Bag.{bag_of}
use Rattle.flume_value.specs.declared.value.Value.{Value}
use Rattle.exec_graph.specs.declared.graph.Place.{Place}
use Rattle.exec_graph.specs.declared.graph.Node.{Node}
use Rattle.exec_graph.specs.declared.graph.Node.TheVariants.{Source, Flatten, Pdo, Gbk, Barrier}
use Rattle.exec_graph.specs.declared.graph.Entry.{Entry}
use Rattle.exec_graph.specs.declared.graph.Graph.{Graph}
use Rattle.flume_value.proofs.EachLemmas.{Each-both, Each-weaker}

first_found : (a b : Option Collection) (u : Collection) → a ≡ Some u → first a b ≡ Some u
first_found a b u h = ap (λ (o : Option Collection). first o b) h

pair_found : (a b : Option Collection) (x y : Bool) → (x || y) ≡ true
    → (x ≡ true → (u : Collection) × (a ≡ Some u)) → (y ≡ true → (u : Collection) × (b ≡ Some u))
    → (u : Collection) × (first a b ≡ Some u)
pair_found None b true y h f g = let r = f refl in
    let bad : ⊥ = (let e : None ≡ Some r.0 = r.1 in cc) in absurd bad
pair_found None b false y h f g = g h
pair_found (Some c) b x y h f g = (c, refl)

out_found_by : (w : World) (v : Collection) (l : Label) (kids rest : Forest) (j : ℕ) (b : Bool)
    → (b || (has_out j kids || has_out j rest)) ≡ true
    → (has_out j kids ≡ true → (u : Collection) × (out_of w (through w l v) kids j ≡ Some u))
    → (has_out j rest ≡ true → (u : Collection) × (out_of w v rest j ≡ Some u)) → (u : Collection)
    × (cond b (Some (through w l v)) (first (out_of w (through w l v) kids j) (out_of w v rest j))
    ≡ Some u)
out_found_by w v l kids rest j true h f g = (through w l v, refl)
out_found_by w v l kids rest j false h f g = pair_found (out_of w (through w l v) kids j)
    (out_of w v rest j) (has_out j kids) (has_out j rest) h f g

-- ---- forests
-- a step keeps the output exactly where it is found
out_found : (w : World) (v : Collection) (f : Forest) (j : ℕ) → has_out j f ≡ true →
    (u : Collection)
    × (out_of w v f j ≡ Some u)
out_found w v Bare j h = absurd (false≢true h)
out_found w v (Grow l kids rest) j h = out_found_by w v l kids rest j (is_out l.out j) h
    (λ i. out_found w (through w l v) kids j i) (λ i. out_found w v rest j i)

pub out_lacks : (w : World) (v : Collection) (f : Forest) (j : ℕ) → has_out j f ≡ false
    → out_of w v f j
    ≡ None
out_lacks w v Bare j h = refl
out_lacks w v (Grow l kids rest) j h =
    let p = or_false (is_out l.out j) (has_out j kids || has_out j rest) h in
    let q = or_false (has_out j kids) (has_out j rest) p.1 in
    rw (p.0, out_lacks w (through w l v) kids j q.0, out_lacks w v rest j q.1) refl

kids_out : (w : World) (v : Collection) (l : Label) (kids rest : Forest) (j : ℕ)
    → ((j : ℕ) → is_out l.out j ≡ true → (has_out j kids || has_out j rest) ≡ false)
    → has_out j kids ≡ true → out_of w v (Grow l kids rest) j ≡ out_of w (through w l v) kids j
kids_out w v l kids rest j d h =
    let e : is_out l.out j ≡ false = not_here (is_out l.out j) (has_out j kids || has_out j rest)
    (d j) (or_left (has_out j kids) (has_out j rest) h) in
    let r = out_found w (through w l v) kids j h in
    rw e (first_found (out_of w (through w l v) kids j) (out_of w v rest j) r.0 r.1 ∙ sym r.1)

rest_out : (w : World) (v : Collection) (l : Label) (kids rest : Forest) (j : ℕ)
    → ((j : ℕ) → is_out l.out j ≡ true → (has_out j kids || has_out j rest) ≡ false)
    → ((j : ℕ) → has_out j kids ≡ true → has_out j rest ≡ false) → has_out j rest ≡ true
    → out_of w v (Grow l kids rest) j ≡ out_of w v rest j
rest_out w v l kids rest j d a h =
    let e : is_out l.out j ≡ false = not_here (is_out l.out j) (has_out j kids || has_out j rest)
    (d j) (or_right (has_out j kids) (has_out j rest) h) in
    let n : out_of w (through w l v) kids j ≡ None =
    out_lacks w (through w l v) kids j (not_here (has_out j kids) (has_out j rest) (a j) h) in
    rw (e, n) refl

kept_from : (m : Place → Collection) (n : ℕ) (v : Collection) (o : Option ℕ) (u : Collection)
    → ((j : ℕ) → is_out o j ≡ true → m (place n j) ≡ u) → IsGivenToKept m n o u
kept_from m n v None u h = tt
kept_from m n v (Some j) u h = h j (eq-eqb j j refl)

here_out : (w : World) (v : Collection) (l : Label) (kids rest : Forest) (j : ℕ) (b : Bool) → b
    ≡ true
    → cond b (Some (through w l v)) (first (out_of w (through w l v) kids j) (out_of w v rest j))
    ≡ Some (through w l v)
here_out w v l kids rest j true h = refl
here_out w v l kids rest j false h = absurd (false≢true h)

-- what the function finds at each output holds of the forest
fits_from : (w : World) (m : Place → Collection) (n : ℕ) (v : Collection) (f : Forest)
    → OutsDiffer f
    → ((j : ℕ) → has_out j f ≡ true → m (place n j) ≡ or_nothing (out_of w v f j))
    → FitsForest w m n v f
fits_from w m n v Bare d h = tt
fits_from w m n v (Grow l kids rest) d h = (
  kept_from m n v l.out (through w l v) (λ j i. h j
      (or_left (is_out l.out j) (has_out j kids || has_out j rest) i)
      ∙ ap or_nothing (here_out w v l kids rest j (is_out l.out j) i)),
  fits_from w m n (through w l v) kids d.2 (λ j i. h j
      (or_right (is_out l.out j) (has_out j kids || has_out j rest)
      (or_left (has_out j kids) (has_out j rest) i))
      ∙ ap or_nothing (kids_out w v l kids rest j d.0 i)),
  fits_from w m n v rest d.3 (λ j i. h j (or_right (is_out l.out j)
      (has_out j kids || has_out j rest)
      (or_right (has_out j kids) (has_out j rest) i))
      ∙ ap or_nothing (rest_out w v l kids rest j d.0 d.1 i)),
)

-- a forest at one value has one value at each output
pub kept_value : (m : Place → Collection) (n j : ℕ) (o : Option ℕ) (u : Collection)
    → is_out o j ≡ true → IsGivenToKept m n o u → m (place n j) ≡ u
kept_value m n j None u h k = absurd (false≢true h)
kept_value m n j (Some i) u h k = ap (λ (e : ℕ). m (place n e)) (sym (eqb-true i j h)) ∙ k

kept_same : (m k : Place → Collection) (n j : ℕ) (o : Option ℕ) (u : Collection) → is_out o j ≡ true
    → IsGivenToKept m n o u → IsGivenToKept k n o u → k (place n j) ≡ m (place n j)
kept_same m k n j None u h a b = absurd (false≢true h)
kept_same m k n j (Some i) u h a b = ap (λ (e : ℕ). k (place n e)) (sym (eqb-true i j h)) ∙ b
    ∙ sym a ∙ ap (λ (e : ℕ). m (place n e)) (eqb-true i j h)

one_value : (w : World) (m k : Place → Collection) (n : ℕ) (v : Collection) (f : Forest) (j : ℕ)
    → FitsForest w m n v f → FitsForest w k n v f → has_out j f ≡ true → k (place n j) ≡ m
    (place n j)
one_value w m k n v Bare j a b h = absurd (false≢true h)
one_value w m k n v (Grow l kids rest) j a b h =
    elim (or_cases (is_out l.out j) (has_out j kids || has_out j rest) h) [
      | inl i ↦ kept_same m k n j l.out (through w l v) i a.0 b.0
      | inr i ↦ elim (or_cases (has_out j kids) (has_out j rest) i) [
        | inl e ↦ one_value w m k n (through w l v) kids j a.1 b.1 e
        | inr e ↦ one_value w m k n v rest j a.2 b.2 e
      ]
    ]

-- ---- graphs
solve_next : (w : World) (es : List Entry) (k : ℕ) (c : Place)
    → solve w es (suc k) c ≡ value_at w (solve w es k) (node_at es c.node) c.out
unfolding solve
solve_next w es k c = refl

pub collection_is : (w : World) (g : Graph) (c : Place)
    → collection w g c ≡ solve w g.nodes (suc (length g.nodes)) c
unfolding collection
collection_is w g c = refl

value_alike : (w : World) (m k : Place → Collection) (x : Node) (j : ℕ)
    → AllByRecursion (λ c. k c ≡ m c) (reads x) → value w k x j ≡ value w m x j
value_alike w m k (Source r) j h = refl
value_alike w m k (Flatten ins) j h = ap together (map_alike m k ins h)
value_alike w m k (Pdo c f) j h = ap (λ (v : Collection). or_nothing (out_of w v f j)) h.0
value_alike w m k (Gbk c o l i) j h = ap (by_key) h.0
value_alike w m k (Barrier ins o l a) j h = ap (act_result w o a) (map_alike m k ins h)

at_alike : (w : World) (m k : Place → Collection) (o : Option Node) (j : ℕ)
    → ((x : Node) → o ≡ Some x → AllByRecursion (λ c. k c ≡ m c) (reads x))
    → value_at w k o j ≡ value_at w m o j
at_alike w m k None j f = refl
at_alike w m k (Some x) j f = value_alike w m k x j (f x refl)

pub ranked_at : (r : ℕ → ℕ) (es : List Entry) (n : ℕ) (x : Node) → IsRankedBy r es
    → node_at es n ≡ Some x → AllByRecursion (λ d. r d.node < r n) (reads x)
ranked_at r es n x a h = all_found (λ e. AllByRecursion (λ d. r d.node < r e.number) (reads e.node))
    es n x h a

stable : (w : World) (r : ℕ → ℕ) (es : List Entry) → IsRankedBy r es → (k j : ℕ) (c : Place)
    → r c.node < k → r c.node < j → solve w es k c ≡ solve w es j c
stable w r es ra zero j c p q = absurd (omega arith)
stable w r es ra (suc k) zero c p q = absurd (omega arith)
stable w r es ra (suc k) (suc j) c p q =
    solve_next w es k c
    ∙ at_alike w (solve w es j) (solve w es k) (node_at es c.node) c.out
    (λ x h. Each-weaker (λ (d : Place). r d.node < r c.node) (λ d. solve w es k d ≡ solve w es j d)
    (λ d i. stable w r es ra k j d (omega arith) (omega arith)) (reads x)
    (ranked_at r es c.node x ra h))
    ∙ sym (solve_next w es j c)

apart : (e : Entry) (es : List Entry) (d : Entry) (b : Bool) → eqb e.number d.number ≡ b
    → (d.number ≡ e.number → ⊥) → node_at es d.number ≡ Some d.node
    → cond b (Some e.node) (node_at es d.number) ≡ Some d.node
apart e es d true i f h = absurd (f (sym (eqb-true e.number d.number i)))
apart e es d false i f h = h

-- each node is the one under its number
pub each_found : (es : List Entry) → AllDiffer es
    → AllByRecursion (λ e. node_at es e.number ≡ Some e.node) es
each_found [] d = tt
each_found (e ∷ es) d = (
  rw (eq-eqb e.number e.number refl) refl,
  all_three (λ d. d.number ≡ e.number → ⊥) (λ d. node_at es d.number ≡ Some d.node) (λ d. Unit {0})
      (λ d. node_at (e ∷ es) d.number ≡ Some d.node)
      (λ d a b _. apart e es d (eqb e.number d.number) refl a b) es d.0 (each_found es d.1)
      (Each-weaker (λ d. node_at es d.number ≡ Some d.node) (λ d. Unit {0}) (λ d h. tt) es
      (each_found es d.1)),
)

abbrev Stands : List Entry → ℕ → Type 0
Stands [] n = ⊥
Stands (e ∷ es) n = (e.number ≡ n) ⊎ Stands es n

stands_by : (e : Entry) (es : List Entry) (n : ℕ) (x : Node) (b : Bool) → eqb e.number n ≡ b
    → cond b (Some e.node) (node_at es n) ≡ Some x → (node_at es n ≡ Some x → Stands es n)
    → (e.number ≡ n) ⊎ Stands es n
stands_by e es n x true i h f = inl (eqb-true e.number n i)
stands_by e es n x false i h f = inr (f h)

found_stands : (es : List Entry) (n : ℕ) (x : Node) → node_at es n ≡ Some x → Stands es n
found_stands [] n x h = let bad : ⊥ = cc in absurd bad
found_stands (e ∷ es) n x h = stands_by e es n x (eqb e.number n) refl h
    (λ i. found_stands es n x i)

pub gives_found : (o : Option Node) (j : ℕ) → gives_at o j ≡ true → (x : Node) × (o ≡ Some x)
    × (gives x j ≡ true)
gives_found None j h = absurd (false≢true h)
gives_found (Some x) j h = (x, refl, h)

pub there_found : (es : List Entry) (c : Place) → IsThere es c → (x : Node)
    × (node_at es c.node ≡ Some x) × (gives x c.out ≡ true)
there_found es c h = gives_found (node_at es c.node) c.out h

-- how many nodes are of lower rank: a rank again, and at most the number of nodes
abbrev lower_nodes : (ℕ → ℕ) → List Entry → ℕ → ℕ
lower_nodes r [] b = 0
lower_nodes r (e ∷ es) b = cond (ltb (r e.number) b) 1 0 + lower_nodes r es b

abbrev pub place_of : (ℕ → ℕ) → List Entry → ℕ → ℕ
place_of r es n = lower_nodes r es (r n)

pub lower_most : (r : ℕ → ℕ) (es : List Entry) (b : ℕ) → lower_nodes r es b ≤ length es
lower_most r [] b = omega arith
lower_most r (e ∷ es) b = let i = lower_most r es b in
    elim (ltb (r e.number) b) as (λ t. cond t 1 0 + lower_nodes r es b ≤ suc (length es))
    [ true ↦ omega arith | false ↦ omega arith ]

one_rises : (v a b x y : ℕ) → a ≤ b → x ≤ y → cond (ltb v a) 1 0 + x ≤ cond (ltb v b) 1 0 + y
one_rises v a b x y h i = grind (arith, nat_tests)

one_more : (v a b x y : ℕ) → v ≡ a → a < b → x ≤ y → cond (ltb v a) 1 0 + x < cond (ltb v b) 1 0 + y
one_more v a b x y e h i = grind (arith, nat_tests)

one_strict : (v a b x y : ℕ) → a < b → x < y → cond (ltb v a) 1 0 + x < cond (ltb v b) 1 0 + y
one_strict v a b x y h i = grind (arith, nat_tests)

lower_rises : (r : ℕ → ℕ) (es : List Entry) (a b : ℕ) → a ≤ b
    → lower_nodes r es a ≤ lower_nodes r es b
lower_rises r [] a b h = omega arith
lower_rises r (e ∷ es) a b h = one_rises (r e.number) a b (lower_nodes r es a) (lower_nodes r es b)
    h (lower_rises r es a b h)

lower_strict : (r : ℕ → ℕ) (es : List Entry) (n b : ℕ) → Stands es n → r n < b
    → lower_nodes r es (r n) < lower_nodes r es b
lower_strict r [] n b s h = absurd s
lower_strict r (e ∷ es) n b (inl s) h = one_more (r e.number) (r n) b (lower_nodes r es (r n))
    (lower_nodes r es b) (ap r s) h (lower_rises r es (r n) b (omega arith))
lower_strict r (e ∷ es) n b (inr s) h = one_strict (r e.number) (r n) b (lower_nodes r es (r n))
    (lower_nodes r es b) h (lower_strict r es n b s h)

pub short_ranked : (r : ℕ → ℕ) (all es : List Entry)
    → AllByRecursion (λ e. AllByRecursion (IsThere all) (reads e.node)) es → IsRankedBy r es
    → IsRankedBy (place_of r all) es
short_ranked r all [] t a = tt
short_ranked r all (e ∷ es) t a = (
  Each-both (IsThere all) (λ (c : Place). r c.node < r e.number)
      (λ (c : Place). place_of r all c.node < place_of r all e.number)
      (λ c u v. let x = there_found all c u in
      lower_strict r all c.node (r e.number) (found_stands all c.node x.0 x.1) v) (reads e.node)
      t.0 a.0,
  short_ranked r all es t.1 a.1,
)

-- where m is at each output what the node gives there, it holds of the node
holds_from : (w : World) (m : Place → Collection) (n : ℕ) (x : Node) → HasOuts x
    → ((j : ℕ) → m (place n j) ≡ value w m x j) → Holds w m n x
holds_from w m n (Pdo c f) o h = fits_from w m n (m c) f o (λ j _. h j)
holds_from w m n _ o h = h 0

-- there is a meaning
pub collection_meets : (w : World) (g : Graph) → IsSound g → Meets w g.nodes (collection w g)
collection_meets w g ok =
    let es : List Entry = g.nodes in
    let m : Place → Collection = collection w g in
    let r : ℕ → ℕ = place_of ok.ranked.0 es in
    let ra : IsRankedBy r es = short_ranked ok.ranked.0 es es ok.there ok.ranked.1 in
    Each-both (λ e. node_at es e.number ≡ Some e.node) (λ (e : Entry). HasOuts e.node)
    (λ (e : Entry). Holds w m e.number e.node) (λ e h o. holds_from w m e.number e.node o (λ j.
    collection_is w g (place e.number j) ∙ solve_next w es (length es) (place e.number j)
    ∙ ap (λ (x : Option Node). value_at w (solve w es (length es)) x j) h
    ∙ value_alike w m (solve w es (length es)) e.node j
    (Each-weaker (λ (d : Place). r d.node < r e.number) (λ d. solve w es (length es) d ≡ m d)
    (λ d i. let top : r e.number ≤ length es =
    lower_most ok.ranked.0 es (ok.ranked.0 e.number) in
    stable w r es ra (length es) (suc (length es)) d (omega arith) (omega arith)
    ∙ sym (collection_is w g d)) (reads e.node) (ranked_at r es e.number e.node ra h)))) es
    (each_found es ok.differ) ok.outs

-- there is no other
holds_one : (w : World) (m k : Place → Collection) (n j : ℕ) (x : Node) → gives x j ≡ true
    → AllByRecursion (λ c. k c ≡ m c) (reads x) → Holds w m n x → Holds w k n x
    → k (place n j) ≡ m (place n j)
holds_one w m k n j (Source r) g a h i = rw (eqb-true j 0 g) (i ∙ sym h)
holds_one w m k n j (Flatten ins) g a h i =
    rw (eqb-true j 0 g) (i ∙ ap together (map_alike m k ins a) ∙ sym h)
holds_one w m k n j (Pdo c f) g a h i = one_value w m k n (m c) f j h
    (subst (λ (v : Collection). FitsForest w k n v f) a.0 i) g
holds_one w m k n j (Gbk c o l e) g a h i = rw (eqb-true j 0 g) (i ∙ ap (by_key) a.0 ∙ sym h)
holds_one w m k n j (Barrier ins o l e) g a h i =
    rw (eqb-true j 0 g) (i ∙ ap (act_result w o e) (map_alike m k ins a) ∙ sym h)

only : (w : World) (g : Graph) (m k : Place → Collection) → IsSound g → Meets w g.nodes m
    → Meets w g.nodes k → (r : ℕ → ℕ) → IsRankedBy r g.nodes → (fuel : ℕ) (c : Place)
    → r c.node < fuel → IsThere g.nodes c → k c ≡ m c
only w g m k ok h i r ra zero c p t = absurd (omega arith)
only w g m k ok h i r ra (suc fuel) c p t =
    let x = there_found g.nodes c t in
    let reads_there : AllByRecursion (IsThere g.nodes) (reads x.0) =
    all_found (λ e. AllByRecursion (IsThere g.nodes) (reads e.node)) g.nodes c.node x.0 x.1
    ok.there in
    holds_one w m k c.node c.out x.0 x.2
    (Each-both (λ (d : Place). r d.node < r c.node) (IsThere g.nodes) (λ d. k d ≡ m d)
    (λ d u v. only w g m k ok h i r ra fuel d (omega arith) v) (reads x.0)
    (ranked_at r g.nodes c.node x.0 ra x.1) reads_there)
    (all_found (λ e. Holds w m e.number e.node) g.nodes c.node x.0 x.1 h)
    (all_found (λ e. Holds w k e.number e.node) g.nodes c.node x.0 x.1 i)

pub only_meaning : (w : World) (g : Graph) (m k : Place → Collection) → IsSound g
    → Meets w g.nodes m
    → Meets w g.nodes k → (c : Place) → IsThere g.nodes c → k c ≡ m c
only_meaning w g m k ok h i c t = only w g m k ok h i ok.ranked.0 ok.ranked.1
    (suc (ok.ranked.0 c.node)) c (omega arith) t

-- two meanings look the same
own-alike : (w : World) (k m : Place → Collection) (i : ℕ) (x : Node)
    → AllByRecursion (λ c. k c ≡ m c) (reads x) → own w k i x ≡ own w m i x
own-alike w k m i (Source s) a = refl
own-alike w k m i (Flatten ins) a = refl
own-alike w k m i (Pdo c f) a = ap (λ (v : Collection). total w (step_own w i) v f) a.0
own-alike w k m i (Gbk c o l e) a = ap (λ (v : Collection). cond (l && eqb o i) (by_key v).bag [])
    a.0
own-alike w k m i (Barrier ins o l e) a =
    ap (λ (cs : List Collection). cond (l && eqb o i) (act_result w o e cs).bag [])
    (map_alike m k ins a)

traps-alike : (w : World) (k m : Place → Collection) (x : Node) → AllByRecursion (λ c. k c ≡ m c)
    (reads x)
    → traps w k x ≡ traps w m x
traps-alike w k m (Source s) a = refl
traps-alike w k m (Flatten ins) a = ap (λ (cs : List Collection). (together cs).traps)
    (map_alike m k ins a)
traps-alike w k m (Pdo c f) a = ap (λ (v : Collection). total w (step_traps w) v f) a.0
traps-alike w k m (Gbk c o l e) a = ap (λ (v : Collection). v.traps) a.0
traps-alike w k m (Barrier ins o l e) a =
    ap (λ (cs : List Collection). (act_result w o e cs).traps) (map_alike m k ins a)

pub Agrees-self : (w : World) (g : Graph) (m k : Place → Collection) → IsSound g → Meets w g.nodes m
    → Meets w g.nodes k → Agrees w g g m k
Agrees-self w g m k ok h i =
    let same : (cs : List Place) → AllByRecursion (IsThere g.nodes) cs
    → AllByRecursion (λ c. k c ≡ m c) cs =
    λ cs a. Each-weaker (IsThere g.nodes) (λ c. k c ≡ m c) (λ c t. only_meaning w g m k ok h i c t)
    cs a in
    record {
      outputs = sym (map_alike m k g.outputs (same g.outputs ok.told));
      own = λ n. sym (ap (λ (l : List Value). bag_of l)
          (flat_map_alike (λ e. own w k n e.node) (λ e. own w m n e.node) g.nodes
          (Each-weaker (λ (e : Entry). AllByRecursion (IsThere g.nodes) (reads e.node))
          (λ e. own w k n e.node ≡ own w m n e.node)
          (λ e a. own-alike w k m n e.node (same (reads e.node) a)) g.nodes ok.there)));
      traps = sym (ap (λ l. gather (put_new trap_le) l [])
          (flat_map_alike (λ e. traps w k e.node) (λ e. traps w m e.node) g.nodes
          (Each-weaker (λ (e : Entry). AllByRecursion (IsThere g.nodes) (reads e.node))
          (λ e. traps w k e.node ≡ traps w m e.node)
          (λ e a. traps-alike w k m e.node (same (reads e.node) a)) g.nodes ok.there)));
    }

-- what a pass has to show is what a reader wants
pub SameMeaning-from_kept : (g h : Graph) → IsSound g → IsSound h → KeepsMeaning g h
    → SameMeaning g h
SameMeaning-from_kept g h okg okh a w =
    let x = a w (collection w g) (collection_meets w g okg) in
    let b = Agrees-self w h x.0 (collection w h) okh x.1 (collection_meets w h okh) in
    record {
      outputs = x.2.outputs ∙ b.outputs;
      own = λ i. x.2.own i ∙ b.own i;
      traps = x.2.traps ∙ b.traps;
    }
