-- Ranks of numbers and ranks of places in the list.
use Rattle.std.proofs.Common.{◌≡◌, ℕ, ◌<◌, ◌≤◌, Bool, true, false, cond, eqb, List, [], ◌∷◌, length, map, get_or, zero, suc, Some, refl, sym, ap, subst, arith, inl, inr, ◌⊎◌}
use Rattle.std.specs.Prelude.{Ok, Err}
use Rattle.std.specs.List.{AllByRecursion}
use Rattle.std.specs.Ordering.{nat_cmp}
use Rattle.std.specs.List.Sorted.{IsBinarySearchResult}
use Rattle.std.proofs.lemmas.List.Sorted.{searched}
use Rattle.std.proofs.lemmas.Bool.{eqb-true, eq-eqb, false≢true}
use Rattle.graph_checks.specs.inner.Edges.{numbers, IsRising, index_of, edges_of}
use Rattle.exec_graph.specs.Meaning.{reads, node_at, gives_at, IsThere, IsRankedBy}
use Rattle.graph_checks.specs.inner.Order.{edges_at, IsWithin, HasRank}
use Rattle.graph_checks.proofs.Walks.{all_at}
use Rattle.exec_graph.proofs.Bools.{within_or}
use Rattle.exec_graph.specs.declared.graph.Place.{Place}
use Rattle.exec_graph.specs.declared.graph.Entry.{Entry}
use Rattle.flume_value.proofs.EachLemmas.{Each-both, Each-weaker}

at_index : (ns : List ℕ) (i n : ℕ) → IsRising ns → i < length ns → get_or ns i 0 ≡ n
    → index_of ns n ≡ i
at_index [] i n r h e = absurd (omega arith)
at_index (m ∷ ms) zero n r h e = rw (eq-eqb m n e) refl
at_index (m ∷ ms) (suc i) n r h e = by (eqb m n) refl (at_index ms i n r.1 (omega arith) e)
  where
    by : (b : Bool) → eqb m n ≡ b → index_of ms n ≡ i → cond b 0 (suc (index_of ms n)) ≡ suc i
    by true q j = let l : m < get_or ms i 0 = all_at (λ x. m < x) ms i (omega arith) r.0 in
        let s : m ≡ n = eqb-true m n q in absurd (omega arith)
    by false q j = ap suc j

not_there : (ns : List ℕ) (n : ℕ) → ((k : ℕ) → k < length ns → get_or ns k 0 ≡ n → ⊥)
    → index_of ns n ≡ length ns
not_there [] n h = refl
not_there (m ∷ ms) n h = by (eqb m n) refl (not_there ms n (λ k l e. h (suc k) (omega arith) e))
  where
    by : (b : Bool) → eqb m n ≡ b → index_of ms n ≡ length ms
        → cond b 0 (suc (index_of ms n)) ≡ suc (length ms)
    by true q j = absurd (h 0 (omega arith) (eqb-true m n q))
    by false q j = ap suc j

rising_at : (ns : List ℕ) (i j : ℕ) → IsRising ns → i ≤ j → j < length ns
    → get_or ns i 0 ≤ get_or ns j 0
rising_at [] i j r h l = absurd (omega arith)
rising_at (n ∷ ns) zero zero r h l = omega arith
rising_at (n ∷ ns) zero (suc j) r h l = let a : n < get_or ns j 0 =
    all_at (λ x. n < x) ns j (omega arith) r.0 in omega arith
rising_at (n ∷ ns) (suc i) zero r h l = absurd (omega arith)
rising_at (n ∷ ns) (suc i) (suc j) r h l = rising_at ns i j r.1 (omega arith) (omega arith)

-- what the search finds
pub found_index : (ns : List ℕ) (n i : ℕ) → IsRising ns
    → IsBinarySearchResult (λ y. nat_cmp y n) ns (Ok i) → index_of ns n ≡ i
found_index ns n i r s = let a = searched ns n (Ok i) s (λ x y h l. rising_at ns x y r h l) in
    at_index ns i n r a.0 a.1

pub no_index : (ns : List ℕ) (n i : ℕ) → IsRising ns
    → IsBinarySearchResult (λ y. nat_cmp y n) ns (Err i) → index_of ns n ≡ length ns
no_index ns n i r s =
    let a = searched ns n (Err i) s (λ x y h l. rising_at ns x y r h l) in
    not_there ns n (λ k l e. by k l e a.1 a.2)
  where
    by : (k : ℕ) → k < length ns → get_or ns k 0 ≡ n → ((k : ℕ) → k < i → get_or ns k 0 < n)
        → ((k : ℕ) → i ≤ k → k < length ns → n < get_or ns k 0) → ⊥
    by k l e low high = pick (within_or k i)
      where
        pick : (k < i) ⊎ (i ≤ k) → ⊥
        pick (inl q) = let z = low k q in omega arith
        pick (inr q) = let z = high k q l in omega arith

-- ---- ranks
abbrev pub edges : List Entry → List (List ℕ)
edges es = map (λ (e : Entry). edges_of (numbers es) e.node) es

-- what stands at a place
pub record IsAt (f : Entry → List ℕ) (es : List Entry) (Q : Entry → Type 0) (i : ℕ) : Type 0 where
  pub entry : Entry
  pub edges : edges_at (map f es) i ≡ f entry
  pub number : get_or (numbers es) i 0 ≡ entry.number
  pub holds : Q entry

at_place : (f : Entry → List ℕ) (Q : Entry → Type 0) (es : List Entry) (i : ℕ) → AllByRecursion Q es
    → (edges_at (map f es) i ≡ []) ⊎ IsAt f es Q i
at_place f Q [] i a = inl refl
at_place f Q (e ∷ es) zero a = inr (record { entry = e; edges = refl; number = refl; holds = a.0 })
at_place f Q (e ∷ es) (suc i) a = elim (at_place f Q es i a.1) [
  | inl n ↦ inl n
  | inr h ↦ inr (record {
    entry = h.entry;
    edges = h.edges;
    number = h.number;
    holds = h.holds;
  })
]

each_place : (f : Entry → List ℕ) (Q : Entry → Type 0) (es : List Entry)
    → ((i : ℕ) (e : Entry) → i < length (numbers es) → get_or (numbers es) i 0 ≡ e.number
    → edges_at (map f es) i ≡ f e → Q e) → AllByRecursion Q es
each_place f Q [] h = tt
each_place f Q (e ∷ es) h = (
  h 0 e (omega arith) refl refl,
  each_place f Q es (λ i d l n g. h (suc i) d (omega arith) n g),
)

-- a collection that is there is of a number that is there
there_index : (es : List Entry) (n j : ℕ) → gives_at (node_at es n) j ≡ true
    → (index_of (numbers es) n < length (numbers es))
    × (get_or (numbers es) (index_of (numbers es) n) 0 ≡ n)
there_index [] n j h = absurd (false≢true h)
there_index (e ∷ es) n j h = by (eqb e.number n) refl h (there_index es n j)
  where
    by : (b : Bool) → eqb e.number n ≡ b → gives_at (cond b (Some e.node) (node_at es n)) j ≡ true
        → (gives_at (node_at es n) j ≡ true → (index_of (numbers es) n < length (numbers es))
        × (get_or (numbers es) (index_of (numbers es) n) 0 ≡ n))
        → (cond b 0 (suc (index_of (numbers es) n)) < suc (length (numbers es)))
        × (get_or (e.number ∷ numbers es) (cond b 0 (suc (index_of (numbers es) n))) 0 ≡ n)
    by true q i f = (omega arith, eqb-true e.number n q)
    by false q i f = let x = f i in let y = x.0 in (omega arith, x.1)

numbers-length : (es : List Entry) → length (numbers es) ≡ length es
numbers-length [] = refl
numbers-length (e ∷ es) = ap suc (numbers-length es)

edges-length : (f : Entry → List ℕ) (es : List Entry) → length (map f es) ≡ length es
edges-length f [] = refl
edges-length f (e ∷ es) = ap suc (edges-length f es)

all_map_places : (P : ℕ → Type 0) (f : Place → ℕ) (cs : List Place)
    → AllByRecursion (λ c. P (f c)) cs → AllByRecursion P (map f cs)
all_map_places P f [] a = tt
all_map_places P f (c ∷ cs) a = (a.0, all_map_places P f cs a.1)

all_back_places : (P : ℕ → Type 0) (f : Place → ℕ) (cs : List Place) → AllByRecursion P (map f cs)
    → AllByRecursion (λ c. P (f c)) cs
all_back_places P f [] a = tt
all_back_places P f (c ∷ cs) a = (a.0, all_back_places P f cs a.1)

abbrev AllThere : List Entry → Type 0
AllThere es = AllByRecursion (λ e. AllByRecursion (IsThere es) (reads e.node)) es

pub edges_within : (es : List Entry) → AllThere es → IsWithin (edges es)
edges_within es t i = by (at_place (λ e. edges_of (numbers es) e.node)
    (λ e. AllByRecursion (IsThere es) (reads e.node)) es i t)
  where
    by : (edges_at (edges es) i ≡ []) ⊎ IsAt (λ e. edges_of (numbers es) e.node) es
        (λ e. AllByRecursion (IsThere es) (reads e.node)) i
        → AllByRecursion (λ j. j < length (edges es)) (edges_at (edges es) i)
    by (inl n) = subst (λ (xs : List ℕ). AllByRecursion (λ j. j < length (edges es)) xs) (sym n) tt
    by (inr h) =
        let n = numbers-length es in
        let m = edges-length (λ e. edges_of (numbers es) e.node) es in
        subst (λ (xs : List ℕ). AllByRecursion (λ j. j < length (edges es)) xs) (sym h.edges)
        (all_map_places (λ j. j < length (edges es)) (λ c. index_of (numbers es) c.node)
        (reads h.entry.node)
        (Each-weaker (IsThere es) (λ c. index_of (numbers es) c.node < length (edges es))
        (λ c q. let x = (there_index es c.node c.out q).0 in omega arith) (reads h.entry.node)
        h.holds))

pub rank_to : (es : List Entry) (r : ℕ → ℕ) → AllThere es → IsRankedBy r es → HasRank (edges es)
rank_to es r t a = (
  λ i. r (get_or (numbers es) i 0),
  λ i. by i (at_place (λ e. edges_of (numbers es) e.node) Q es i
      (Each-both (λ e. AllByRecursion (IsThere es) (reads e.node))
      (λ (e : Entry). AllByRecursion (λ (c : Place). r c.node < r e.number) (reads e.node)) Q
      (λ e x y. (x, y)) es t a)),
)
  where
    Q : Entry → Type 0
    Q e = AllByRecursion (IsThere es) (reads e.node)
        × AllByRecursion (λ (c : Place). r c.node < r e.number) (reads e.node)

    by : (i : ℕ) → (edges_at (edges es) i ≡ []) ⊎ IsAt (λ e. edges_of (numbers es) e.node) es Q i
        → AllByRecursion (λ j. r (get_or (numbers es) j 0) < r (get_or (numbers es) i 0))
        (edges_at (edges es) i)
    by i (inl n) = subst (λ (xs : List ℕ). AllByRecursion
        (λ j. r (get_or (numbers es) j 0) < r (get_or (numbers es) i 0)) xs) (sym n) tt
    by i (inr h) = subst (λ (xs : List ℕ). AllByRecursion
        (λ j. r (get_or (numbers es) j 0) < r (get_or (numbers es) i 0)) xs) (sym h.edges)
        (all_map_places (λ j. r (get_or (numbers es) j 0) < r (get_or (numbers es) i 0))
        (λ c. index_of (numbers es) c.node) (reads h.entry.node)
        (Each-both (IsThere es) (λ (c : Place). r c.node < r h.entry.number)
        (λ c. r (get_or (numbers es) (index_of (numbers es) c.node) 0) < r
        (get_or (numbers es) i 0))
        (λ c x l. let e : r (get_or (numbers es) (index_of (numbers es) c.node) 0) ≡ r c.node =
        ap r (there_index es c.node c.out x).1 in
        let f : r (get_or (numbers es) i 0) ≡ r h.entry.number = ap r h.number in omega arith)
        (reads h.entry.node) h.holds.0 h.holds.1))

pub rank_from : (es : List Entry) → IsRising (numbers es) → HasRank (edges es) → (r : ℕ → ℕ)
    × IsRankedBy r es
rank_from es up h = (
  λ n. h.0 (index_of (numbers es) n),
  each_place (λ e. edges_of (numbers es) e.node)
      (λ (e : Entry). AllByRecursion (λ (c : Place). h.0 (index_of (numbers es) c.node) < h.0
      (index_of (numbers es) e.number)) (reads e.node)) es (λ i e l n g.
      let q : index_of (numbers es) e.number ≡ i = at_index (numbers es) i e.number up l n in
      subst (λ (k : ℕ). AllByRecursion (λ (c : Place). h.0 (index_of (numbers es) c.node) < h.0 k)
      (reads e.node)) (sym q)
      (all_back_places (λ j. h.0 j < h.0 i) (λ c. index_of (numbers es) c.node) (reads e.node)
      (subst (λ (xs : List ℕ). AllByRecursion (λ j. h.0 j < h.0 i) xs) g (h.1 i)))),
)
