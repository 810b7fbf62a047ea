-- What stands where while two Pdos become one.
use Rattle.std.proofs.Common.{◌≡◌, ◌⊎◌, ℕ, ◌/◌, ◌<◌, Bool, cond, eqb, Some, inl, inr, refl, sym, ap, ◌∙◌, subst, arith}
use Rattle.std.proofs.lemmas.Bool.{eq-eqb, ne_eqb}
use Rattle.exec_graph.specs.Forests.{Forest, Bare}
use Rattle.exec_graph.specs.Meaning.{HasOuts, IsSound, OutsDiffer, node_at, place}
use Rattle.exec_graph.specs.declared.graph.Entry.{Entry}
use Rattle.exec_graph.specs.declared.graph.Graph.{Graph}
use Rattle.exec_graph.specs.declared.graph.Node.TheVariants.{Pdo}
use Rattle.exec_graph.specs.declared.graph.Place.{Place}
use Rattle.exec_graph.proofs.Entries.{all_found}
use Rattle.graph_laws.specs.Joining.{joined_into, set_node, without}
use Rattle.graph_laws.specs.Kids.{apart, even, named_by, renewed}
use Rattle.graph_laws.proofs.Changes.{node_at-without_other}
use Rattle.graph_laws.proofs.Renaming.{differ_named}
use Rattle.graph_laws.proofs.Wellness.{node_at-set_same, reads_lower}
use Rattle.graph_rewrites.specs.Rewrites.{CanBeKid, CanBeSibling, after_sibling, forest_at, input_at, input_of, kid_under, kid_under_other}
use Rattle.graph_joining.specs.declared.joining.Manner.TheVariants.{Kid, Sibling}
use Rattle.graph_joining.specs.declared.moves.Apart.{Apart}
use Rattle.graph_joining.specs.inner.Apart.{apart_place, gone_by}
use Rattle.graph_joining.specs.inner.Joined.{IsOfOne, Stand, joined_by, together}
use Rattle.graph_joining.specs.inner.Refits.{parted, refitted_by}
use Rattle.graph_joining.proofs.Together.{joined_apart, joined_swapped}

abbrev pub apart_as : ℕ → ℕ → ℕ → Apart
apart_as p q n = record { keeper = p; other = q; number = n }

outs_at : (g : Graph) (p : ℕ) (c : Place) (f : Forest) → IsSound g
    → node_at g.nodes p ≡ Some (Pdo c f) → OutsDiffer f
outs_at g p c f ok at = all_found (λ (e : Entry). HasOuts e.node) g.nodes p (Pdo c f) at ok.outs

-- where what p reads comes before q too
stands_by : (g : Graph) (p q : ℕ) (d : Place) → (ok : IsSound g)
    → node_at g.nodes p ≡ Some (Pdo (input_at g p) (forest_at g p))
    → node_at g.nodes q ≡ Some (Pdo d (forest_at g q)) → (p ≡ q → ⊥)
    → ok.ranked.0 (input_at g p).node < ok.ranked.0 q → Stand g p q
stands_by g p q d ok keeper other apart less =
    let r : ℕ → ℕ = ok.ranked.0 in
    let c : Place = input_at g p in
    let c_p : r c.node < r p = reads_lower g p c (forest_at g p) r keeper ok.ranked.1 in
    record {
      keeper = keeper;
      other = other ∙ ap (λ (x : Place). Some (Pdo x (forest_at g q))) (sym (ap input_of other));
      differ = record {
        apart = apart;
        own = λ i. let s : r c.node ≡ r p = ap r i in omega arith;
        away = λ i. let s : r c.node ≡ r q = ap r i in omega arith;
      };
      outs = outs_at g p c (forest_at g p) ok keeper;
    }

pub kid_stands : (g : Graph) (p k q : ℕ) → IsSound g → CanBeKid g p k q → Stand g p q
kid_stands g p k q ok can =
    let r : ℕ → ℕ = ok.ranked.0 in
    let c : Place = input_at g p in
    let c_p : r c.node < r p = reads_lower g p c (forest_at g p) r can.keeper ok.ranked.1 in
    let p_q : r p < r q = reads_lower g q (place p k) (forest_at g q) r can.other ok.ranked.1 in
    stands_by g p q (place p k) ok can.keeper can.other
    (λ i. let s : r p ≡ r q = ap r i in omega arith) (omega arith)

pub sibling_stands : (g : Graph) (p q : ℕ) → IsSound g → CanBeSibling g p q → Stand g p q
sibling_stands g p q ok can =
    stands_by g p q (input_at g p) ok can.keeper can.other can.differ
    (reads_lower g q (input_at g p) (forest_at g q) ok.ranked.0 can.other ok.ranked.1)

-- ---- on the way

-- the Pdo that is left stands there without steps
pub left_at : (g left : Graph) (a : Apart) (c : Place) → Stand g a.keeper a.other → IsOfOne a
    → left ≡ parted g a.number (gone_by a) c → node_at left.nodes a.number ≡ Some (Pdo c Bare)
left_at g left a c s one is =
    ap (λ (x : Graph). node_at x.nodes a.number) is ∙ by one
  where
    p : ℕ
    p = a.keeper

    q : ℕ
    q = a.other

    at : (n m : ℕ) (d : Place) (f : Forest) → node_at g.nodes n ≡ Some (Pdo d f) → (n ≡ m → ⊥)
        → node_at (set_node (without g.nodes m) n (Pdo c Bare)) n ≡ Some (Pdo c Bare)
    at n m d f here differ =
        node_at-set_same (without g.nodes m) n (Pdo c Bare) (Pdo d f)
        (node_at-without_other g.nodes m n (Pdo d f) differ here)

    by : (a.number ≡ p) ⊎ (a.number ≡ q) → node_at
        (set_node (without g.nodes (gone_by a)) a.number (Pdo c Bare)) a.number
        ≡ Some (Pdo c Bare)
    by (inl e) =
        subst (λ (n : ℕ). node_at (set_node (without g.nodes (cond (eqb n p) q p)) n (Pdo c Bare)) n
        ≡ Some (Pdo c Bare)) (sym e)
        (rw (eq-eqb p p refl) (at p q (input_at g p) (forest_at g p) s.keeper s.differ.apart))
    by (inr e) =
        subst (λ (n : ℕ). node_at (set_node (without g.nodes (cond (eqb n p) q p)) n (Pdo c Bare)) n
        ≡ Some (Pdo c Bare)) (sym e)
        (rw (ne_eqb q p (λ i. s.differ.apart (sym i))) (at q p (input_at g q) (forest_at g q)
        s.other (λ i. s.differ.apart (sym i))))

-- the outputs of a forest under even numbers differ
pub even_differ : (f g : Forest) → f ≡ named_by even g → OutsDiffer g → OutsDiffer f
even_differ f g is d =
    subst (λ (x : Forest). OutsDiffer x) (sym is) (differ_named even (λ n. n / 2) even_back g d)
  where
    even_back : (j : ℕ) → (even j) / 2 ≡ j
    even_back j = omega arith

-- ---- where they lead

module _ (g : Graph) (p q : ℕ) (s : Stand g p q) where
  abbrev c : Place
  c = input_at g p

  abbrev f : Forest
  f = forest_at g p

  abbrev h : Forest
  h = forest_at g q

  -- the Pdo n, which takes in the other, with these steps
  abbrev ends : ℕ → ℕ → Forest → Graph
  ends n m all = renewed (refitted_by (apart_place p q n) (parted g n m c) n c all) n c all

  under_keeper : (d : Place) (all : Forest) → ends p (cond (eqb p p) q p) all
      ≡ renewed (joined_into (apart g p q c d f h) p q c all) p c all
  under_keeper d all =
      ap (λ (b : Bool). ends p (cond b q p) all) (eq-eqb p p refl)
      ∙ ap (λ (x : Graph). renewed x p c all) (sym (joined_apart g p q c d f h all s.differ))

  pub kid_is : (k : ℕ) → joined_by g (apart_as p q p) (Kid k) ≡ kid_under g p k q
  kid_is k = under_keeper (place p k) (together (Kid k) f h)

  pub sibling_is : joined_by g (apart_as p q p) Sibling ≡ after_sibling g p q
  sibling_is = under_keeper c (together Sibling f h)

  pub other_is : (k : ℕ) → joined_by g (apart_as p q q) (Kid k) ≡ kid_under_other g p k q
  other_is k =
      let all : Forest = together (Kid k) f h in
      ap (λ (b : Bool). ends q (cond b q p) all) (ne_eqb q p (λ i. s.differ.apart (sym i)))
      ∙ ap (λ (x : Graph). renewed x q c all)
      (sym (joined_swapped g p q c (place p k) (place q k) f h all s.differ))
