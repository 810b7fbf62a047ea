-- The test of numbers and reads says what it is to say.
use Rattle.std.proofs.Common.{◌≡◌, ℕ, ◌<◌, Bool, true, false, cond, eqb, ltb, ◌||◌, ◌&&◌, List, [], ◌∷◌, map, Option, Some, None, refl, sym, ap, ◌∙◌, subst, arith}
use Rattle.std.specs.List.{AllByRecursion, list_all}
use Rattle.std.proofs.lemmas.Bool.{eqb-true, false≢true, lt-ltb}
use Rattle.std.proofs.lemmas.Bool.Decides.{nat_tests}
use Rattle.exec_graph.specs.declared.graph.Place.{Place}
use Rattle.exec_graph.specs.declared.graph.Node.{Node}
use Rattle.exec_graph.specs.declared.graph.Node.TheVariants.{Source, Flatten, Pdo, Gbk, Barrier}
use Rattle.exec_graph.specs.declared.graph.Entry.{Entry}
use Rattle.exec_graph.specs.declared.graph.Graph.{Graph}
use Rattle.exec_graph.specs.Meaning.{reads, node_at, gives, gives_at, IsThere}
use Rattle.exec_graph.specs.Wellformed.{Ascends, IsFounded}
use Rattle.graph_checks.specs.inner.Numbers.{is_given, reads_given, above, up_from}
use Rattle.graph_checks.specs.inner.Edges.{numbers, IsRising, edges_of}
use Rattle.graph_checks.specs.inner.Order.{HasRank, IsWithin}
use Rattle.graph_checks.proofs.Edging.{edges, edges_within, rank_to, rank_from}
use Rattle.std.specs.Prelude.{IsTrue}
use Rattle.flume_value.proofs.EachLemmas.{Each-weaker}
use Rattle.flume_value.proofs.BoolLemmas.{both_true, and_both}
use Rattle.graph_checks.proofs.Spotting.{swap}

less_from : (m n : ℕ) → ltb m n ≡ true → m < n
less_from m n h = grind (arith, nat_tests)

pub record Rise (next : ℕ) (es : List Entry) : Type 0 where
  pub ascends : Ascends es
  pub below : AllByRecursion (λ e. e.number < next) es

abbrev Higher : Option ℕ → List Entry → Type 0
Higher None es = Unit {0}
Higher (Some m) es = AllByRecursion (λ e. m < e.number) es

higher_first : (low : Option ℕ) (e : Entry) (es : List Entry) → above low e.number ≡ true
    → AllByRecursion (λ d. e.number < d.number) es → Higher low (e ∷ es)
higher_first None e es h a = tt
higher_first (Some m) e es h a = let l = less_from m e.number h in (
  l,
  Each-weaker (λ (d : Entry). e.number < d.number) (λ d. m < d.number) (λ d q. omega arith) es
      a,
)

rise_from : (low : Option ℕ) (next : ℕ) (es : List Entry) → up_from low next es ≡ true
    → Higher low es × Rise next es
rise_from None next [] h = (tt, record { ascends = tt; below = tt })
rise_from (Some m) next [] h = (tt, record { ascends = tt; below = tt })
rise_from low next (e ∷ es) h =
    let p = both_true (above low e.number) (ltb e.number next && up_from (Some e.number) next es)
    h in
    let q = both_true (ltb e.number next) (up_from (Some e.number) next es) p.1 in
    let i = rise_from (Some e.number) next es q.1 in (
      higher_first low e es p.0 i.0,
      record {
        ascends = (i.0, i.1.ascends);
        below = (less_from e.number next q.0, i.1.below);
      },
    )

above_from : (low : Option ℕ) (e : Entry) (es : List Entry) → Higher low (e ∷ es)
    → above low e.number ≡ true
above_from None e es h = refl
above_from (Some m) e es h = lt-ltb m e.number h.0

up_all : (low : Option ℕ) (next : ℕ) (es : List Entry) → Higher low es → Rise next es
    → up_from low next es ≡ true
up_all low next [] h r = refl
up_all low next (e ∷ es) h r = and_both (above low e.number)
    (ltb e.number next && up_from (Some e.number) next es) (above_from low e es h)
    (and_both (ltb e.number next) (up_from (Some e.number) next es) (lt-ltb e.number next r.below.0)
    (up_all (Some e.number) next es r.ascends.0
    (record { ascends = r.ascends.1; below = r.below.1 })))

pub rise : (next : ℕ) (es : List Entry) → up_from None next es ≡ true → Rise next es
rise next es h = (rise_from None next es h).1

pub risen : (next : ℕ) (es : List Entry) → Rise next es → up_from None next es ≡ true
risen next es r = up_all None next es tt r

pub rising : (es : List Entry) → Ascends es → IsRising (numbers es)
rising [] a = tt
rising (e ∷ es) a = (all_numbers es a.0, rising es a.1)
  where
    all_numbers : (ds : List Entry) → AllByRecursion (λ d. e.number < d.number) ds
        → AllByRecursion (λ m. e.number < m) (numbers ds)
    all_numbers [] b = tt
    all_numbers (d ∷ ds) b = (b.0, all_numbers ds b.1)

-- ---- what is there
none_given : (es : List Entry) (c : Place) (n : ℕ) → AllByRecursion (λ d. n < d.number) es
    → c.node ≡ n → is_given es c ≡ false
none_given [] c n a e = refl
none_given (d ∷ ds) c n a e = by (eqb c.node d.number) refl (none_given ds c n a.1 e)
  where
    by : (b : Bool) → eqb c.node d.number ≡ b → is_given ds c ≡ false
        → ((b && gives d.node c.out) || is_given ds c) ≡ false
    by true q i = let l : n < d.number = a.0 in
        let s : c.node ≡ d.number = eqb-true c.node d.number q in absurd (omega arith)
    by false q i = i

pub or_false : (a : Bool) → (a || false) ≡ a
or_false true = refl
or_false false = refl

given_there : (es : List Entry) (c : Place) → Ascends es
    → is_given es c ≡ gives_at (node_at es c.node) c.out
given_there [] c a = refl
given_there (e ∷ es) c a = ap (λ (b : Bool). (b && gives e.node c.out) || is_given es c)
    (swap c.node e.number) ∙ by (eqb e.number c.node) refl (given_there es c a.1)
  where
    by : (b : Bool) → eqb e.number c.node ≡ b → is_given es c ≡ gives_at (node_at es c.node) c.out
        → ((b && gives e.node c.out) || is_given es c)
        ≡ gives_at (cond b (Some e.node) (node_at es c.node)) c.out
    by true q i = ap (λ (r : Bool). gives e.node c.out || r)
        (none_given es c e.number a.0 (sym (eqb-true e.number c.node q)))
        ∙ or_false (gives e.node c.out)
    by false q i = i

all_true : (p : Place → Bool) (cs : List Place) → list_all p cs ≡ true
    → AllByRecursion (λ c. p c ≡ true) cs
all_true p [] h = tt
all_true p (c ∷ cs) h = let q = both_true (p c) (list_all p cs) h in (q.0, all_true p cs q.1)

true_all : (p : Place → Bool) (cs : List Place) → AllByRecursion (λ c. p c ≡ true) cs
    → list_all p cs ≡ true
true_all p [] a = refl
true_all p (c ∷ cs) a = and_both (p c) (list_all p cs) a.0 (true_all p cs a.1)

entries_true : (p : Entry → Bool) (es : List Entry) → list_all p es ≡ true
    → AllByRecursion (λ e. p e ≡ true) es
entries_true p [] h = tt
entries_true p (e ∷ es) h = let q = both_true (p e) (list_all p es) h in
    (q.0, entries_true p es q.1)

true_entries : (p : Entry → Bool) (es : List Entry) → AllByRecursion (λ e. p e ≡ true) es
    → list_all p es ≡ true
true_entries p [] a = refl
true_entries p (e ∷ es) a = and_both (p e) (list_all p es) a.0 (true_entries p es a.1)

places_there : (es : List Entry) (cs : List Place) → Ascends es
    → list_all (is_given es) cs ≡ true → AllByRecursion (IsThere es) cs
places_there es cs up h = Each-weaker (λ c. is_given es c ≡ true) (IsThere es)
    (λ c q. sym (given_there es c up) ∙ q) cs (all_true (is_given es) cs h)

there_places : (es : List Entry) (cs : List Place) → Ascends es → AllByRecursion (IsThere es) cs
    → list_all (is_given es) cs ≡ true
there_places es cs up a = true_all (is_given es) cs
    (Each-weaker (IsThere es) (λ c. is_given es c ≡ true) (λ c q. given_there es c up ∙ q) cs a)

node_there : (es : List Entry) (x : Node) → Ascends es → reads_given es x ≡ true
    → AllByRecursion (IsThere es) (reads x)
node_there es (Source r) up h = tt
node_there es (Flatten ins) up h = places_there es ins up h
node_there es (Pdo c f) up h = (sym (given_there es c up) ∙ h, tt)
node_there es (Gbk c o l k) up h = (sym (given_there es c up) ∙ h, tt)
node_there es (Barrier ins o l a) up h = places_there es ins up h

there_node : (es : List Entry) (x : Node) → Ascends es → AllByRecursion (IsThere es) (reads x)
    → reads_given es x ≡ true
there_node es (Source r) up a = refl
there_node es (Flatten ins) up a = there_places es ins up a
there_node es (Pdo c f) up a = given_there es c up ∙ a.0
there_node es (Gbk c o l k) up a = given_there es c up ∙ a.0
there_node es (Barrier ins o l i) up a = there_places es ins up a

nodes_there : (es : List Entry) → Ascends es → list_all (λ e. reads_given es e.node) es ≡ true
    → AllByRecursion (λ e. AllByRecursion (IsThere es) (reads e.node)) es
nodes_there es up h = Each-weaker (λ (e : Entry). reads_given es e.node ≡ true)
    (λ e. AllByRecursion (IsThere es) (reads e.node)) (λ e q. node_there es e.node up q) es
    (entries_true (λ e. reads_given es e.node) es h)

there_nodes : (es : List Entry) → Ascends es
    → AllByRecursion (λ e. AllByRecursion (IsThere es) (reads e.node)) es
    → list_all (λ e. reads_given es e.node) es ≡ true
there_nodes es up a = true_entries (λ e. reads_given es e.node) es
    (Each-weaker (λ (e : Entry). AllByRecursion (IsThere es) (reads e.node))
    (λ e. reads_given es e.node ≡ true) (λ e q. there_node es e.node up q) es a)

-- ---- the test as a whole
abbrev pub Says : Bool → Type 0 → Type 0
Says b P = (IsTrue b → P) × (P → IsTrue b)

pub no_such : (P : Type 0) → (P → ⊥) → Says false P
no_such P h = (λ t. absurd (false≢true t), λ p. absurd (h p))

pub not_rising : (g : Graph) (ns : List Entry) (b : Bool) → ns ≡ g.nodes
    → b ≡ up_from None g.next ns → b ≡ false → Says false (IsFounded g)
not_rising g ns b e f h = no_such (IsFounded g)
    (λ k. false≢true (sym h ∙ f ∙ ap (up_from None g.next) e
    ∙ risen g.next g.nodes (record { ascends = k.ascends; below = k.below })))

pub not_read : (g : Graph) (ns : List Entry) (b : Bool) → ns ≡ g.nodes
    → b ≡ list_all (λ e. reads_given ns e.node) ns → b ≡ false → Says false (IsFounded g)
not_read g ns b e f h = no_such (IsFounded g)
    (λ k. false≢true (sym h ∙ f ∙ ap (λ (es : List Entry). list_all
    (λ (x : Entry). reads_given es x.node) es) e ∙ there_nodes g.nodes k.ascends k.there))

pub not_told : (g : Graph) (ns : List Entry) (cs : List Place) (b : Bool) → ns ≡ g.nodes
    → cs ≡ g.outputs → b ≡ list_all (is_given ns) cs → b ≡ false → Says false (IsFounded g)
not_told g ns cs b e o f h = no_such (IsFounded g)
    (λ k. false≢true (sym h ∙ f ∙ ap (λ (es : List Entry). list_all (is_given es) cs) e
    ∙ ap (list_all (is_given g.nodes)) o ∙ there_places g.nodes g.outputs k.ascends k.told))

pub ascends_now : (g : Graph) (ns : List Entry) (b : Bool) → ns ≡ g.nodes
    → b ≡ up_from None g.next ns → b ≡ true → Rise g.next g.nodes
ascends_now g ns b e f h = rise g.next g.nodes (sym (ap (up_from None g.next) e) ∙ sym f ∙ h)

pub rising_now : (g : Graph) (ns : List Entry) (b : Bool) (xs : List ℕ) → ns ≡ g.nodes
    → b ≡ up_from None g.next ns → b ≡ true → xs ≡ numbers ns → IsRising xs
rising_now g ns b xs e f h n = subst IsRising (sym (n ∙ ap numbers e))
    (rising g.nodes (ascends_now g ns b e f h).ascends)

edges_now : (g : Graph) (ns : List Entry) (xs : List ℕ) (es : List (List ℕ)) → ns ≡ g.nodes
    → xs ≡ numbers ns → es ≡ map (λ (e : Entry). edges_of xs e.node) ns → es ≡ edges g.nodes
edges_now g ns xs es e n m = m ∙ ap (λ (ys : List ℕ). map (λ (e : Entry). edges_of ys e.node) ns) n
    ∙ ap edges e

pub there_now : (g : Graph) (ns : List Entry) (r : Rise g.next g.nodes) (b : Bool) → ns ≡ g.nodes
    → b ≡ list_all (λ e. reads_given ns e.node) ns → b ≡ true
    → AllByRecursion (λ e. AllByRecursion (IsThere g.nodes) (reads e.node)) g.nodes
there_now g ns r b e f h = nodes_there g.nodes r.ascends
    (sym (ap (λ (es : List Entry). list_all (λ (x : Entry). reads_given es x.node) es) e) ∙ sym f
    ∙ h)

pub told_now : (g : Graph) (ns : List Entry) (cs : List Place) (r : Rise g.next g.nodes) (b : Bool)
    → ns ≡ g.nodes → cs ≡ g.outputs → b ≡ list_all (is_given ns) cs → b ≡ true
    → AllByRecursion (IsThere g.nodes) g.outputs
told_now g ns cs r b e o f h = places_there g.nodes g.outputs r.ascends
    (sym (ap (λ (es : List Entry). list_all (is_given es) cs) e
    ∙ ap (list_all (is_given g.nodes)) o) ∙ sym f ∙ h)

pub within_now : (g : Graph) (ns : List Entry) (xs : List ℕ) (es : List (List ℕ)) → ns ≡ g.nodes
    → xs ≡ numbers ns → es ≡ map (λ (e : Entry). edges_of xs e.node) ns
    → AllByRecursion (λ e. AllByRecursion (IsThere g.nodes) (reads e.node)) g.nodes → IsWithin es
within_now g ns xs es e n m t = subst IsWithin (sym (edges_now g ns xs es e n m))
    (edges_within g.nodes t)

pub founded_now : (g : Graph) (ns : List Entry) (xs : List ℕ) (es : List (List ℕ)) (b : Bool)
    → ns ≡ g.nodes → xs ≡ numbers ns → es ≡ map (λ (e : Entry). edges_of xs e.node) ns
    → Rise g.next g.nodes → AllByRecursion (λ e. AllByRecursion (IsThere g.nodes) (reads e.node))
    g.nodes → AllByRecursion (IsThere g.nodes) g.outputs → Says b (HasRank es)
    → Says b (IsFounded g)
founded_now g ns xs es b e n m r t o s =
    let q : es ≡ edges g.nodes = edges_now g ns xs es e n m in (
      λ i. record {
        ascends = r.ascends;
        below = r.below;
        there = t;
        told = o;
        ranked = rank_from g.nodes (rising g.nodes r.ascends) (subst HasRank q (s.0 i));
      },
      λ k. s.1 (subst HasRank (sym q) (rank_to g.nodes k.ranked.0 t k.ranked.1)),
    )
