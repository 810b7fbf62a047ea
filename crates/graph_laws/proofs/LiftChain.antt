-- Lifting all groups that may be lifted is a chain of single ones.
use Rattle.std.proofs.Common.{◌≡◌, ℕ, ◌<◌, Bool, true, false, cond, eqb, ◌&&◌, ◌||◌, List, [], ◌∷◌, Option, Some, None, is_some, map, refl, sym, ap, ◌∙◌, subst}
use Rattle.std.proofs.lemmas.Bool.{eqb-true, eq-eqb, false≢true}
use Rattle.std.specs.List.{AllByRecursion}
use Rattle.combine_table.specs.declared.comb.Comb.{Comb}
use Rattle.combine_table.proofs.of_flume_value.EachLemmas.{Each-both, Each-weaker}
use Rattle.exec_graph.specs.Wellformed.{IsGraphOk, IsNodeOk, comb_at}
use Rattle.exec_graph.specs.Meaning.{AllDiffer, HasOuts, IsSound, IsThere, SameMeaning, place, node_at, reads}
use Rattle.exec_graph.specs.Readers.{among, any_node, calls_on, collects, readers}
use Rattle.exec_graph.specs.declared.graph.Place.{Place}
use Rattle.exec_graph.specs.declared.graph.Node.{Node}
use Rattle.exec_graph.specs.declared.graph.Node.TheVariants.{Source, Gbk}
use Rattle.exec_graph.specs.declared.graph.Entry.{Entry}
use Rattle.exec_graph.specs.declared.graph.Graph.{Graph}
use Rattle.exec_graph.proofs.Bools.{or_right}
use Rattle.exec_graph.proofs.Entries.{all_map}
use Rattle.exec_graph.proofs.Solving.{SameMeaning-from_kept, each_found}
use Rattle.exec_graph.proofs.Soundness.{differ_ascends}
use Rattle.graph_laws.specs.Lifting.{CanLift, LiftsLead, lift_of, lifted, lifted_at, marked, marked_entry, only_comb, remarked}
use Rattle.graph_laws.proofs.Lifting.{KeepsMeaning-remarked, any-marked, calls-marked, collects-marked, marked_at, node_at-marked, reads-marked, root_at-marked, there-marked, those-marked}

abbrev pub Marks : Type 0
Marks = ℕ → Option Comb → Option Comb

-- ---- sound graphs stay sound

differ-marked : (s : Marks) (es : List Entry) → AllDiffer es
    → AllDiffer (map (marked_entry s) es)
differ-marked s [] a = tt
differ-marked s (e ∷ es) a = (
  all_map (marked_entry s) (λ (d : Entry). d.number ≡ e.number → ⊥)
      (λ (d : Entry). d.number ≡ e.number → ⊥) (λ d h. h) es a.0,
  differ-marked s es a.1,
)

outs-marked : (h : Option Comb → Option Comb) (x : Node) → HasOuts x → HasOuts (marked h x)
outs-marked h (Source r) a = a
outs-marked h _ a = a

pub IsSound-remarked : (s : Marks) (g : Graph) → IsSound g → IsSound (remarked s g)
IsSound-remarked s g ok =
    let new : List Entry = map (marked_entry s) g.nodes in
    let r : ℕ → ℕ = ok.ranked.0 in
    let here : (cs : List Place) → AllByRecursion (IsThere g.nodes) cs
    → AllByRecursion (IsThere new) cs =
    λ cs a. Each-weaker (IsThere g.nodes) (IsThere new) (λ c t. there-marked s g.nodes c t) cs a
    in
    record {
      differ = differ-marked s g.nodes ok.differ;
      there = all_map (marked_entry s)
          (λ (e : Entry). AllByRecursion (IsThere g.nodes) (reads e.node))
          (λ (e : Entry). AllByRecursion (IsThere new) (reads e.node))
          (λ e a. subst (AllByRecursion (IsThere new)) (sym (reads-marked (s e.number) e.node))
          (here (reads e.node) a)) g.nodes ok.there;
      told = here g.outputs ok.told;
      outs = all_map (marked_entry s) (λ (e : Entry). HasOuts e.node)
          (λ (e : Entry). HasOuts e.node) (λ e a. outs-marked (s e.number) e.node a) g.nodes
          ok.outs;
      ranked = (
        r,
        all_map (marked_entry s)
            (λ (e : Entry). AllByRecursion (λ (c : Place). r c.node < r e.number) (reads e.node))
            (λ (e : Entry). AllByRecursion (λ (c : Place). r c.node < r e.number) (reads e.node))
            (λ e a. subst (AllByRecursion (λ (c : Place). r c.node < r e.number))
            (sym (reads-marked (s e.number) e.node)) a) g.nodes ok.ranked.1,
      );
    }

pub SameMeaning-remarked : (s : Marks) (g : Graph) → IsSound g → SameMeaning g (remarked s g)
SameMeaning-remarked s g ok =
    SameMeaning-from_kept g (remarked s g) ok (IsSound-remarked s g ok)
    (KeepsMeaning-remarked s g)

-- ---- marks one after another

lift_marked : (s : Marks) (g : Graph) (n : ℕ) → lift_of (remarked s g) n ≡ lift_of g n
lift_marked s g n =
    let new : List Entry = map (marked_entry s) g.nodes in
    let c : Place = place n 0 in
    ap (λ (t : Bool). cond (among c g.outputs) None
    (cond t None (only_comb new (readers new c))))
    (any-marked (collects c) (collects-marked c) s g.nodes)
    ∙ ap (λ (ns : List ℕ). cond (among c g.outputs) None
    (cond (any_node (collects c) g.nodes) None (only_comb new ns)))
    (those-marked (calls_on c) (calls-marked c) s g.nodes)
    ∙ ap (λ (o : Option Comb). cond (among c g.outputs) None
    (cond (any_node (collects c) g.nodes) None o)) (by (readers g.nodes c))
  where
    by : (ns : List ℕ) → only_comb (map (marked_entry s) g.nodes) ns ≡ only_comb g.nodes ns
    by [] = refl
    by (q ∷ []) = ap comb_at (node_at-marked s g.nodes q)
        ∙ root_at-marked (s q) (node_at g.nodes q)
    by (q ∷ (p ∷ ns)) = refl

marked_twice : (h i : Option Comb → Option Comb) (x : Node)
    → marked h (marked i x) ≡ marked (λ k. h (i k)) x
marked_twice h i (Source r) = refl
marked_twice h i _ = refl

abbrev entry_of : ℕ → Node → Entry
entry_of n x = record { number = n; node = x }

nodes_twice : (s t : Marks) (es : List Entry)
    → map (marked_entry s) (map (marked_entry t) es) ≡ map (marked_entry (λ m k. s m (t m k))) es
nodes_twice s t [] = refl
nodes_twice s t (e ∷ es) =
    ap (λ (x : Node). entry_of e.number x ∷ map (marked_entry s) (map (marked_entry t) es))
    (marked_twice (s e.number) (t e.number) e.node)
    ∙ ap (λ (l : List Entry). marked_entry (λ m k. s m (t m k)) e ∷ l) (nodes_twice s t es)

abbrev graph_with : Graph → List Entry → Graph
graph_with g es = record { nodes = es; outputs = g.outputs; next = g.next }

remarked_twice : (s t : Marks) (g : Graph)
    → remarked s (remarked t g) ≡ remarked (λ m k. s m (t m k)) g
remarked_twice s t g = ap (graph_with g) (nodes_twice s t g.nodes)

marked_none : (x : Node) → marked (λ k. k) x ≡ x
marked_none (Source r) = refl
marked_none _ = refl

nodes_none : (es : List Entry) → map (marked_entry (λ m k. k)) es ≡ es
nodes_none [] = refl
nodes_none (e ∷ es) =
    ap (λ (x : Node). entry_of e.number x ∷ map (marked_entry (λ m k. k)) es)
    (marked_none e.node)
    ∙ ap (λ (l : List Entry). e ∷ l) (nodes_none es)

-- the marks after the Gbks ns were lifted one after another
abbrev by_list : Graph → List ℕ → Marks
by_list g [] m k = k
by_list g (n ∷ ns) m k = by_list g ns m (cond (eqb m n) (lift_of g n) k)

record IsGroup (g : Graph) (n : ℕ) : Type 0 where
  pub input : Place
  pub origin : ℕ
  pub last : Bool
  pub mark : Option Comb
  pub gbk : node_at g.nodes n ≡ Some (Gbk input origin last mark)

group_marked : (s : Marks) (g : Graph) (n : ℕ) → IsGroup g n → IsGroup (remarked s g) n
group_marked s g n h = record {
  input = h.input;
  origin = h.origin;
  last = h.last;
  mark = s n h.mark;
  gbk = node_at-marked s g.nodes n ∙ ap (marked_at (s n)) h.gbk;
}

-- the Gbk n of g may be lifted
record MayLift (g h : Graph) (n : ℕ) : Type 0 where
  pub group : IsGroup h n
  pub comb : Comb
  pub may : lift_of g n ≡ Some comb

abbrev one_lift : Graph → ℕ → Marks
one_lift g n m k = cond (eqb m n) (lift_of g n) k

lead_by : (g h : Graph) (ns : List ℕ) → ((m : ℕ) → lift_of h m ≡ lift_of g m)
    → AllByRecursion (MayLift g h) ns → LiftsLead ns h (remarked (by_list g ns) h)
lead_by g h [] same a = sym (ap (graph_with h) (nodes_none h.nodes))
lead_by g h (n ∷ ns) same a =
    let next : Graph = lifted_at n h in
    let s : Marks = one_lift h n in
    let here : CanLift h n = record {
      input = a.0.group.input;
      origin = a.0.group.origin;
      last = a.0.group.last;
      mark = a.0.group.mark;
      gbk = a.0.group.gbk;
      comb = a.0.comb;
      may = same n ∙ a.0.may;
    } in
    let rest : LiftsLead ns next (remarked (by_list g ns) next) =
    lead_by g next ns (λ m. lift_marked s h m ∙ same m)
    (Each-weaker (MayLift g h) (MayLift g next)
    (λ m k. record { group = group_marked s h m k.group; comb = k.comb; may = k.may }) ns a.1) in
    let end : remarked (by_list g ns) next ≡ remarked (by_list g (n ∷ ns)) h =
    remarked_twice (by_list g ns) s h
    ∙ ap (λ (o : Option Comb). remarked (λ m k. by_list g ns m (cond (eqb m n) o k)) h)
    (same n) in
    (here, subst (LiftsLead ns next) end rest)

-- ---- all that may be lifted

abbrev pub is_group : Node → Bool
is_group (Gbk c o l k) = true
is_group _ = false

abbrev pub may_lift : Graph → Entry → Bool
may_lift g e = is_group e.node && is_some (lift_of g e.number)

abbrev pub all_lifts : Graph → List Entry → List ℕ
all_lifts g [] = []
all_lifts g (e ∷ es) = cond (may_lift g e) (e.number ∷ all_lifts g es) (all_lifts g es)

may_by : (g : Graph) (n : ℕ) (x : Node) (o : Option Comb) → lift_of g n ≡ o
    → node_at g.nodes n ≡ Some x → (is_group x && is_some o) ≡ true → MayLift g g n
may_by g n (Gbk c i l k) None e h t = absurd (false≢true t)
may_by g n (Gbk c i l k) (Some q) e h t = record {
  group = record { input = c; origin = i; last = l; mark = k; gbk = h };
  comb = q;
  may = e;
}
may_by g n _ o e h t = absurd (false≢true t)

each_may_by : (g : Graph) (n : ℕ) (ns : List ℕ) (b : Bool) → (b ≡ true → MayLift g g n)
    → AllByRecursion (MayLift g g) ns → AllByRecursion (MayLift g g) (cond b (n ∷ ns) ns)
each_may_by g n ns true f a = (f refl, a)
each_may_by g n ns false f a = a

each_may : (g : Graph) (es : List Entry)
    → AllByRecursion (λ e. node_at g.nodes e.number ≡ Some e.node) es
    → AllByRecursion (MayLift g g) (all_lifts g es)
each_may g [] a = tt
each_may g (e ∷ es) a =
    each_may_by g e.number (all_lifts g es) (may_lift g e)
    (λ t. may_by g e.number e.node (lift_of g e.number) refl a.0 t) (each_may g es a.1)

-- ---- and then just those are lifted

abbrev listed : ℕ → List ℕ → Bool
listed m [] = false
listed m (n ∷ ns) = eqb m n || listed m ns

one_step : (g : Graph) (m n : ℕ) (k : Option Comb) (b : Bool) → eqb m n ≡ b
    → (k ≡ lift_of g m) → cond b (lift_of g n) k ≡ lift_of g m
one_step g m n k true e h = ap (lift_of g) (sym (eqb-true m n e))
one_step g m n k false e h = h

-- what is lifted stays so
stays_lifted : (g : Graph) (ns : List ℕ) (m : ℕ) (k : Option Comb) → k ≡ lift_of g m
    → by_list g ns m k ≡ lift_of g m
stays_lifted g [] m k h = h
stays_lifted g (n ∷ ns) m k h =
    stays_lifted g ns m (cond (eqb m n) (lift_of g n) k) (one_step g m n k (eqb m n) refl h)

listed_by : (g : Graph) (ns : List ℕ) (m n : ℕ) (k : Option Comb) (b : Bool) → eqb m n ≡ b
    → (b || listed m ns) ≡ true
    → ((i : Option Comb) → listed m ns ≡ true → by_list g ns m i ≡ lift_of g m)
    → by_list g ns m (cond b (lift_of g n) k) ≡ lift_of g m
listed_by g ns m n k true e t f =
    stays_lifted g ns m (lift_of g n) (ap (lift_of g) (sym (eqb-true m n e)))
listed_by g ns m n k false e t f = f k t

is_listed : (g : Graph) (ns : List ℕ) (m : ℕ) (k : Option Comb) → listed m ns ≡ true
    → by_list g ns m k ≡ lift_of g m
is_listed g [] m k t = absurd (false≢true t)
is_listed g (n ∷ ns) m k t =
    listed_by g ns m n k (eqb m n) refl t (λ i u. is_listed g ns m i u)

listed_head : (m : ℕ) (ns : List ℕ) (b : Bool) → b ≡ true → listed m (cond b (m ∷ ns) ns) ≡ true
listed_head m ns true e = rw (eq-eqb m m refl) refl
listed_head m ns false e = absurd (false≢true e)

listed_more : (m n : ℕ) (ns : List ℕ) (b : Bool) → listed m ns ≡ true
    → listed m (cond b (n ∷ ns) ns) ≡ true
listed_more m n ns true h = or_right (eqb m n) (listed m ns) h
listed_more m n ns false h = h

all_listed : (g : Graph) (es : List Entry)
    → AllByRecursion (λ e. may_lift g e ≡ true → listed e.number (all_lifts g es) ≡ true) es
all_listed g [] = tt
all_listed g (e ∷ es) = (
  λ t. listed_head e.number (all_lifts g es) (may_lift g e) t,
  Each-weaker (λ (d : Entry). may_lift g d ≡ true → listed d.number (all_lifts g es) ≡ true)
      (λ (d : Entry). may_lift g d ≡ true
      → listed d.number (cond (may_lift g e) (e.number ∷ all_lifts g es) (all_lifts g es)) ≡ true)
      (λ d f t. listed_more d.number e.number (all_lifts g es) (may_lift g e) (f t)) es
      (all_listed g es),
)

-- a mark that stands is what lifting gives
mark_is : (g : Graph) (n : ℕ) (c : Place) (o : ℕ) (l : Bool) (k : Option Comb)
    → IsNodeOk g n (Gbk c o l k) → lift_of g n ≡ None → k ≡ None
mark_is g n c o l None ok e = refl
mark_is g n c o l (Some q) ok e =
    let is : lift_of g n ≡ Some q = rw (ok.untold, ok.uncollected, ok.alone) ok.root in
    let bad : ⊥ = (let both : None ≡ Some q = sym e ∙ is in cc) in absurd bad

group_lifted : (g : Graph) (n : ℕ) (c : Place) (i : ℕ) (l : Bool) (k o : Option Comb)
    (ns : List ℕ) → lift_of g n ≡ o → IsNodeOk g n (Gbk c i l k)
    → (is_some o ≡ true → listed n ns ≡ true) → by_list g ns n k ≡ lift_of g n
group_lifted g n c i l k None ns e ok f =
    stays_lifted g ns n k (mark_is g n c i l k ok e ∙ sym e)
group_lifted g n c i l k (Some q) ns e ok f = is_listed g ns n k (f refl)

node_lifted : (g : Graph) (n : ℕ) (x : Node) (ns : List ℕ) → IsNodeOk g n x
    → ((is_group x && is_some (lift_of g n)) ≡ true → listed n ns ≡ true)
    → marked (by_list g ns n) x ≡ marked (λ k. lift_of g n) x
node_lifted g n (Gbk c i l k) ns ok f =
    ap (Gbk c i l) (group_lifted g n c i l k (lift_of g n) ns refl ok f)
node_lifted g n _ ns ok f = refl

nodes_lifted : (g : Graph) (ns : List ℕ) (es : List Entry)
    → AllByRecursion (λ e. marked (by_list g ns e.number) e.node
    ≡ marked (λ k. lift_of g e.number) e.node) es
    → map (marked_entry (by_list g ns)) es ≡ map (marked_entry (λ n k. lift_of g n)) es
nodes_lifted g ns [] a = refl
nodes_lifted g ns (e ∷ es) a =
    ap (λ (x : Node). entry_of e.number x ∷ map (marked_entry (by_list g ns)) es) a.0
    ∙ ap (λ (l : List Entry). marked_entry (λ n k. lift_of g n) e ∷ l)
    (nodes_lifted g ns es a.1)

pub all_lead : (g : Graph) → IsGraphOk g → LiftsLead (all_lifts g g.nodes) g (lifted g)
all_lead g ok =
    let ns : List ℕ = all_lifts g g.nodes in
    let found : AllByRecursion (λ e. node_at g.nodes e.number ≡ Some e.node) g.nodes =
    each_found g.nodes (differ_ascends g.nodes ok.founded.ascends) in
    let end : remarked (by_list g ns) g ≡ lifted g =
    ap (graph_with g) (nodes_lifted g ns g.nodes
    (Each-both (λ (e : Entry). IsNodeOk g e.number e.node)
    (λ (e : Entry). may_lift g e ≡ true → listed e.number ns ≡ true)
    (λ (e : Entry). marked (by_list g ns e.number) e.node
    ≡ marked (λ k. lift_of g e.number) e.node)
    (λ e a f. node_lifted g e.number e.node ns a f) g.nodes ok.nodes
    (all_listed g g.nodes))) in
    subst (LiftsLead ns g) end (lead_by g g ns (λ m. refl) (each_may g g.nodes found))

pub lifts_lead : (g : Graph) → IsGraphOk g → (ns : List ℕ) × LiftsLead ns g (lifted g)
lifts_lead g ok = (all_lifts g g.nodes, all_lead g ok)
