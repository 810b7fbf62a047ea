-- The forests of a graph are those of the graph whose outputs have Pdos of their own.
use Rattle.std.proofs.Common.{◌≡◌, ℕ, ◌+◌, ◌%◌, ◌^◌, ◌<◌, ◌≤◌, Bool, true, false, cond, eqb, List, [], ◌∷◌, ◌++◌, length, Option, Some, None, refl, sym, ap, ◌∙◌, subst, arith, zero, suc}
use Rattle.std.proofs.lemmas.Bool.{eqb-true}
use Rattle.std.specs.List.{AllByRecursion}
use Rattle.flume_value.proofs.EachLemmas.{Each-weaker}
use Rattle.exec_graph.specs.Forests.{Label, Forest, Bare, Grow, next_after, after_out, new_label, new_out, numbered, with_out}
use Rattle.exec_graph.specs.Meaning.{node_at, reads, place, is_out, has_out, gives, gives_at, IsThere, IsRankedBy}
use Rattle.exec_graph.specs.Places.{code}
use Rattle.exec_graph.specs.Wellformed.{IsNodeOk}
use Rattle.exec_graph.specs.Readers.{readers, same_place}
use Rattle.exec_graph.specs.declared.graph.Place.{Place}
use Rattle.exec_graph.specs.declared.graph.Node.{Node}
use Rattle.exec_graph.specs.declared.graph.Node.TheVariants.{Pdo}
use Rattle.exec_graph.specs.declared.graph.Entry.{Entry}
use Rattle.exec_graph.specs.declared.graph.Graph.{Graph}
use Rattle.exec_graph.specs.declared.graph.Blocked.{Blocked}
use Rattle.exec_graph.proofs.Entries.{all_found}
use Rattle.exec_graph.proofs.Numbered.{IsWithin, numbered_within}
use Rattle.exec_graph.proofs.Solving.{place_of, lower_most, short_ranked, there_found, each_found}
use Rattle.graph_laws.specs.Kids.{kept_by, number_after, out_kept}
use Rattle.graph_laws.specs.Single.{HasSteps, most_outputs, width}
use Rattle.pardo_fuse.specs.Readers.{Cut, cut_of, is_inner, is_kept, is_pdo}
use Rattle.pardo_fuse.specs.Parting.{part_number, sole_output, part_place, parted_nodes, parted}
use Rattle.pardo_fuse.specs.Fusing.{forest_over, hanging, hung, trees_in_turn, kids_on, name_for, step_in}
use Rattle.pardo_fuse.specs.SingleFusing.{forest_reading, keeps_output, kids_of, planted, step_at, step_of, trees}
use Rattle.pardo_fuse.specs.Wellformed.{IsFusible}
use Rattle.pardo_fuse.proofs.Chaining.{grown_one}
use Rattle.pardo_fuse.proofs.Levels.{all_grown, grown_trees, readers_above}
use Rattle.pardo_fuse.proofs.Once.{all_of}
use Rattle.pardo_fuse.proofs.Parting.{EachLabel, IsRow, label_both, label_weaker, labels_has, row_of}
use Rattle.pardo_fuse.proofs.PartedNodes.{can_fuse, can_part}
use Rattle.pardo_fuse.proofs.SiteKids.{CanMark, IsPdoAt, kept_none, kept_part, kids_part, readers_pdos}
use Rattle.pardo_fuse.proofs.Sites.{all_sites, missed, outputs_of, readers_part}
use Rattle.pardo_fuse.proofs.Unparting.{CanPart, label_found, part_label, parts_ranked, each_part, step_at_node}

-- ---- outputs have small numbers

row_after : (s i : ℕ) (f : Forest) → IsRow i f → next_after s f ≤ s + width f
row_after s i Bare r = omega arith
row_after s i (Grow l kids rest) r =
    let e : next_after (after_out s l.out) kids ≡ after_out s l.out =
    ap (next_after (after_out s l.out)) r.1 in
    let h = row_after (next_after (after_out s l.out) kids) (suc i) rest r.2 in
    let o : after_out s l.out ≤ s + 1 = by l.out in
    omega arith
  where
    by : (o : Option ℕ) → after_out s o ≤ s + 1
    by None = omega arith
    by (Some j) = omega arith

pub small_out : (a : Blocked) → IsFusible a → (c : Place) → IsThere a.graph.nodes c → c.out < 2 ^ 32
small_out a fu c t = let x = there_found a.graph.nodes c t in by x.0 x.1 x.2
  where
    zero_out : (j : ℕ) → eqb j 0 ≡ true → j < 2 ^ 32
    zero_out j h = let e : j ≡ 0 = eqb-true j 0 h in omega arith

    by : (x : Node) → node_at a.graph.nodes c.node ≡ Some x → gives x c.out ≡ true → c.out < 2 ^ 32
    by (Pdo d f) at h =
        let can : CanPart a.graph = can_part a fu in
        let row = row_of f (step_at_node a.graph can c.node d f at) in
        let w = all_found (λ (e : Entry). HasSteps
        (λ f. width f ≤ most_outputs) e.node) a.graph.nodes c.node
        (Pdo d f) at fu.narrow in
        let ok = all_found (λ (e : Entry). IsNodeOk a.graph e.number e.node) a.graph.nodes c.node
        (Pdo d f) at fu.ok.ok.nodes in
        let b : IsWithin 0 (next_after 0 f) c.out =
        numbered_within 0 f c.out
        (subst (λ (x : Forest). has_out c.out x ≡ true) (sym ok.order) h) in
        let u = row_after 0 0 f row in
        let high = b.high in
        omega arith
    by _ at h = zero_out c.out h

-- ---- forests that match

-- An output under a collection's code, and under the number of its Pdo.
pub record IsSite (a : Blocked) (x y : ℕ) : Type 0 where
  pub of : Place
  pub there : IsThere a.graph.nodes of
  pub coded : x ≡ code of
  pub parted : place y 0 ≡ part_place a.graph of
  pub pdo : is_pdo (node_at a.graph.nodes of.node) ≡ true

abbrev pub OutMatch : Blocked → Option ℕ → Option ℕ → Type 0
OutMatch a None None = Unit {0}
OutMatch a None (Some y) = ⊥
OutMatch a (Some x) None = ⊥
OutMatch a (Some x) (Some y) = IsSite a x y

abbrev pub Matches : Blocked → Forest → Forest → Type 0
Matches a Bare Bare = Unit {0}
Matches a Bare (Grow m others more) = ⊥
Matches a (Grow l kids rest) Bare = ⊥
Matches a (Grow l kids rest) (Grow m others more) =
    ((o : Option ℕ) → let p : Label = with_out o l in let q : Label = with_out o m in p ≡ q)
    × OutMatch a l.out m.out × Matches a kids others × Matches a rest more

out_after : (a : Blocked) (s : ℕ) (o p : Option ℕ) → OutMatch a o p → after_out s o ≡ after_out s p
out_after a s None None h = refl
out_after a s None (Some y) h = absurd h
out_after a s (Some x) None h = absurd h
out_after a s (Some x) (Some y) h = refl

out_new : (a : Blocked) (s : ℕ) (o p : Option ℕ) → OutMatch a o p → new_out s o ≡ new_out s p
out_new a s None None h = refl
out_new a s None (Some y) h = absurd h
out_new a s (Some x) None h = absurd h
out_new a s (Some x) (Some y) h = refl

matched_after : (a : Blocked) (s : ℕ) (f h : Forest) → Matches a f h
    → next_after s f ≡ next_after s h
matched_after a s Bare Bare e = refl
matched_after a s Bare (Grow m others more) e = absurd e
matched_after a s (Grow l kids rest) Bare e = absurd e
matched_after a s (Grow l kids rest) (Grow m others more) e =
    ap (λ (x : ℕ). next_after (next_after x kids) rest) (out_after a s l.out m.out e.1)
    ∙ ap (λ (x : ℕ). next_after x rest) (matched_after a (after_out s m.out) kids others e.2)
    ∙ matched_after a (next_after (after_out s m.out) others) rest more e.3

pub matched_numbered : (a : Blocked) (s : ℕ) (f h : Forest) → Matches a f h
    → numbered s f ≡ numbered s h
matched_numbered a s Bare Bare e = refl
matched_numbered a s Bare (Grow m others more) e = absurd e
matched_numbered a s (Grow l kids rest) Bare e = absurd e
matched_numbered a s (Grow l kids rest) (Grow m others more) e =
    let x : ℕ = after_out s l.out in
    let y : ℕ = after_out s m.out in
    let z : x ≡ y = out_after a s l.out m.out e.1 in
    let label : new_label s l ≡ new_label s m =
    e.0 (new_out s l.out)
    ∙ ap (λ (o : Option ℕ). let q : Label = with_out o m in q) (out_new a s l.out m.out e.1) in
    ap (λ (n : Label). Grow n (numbered x kids) (numbered (next_after x kids) rest)) label
    ∙ ap (λ (n : ℕ). Grow (new_label s m) (numbered n kids) (numbered (next_after n kids) rest)) z
    ∙ ap (λ (n : ℕ). Grow (new_label s m) (numbered y kids) (numbered n rest))
    (matched_after a y kids others e.2)
    ∙ ap (λ (t : Forest). Grow (new_label s m) t (numbered (next_after y others) rest))
    (matched_numbered a y kids others e.2)
    ∙ ap (λ (t : Forest). Grow (new_label s m) (numbered y others) t)
    (matched_numbered a (next_after y others) rest more e.3)

-- Where c is, is where its part is.
abbrev pub Seeks : Blocked → Place → ℕ → Type 0
Seeks a c q = (x y : ℕ) → IsSite a x y → eqb x (code c) ≡ eqb y q

out_seeks : (a : Blocked) (c : Place) (q : ℕ) → Seeks a c q → (o p : Option ℕ) → OutMatch a o p
    → is_out o (code c) ≡ is_out p q
out_seeks a c q h None None e = refl
out_seeks a c q h None (Some y) e = absurd e
out_seeks a c q h (Some x) None e = absurd e
out_seeks a c q h (Some x) (Some y) e = h x y e

pub matched_has : (a : Blocked) (c : Place) (q : ℕ) → Seeks a c q → (f h : Forest) → Matches a f h
    → has_out (code c) f ≡ has_out q h
matched_has a c q s Bare Bare e = refl
matched_has a c q s Bare (Grow m others more) e = absurd e
matched_has a c q s (Grow l kids rest) Bare e = absurd e
matched_has a c q s (Grow l kids rest) (Grow m others more) e =
    rw (
      out_seeks a c q s l.out m.out e.1,
      matched_has a c q s kids others e.2,
      matched_has a c q s rest more e.3,
    ) refl

pub matched_number : (a : Blocked) (c : Place) (q : ℕ) → Seeks a c q → (s : ℕ) (f h : Forest)
    → Matches a f h → number_after s f (code c) ≡ number_after s h q
matched_number a c q k s Bare Bare e = refl
matched_number a c q k s Bare (Grow m others more) e = absurd e
matched_number a c q k s (Grow l kids rest) Bare e = absurd e
matched_number a c q k s (Grow l kids rest) (Grow m others more) e =
    let x : ℕ = after_out s l.out in
    let y : ℕ = after_out s m.out in
    let z : x ≡ y = out_after a s l.out m.out e.1 in
    let u : next_after x kids ≡ next_after y others =
    ap (λ (n : ℕ). next_after n kids) z ∙ matched_after a y kids others e.2 in
    ap (λ (b : Bool). cond b s (cond (has_out (code c) kids) (number_after x kids (code c))
    (number_after (next_after x kids) rest (code c)))) (out_seeks a c q k l.out m.out e.1)
    ∙ ap (λ (b : Bool). cond (is_out m.out q) s (cond b (number_after x kids (code c))
    (number_after (next_after x kids) rest (code c)))) (matched_has a c q k kids others e.2)
    ∙ ap (λ (n : ℕ). cond (is_out m.out q) s (cond (has_out q others) n
    (number_after (next_after x kids) rest (code c))))
    (ap (λ (n : ℕ). number_after n kids (code c)) z ∙ matched_number a c q k y kids others e.2)
    ∙ ap (λ (n : ℕ). cond (is_out m.out q) s (cond (has_out q others) (number_after y others q) n))
    (ap (λ (n : ℕ). number_after n rest (code c)) u
    ∙ matched_number a c q k (next_after y others) rest more e.3)

-- ---- the forests match

site_named : (a : Blocked) → CanMark a → (n : ℕ) (c : Place) (f : Forest)
    → node_at a.graph.nodes n ≡ Some (Pdo c f)
    → EachLabel (λ l. OutMatch a (name_for (cut_of a) n l.out)
    (out_kept (keeps_output (cut_of (parted a))) (Some (part_number a.graph.next n l.at)))) f
site_named a m n c f at =
    let g : Graph = a.graph in
    let q : Label → ℕ = λ l. part_number g.next n l.at in
    label_both (λ l. l.out ≡ None → (d : Place) → IsThere g.nodes d
    → same_place (place (q l) 0) (part_place g d) ≡ false)
    (λ l. (j : ℕ) → l.out ≡ Some j
    → (part_place g (place n j) ≡ place (q l) 0) × IsThere g.nodes (place n j))
    (λ l. OutMatch a (name_for (cut_of a) n l.out)
    (out_kept (keeps_output (cut_of (parted a))) (Some (q l))))
    (λ l none some. by l.out (q l) (λ e d t. none e d t) (λ j e. some j e))
    f (missed g m.can n c f at)
    (label_both (λ l. (j : ℕ) → l.out ≡ Some j → part_place g (place n j) ≡ place (q l) 0)
    (λ l. (j : ℕ) → l.out ≡ Some j → has_out j f ≡ true)
    (λ l. (j : ℕ) → l.out ≡ Some j
    → (part_place g (place n j) ≡ place (q l) 0) × IsThere g.nodes (place n j))
    (λ l e h j i. (e j i, ap (λ (o : Option Node). gives_at o j) at ∙ h j i)) f
    (part_label g m.can n c f at) (labels_has f))
  where
    kept : (j q : ℕ) → part_place a.graph (place n j) ≡ place q 0
        → IsThere a.graph.nodes (place n j)
        → (b : Bool) → is_kept (cut_of a) (place n j) ≡ b
        → OutMatch a (cond b (Some (code (place n j))) None)
        (cond (keeps_output (cut_of (parted a)) q) (Some q) None)
    kept j q e t b h =
        let same : keeps_output (cut_of (parted a)) q ≡ b =
        ap (is_kept (cut_of (parted a))) (sym e) ∙ kept_part a m (place n j) t ∙ h in
        subst (λ (x : Bool). OutMatch a (cond b (Some (code (place n j))) None)
        (cond x (Some q) None)) (sym same)
        (both b)
      where
        both : (b : Bool) → OutMatch a (cond b (Some (code (place n j))) None)
            (cond b (Some q) None)
        both true = record {
          of = place n j;
          there = t;
          coded = refl;
          parted = sym e;
          pdo = ap is_pdo at;
        }
        both false = tt

    by : (o : Option ℕ) (q : ℕ)
        → (o ≡ None → (d : Place) → IsThere a.graph.nodes d
        → same_place (place q 0) (part_place a.graph d) ≡ false)
        → ((j : ℕ) → o ≡ Some j
        → (part_place a.graph (place n j) ≡ place q 0) × IsThere a.graph.nodes (place n j))
        → OutMatch a (name_for (cut_of a) n o)
        (cond (keeps_output (cut_of (parted a)) q) (Some q) None)
    by None q none some =
        subst (λ (b : Bool). OutMatch a None (cond b (Some q) None))
        (sym (kept_none a m (place q 0) (λ d t. none refl d t))) tt
    by (Some j) q none some =
        kept j q (some j refl).0 (some j refl).1 (is_kept (cut_of a) (place n j)) refl

-- The forests over the outputs match.
abbrev Over : Blocked → (Option ℕ → Forest) → (ℕ → Forest) → ℕ → Label → Type 0
Over a over tree n l =
    Matches a (over l.out) (kept_by (keeps_output (cut_of (parted a)))
    (tree (part_number a.graph.next n l.at)))

abbrev IsStepOf : Blocked → ℕ → Label → Type 0
IsStepOf a n l = (c : Place)
    × (node_at (parted_nodes a.graph) (part_number a.graph.next n l.at) ≡ Some
    (Pdo c (sole_output l)))

row_matches : (a : Blocked) (n : ℕ) (over : Option ℕ → Forest) (tree : ℕ → Forest) (f : Forest)
    (rest : Forest) (ns : List ℕ)
    → EachLabel (λ l. OutMatch a (name_for (cut_of a) n l.out)
    (out_kept (keeps_output (cut_of (parted a))) (Some (part_number a.graph.next n l.at)))) f
    → EachLabel (IsStepOf a n) f → EachLabel (Over a over tree n) f
    → Matches a rest (kept_by (keeps_output (cut_of (parted a)))
    (planted (step_at (cut_of (parted a))) tree ns))
    → Matches a (hung (cut_of a) n over f rest) (kept_by (keeps_output (cut_of (parted a)))
    (planted (step_at (cut_of (parted a))) tree (outputs_of a.graph.next n f ++ ns)))
row_matches a n over tree Bare rest ns o s t e = e
row_matches a n over tree (Grow l kids more) rest ns o s t e = (
  λ x. ap (λ (y : Option Node). let q : Label = with_out x (step_of y) in q) (sym s.0.1),
  o.0,
  t.0,
  row_matches a n over tree more rest ns o.1 s.1 t.1 e,
)

steps_found : (a : Blocked) → CanMark a → (n : ℕ) (c : Place) (f : Forest)
    → node_at a.graph.nodes n ≡ Some (Pdo c f) → EachLabel (IsStepOf a n) f
steps_found a m n c f at =
    label_weaker (λ l. node_at (parted_nodes a.graph) (part_number a.graph.next n l.at)
    ≡ Some (Pdo (part_place a.graph c) (sole_output l))) (IsStepOf a n)
    (λ l e. (part_place a.graph c, e)) f
    (label_found a.graph m.can n c f at)

kids_pdos : (a : Blocked) → CanMark a → (n : ℕ) (o : Option ℕ)
    → AllByRecursion (IsPdoAt a.graph) (kids_on (cut_of a) n o)
kids_pdos a m n None = tt
kids_pdos a m n (Some j) = by (is_inner (cut_of a) (place n j))
  where
    by : (b : Bool) → AllByRecursion (IsPdoAt a.graph)
        (cond b (readers a.graph.nodes (place n j)) [])
    by true = readers_pdos a.graph (place n j) a.graph.nodes
        (each_found a.graph.nodes m.can.ok.differ)
    by false = tt

turn_matches : (a : Blocked) → CanMark a → (tree : ℕ → Forest) (over : ℕ → Option ℕ → Forest)
    → ((n : ℕ) (c : Place) (f : Forest) → node_at a.graph.nodes n ≡ Some (Pdo c f)
    → EachLabel (Over a (over n) tree n) f)
    → (ns : List ℕ) → AllByRecursion (IsPdoAt a.graph) ns
    → Matches a
    (trees_in_turn (λ n rest. hung (cut_of a) n (over n) (step_in (node_at a.graph.nodes n)) rest)
    ns)
    (kept_by (keeps_output (cut_of (parted a)))
    (planted (step_at (cut_of (parted a))) tree (all_sites a.graph ns)))
turn_matches a m tree over h [] p = tt
turn_matches a m tree over h (n ∷ ns) p =
    let c : Place = p.0.0 in
    let f : Forest = p.0.1 in
    let at : node_at a.graph.nodes n ≡ Some (Pdo c f) = p.0.2 in
    let rest : Forest =
    trees_in_turn (λ n rest. hung (cut_of a) n (over n) (step_in (node_at a.graph.nodes n)) rest) ns
    in
    subst (λ (o : Option Node). Matches a (hung (cut_of a) n (over n) (step_in o) rest)
    (kept_by (keeps_output (cut_of (parted a))) (planted (step_at (cut_of (parted a))) tree
    (outputs_of a.graph.next n (step_in o) ++ all_sites a.graph ns)))) (sym at)
    (row_matches a n (over n) tree f rest (all_sites a.graph ns) (site_named a m n c f at)
    (steps_found a m n c f at) (h n c f at) (turn_matches a m tree over h ns p.1))

hanging_matches : (a : Blocked) → CanMark a → (k : ℕ) (ns : List ℕ)
    → AllByRecursion (IsPdoAt a.graph) ns
    → Matches a (hanging (cut_of a) k ns) (kept_by (keeps_output (cut_of (parted a)))
    (trees (cut_of (parted a)) k (all_sites a.graph ns)))
unfolding hanging trees
hanging_matches a m zero ns p = tt
hanging_matches a m (suc k) ns p =
    let b : Cut = cut_of (parted a) in
    turn_matches a m (λ s. trees b k (kids_of b s))
    (λ n o. hanging (cut_of a) k (kids_on (cut_of a) n o))
    (λ n c f at. label_weaker
    (λ l. kids_of b (part_number a.graph.next n l.at)
    ≡ all_sites a.graph (kids_on (cut_of a) n l.out))
    (Over a (λ o. hanging (cut_of a) k (kids_on (cut_of a) n o)) (λ s. trees b k (kids_of b s)) n)
    (λ l e. subst (λ (xs : List ℕ). Matches a (hanging (cut_of a) k (kids_on (cut_of a) n l.out))
    (kept_by (keeps_output b) (trees b k xs))) (sym e)
    (hanging_matches a m k (kids_on (cut_of a) n l.out) (kids_pdos a m n l.out))) f
    (kids_part a m n c f at))
    ns p

-- ---- as many levels as there are nodes are enough

pub can_mark : (a : Blocked) → IsFusible a → CanMark a
can_mark a fu = record { can = can_part a fu; marked = fu.ok.marked }

parted_ranked : (g : Graph) → CanPart g → (r : ℕ → ℕ) → IsRankedBy r g.nodes
    → IsRankedBy (λ q. r (q % g.next)) (parted_nodes g)
parted_ranked g can r ra =
    each_part (λ (h : Entry). AllByRecursion
    (λ (c : Place). r (c.node % g.next) < r (h.number % g.next))
    (reads h.node)) g can.ok.differ (λ n x at. parts_ranked g can r ra n x at)

pub levels_same : (a : Blocked) → IsFusible a → (c : Place)
    → trees (cut_of (parted a)) (length a.graph.nodes) (readers (parted_nodes a.graph) c)
    ≡ all_of (cut_of (parted a)) c
levels_same a fu c =
    let g : Graph = a.graph in
    let can : CanPart g = can_part a fu in
    let b : Cut = cut_of (parted a) in
    let es : List Entry = g.nodes in
    let r : ℕ → ℕ = place_of can.ok.ranked.0 es in
    let ra : IsRankedBy r es = short_ranked can.ok.ranked.0 es es can.ok.there can.ok.ranked.1 in
    let s : ℕ → ℕ = λ q. r (q % g.next) in
    let sa : IsRankedBy s (parted_nodes g) = parted_ranked g can r ra in
    let most : (q : ℕ) → s q ≤ length es =
    λ q. lower_most can.ok.ranked.0 es (can.ok.ranked.0 (q % g.next)) in
    grown_one b (readers (parted_nodes g) c)
    (trees b (length es) (readers (parted_nodes g) c)) (all_of b c)
    (grown_trees b s (length es) sa most (length es) (readers (parted_nodes g) c)
    (Each-weaker (λ n. s c.node < s n) (λ n. length es < s n + length es) (λ n h. omega arith)
    (readers (parted_nodes g) c) (readers_above s c (parted_nodes g) sa)))
    (all_grown b (can_fuse a fu) c)

-- The forest over a collection.
pub forest_matches : (a : Blocked) → IsFusible a → (c : Place) → IsThere a.graph.nodes c
    → Matches a (forest_over (cut_of a) c) (forest_reading (cut_of (parted a))
    (part_place a.graph c))
forest_matches a fu c t =
    let g : Graph = a.graph in
    let m : CanMark a = can_mark a fu in
    let b : Cut = cut_of (parted a) in
    subst (λ (f : Forest). Matches a (forest_over (cut_of a) c) (kept_by (keeps_output b) f))
    (ap (trees b (length g.nodes)) (sym (readers_part g m.can c t))
    ∙ levels_same a fu (part_place g c))
    (hanging_matches a m (length g.nodes) (readers g.nodes c)
    (readers_pdos g c g.nodes (each_found g.nodes m.can.ok.differ)))
