-- What becomes one under names stays a session.
use Rattle.std.specs.Prelude.{◌^◌, nat_eq}
use Rattle.std.proofs.Common.{◌≡◌, ℕ, ◌+◌, ◌<◌, Bool, true, false, cond, eqb, ltb, List, [], ◌∷◌, map, Some, None, sym, ap, ◌∙◌, subst, arith}
use Rattle.std.specs.HashMap.{HashMap, get}
use Rattle.std.specs.List.{AllByRecursion}
use Rattle.exec_graph.specs.Forests.{Forest, Bare}
use Rattle.exec_graph.specs.Meaning.{HasOuts, OutsDiffer, has_out, node_at, place}
use Rattle.exec_graph.specs.Readers.{same_place}
use Rattle.exec_graph.specs.Wellformed.{Ascends, IsGraphOk}
use Rattle.exec_graph.specs.declared.graph.Blocked.{Blocked}
use Rattle.exec_graph.specs.declared.graph.Entry.{Entry}
use Rattle.exec_graph.specs.declared.graph.Graph.{Graph}
use Rattle.exec_graph.specs.declared.graph.Node.TheVariants.{Pdo}
use Rattle.exec_graph.specs.declared.graph.Place.{Place}
use Rattle.exec_graph.proofs.Bools.{not_true}
use Rattle.exec_graph.proofs.Entries.{all_found}
use Rattle.exec_graph.proofs.Soundness.{IsSound-ok}
use Rattle.graph_laws.specs.Joining.{beside, grafted}
use Rattle.graph_laws.specs.Kids.{kept_by, number_after}
use Rattle.graph_laws.proofs.Changes.{node_at-without_other}
use Rattle.graph_states.specs.of_graph_names.Names.{named, named_entry, unnamed}
use Rattle.graph_states.specs.of_graph_rewrites.Rewrites.{CanBeKid, CanBeSibling, after_kid, after_sibling, forest_at, input_at}
use Rattle.graph_states.specs.of_graph_rewrites.declared.rewrite.Rewrite.TheVariants.{Kid, Sibling}
use Rattle.graph_states.proofs.of_graph_rewrites.Keeping.{apply_good}
use Rattle.graph_states.specs.States.{Stands, all_but, still_read, taken_in}
use Rattle.graph_states.proofs.Kids as kids
use Rattle.graph_states.proofs.Made.{kid_joined, sibling_joined}
use Rattle.graph_states.proofs.Named.{graph_again}
use Rattle.graph_states.proofs.Siblings as siblings
use Rattle.graph_states.proofs.Standing.{named_stands, same_self}
use Rattle.graph_states.specs.of_pardo_fuse.Fusing.{finished_entry, holds_out}
use Rattle.graph_states.specs.of_pardo_fuse.SingleFusing.{new_place}
use Rattle.graph_joins.specs.Counts.{HasCounts, count_at_place, one_if, readings}
use Rattle.graph_joins.specs.Lists.{HasLists}
use Rattle.graph_joins.specs.Sessions.{ArePair, IsReader, IsSession}
use Rattle.graph_joins.specs.declared.session.Joins.{Joins}
use Rattle.graph_joins.specs.inner.Splices.{joined, known, spliced}
use Rattle.graph_joins.proofs.CountLemmas.{read_times, readings_taken}
use Rattle.graph_joins.proofs.ListLemmas.{known_is, tells_taken}
use Rattle.graph_walks.specs.Outs.{outs}

-- ---- numbers ascend under names too

all_back : (r : Place → Place) (n : ℕ) (es : List Entry)
    → AllByRecursion (λ d. n < d.number) (map (finished_entry r) es)
    → AllByRecursion (λ d. n < d.number) es
all_back r n [] a = tt
all_back r n (d ∷ ds) a = (a.0, all_back r n ds a.1)

ascends_back : (r : Place → Place) (es : List Entry) → Ascends (map (finished_entry r) es)
    → Ascends es
ascends_back r [] a = tt
ascends_back r (e ∷ es) a = (all_back r e.number es a.0, ascends_back r es a.1)

pub session_ascends : (j : Joins) → IsSession j → Ascends j.graph.nodes
session_ascends j s =
    ascends_back (new_place j.graph.nodes) j.graph.nodes s.ok.founded.ascends

-- ---- at the beginning

all_named : (es all : List Entry) (m n : ℕ) → AllByRecursion (λ d. n < d.number) es
    → AllByRecursion (λ d. n < d.number) (map (named_entry all m) es)
all_named [] all m n a = tt
all_named (d ∷ ds) all m n a = (a.0, all_named ds all m n a.1)

ascends_named : (es all : List Entry) (m : ℕ) → Ascends es
    → Ascends (map (named_entry all m) es)
ascends_named [] all m a = tt
ascends_named (e ∷ es) all m a = (all_named es all m e.number a.0, ascends_named es all m a.1)

pub named_ascends : (g : Graph) → IsGraphOk g → Ascends (named g).nodes
named_ascends g ok = ascends_named g.nodes g.nodes g.next ok.founded.ascends

pub begun : (g : Graph) (j : Joins) → IsGraphOk g → j.graph ≡ named g
    → HasCounts j.tables.counts j.graph → HasLists j.tables.lists j.graph.nodes → IsSession j
begun g j ok e counts lists = record {
  stands = subst Stands (sym e) (named_stands g ok);
  ok = subst (λ (h : Graph). IsGraphOk (unnamed h)) (sym e)
      (subst IsGraphOk (sym (graph_again g ok)) ok);
  counts = counts;
  lists = lists;
}

pub begun_same : (g h : Graph) → IsGraphOk g → h ≡ named g → unnamed h ≡ g
begun_same g h ok e = ap unnamed e ∙ graph_again g ok

-- ---- what a Pdo reads is counted

pub reads_once : (j : Joins) (p q : ℕ) (c d : Place) (f i : Forest) → IsSession j → p < q
    → node_at j.graph.nodes p ≡ Some (Pdo c f) → node_at j.graph.nodes q ≡ Some (Pdo d i)
    → d.out < 2 ^ 32 → 0 < count_at_place j.tables.counts d
reads_once j p q c d f i s less at bt lt =
    let h : Graph = j.graph in
    let differ : p ≡ q → ⊥ = λ e. omega arith in
    let r : readings h d ≡ one_if (same_place d d) + readings (taken_in h p q c Bare) d =
    readings_taken h p q c d f i Bare d (node_at-without_other h.nodes q p (Pdo c f) differ at) bt
    in
    let one : one_if (same_place d d) ≡ 1 = ap one_if (same_self d) in
    let n : count_at_place j.tables.counts d ≡ readings h d = s.counts d lt in
    omega arith

-- what is counted off is read once less
counted : (j k : Joins) (p q : ℕ) (c d : Place) (f i new : Forest) → IsSession j
    → (p ≡ q → ⊥) → node_at j.graph.nodes p ≡ Some (Pdo c f)
    → node_at j.graph.nodes q ≡ Some (Pdo d i)
    → ((v : Place) → v.out < 2 ^ 32
    → count_at_place j.tables.counts v ≡ one_if (same_place v d) + count_at_place k.tables.counts v)
    → HasCounts k.tables.counts (taken_in j.graph p q c new)
counted j k p q c d f i new s differ at bt off v lt =
    let h : Graph = j.graph in
    let r : readings h v ≡ one_if (same_place v d) + readings (taken_in h p q c new) v =
    readings_taken h p q c d f i new v (node_at-without_other h.nodes q p (Pdo c f) differ at) bt
    in
    let n : count_at_place j.tables.counts v ≡ readings h v = s.counts v lt in
    let m = off v lt in
    omega arith

abbrev plain : Graph → Blocked
plain g = record { graph = g; marks = [] }

-- ---- siblings

module _ (j k : Joins) (p q : ℕ) (s : IsSession j) (pair : ArePair j.graph p q)
    (e : k.graph ≡ taken_in j.graph p q (input_at j.graph p)
    (beside (forest_at j.graph p) (forest_at j.graph q))) where
  abbrev u : Graph
  u = j.graph

  paired : CanBeSibling (unnamed u) p q × (after_sibling (unnamed u) p q
      ≡ unnamed (taken_in u p q (input_at u p) (beside (forest_at u p) (forest_at u q))))
  paired =
      sibling_joined u p q (input_at u p) (forest_at u p) (forest_at u q) s.stands
      (IsSound-ok (unnamed u) s.ok) pair.less pair.can.keeper pair.can.other

  pub pair_can : CanBeSibling (unnamed u) p q
  pair_can = paired.0

  pub pair_made : unnamed k.graph ≡ after_sibling (unnamed u) p q
  pair_made = ap unnamed e ∙ sym paired.1

  pub pair_session : ((v : Place) → v.out < 2 ^ 32
      → count_at_place j.tables.counts v
      ≡ one_if (same_place v (input_at u p)) + count_at_place k.tables.counts v)
      → ((n : ℕ) → get nat_eq k.tables.lists n
      ≡ cond (eqb n p) None (cond (eqb n q) None (get nat_eq j.tables.lists n))) → IsSession k
  pair_session off told = record {
    stands = subst Stands (sym e)
        (siblings.stands_then u p q (input_at u p) (forest_at u p) (forest_at u q) s.stands
        pair.less pair.can.keeper pair.can.other);
    ok = subst IsGraphOk (sym pair_made)
        (apply_good (plain (unnamed u)) (Sibling p q) s.ok (pair.less, paired.0)).ok;
    counts = subst (λ (g : Graph). HasCounts k.tables.counts g) (sym e)
        (counted j k p q (input_at u p) (input_at u p) (forest_at u p) (forest_at u q)
        (beside (forest_at u p) (forest_at u q)) s pair.can.differ pair.can.keeper
        pair.can.other off);
    lists = subst (λ (g : Graph). HasLists k.tables.lists g.nodes) (sym e)
        (tells_taken (get nat_eq j.tables.lists) (get nat_eq k.tables.lists) u.nodes p q
        (input_at u p) (forest_at u p) (beside (forest_at u p) (forest_at u q)) None
        pair.can.differ s.lists pair.can.keeper told
        (λ ns x. let bad : ⊥ = cc in absurd bad));
  }

-- ---- kids

pub name_apart : (j : Joins) (p m q n : ℕ) → IsSession j → IsReader j.graph p m q n
    → has_out n (forest_at j.graph q) ≡ false
name_apart j p m q n s r =
    not_true (has_out n (forest_at j.graph q)) (λ x.
    let a : s.stands.owner n ≡ p = all_found
    (λ (e : Entry). (i : ℕ) → holds_out i e.node ≡ true → s.stands.owner i ≡ e.number)
    j.graph.nodes p (Pdo (input_at j.graph p) (forest_at j.graph p)) r.keeper s.stands.owned n
    r.has in
    let b : s.stands.owner n ≡ q = all_found
    (λ (e : Entry). (i : ℕ) → holds_out i e.node ≡ true → s.stands.owner i ≡ e.number)
    j.graph.nodes q (Pdo (place n 0) (forest_at j.graph q)) r.other s.stands.owned n x in
    let lt : p < q = r.less in omega arith)

pub outs_differ : (j : Joins) (p m q n : ℕ) → IsSession j → IsReader j.graph p m q n
    → OutsDiffer (forest_at j.graph p)
outs_differ j p m q n s r =
    all_found (λ (e : Entry). HasOuts e.node) j.graph.nodes p
    (Pdo (input_at j.graph p) (forest_at j.graph p)) r.keeper s.stands.apart

module _ (j k : Joins) (p m q n : ℕ) (keep : Bool) (s : IsSession j)
    (r : IsReader j.graph p m q n)
    (e : k.graph ≡ taken_in j.graph p q (input_at j.graph p) (kept_by (all_but n keep)
    (grafted n (forest_at j.graph q) (forest_at j.graph p))))
    (off : (v : Place) → v.out < 2 ^ 32
    → count_at_place j.tables.counts v
    ≡ one_if (same_place v (place n 0)) + count_at_place k.tables.counts v)
    (left : keep ≡ ltb 0 (count_at_place k.tables.counts (place n 0))) where
  abbrev h : Graph
  h = j.graph

  abbrev c : Place
  c = input_at h p

  abbrev f : Forest
  f = forest_at h p

  abbrev i : Forest
  i = forest_at h q

  differ : p ≡ q → ⊥
  differ d = let lt : p < q = r.less in omega arith

  still : keep ≡ still_read h p q c n
  still =
      left
      ∙ ap (ltb 0) (counted j k p q c (place n 0) f i Bare s differ r.keeper r.other off
      (place n 0) (omega arith))
      ∙ sym (read_times (taken_in h p q c Bare) (place n 0))

  is : k.graph ≡ taken_in h p q c
      (kept_by (all_but n (still_read h p q c n)) (grafted n i f))
  is = e ∙ ap (λ (b : Bool). taken_in h p q c (kept_by (all_but n b) (grafted n i f))) still

  made : CanBeKid (unnamed h) p (number_after 0 f n) q
      × (after_kid (unnamed h) p (number_after 0 f n) q ≡ unnamed (taken_in h p q c
      (kept_by (all_but n (still_read h p q c n)) (grafted n i f))))
  made =
      kid_joined h p q n c f i s.stands (IsSound-ok (unnamed h) s.ok) r.less r.keeper r.other r.has

  pub kid_can : CanBeKid (unnamed h) p m q
  kid_can = subst (λ (x : ℕ). CanBeKid (unnamed h) p x q) r.number made.0

  pub kid_made : unnamed k.graph ≡ after_kid (unnamed h) p m q
  kid_made =
      ap unnamed is ∙ sym made.1 ∙ ap (λ (x : ℕ). after_kid (unnamed h) p x q) r.number

  pub kid_session : {S : Type 0} (t : HashMap ℕ (List ℕ) S) → HasLists t h.nodes → (bare : Bool)
      → (bare ≡ true → outs (kept_by (all_but n keep) (grafted n i f))
      ≡ spliced n keep (outs i) (outs f))
      → ((v : ℕ) → get nat_eq k.tables.lists v ≡ cond (eqb v p)
      (known bare (joined m keep (get nat_eq t p) (get nat_eq t q)))
      (cond (eqb v q) None (get nat_eq t v)))
      → IsSession k
  kid_session t tells bare o told = record {
    stands = subst Stands (sym (is ∙ ap (λ (x : Forest). taken_in h p q c x)
        (sym (kids.kept_is h p q n c f i s.stands r.keeper r.other r.has
        (IsSound-ok (unnamed h) s.ok)))))
        (kids.stands_then h p q n c f i s.stands r.keeper r.other r.has
        (IsSound-ok (unnamed h) s.ok));
    ok = subst IsGraphOk (sym kid_made)
        (apply_good (plain (unnamed h)) (Kid p m q) s.ok kid_can).ok;
    counts = subst (λ (g : Graph). HasCounts k.tables.counts g) (sym e)
        (counted j k p q c (place n 0) f i (kept_by (all_but n keep) (grafted n i f)) s differ
        r.keeper r.other off);
    lists = subst (λ (g : Graph). HasLists k.tables.lists g.nodes) (sym e)
        (tells_taken (get nat_eq t) (get nat_eq k.tables.lists) h.nodes p q c f
        (kept_by (all_but n keep) (grafted n i f))
        (known bare (joined m keep (get nat_eq t p) (get nat_eq t q))) differ tells r.keeper told
        (known_is bare m keep n f i (kept_by (all_but n keep) (grafted n i f))
        (get nat_eq t p) (get nat_eq t q) (tells p) (tells q) o r.has r.number));
  }
