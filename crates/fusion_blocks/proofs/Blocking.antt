-- The marks of a whole graph.
use Rattle.std.proofs.Common.{◌≡◌, ℕ, Bool, true, false, cond, ◌&&◌, ◌||◌, ◌⊎◌, inl, inr, List, [], ◌∷◌, ◌++◌, Option, Some, append-nil, append_assoc, refl, sym, ap, ◌∙◌, subst}
use Rattle.std.proofs.lemmas.Bool.{false≢true}
use Rattle.std.specs.List.{AllByRecursion, list_any}
use Rattle.flume_value.proofs.EachLemmas.{Each-append, Each-right, Each-weaker}
use Rattle.exec_graph.specs.Meaning.{IsThere, node_at, place, reads}
use Rattle.exec_graph.specs.Readers.{among, same_place}
use Rattle.exec_graph.specs.Wellformed.{IsBlockedOk, IsGraphOk, is_lifted}
use Rattle.exec_graph.specs.declared.graph.Place.{Place}
use Rattle.exec_graph.specs.declared.graph.Node.{Node}
use Rattle.exec_graph.specs.declared.graph.Node.TheVariants.{Flatten, Pdo, Gbk}
use Rattle.exec_graph.specs.declared.graph.Entry.{Entry}
use Rattle.exec_graph.specs.declared.graph.Graph.{Graph}
use Rattle.exec_graph.specs.declared.graph.Blocked.{Blocked}
use Rattle.exec_graph.proofs.Bools.{or_else, or_left, or_right}
use Rattle.exec_graph.proofs.Entries.{all_found}
use Rattle.exec_graph.proofs.Soundness.{IsSound-ok}
use Rattle.fusion_blocks.specs.Blocks.{CanMark, IsBlocked, IsMarkOf, MarksLead, takes_mark, unmarked, with_mark}
use Rattle.fusion_blocks.specs.Chains.{IsChain, group, lifted, then}
use Rattle.fusion_blocks.specs.Feeding.{feeds, feeds_by, is_flatten_of, is_gbk_of, is_grouped}
use Rattle.fusion_blocks.specs.inner.Stretches.{AreMarks, MarkedBy, MarkedFrom, fed}
use Rattle.fusion_blocks.specs.inner.Tables.{AllThere, IsRanked}
use Rattle.fusion_blocks.proofs.Marking.{is_same, same_is}

pub ranked_ok : (g : Graph) → IsGraphOk g → IsRanked g.nodes
ranked_ok g ok = let s = IsSound-ok g ok in record {
  there = s.there;
  differ = s.differ;
  rank = s.ranked.0;
  ranked = s.ranked.1;
}

-- ---- what feeds

or_none : (b : Bool) → (b || false) ≡ b
or_none true = refl
or_none false = refl

and_none : (b : Bool) → (b && false) ≡ false
and_none true = refl
and_none false = refl

fed_by : (es : List Entry) (c : Place) (n : ℕ) (x : Node)
    → (is_gbk_of c x || (is_grouped es (place n 0) && is_flatten_of c x)) ≡ among c (fed es n x)
fed_by es c n (Flatten ins) = by (is_grouped es (place n 0))
  where
    by : (b : Bool) → (b && among c ins) ≡ among c (cond b ins [])
    by true = refl
    by false = refl
fed_by es c n (Gbk d o l k) =
    ap (λ (b : Bool). same_place c d || b) (and_none (is_grouped es (place n 0)))
fed_by es c n _ = and_none (is_grouped es (place n 0))

pub among_all : (P : Place → Type 0) (c : Place) (cs : List Place) → among c cs ≡ true
    → AllByRecursion P cs → P c
among_all P c [] h a = absurd (false≢true h)
among_all P c (d ∷ cs) h a = or_else (P c) (same_place c d) (among c cs) h
    (λ q. subst P (sym (same_is c d q)) a.0) (λ q. among_all P c cs q a.1)

all_among : (P : Place → Type 0) (cs : List Place) → ((c : Place) → among c cs ≡ true → P c)
    → AllByRecursion P cs
all_among P [] h = tt
all_among P (c ∷ cs) h = (
  h c (or_left (same_place c c) (among c cs) (is_same c c refl)),
  all_among P cs (λ d q. h d (or_right (same_place d c) (among d cs) q)),
)

-- what feeds is there
fed_there : (es : List Entry) (c : Place) (n : ℕ) (x : Node) → among c (fed es n x) ≡ true
    → AllByRecursion (IsThere es) (reads x) → IsThere es c
fed_there es c n (Flatten ins) h a = by (is_grouped es (place n 0)) h
  where
    by : (b : Bool) → among c (cond b ins []) ≡ true → IsThere es c
    by true q = among_all (IsThere es) c ins q a
    by false q = absurd (false≢true q)
fed_there es c n (Gbk d o l k) h a = among_all (IsThere es) c (d ∷ []) h a
fed_there es c n _ h a = absurd (false≢true h)

feeding_there : (es rest : List Entry) (c : Place) → list_any (feeds_by es c) rest ≡ true
    → AllByRecursion (λ e. AllByRecursion (IsThere es) (reads e.node)) rest → IsThere es c
feeding_there es [] c h a = absurd (false≢true h)
feeding_there es (e ∷ rest) c h a =
    or_else (IsThere es c) (feeds_by es c e) (list_any (feeds_by es c) rest) h
    (λ q. fed_there es c e.number e.node (sym (fed_by es c e.number e.node) ∙ q) a.0)
    (λ q. feeding_there es rest c q a.1)

-- ---- what is marked

from_among : (es : List Entry) (m : ℕ → ℕ) (c d : Place) (cs : List Place) → among c cs ≡ true
    → IsMarkOf es m c d → MarkedFrom es m cs d
from_among es m c d [] h w = absurd (false≢true h)
from_among es m c d (b ∷ cs) h w =
    or_else (MarkedFrom es m (b ∷ cs) d) (same_place c b) (among c cs) h
    (λ q. inl (subst (λ (x : Place). IsMarkOf es m x d) (same_is c b q) w))
    (λ q. inr (from_among es m c d cs q w))

pub record OneOf (es : List Entry) (m : ℕ → ℕ) (P : Place → Bool) (d : Place) : Type 0 where
  pub output : Place
  pub is : P output ≡ true
  pub mark : IsMarkOf es m output d

to_among : (es : List Entry) (m : ℕ → ℕ) (d : Place) (cs : List Place) → MarkedFrom es m cs d
    → OneOf es m (λ c. among c cs) d
to_among es m d [] w = absurd w
to_among es m d (b ∷ cs) (inl w) = record {
  output = b;
  is = or_left (same_place b b) (among b cs) (is_same b b refl);
  mark = w;
}
to_among es m d (b ∷ cs) (inr w) = let q = to_among es m d cs w in record {
  output = q.output;
  is = or_right (same_place q.output b) (among q.output cs) q.is;
  mark = q.mark;
}

from_fed : (es : List Entry) (m : ℕ → ℕ) (c d : Place) (rest : List Entry)
    → list_any (feeds_by es c) rest ≡ true → IsMarkOf es m c d → MarkedBy es m rest d
from_fed es m c d [] h w = absurd (false≢true h)
from_fed es m c d (e ∷ rest) h w =
    or_else (MarkedBy es m (e ∷ rest) d) (feeds_by es c e) (list_any (feeds_by es c) rest) h
    (λ q. inl (from_among es m c d (fed es e.number e.node)
    (sym (fed_by es c e.number e.node) ∙ q) w))
    (λ q. inr (from_fed es m c d rest q w))

to_fed : (es : List Entry) (m : ℕ → ℕ) (d : Place) (rest : List Entry) → MarkedBy es m rest d
    → OneOf es m (λ c. list_any (feeds_by es c) rest) d
to_fed es m d [] w = absurd w
to_fed es m d (e ∷ rest) (inl w) = let q = to_among es m d (fed es e.number e.node) w in record {
  output = q.output;
  is = or_left (feeds_by es q.output e) (list_any (feeds_by es q.output) rest)
      (fed_by es q.output e.number e.node ∙ q.is);
  mark = q.mark;
}
to_fed es m d (e ∷ rest) (inr w) = let q = to_fed es m d rest w in record {
  output = q.output;
  is = or_right (feeds_by es q.output e) (list_any (feeds_by es q.output) rest) q.is;
  mark = q.mark;
}

from_marked : (scales : List ℕ) (es : List Entry) (marks : List Place)
    (w : AreMarks scales es marks) (d : Place) → among d marks ≡ true
    → OneOf es w.estimates (feeds es) d
from_marked scales es marks w d h = by (w.marked.only d h)
  where
    by : (among d [] ≡ true) ⊎ MarkedBy es w.estimates es d → OneOf es w.estimates (feeds es) d
    by (inl q) = absurd (false≢true q)
    by (inr q) = to_fed es w.estimates d es q

pub blocked_by : (scales : List ℕ) (g : Graph) (marks : List Place)
    → AreMarks scales g.nodes marks → IsBlocked scales (record { graph = g; marks = marks })
blocked_by scales g marks w = record {
  estimates = w.estimates;
  estimated = w.estimated;
  marks = λ d. (
    λ h. let q = from_marked scales g.nodes marks w d h in
        record { output = q.output; fed = q.is; mark = q.mark },
    λ k. w.marked.added d (from_fed g.nodes w.estimates k.output d g.nodes k.fed k.mark),
  );
}

-- ---- marks are there, and none is of a lifted Gbk

abbrev IsMarkable : List Entry → Place → Type 0
IsMarkable es d = IsThere es d × (takes_mark (node_at es d.node) ≡ true)

not_lifted : (o : Option Node) → takes_mark o ≡ true → is_lifted o ≡ false
not_lifted (Some (Gbk c o l (Some k))) h = absurd (false≢true h)
not_lifted _ h = refl

chain_markable : (es : List Entry) (c : Place) (cs : List Place) → AllThere es → IsChain es c cs
    → IsThere es c → AllByRecursion (IsMarkable es) cs
chain_markable es c cs t (group h) i = ((i, ap takes_mark h), tt)
chain_markable es c cs t (lifted h) i = tt
chain_markable es c cs t (then {d = d} {f = f} {cs = us} h b) i =
    let reads_there : AllByRecursion (IsThere es) (d ∷ []) =
    all_found (λ e. AllByRecursion (IsThere es) (reads e.node)) es c.node (Pdo d f) h t in
    Each-append (IsMarkable es) us (c ∷ [])
    (chain_markable es d us t b reads_there.0) ((i, ap takes_mark h), tt)

mark_markable : (es : List Entry) (m : ℕ → ℕ) (d : Place) → AllThere es → OneOf es m (feeds es) d
    → IsMarkable es d
mark_markable es m d t w =
    let k = w.mark in
    let all = chain_markable es w.output k.chain t k.is_chain
    (feeding_there es es w.output w.is t) in
    (Each-right (IsMarkable es) k.marked.before (d ∷ k.marked.after)
    (subst (AllByRecursion (IsMarkable es)) k.marked.parts all)).0

-- what is marked by chains can be marked
pub marks_can : (g : Graph) (m : ℕ → ℕ) (marks : List Place) → IsGraphOk g
    → ((d : Place) → among d marks ≡ true → OneOf g.nodes m (feeds g.nodes) d)
    → AllByRecursion (CanMark g) marks
marks_can g m marks ok f =
    all_among (CanMark g) marks (λ d h.
    let k = mark_markable g.nodes m d ok.founded.there (f d h) in
    record { there = k.0; kind = k.1 })

pub can_ok : (g : Graph) (marks : List Place) → IsGraphOk g → AllByRecursion (CanMark g) marks
    → IsBlockedOk (record { graph = g; marks = marks })
can_ok g marks ok a = record {
  ok = ok;
  marked = Each-weaker (CanMark g) (IsThere g.nodes) (λ d k. k.there) marks a;
  unlifted = Each-weaker (CanMark g) (λ d. is_lifted (node_at g.nodes d.node) ≡ false)
      (λ d k. not_lifted (node_at g.nodes d.node) k.kind) marks a;
}

pub blocked_ok : (scales : List ℕ) (g : Graph) (marks : List Place) → IsGraphOk g
    → AreMarks scales g.nodes marks → IsBlockedOk (record { graph = g; marks = marks })
blocked_ok scales g marks ok w =
    can_ok g marks ok
    (marks_can g w.estimates marks ok (from_marked scales g.nodes marks w))

-- ---- one mark after another

pub blocked_can : (scales : List ℕ) (b : Blocked) → IsGraphOk b.graph → IsBlocked scales b
    → AllByRecursion (CanMark b.graph) b.marks
blocked_can scales b ok w =
    marks_can b.graph w.estimates b.marks ok (λ d h.
    let k = (w.marks d).0 h in record { output = k.output; is = k.fed; mark = k.mark })

lead_from : (g : Graph) (old cs : List Place) → AllByRecursion (CanMark g) cs
    → MarksLead cs (record { graph = g; marks = old })
    (record { graph = g; marks = old ++ cs })
lead_from g old [] a =
    ap (λ (l : List Place). let b : Blocked = record { graph = g; marks = l } in b)
    (sym (append-nil old))
lead_from g old (c ∷ cs) a = (
  a.0,
  subst (λ (l : List Place). MarksLead cs (record { graph = g; marks = old ++ c ∷ [] })
      (record { graph = g; marks = l })) (append_assoc old (c ∷ []) cs)
      (lead_from g (old ++ c ∷ []) cs a.1),
)

pub marks_lead : (scales : List ℕ) (b : Blocked) → IsGraphOk b.graph → IsBlocked scales b
    → MarksLead b.marks (unmarked b.graph) b
marks_lead scales b ok w = lead_from b.graph [] b.marks (blocked_can scales b ok w)

pub mark_ok : (b : Blocked) (c : Place) → IsBlockedOk b → CanMark b.graph c
    → IsBlockedOk (with_mark b c)
mark_ok b c ok can = record {
  ok = ok.ok;
  marked = Each-append (IsThere b.graph.nodes) b.marks (c ∷ []) ok.marked (can.there, tt);
  unlifted = Each-append (λ d. is_lifted (node_at b.graph.nodes d.node) ≡ false) b.marks (c ∷ [])
      ok.unlifted (not_lifted (node_at b.graph.nodes c.node) can.kind, tt);
}

pub lead_ok : (cs : List Place) (a b : Blocked) → IsBlockedOk a → MarksLead cs a b
    → IsBlockedOk b
lead_ok [] a b ok l = subst IsBlockedOk l ok
lead_ok (c ∷ cs) a b ok l = lead_ok cs (with_mark a c) b (mark_ok a c ok l.0) l.1

pub lead_same : (cs : List Place) (a b : Blocked) → MarksLead cs a b → b.graph ≡ a.graph
lead_same [] a b l = ap (λ (x : Blocked). x.graph) (sym l)
lead_same (c ∷ cs) a b l = lead_same cs (with_mark a c) b l.1
