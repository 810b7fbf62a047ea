-- Marks in order lead to the same collections marked.
use Rattle.std.proofs.Common.{◌≡◌, ◌≤◌, ℕ, Bool, true, false, ◌||◌, List, [], ◌∷◌, ◌++◌, map, refl, sym, ap, ◌∙◌, subst, arith, append_assoc, append-nil}
use Rattle.std.proofs.lemmas.Bool.{false≢true}
use Rattle.std.specs.List.{AllByRecursion as Each}
use Rattle.flume_value.proofs.EachLemmas.{Each-append, Each-weaker}
use Rattle.exec_graph.specs.Meaning.{place}
use Rattle.exec_graph.specs.Readers.{among, same_place}
use Rattle.exec_graph.specs.declared.graph.Blocked.{Blocked}
use Rattle.exec_graph.specs.declared.graph.Graph.{Graph}
use Rattle.exec_graph.specs.declared.graph.Place.{Place}
use Rattle.fusion_blocks.specs.Blocks.{CanMark, unmarked}
use Rattle.graph_rewrites.specs.Replays.{Leads, rewrite_group}
use Rattle.graph_rewrites.specs.declared.rewrite.Rewrite.{Rewrite}
use Rattle.graph_rewrites.specs.declared.rewrite.Rewrite.TheVariants.{Merge, Sink, Lift, Kid, Sibling, Mark}
use Rattle.graph_tracing.specs.Fusions.{IsFusion}
use Rattle.graph_tracing.specs.Orders.{Ascend, Precedes, had_after, with_formers}
use Rattle.pardo_fuse.specs.Fusing.{fused}
use Rattle.pardo_fuse.proofs.Places.{same_is, same_self}
use Rattle.graph_tracing.specs.of_pass_rewrites.Passes.{ByRewrites}
use Rattle.graph_tracing.proofs.of_pass_rewrites.Lists.{leads_both}
use Rattle.plan_tracing.specs.Lists.{IsBefore, Rise, mark_of}
use Rattle.plan_tracing.specs.Refined.{IsFusedBy}

abbrev pub marked : Graph → List Place → Blocked
marked g cs = record { graph = g; marks = cs }

-- ---- what was marked can be

-- marks that lead to b are each on what can be marked
can_by : (rs : List Rewrite) (g : Graph) (ms : List Place) (b : Blocked)
    → Each (λ r. rewrite_group r ≡ 3) rs → Leads 3 rs (marked g ms) b → Each (CanMark g) ms
    → (b.graph ≡ g) × Each (CanMark g) b.marks
can_by [] g ms b all l a =
    subst (λ (x : Blocked). (x.graph ≡ g) × Each (CanMark g) x.marks) l (refl, a)
can_by (Merge outer inner ∷ rs) g ms b all l a = absurd (let e = all.0 in omega arith)
can_by (Sink flatten pdo ∷ rs) g ms b all l a = absurd (let e = all.0 in omega arith)
can_by (Lift n ∷ rs) g ms b all l a = absurd (let e = all.0 in omega arith)
can_by (Kid p k q ∷ rs) g ms b all l a = absurd (let e = all.0 in omega arith)
can_by (Sibling p q ∷ rs) g ms b all l a = absurd (let e = all.0 in omega arith)
can_by (Mark n k ∷ rs) g ms b all l a =
    can_by rs g (ms ++ place n k ∷ []) b all.1 l.1
    (Each-append (CanMark g) ms (place n k ∷ []) a (l.0.1, tt))

pub marks_can : (b : Blocked) → ByRewrites 3 (unmarked b.graph) b → Each (CanMark b.graph) b.marks
marks_can b m = (can_by m.rewrites b.graph [] b m.all m.leads tt).1

-- ---- which collections

found_can : (g : Graph) (c : Place) (ms : List Place) → among c ms ≡ true
    → Each (CanMark g) ms → CanMark g c
found_can g c [] h a = absurd (false≢true h)
found_can g c (m ∷ ms) h a = by (same_place c m) refl h (λ j. found_can g c ms j a.1)
  where
    by : (b : Bool) → same_place c m ≡ b → (b || among c ms) ≡ true
        → (among c ms ≡ true → CanMark g c) → CanMark g c
    by true i j f = subst (CanMark g) (sym (same_is c m i)) a.0
    by false i j f = f j

all_among : (cs all : List Place) → ((c : Place) → among c cs ≡ true → among c all ≡ true)
    → Each (λ c. among c all ≡ true) cs
all_among [] all f = tt
all_among (c ∷ cs) all f = (
  f c (ap (λ (b : Bool). b || among c cs) (same_self c)),
  all_among cs all (λ d h. f d (later (same_place d c) (among d cs) h)),
)
  where
    later : (a b : Bool) → b ≡ true → (a || b) ≡ true
    later true b h = refl
    later false b h = h

same_can : (g : Graph) (cs ms : List Place) → ((c : Place) → among c cs ≡ among c ms)
    → Each (CanMark g) ms → Each (CanMark g) cs
same_can g cs ms same a =
    Each-weaker (λ (c : Place). among c ms ≡ true) (CanMark g) (λ c h. found_can g c ms h a) cs
    (all_among cs ms (λ c h. sym (same c) ∙ h))

-- ---- one after another

lead_marks : (g : Graph) (cs ms : List Place) → Each (CanMark g) cs
    → Leads 3 (map mark_of cs) (marked g ms) (marked g (ms ++ cs))
lead_marks g [] ms a = ap (marked g) (sym (append-nil ms))
lead_marks g (c ∷ cs) ms a = (
  (let at : 3 ≤ 3 = omega arith in at, a.0),
  subst (λ (l : List Place). Leads 3 (map mark_of cs) (marked g (ms ++ c ∷ [])) (marked g l))
      (append_assoc ms (c ∷ []) cs) (lead_marks g cs (ms ++ c ∷ []) a.1),
)

marks_order : (f : ℕ → ℕ) (cs : List Place) → Rise cs → Ascend (with_formers f (map mark_of cs))
marks_order f [] r = tt
marks_order f (c ∷ cs) r = (before c cs r.0, marks_order f cs r.1)
  where
    before : (c : Place) (ds : List Place) → Each (IsBefore c) ds
        → Each (Precedes (mark_of c)) (with_formers f (map mark_of ds))
    before c [] a = tt
    before c (d ∷ ds) a = (a.0, before c ds a.1)

-- marks may stand behind all others
behind_all : (f : ℕ → ℕ) (r : Rewrite) (cs : List Place) → (rewrite_group r ≡ 3 → ⊥)
    → Each (Precedes r) (with_formers f (map mark_of cs))
behind_all f r [] other = tt
behind_all f (Merge outer inner) (c ∷ cs) other =
    (tt, behind_all f (Merge outer inner) cs other)
behind_all f (Sink flatten pdo) (c ∷ cs) other = (tt, behind_all f (Sink flatten pdo) cs other)
behind_all f (Lift n) (c ∷ cs) other = (tt, behind_all f (Lift n) cs other)
behind_all f (Kid p k q) (c ∷ cs) other = (tt, behind_all f (Kid p k q) cs other)
behind_all f (Sibling p q) (c ∷ cs) other = (tt, behind_all f (Sibling p q) cs other)
behind_all f (Mark n k) (c ∷ cs) other = absurd (other refl)

behind_more : (r : Rewrite) (f : ℕ → ℕ) (rs : List Rewrite) (cs : List Place)
    → (rewrite_group r ≡ 3 → ⊥) → Each (Precedes r) (with_formers f rs)
    → Each (Precedes r) (with_formers f (rs ++ map mark_of cs))
behind_more r f [] cs other a = behind_all f r cs other
behind_more r f (Merge outer inner ∷ rs) cs other a = (a.0, behind_more r f rs cs other a.1)
behind_more r f (Sink flatten pdo ∷ rs) cs other a = (a.0, behind_more r f rs cs other a.1)
behind_more r f (Lift n ∷ rs) cs other a = (a.0, behind_more r f rs cs other a.1)
behind_more r f (Kid p k q ∷ rs) cs other a =
    (a.0, behind_more r (had_after f p q) rs cs other a.1)
behind_more r f (Sibling p q ∷ rs) cs other a = (a.0, behind_more r f rs cs other a.1)
behind_more r f (Mark n k ∷ rs) cs other a = (a.0, behind_more r f rs cs other a.1)

fusions_order : (f : ℕ → ℕ) (rs : List Rewrite) (cs : List Place)
    → Each (λ r. rewrite_group r ≡ 2) rs → Ascend (with_formers f rs) → Rise cs
    → Ascend (with_formers f (rs ++ map mark_of cs))
fusions_order f [] cs all o r = marks_order f cs r
fusions_order f (Merge outer inner ∷ rs) cs all o r =
    absurd (let e = all.0 in omega arith)
fusions_order f (Sink flatten pdo ∷ rs) cs all o r = absurd (let e = all.0 in omega arith)
fusions_order f (Lift n ∷ rs) cs all o r = absurd (let e = all.0 in omega arith)
fusions_order f (Kid p k q ∷ rs) cs all o r = (
  behind_more (Kid p k (f q)) (had_after f p q) rs cs (λ e. omega arith) o.0,
  fusions_order (had_after f p q) rs cs all.1 o.1 r,
)
fusions_order f (Sibling p q ∷ rs) cs all o r = (
  behind_more (Sibling p q) f rs cs (λ e. omega arith) o.0,
  fusions_order f rs cs all.1 o.1 r,
)
fusions_order f (Mark n k ∷ rs) cs all o r = absurd (let e = all.0 in omega arith)

-- ---- fusing, and then marks

fused_marked : (b : Blocked) (fusions : List Rewrite) (cs : List Place)
    → IsFusion b fusions → Each (CanMark (fused b).graph) (fused b).marks → Rise cs
    → ((c : Place) → among c cs ≡ among c (fused b).marks)
    → IsFusedBy b.graph (fused b) (fusions ++ map mark_of cs) (marked (fused b).graph cs)
fused_marked b fusions cs f can rise same =
    let g : Graph = (fused b).graph in
    record {
      marked = record {
        graph = refl;
        marks = same;
        leads = leads_both 2 3 fusions (map mark_of cs) (unmarked b.graph) (unmarked g)
            (marked g cs) f.traced.all (omega arith) f.traced.leads
            (lead_marks g cs [] (same_can g cs (fused b).marks same can));
      };
      order = fusions_order (λ n. n) fusions cs f.traced.all f.order rise;
    }

pub marked_by : (b blocked : Blocked) (fusions : List Rewrite) (cs : List Place)
    (rs : List Rewrite) → blocked ≡ fused b → IsFusion b fusions
    → Each (CanMark blocked.graph) blocked.marks → Rise cs
    → ((c : Place) → among c cs ≡ among c blocked.marks) → rs ≡ fusions ++ map mark_of cs
    → IsFusedBy b.graph blocked rs (marked blocked.graph cs)
marked_by b blocked fusions cs rs is f can rise same all =
    subst (λ (x : List Rewrite). IsFusedBy b.graph blocked x (marked blocked.graph cs)) (sym all)
    (subst (λ (x : Blocked). IsFusedBy b.graph x (fusions ++ map mark_of cs)
    (marked x.graph cs)) (sym is)
    (fused_marked b fusions cs f
    (subst (λ (x : Blocked). Each (CanMark x.graph) x.marks) is can) rise
    (λ c. same c ∙ ap (λ (x : Blocked). among c x.marks) is)))
