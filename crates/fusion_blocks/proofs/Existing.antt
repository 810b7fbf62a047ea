-- There are estimates of a graph's nodes, and marks by them.
use Rattle.std.proofs.Common.{◌≡◌, ℕ, ◌<◌, ◌≤◌, Bool, true, false, ◌⊎◌, inl, inr, List, [], ◌∷◌, ◌++◌, length, Option, Some, None, zero, suc, refl, sym, ap, ◌∙◌, arith}
use Rattle.std.proofs.lemmas.Bool.{false≢true}
use Rattle.std.specs.List.{AllByRecursion}
use Rattle.flume_value.proofs.EachLemmas.{Each-weaker}
use Rattle.exec_graph.specs.Forests.{Forest}
use Rattle.exec_graph.specs.Meaning.{node_at, reads, IsRankedBy}
use Rattle.exec_graph.specs.Wellformed.{IsGraphOk}
use Rattle.exec_graph.specs.declared.graph.Place.{Place}
use Rattle.exec_graph.specs.declared.graph.Node.{Node}
use Rattle.exec_graph.specs.declared.graph.Node.TheVariants.{Source, Flatten, Pdo, Gbk, Barrier}
use Rattle.exec_graph.specs.declared.graph.Entry.{Entry}
use Rattle.exec_graph.specs.declared.graph.Graph.{Graph}
use Rattle.exec_graph.specs.declared.graph.Blocked.{Blocked}
use Rattle.exec_graph.proofs.Solving.{each_found, lower_most, place_of, ranked_at, short_ranked}
use Rattle.fusion_blocks.specs.Blocks.{IsBlocked, IsMarkOf}
use Rattle.fusion_blocks.specs.Chains.{IsChain, group, lifted, then}
use Rattle.fusion_blocks.specs.Estimates.{AreEstimates, estimate}
use Rattle.fusion_blocks.specs.inner.Stretches.{IsStretch, MarkedBy, MarkedFrom, MarksAlso, fed, longer}
use Rattle.fusion_blocks.specs.inner.Tables.{IsRanked}
use Rattle.fusion_blocks.specs.declared.chains.Stretch.{Stretch}
use Rattle.fusion_blocks.specs.declared.chains.Stretch.TheVariants.{Open, Empty, Least}
use Rattle.fusion_blocks.proofs.Blocking.{blocked_by, ranked_ok}
use Rattle.fusion_blocks.proofs.Chaining.{by_group, by_lifted, by_pdo, tells_mark}
use Rattle.fusion_blocks.proofs.Filling.{estimate_alike}
use Rattle.fusion_blocks.proofs.Marking.{also_alike, among_more, nothing_more, one_more}

-- ---- estimates

abbrev estimate_at : List ℕ → (ℕ → ℕ) → Option Node → ℕ
estimate_at scales m None = 0
estimate_at scales m (Some x) = estimate scales m x

-- the estimates that some turns reach
unfoldable estimate_in : List ℕ → List Entry → ℕ → ℕ → ℕ
estimate_in scales es zero n = 0
estimate_in scales es (suc turns) n = estimate_at scales (estimate_in scales es turns)
    (node_at es n)

next_in : (scales : List ℕ) (es : List Entry) (k n : ℕ)
    → estimate_in scales es (suc k) n ≡ estimate_at scales (estimate_in scales es k) (node_at es n)
unfolding estimate_in
next_in scales es k n = refl

at_alike : (scales : List ℕ) (l m : ℕ → ℕ) (o : Option Node)
    → ((x : Node) → o ≡ Some x → AllByRecursion (λ (c : Place). m c.node ≡ l c.node) (reads x))
    → estimate_at scales m o ≡ estimate_at scales l o
at_alike scales l m None f = refl
at_alike scales l m (Some x) f = estimate_alike scales l m x (f x refl)

stable : (scales : List ℕ) (r : ℕ → ℕ) (es : List Entry) → IsRankedBy r es → (k j n : ℕ)
    → r n < k → r n < j → estimate_in scales es k n ≡ estimate_in scales es j n
stable scales r es ra zero j n p q = absurd (omega arith)
stable scales r es ra (suc k) zero n p q = absurd (omega arith)
stable scales r es ra (suc k) (suc j) n p q =
    next_in scales es k n
    ∙ at_alike scales (estimate_in scales es j) (estimate_in scales es k) (node_at es n)
    (λ x h. Each-weaker (λ (d : Place). r d.node < r n)
    (λ (d : Place). estimate_in scales es k d.node ≡ estimate_in scales es j d.node)
    (λ d i. stable scales r es ra k j d.node (omega arith) (omega arith)) (reads x)
    (ranked_at r es n x ra h))
    ∙ sym (next_in scales es j n)

-- as many turns as there are nodes are enough
abbrev estimates : List ℕ → List Entry → ℕ → ℕ
estimates scales es n = estimate_in scales es (suc (length es)) n

estimates_at : (scales : List ℕ) (es : List Entry) (ok : IsRanked es) (n : ℕ) (x : Node)
    → node_at es n ≡ Some x → estimates scales es n ≡ estimate scales (estimates scales es) x
estimates_at scales es ok n x at =
    let s : ℕ → ℕ = place_of ok.rank es in
    let sa : IsRankedBy s es = short_ranked ok.rank es es ok.there ok.ranked in
    let top : s n ≤ length es = lower_most ok.rank es (ok.rank n) in
    next_in scales es (length es) n
    ∙ ap (estimate_at scales (estimate_in scales es (length es))) at
    ∙ estimate_alike scales (estimates scales es) (estimate_in scales es (length es)) x
    (Each-weaker (λ (d : Place). s d.node < s n)
    (λ (d : Place). estimate_in scales es (length es) d.node ≡ estimates scales es d.node)
    (λ d i. stable scales s es sa (length es) (suc (length es)) d.node (omega arith) (omega arith))
    (reads x) (ranked_at s es n x sa at))

are_estimates : (scales : List ℕ) (es : List Entry) → IsRanked es
    → AreEstimates scales es (estimates scales es)
are_estimates scales es ok =
    Each-weaker (λ (e : Entry). node_at es e.number ≡ Some e.node)
    (λ e. estimates scales es e.number ≡ estimate scales (estimates scales es) e.node)
    (λ e h. estimates_at scales es ok e.number e.node h) es (each_found es ok.differ)

-- ---- chains

abbrev is_link : Option Node → Bool
is_link (Some (Pdo c f)) = true
is_link (Some (Gbk c o l k)) = true
is_link _ = false

chain_link : (es : List Entry) (c : Place) (cs : List Place) → IsChain es c cs
    → is_link (node_at es c.node) ≡ true
chain_link es c cs (group h) = ap is_link h
chain_link es c cs (lifted h) = ap is_link h
chain_link es c cs (then h b) = ap is_link h

-- there is a chain to the collection, or there is none
abbrev Known : List Entry → (ℕ → ℕ) → Place → Type 0
Known es m c = (s : Stretch) × IsStretch es m c s

known_at : (es : List Entry) (m : ℕ → ℕ) (c : Place) (o : Option Node) → node_at es c.node ≡ o
    → ((d : Place) (f : Forest) → o ≡ Some (Pdo d f) → Known es m d) → Known es m c
known_at es m c None e f =
    (Open, λ cs h. false≢true (sym (ap is_link e) ∙ chain_link es c cs h))
known_at es m c (Some (Source r)) e f =
    (Open, λ cs h. false≢true (sym (ap is_link e) ∙ chain_link es c cs h))
known_at es m c (Some (Flatten ins)) e f =
    (Open, λ cs h. false≢true (sym (ap is_link e) ∙ chain_link es c cs h))
known_at es m c (Some (Pdo d k)) e f =
    let r = f d k refl in (longer m r.0 c, by_pdo es m c d k r.0 e r.1)
known_at es m c (Some (Gbk d o l None)) e f = (Least c, by_group es m c d o l e)
known_at es m c (Some (Gbk d o l (Some k))) e f = (Empty, by_lifted es c d o l k e)
known_at es m c (Some (Barrier ins o l a)) e f =
    (Open, λ cs h. false≢true (sym (ap is_link e) ∙ chain_link es c cs h))

known : (es : List Entry) (m r : ℕ → ℕ) → IsRankedBy r es → (k : ℕ) (c : Place)
    → r c.node < k → Known es m c
known es m r ra zero c l = absurd (omega arith)
known es m r ra (suc k) c l =
    known_at es m c (node_at es c.node) refl (λ d f h.
    let i : r d.node < r c.node = (ranked_at r es c.node (Pdo d f) ra h).0 in
    known es m r ra k d (omega arith))

-- ---- marks

-- beside the old ones just those for which P holds
abbrev Marked : List Place → (Place → Type 0) → Type 0
Marked old P = (new : List Place) × MarksAlso old new P

also_then : (old now new : List Place) (P Q : Place → Type 0) → MarksAlso old now P
    → MarksAlso now new Q → MarksAlso old new (λ d. P d ⊎ Q d)
also_then old now new P Q a b = record {
  only = λ d h. elim (b.only d h) [
    | inl i ↦ elim (a.only d i) [ inl j ↦ inl j | inr p ↦ inr (inl p) ]
    | inr q ↦ inr (inr q)
  ];
  kept = λ d h. b.kept d (a.kept d h);
  added = λ d h. elim h [ inl p ↦ b.kept d (a.added d p) | inr q ↦ b.added d q ];
}

least_marks : (old : List Place) (s : Stretch) → Marked old (λ d. s ≡ Least d)
least_marks old Open =
    (old, nothing_more old (λ d. Open ≡ Least d) (λ d e. let bad : ⊥ = cc in bad))
least_marks old Empty =
    (old, nothing_more old (λ d. Empty ≡ Least d) (λ d e. let bad : ⊥ = cc in bad))
least_marks old (Least b) = (
  old ++ b ∷ [],
  one_more old (old ++ b ∷ []) b (λ d. Least b ≡ Least d) (λ d. among_more d b old) refl
      (λ d e. let same : d ≡ b = cc in same),
)

abbrev is_pdo : Option Node → Bool
is_pdo (Some (Pdo c f)) = true
is_pdo _ = false

no_mark : (es : List Entry) (m : ℕ → ℕ) (c : Place) (old : List Place)
    → is_pdo (node_at es c.node) ≡ false → Marked old (IsMarkOf es m c)
no_mark es m c old e =
    (old, nothing_more old (IsMarkOf es m c) (λ d w. false≢true (sym e ∙ ap is_pdo w.pdo)))

one_mark : (es : List Entry) (m : ℕ → ℕ) (c : Place) (old : List Place) (o : Option Node)
    → node_at es c.node ≡ o → Known es m c → Marked old (IsMarkOf es m c)
one_mark es m c old (Some (Pdo i f)) e k =
    let r = least_marks old k.0 in
    let tells = tells_mark es m c i f k.0 e k.1 in (
      r.0,
      also_alike old r.0 (λ d. k.0 ≡ Least d) (IsMarkOf es m c) r.1 (λ d. (tells d).0)
          (λ d. (tells d).1),
    )
one_mark es m c old _ e k = no_mark es m c old (ap is_pdo e)

marks_from : (es : List Entry) (m : ℕ → ℕ) → ((c : Place) → Known es m c) → (old cs : List Place)
    → Marked old (MarkedFrom es m cs)
marks_from es m k old [] = (old, nothing_more old (MarkedFrom es m []) (λ d h. h))
marks_from es m k old (c ∷ cs) =
    let a = one_mark es m c old (node_at es c.node) refl (k c) in
    let b = marks_from es m k a.0 cs in
    (b.0, also_then old a.0 b.0 (IsMarkOf es m c) (MarkedFrom es m cs) a.1 b.1)

marks_by : (es : List Entry) (m : ℕ → ℕ) → ((c : Place) → Known es m c) → (old : List Place)
    (rest : List Entry) → Marked old (MarkedBy es m rest)
marks_by es m k old [] = (old, nothing_more old (MarkedBy es m []) (λ d h. h))
marks_by es m k old (e ∷ rest) =
    let a = marks_from es m k old (fed es e.number e.node) in
    let b = marks_by es m k a.0 rest in (
      b.0,
      also_then old a.0 b.0 (MarkedFrom es m (fed es e.number e.node)) (MarkedBy es m rest)
          a.1 b.1,
    )

-- ---- the whole

pub some_blocked : (scales : List ℕ) (g : Graph) → IsGraphOk g
    → (b : Blocked) × (b.graph ≡ g) × IsBlocked scales b
some_blocked scales g ok =
    let es : List Entry = g.nodes in
    let s : IsRanked es = ranked_ok g ok in
    let m : ℕ → ℕ = estimates scales es in
    let r = marks_by es m (λ c. known es m s.rank s.ranked (suc (s.rank c.node)) c (omega arith))
    [] es in (
      record { graph = g; marks = r.0 },
      refl,
      blocked_by scales g r.0 (record {
        estimates = m;
        estimated = are_estimates scales es s;
        marked = r.1;
      }),
    )
