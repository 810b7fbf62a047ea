-- How estimates become known.
use Rattle.std.proofs.Common.{◌≡◌, ℕ, ◌+◌, ◌-◌, ◌*◌, ◌/◌, ◌<◌, ◌≤◌, Bool, true, false, cond, eqb, List, [], ◌∷◌, length, drop, get_or, Option, Some, None, zero, suc, refl, sym, ap, ◌∙◌, subst, arith}
use Rattle.std.proofs.Math.Seq.{drop-cons}
use Rattle.std.proofs.lemmas.Bool.{eqb-true}
use Rattle.std.proofs.lemmas.List.{get_or_default}
use Rattle.std.specs.List.{AllByRecursion}
use Rattle.flume_value.proofs.EachLemmas.{Each-weaker, Each-both, Each-drop}
use Rattle.exec_graph.specs.Meaning.{node_at, reads, IsThere}
use Rattle.exec_graph.proofs.Entries.{all_found, map_alike}
use Rattle.exec_graph.proofs.Solving.{each_found, ranked_at, short_ranked, lower_most, place_of, there_found}
use Rattle.exec_graph.specs.declared.graph.Place.{Place}
use Rattle.exec_graph.specs.declared.graph.Node.{Node}
use Rattle.exec_graph.specs.declared.graph.Node.TheVariants.{Source, Flatten, Pdo, Gbk, Barrier}
use Rattle.exec_graph.specs.declared.graph.Entry.{Entry}
use Rattle.fusion_blocks.specs.Estimates.{act_estimate, capped, estimate, scale_of, sum_of, AreEstimates}
use Rattle.fusion_blocks.specs.inner.Tables.{AllBelow, Fills, Grows, Has, HasAll, IsBelow, IsPartly, IsRanked, IsRight, or_zero}

-- what a loop comes to next
pub item : {X : Type 0} (xs : List X) (i : ℕ) (x : X) → i < length xs → x ≡ get_or xs i x
    → drop i xs ≡ x ∷ drop (i + 1) xs
item {X = X} xs i x l h = let e : suc i ≡ i + 1 = omega arith in
    drop-cons xs i x l ∙ ap (λ (y : X). y ∷ drop (suc i) xs) (sym h)
    ∙ ap (λ (k : ℕ). x ∷ drop k xs) e

pub ended : {X : Type 0} (xs : List X) (i : ℕ) → length xs ≤ i → drop i xs ≡ []
ended [] zero l = refl
ended [] (suc i) l = refl
ended (x ∷ xs) zero l = absurd (omega arith)
ended (x ∷ xs) (suc i) l = ended xs i (omega arith)

has_grown : (s t : ℕ → Option ℕ) (n : ℕ) → Grows s t → Has s n → Has t n
has_grown s t n g h = record { value = h.value; is = g n h.value h.is }

all_grown : (s t : ℕ → Option ℕ) (cs : List Place) → Grows s t → HasAll s cs → HasAll t cs
all_grown s t cs g a = Each-weaker (λ (c : Place). Has s c.node) (λ (c : Place). Has t c.node)
    (λ c h. has_grown s t c.node g h) cs a

-- ---- one more estimate

pub estimate_alike : (scales : List ℕ) (l m : ℕ → ℕ) (x : Node)
    → AllByRecursion (λ (c : Place). m c.node ≡ l c.node) (reads x)
    → estimate scales m x ≡ estimate scales l x
estimate_alike scales l m (Source r) a = refl
estimate_alike scales l m (Flatten ins) a = ap (λ (ns : List ℕ). capped (sum_of ns))
    (map_alike (λ (c : Place). l c.node) (λ (c : Place). m c.node) ins a)
estimate_alike scales l m (Pdo c f) a =
    ap (λ (n : ℕ). capped (n * scale_of scales f / 100)) a.0
estimate_alike scales l m (Gbk c o e k) a = a.0
estimate_alike scales l m (Barrier ins o e d) a = ap (act_estimate scales d)
    (map_alike (λ (c : Place). l c.node) (λ (c : Place). m c.node) ins a)

-- what rests on what was known is as it was
right_grown : (scales : List ℕ) (es : List Entry) (s t : ℕ → Option ℕ) (n v : ℕ) → Grows s t
    → IsRight scales es s n v → IsRight scales es t n v
right_grown scales es s t n v g r = record {
  node = r.node;
  found = r.found;
  rests = all_grown s t (reads r.node) g r.rests;
  value = r.value ∙ sym (estimate_alike scales (λ k. or_zero (s k)) (λ k. or_zero (t k)) r.node
      (Each-weaker (λ (c : Place). Has s c.node)
      (λ (c : Place). or_zero (t c.node) ≡ or_zero (s c.node))
      (λ c h. ap or_zero (g c.node h.value h.is) ∙ sym (ap or_zero h.is)) (reads r.node) r.rests));
}

same_node : (es : List Entry) (n : ℕ) (x y : Node) → node_at es n ≡ Some x → node_at es n ≡ Some y
    → x ≡ y
same_node es n x y g h = let e : Some x ≡ Some y = sym g ∙ h in cc

pub put_right : (scales : List ℕ) (es : List Entry) (n v : ℕ) (x : Node)
    (first now new : ℕ → Option ℕ) → Fills scales es first now → node_at es n ≡ Some x
    → HasAll now (reads x) → v ≡ estimate scales (λ k. or_zero (now k)) x
    → ((k : ℕ) → new k ≡ cond (eqb n k) (Some v) (now k)) → Fills scales es first new
put_right scales es n v x first now new f found has is puts =
    record { partly = partly; grows = λ k w h. grows k w (f.grows k w h) }
  where
    grows : Grows now new
    grows k w h = by (eqb n k) refl
      where
        by : (b : Bool) → eqb n k ≡ b → new k ≡ Some w
        by false q = puts k ∙ ap (λ (b : Bool). cond b (Some v) (now k)) q ∙ h
        by true q =
            let e : n ≡ k = eqb-true n k q in
            let r = f.partly k w h in
            let s : r.node ≡ x = same_node es k r.node x r.found
            (subst (λ (j : ℕ). node_at es j ≡ Some x) e found) in
            let d : w ≡ v = r.value ∙ ap (estimate scales (λ j. or_zero (now j))) s ∙ sym is in
            puts k ∙ ap (λ (b : Bool). cond b (Some v) (now k)) q ∙ ap Some (sym d)

    partly : IsPartly scales es new
    partly k w h = by (eqb n k) refl
      where
        by : (b : Bool) → eqb n k ≡ b → IsRight scales es new k w
        by false q = right_grown scales es now new k w grows
            (f.partly k w (sym (ap (λ (b : Bool). cond b (Some v) (now k)) q) ∙ sym (puts k) ∙ h))
        by true q =
            let e : n ≡ k = eqb-true n k q in
            let p : Some v ≡ Some w =
            sym (ap (λ (b : Bool). cond b (Some v) (now k)) q) ∙ sym (puts k) ∙ h in
            let d : v ≡ w = cc in
            right_grown scales es now new k w grows (record {
              node = x;
              found = subst (λ (j : ℕ). node_at es j ≡ Some x) e found;
              rests = has;
              value = sym d ∙ is;
            })

-- ---- the walk

-- what a node reads is below it
pub reads_below : (es : List Entry) (turns less n : ℕ) (x : Node) → less + 1 ≡ turns
    → IsBelow es turns n → node_at es n ≡ Some x → AllBelow es less (reads x)
reads_below es turns less n x e b h =
    Each-both (IsThere es) (λ (c : Place). b.rank c.node < b.rank n)
    (λ (c : Place). IsBelow es less c.node) (λ c t l. let y = there_found es c t in
    let under = b.below in record {
      there = b.there;
      rank = b.rank;
      ranked = b.ranked;
      below = omega arith;
      node = y.0;
      found = y.1;
    }) (reads x)
    (all_found (λ d. AllByRecursion (IsThere es) (reads d.node)) es n x h b.there)
    (ranked_at b.rank es n x b.ranked h)

pub turns_less : (es : List Entry) (turns n : ℕ) → IsBelow es turns n → 0 < turns
turns_less es turns n b = let l = b.below in omega arith

pub all_below : {es : List Entry} {turns n : ℕ} {x : Node} {cs : List Place} → IsBelow es turns n
    → node_at es n ≡ Some x → cs ≡ reads x → AllBelow es (turns - 1) cs
all_below {es} {turns} {n} {x} b found is =
    let some = turns_less es turns n b in
    let less : turns - 1 + 1 ≡ turns = omega arith in
    subst (AllBelow es (turns - 1)) (sym is) (reads_below es turns (turns - 1) n x less b found)

pub record IsFilling (scales : List ℕ) (es : List Entry) (turns : ℕ) (places rest : List Place)
    (first now : ℕ → Option ℕ) : Type 0 where
  pub below : AllBelow es turns rest
  pub fills : Fills scales es first now
  pub has : (t : ℕ → Option ℕ) → Grows now t → HasAll t rest → HasAll t places

fills_more : (scales : List ℕ) (es : List Entry) (first now new : ℕ → Option ℕ)
    → Fills scales es first now → Fills scales es now new → Fills scales es first new
fills_more scales es first now new f g =
    record { partly = g.partly; grows = λ n v h. g.grows n v (f.grows n v h) }

-- the loop's next collection, by whatever default
pub filling_more : (scales : List ℕ) (es : List Entry) (turns i : ℕ) (places : List Place)
    (d : Place)
    (first now new : ℕ → Option ℕ) → i < length places
    → IsFilling scales es turns places (drop i places) first now → Fills scales es now new
    → Has new (get_or places i d).node
    → IsFilling scales es turns places (drop (i + 1) places) first new
filling_more scales es turns i places d first now new l w f h =
    let c : Place = get_or places i d in
    let e : drop i places ≡ c ∷ drop (i + 1) places =
    item places i c l (get_or_default places i d c l) in
    record {
      below = (subst (AllBelow es turns) e w.below).1;
      fills = fills_more scales es first now new w.fills f;
      has = λ t g a. w.has t (λ n v k. g n v (f.grows n v k))
          (subst (HasAll t) (sym e) (has_grown new t c.node g h, a));
    }

pub filling_done : (scales : List ℕ) (es : List Entry) (turns i : ℕ) (places : List Place)
    (first now : ℕ → Option ℕ) → length places ≤ i
    → IsFilling scales es turns places (drop i places) first now → HasAll now places
filling_done scales es turns i places first now l w =
    w.has now (λ n v h. h) (subst (HasAll now) (sym (ended places i l)) tt)

-- ---- all nodes

abbrev pub AllHave : (ℕ → Option ℕ) → List Entry → Type 0
AllHave t es = AllByRecursion (λ (e : Entry). Has t e.number) es

pub record IsFillingAll (scales : List ℕ) (es rest : List Entry) (now : ℕ → Option ℕ) : Type 0 where
  pub partly : IsPartly scales es now
  pub has : (t : ℕ → Option ℕ) → Grows now t → AllHave t rest → AllHave t es

pub all_more : (scales : List ℕ) (es : List Entry) (i : ℕ) (e : Entry) (now new : ℕ → Option ℕ)
    → drop i es ≡ e ∷ drop (i + 1) es → IsFillingAll scales es (drop i es) now
    → Fills scales es now new → Has new e.number → IsFillingAll scales es (drop (i + 1) es) new
all_more scales es i e now new d w f h = record {
  partly = f.partly;
  has = λ t g a. w.has t (λ n v k. g n v (f.grows n v k))
      (subst (AllHave t) (sym d) (has_grown new t e.number g h, a));
}

pub all_done : (scales : List ℕ) (es : List Entry) (i : ℕ) (now : ℕ → Option ℕ) → IsRanked es
    → length es ≤ i → IsFillingAll scales es (drop i es) now
    → AreEstimates scales es (λ n. or_zero (now n))
all_done scales es i now r l w =
    Each-both (λ (e : Entry). Has now e.number) (λ (e : Entry). node_at es e.number ≡ Some e.node)
    (λ (e : Entry). or_zero (now e.number) ≡ estimate scales (λ n. or_zero (now n)) e.node)
    (λ e h f. let q = w.partly e.number h.value h.is in
    ap or_zero h.is ∙ q.value ∙ ap (estimate scales (λ n. or_zero (now n)))
    (same_node es e.number q.node e.node q.found f)) es
    (w.has now (λ n v h. h) (subst (AllHave now) (sym (ended es i l)) tt))
    (each_found es r.differ)

-- as many turns as there are nodes, and one, are enough
pub found_below : (es : List Entry) (n : ℕ) (x : Node) → IsRanked es → node_at es n ≡ Some x
    → IsBelow es (length es + 1) n
found_below es n x r h = record {
  there = r.there;
  rank = place_of r.rank es;
  ranked = short_ranked r.rank es es r.there r.ranked;
  below = let most = lower_most r.rank es (r.rank n) in omega arith;
  node = x;
  found = h;
}

pub entry_below : (es : List Entry) (i : ℕ) (e : Entry) → IsRanked es
    → drop i es ≡ e ∷ drop (i + 1) es → IsBelow es (length es + 1) e.number
entry_below es i e r d = found_below es e.number e.node r
    (subst (AllByRecursion (λ (x : Entry). node_at es x.number ≡ Some x.node)) d
    (Each-drop (λ (x : Entry). node_at es x.number ≡ Some x.node) i es
    (each_found es r.differ))).0
