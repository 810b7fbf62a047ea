-- A walk along edges that marks where it was.
use Rattle.std.proofs.Common.{◌≡◌, ℕ, ◌+◌, ◌<◌, ◌≤◌, Bool, true, false, cond, eqb, List, [], ◌∷◌, ◌++◌, length, get_or, set, zero, suc, refl, sym, ap, ◌∙◌, subst, arith, inl, inr, ◌⊎◌}
use Rattle.std.specs.List.{AllByRecursion}
use Rattle.std.proofs.lemmas.Bool.{eqb-true, eq-eqb, false≢true}
use Rattle.std.proofs.lemmas.List.{get_or-set_same, get_or-set_other, get_or_default}
use Rattle.std.proofs.lemmas.List.Sums.{sum_by-set}
use Rattle.std.proofs.Math.ListN.{length-set}
use Rattle.exec_graph.proofs.Bools.{within_or}
use Rattle.graph_checks.specs.declared.order.Mark.{Mark}
use Rattle.graph_checks.specs.declared.order.Mark.TheVariants.{Fresh, Open, Done}
use Rattle.graph_checks.specs.inner.Order.{edges_at, HasRank, mark_at, is_fresh, fresh, HasNoOpen, IsPartly, Reached, NoWay}
use Rattle.flume_value.proofs.EachLemmas.{Each-weaker}

pub all_at : (P : ℕ → Type 0) (xs : List ℕ) (k : ℕ) → k < length xs → AllByRecursion P xs
    → P (get_or xs k 0)
all_at P [] k h a = absurd (omega arith)
all_at P (x ∷ xs) zero h a = a.0
all_at P (x ∷ xs) (suc k) h a = all_at P xs k (omega arith) a.1

all_from : (P : ℕ → Type 0) (xs : List ℕ) → ((k : ℕ) → k < length xs → P (get_or xs k 0))
    → AllByRecursion P xs
all_from P [] h = tt
all_from P (x ∷ xs) h = (h 0 (omega arith), all_from P xs (λ k l. h (suc k) (omega arith)))

-- the node i is open, and the first k nodes that it leads to are done
pub record IsWalk (es : List (List ℕ)) (i : ℕ) (first now : List Mark) (k : ℕ) : Type 0 where
  pub was : mark_at first i ≡ Fresh
  pub open_now : mark_at now i ≡ Open
  pub few : fresh now < fresh first
  pub partly : IsPartly es now
  pub kept : (j : ℕ) → (mark_at first j ≡ Fresh → ⊥) → mark_at now j ≡ mark_at first j
  pub opened : (j : ℕ) → mark_at now j ≡ Open → (j ≡ i) ⊎ (mark_at first j ≡ Open)
  pub done : (m : ℕ) → m < k → mark_at now (get_or (edges_at es i) m 0) ≡ Done

by_place : (P : Type 0) (j i : ℕ) → (j ≡ i → P) → ((j ≡ i → ⊥) → P) → P
by_place P j i f g = by (eqb j i) refl
  where
    by : (r : Bool) → eqb j i ≡ r → P
    by true e = f (eqb-true j i e)
    by false e = g (λ h. false≢true (sym e ∙ eq-eqb j i h))

open_done : (m : Mark) → m ≡ Open → m ≡ Done → ⊥
open_done m e f = cc

open_fresh : (m : Mark) → m ≡ Open → m ≡ Fresh → ⊥
open_fresh m e f = cc

fresh_done : (m : Mark) → m ≡ Fresh → m ≡ Done → ⊥
fresh_done m e f = cc

-- fresh nodes and a new mark
abbrev one : Mark → ℕ
one m = cond (is_fresh m) 1 0

fresh_set : (ms : List Mark) (i : ℕ) (m : Mark) → i < length ms
    → fresh (set ms i m) + one (mark_at ms i) ≡ fresh ms + one m
fresh_set ms i m h = sum_by-set one ms i m Done h

set_partly : (es : List (List ℕ)) (ms : List Mark) (i : ℕ) → mark_at ms i ≡ Fresh → i < length ms
    → IsPartly es ms → IsPartly es (set ms i Open)
set_partly es ms i f h p = record {
  rank = p.rank;
  done = λ j d. by_place (AllByRecursion (λ x. (mark_at (set ms i Open) x ≡ Done)
      × (p.rank x < p.rank j)) (edges_at es j)) j i
      (λ e. absurd (open_done (mark_at (set ms i Open) j)
      (ap (mark_at (set ms i Open)) e ∙ get_or-set_same ms i Open Done h) d))
      (λ n. Each-weaker (λ x. (mark_at ms x ≡ Done) × (p.rank x < p.rank j))
      (λ x. (mark_at (set ms i Open) x ≡ Done) × (p.rank x < p.rank j))
      (λ x q. (
        get_or-set_other ms i x Open Done
            (λ e. fresh_done (mark_at ms x) (ap (mark_at ms) e ∙ f) q.0) ∙ q.0,
        q.1,
      )) (edges_at es j)
      (p.done j (sym (get_or-set_other ms i j Open Done n) ∙ d)));
}

pub walk_begun : (es : List (List ℕ)) (i : ℕ) (first : List Mark) → mark_at first i ≡ Fresh
    → i < length first → IsPartly es first → IsWalk es i first (set first i Open) 0
walk_begun es i first f h p = record {
  was = f;
  open_now = get_or-set_same first i Open Done h;
  few = let a = fresh_set first i Open h in let b : one (mark_at first i) ≡ 1 = ap one f in
      omega arith;
  partly = set_partly es first i f h p;
  kept = λ j n. get_or-set_other first i j Open Done (λ e. n (ap (mark_at first) e ∙ f));
  opened = λ j o. by_place ((j ≡ i) ⊎ (mark_at first j ≡ Open)) j i (λ e. inl e)
      (λ n. inr (sym (get_or-set_other first i j Open Done n) ∙ o));
  done = λ m l. absurd (omega arith);
}

pub walk_more : (es : List (List ℕ)) (i k j : ℕ) (first now new : List Mark)
    → IsWalk es i first now k → j ≡ get_or (edges_at es i) k 0 → fresh new ≤ fresh now
    → Reached es j now new → IsWalk es i first new (k + 1)
walk_more es i k j first now new w e few r = record {
  was = w.was;
  open_now = r.kept i (λ f. open_fresh (mark_at now i) w.open_now f) ∙ w.open_now;
  few = let a = w.few in omega arith;
  partly = r.partly;
  kept = λ x n. by_kept x n;
  opened = λ x o. w.opened x (r.opened x o);
  done = λ m l. by_place (mark_at new (get_or (edges_at es i) m 0) ≡ Done) m k
      (λ h. ap (λ (y : ℕ). mark_at new (get_or (edges_at es i) y 0)) h ∙ ap (mark_at new) (sym e)
      ∙ r.done)
      (λ h. let d : mark_at now (get_or (edges_at es i) m 0) ≡ Done = w.done m (omega arith) in
      r.kept (get_or (edges_at es i) m 0)
      (λ f. fresh_done (mark_at now (get_or (edges_at es i) m 0)) f d) ∙ d);
}
  where
    by_kept : (x : ℕ) → (mark_at first x ≡ Fresh → ⊥) → mark_at new x ≡ mark_at first x
    by_kept x n = let a : mark_at now x ≡ mark_at first x = w.kept x n in
        r.kept x (λ f. n (sym a ∙ f)) ∙ a

pub walk_no : (es : List (List ℕ)) (i k j : ℕ) (first now : List Mark) → IsWalk es i first now k
    → k < length (edges_at es i) → j ≡ get_or (edges_at es i) k 0 → NoWay es j now
    → NoWay es i first
walk_no es i k j first now w h e bad r rank above =
    let low : r j < r i = subst (λ (x : ℕ). r x < r i) (sym e)
    (all_at (λ (x : ℕ). r x < r i) (edges_at es i) k h (rank i)) in
    bad r rank (λ x o. by x (w.opened x o) low)
  where
    by : (x : ℕ) → (x ≡ i) ⊎ (mark_at first x ≡ Open) → r j < r i → r j < r x
    by x (inl q) low = subst (λ (y : ℕ). r j < r y) (sym q) low
    by x (inr q) low = let a : r i < r x = above x q in omega arith

-- ---- the node is done
abbrev above_all : (ℕ → ℕ) → List ℕ → ℕ
above_all r [] = 0
above_all r (x ∷ xs) = 1 + (r x + above_all r xs)

below_above : (r : ℕ → ℕ) (xs : List ℕ) → AllByRecursion (λ x. r x < above_all r xs) xs
below_above r [] = tt
below_above r (x ∷ xs) = (
  omega arith,
  Each-weaker (λ (y : ℕ). r y < above_all r xs)
      (λ (y : ℕ). r y < above_all r (x ∷ xs)) (λ y l. omega arith) xs (below_above r xs),
)

abbrev rank_with : (ℕ → ℕ) → ℕ → List ℕ → ℕ → ℕ
rank_with r i xs x = cond (eqb x i) (above_all r xs) (r x)

rank_other : (r : ℕ → ℕ) (i : ℕ) (xs : List ℕ) (x : ℕ) → (x ≡ i → ⊥) → rank_with r i xs x ≡ r x
rank_other r i xs x n = by (eqb x i) refl
  where
    by : (b : Bool) → eqb x i ≡ b → cond b (above_all r xs) (r x) ≡ r x
    by true e = absurd (n (eqb-true x i e))
    by false e = refl

rank_same : (r : ℕ → ℕ) (i : ℕ) (xs : List ℕ) → rank_with r i xs i ≡ above_all r xs
rank_same r i xs = ap (λ (b : Bool). cond b (above_all r xs) (r i)) (eq-eqb i i refl)

all_both : (P Q R : ℕ → Type 0) → ((x : ℕ) → P x → Q x → R x) → (xs : List ℕ) → AllByRecursion P xs
    → AllByRecursion Q xs → AllByRecursion R xs
all_both P Q R f [] a b = tt
all_both P Q R f (x ∷ xs) a b = (f x a.0 b.0, all_both P Q R f xs a.1 b.1)

pub walk_done : (es : List (List ℕ)) (i k : ℕ) (first now : List Mark) → IsWalk es i first now k
    → length (edges_at es i) ≤ k → i < length now → Reached es i first (set now i Done)
walk_done es i k first now w h l =
    let new : List Mark = set now i Done in
    let xs : List ℕ = edges_at es i in
    let r : ℕ → ℕ = w.partly.rank in
    let apart : (x : ℕ) → mark_at now x ≡ Done → x ≡ i
    → ⊥ = λ x d e. open_done (mark_at now x) (ap (mark_at now) e ∙ w.open_now) d in
    let other : (x : ℕ) → (x ≡ i → ⊥) → mark_at new x ≡ mark_at now x =
    λ x n. get_or-set_other now i x Done Done n in
    let here : mark_at new i ≡ Done = get_or-set_same now i Done Done l in
    let done_xs : AllByRecursion (λ x. mark_at now x ≡ Done) xs =
    all_from (λ x. mark_at now x ≡ Done) xs (λ m q. w.done m (omega arith)) in
    record {
      done = here;
      partly = record {
        rank = rank_with r i xs;
        done = λ j d. by_place (AllByRecursion
            (λ x. (mark_at new x ≡ Done) × (rank_with r i xs x < rank_with r i xs j))
            (edges_at es j)) j i
            (λ e. subst (λ (y : ℕ). AllByRecursion
            (λ x. (mark_at new x ≡ Done) × (rank_with r i xs x < rank_with r i xs y))
            (edges_at es y)) (sym e)
            (all_both (λ x. mark_at now x ≡ Done) (λ x. r x < above_all r xs)
            (λ x. (mark_at new x ≡ Done) × (rank_with r i xs x < rank_with r i xs i))
            (λ x a b. (
              other x (apart x a) ∙ a,
              rw (rank_other r i xs x (apart x a), rank_same r i xs) b,
            )) xs done_xs
            (below_above r xs)))
            (λ n. Each-weaker (λ x. (mark_at now x ≡ Done) × (r x < r j))
            (λ x. (mark_at new x ≡ Done) × (rank_with r i xs x < rank_with r i xs j))
            (λ x q. (
              other x (apart x q.0) ∙ q.0,
              rw (rank_other r i xs x (apart x q.0), rank_other r i xs j n) q.1,
            )) (edges_at es j)
            (w.partly.done j (sym (other j n) ∙ d)));
      };
      kept = λ j n. other j (λ e. n (ap (mark_at first) e ∙ w.was)) ∙ w.kept j n;
      opened = λ j o. by_place (mark_at first j ≡ Open) j i
          (λ e. absurd (open_done (mark_at new j) o (ap (mark_at new) e ∙ here)))
          (λ n. by_opened j n (w.opened j (sym (other j n) ∙ o)));
    }
  where
    by_opened : (j : ℕ) → (j ≡ i → ⊥) → (j ≡ i) ⊎ (mark_at first j ≡ Open) → mark_at first j ≡ Open
    by_opened j n (inl q) = absurd (n q)
    by_opened j n (inr q) = q

pub done_few : (now first : List Mark) (i : ℕ) → i < length now → mark_at now i ≡ Open
    → fresh now < fresh first → fresh (set now i Done) ≤ fresh first
done_few now first i h o l = let a = fresh_set now i Done h in
    let b : one (mark_at now i) ≡ 0 = ap one o in omega arith

-- ---- all nodes
pub record AreDone (es : List (List ℕ)) (ms : List Mark) (i : ℕ) : Type 0 where
  pub none : HasNoOpen ms
  pub partly : IsPartly es ms
  pub done : (j : ℕ) → j < i → mark_at ms j ≡ Done

pub done_more : (es : List (List ℕ)) (now new : List Mark) (i : ℕ) → AreDone es now i
    → Reached es i now new → AreDone es new (i + 1)
done_more es now new i a r = record {
  none = λ j o. a.none j (r.opened j o);
  partly = r.partly;
  done = λ j l. by_place (mark_at new j ≡ Done) j i (λ e. ap (mark_at new) e ∙ r.done)
      (λ n. let d : mark_at now j ≡ Done = a.done j (omega arith) in
      r.kept j (λ f. fresh_done (mark_at now j) f d) ∙ d);
}

beyond : (ms : List Mark) (j : ℕ) → length ms ≤ j → mark_at ms j ≡ Done
beyond [] j h = refl
beyond (m ∷ ms) zero h = absurd (omega arith)
beyond (m ∷ ms) (suc j) h = beyond ms j (omega arith)

pub ranks_all : (es : List (List ℕ)) (ms : List Mark) → AreDone es ms (length ms) → HasRank es
ranks_all es ms a = (
  a.partly.rank,
  λ i. Each-weaker
      (λ x. (mark_at ms x ≡ Done) × (a.partly.rank x < a.partly.rank i))
      (λ x. a.partly.rank x < a.partly.rank i) (λ x q. q.1) (edges_at es i)
      (a.partly.done i (by i (within_or i (length ms)))),
)
  where
    by : (i : ℕ) → (i < length ms) ⊎ (length ms ≤ i) → mark_at ms i ≡ Done
    by i (inl l) = a.done i l
    by i (inr l) = beyond ms i l

pub no_rank : (es : List (List ℕ)) (ms : List Mark) (i : ℕ) → HasNoOpen ms → NoWay es i ms
    → HasRank es → ⊥
no_rank es ms i none bad r = bad r.0 r.1 (λ j o. absurd (none j o))

-- ---- nothing is marked
fresh_at : (ms : List Mark) (j : ℕ) → AllByRecursion (λ m. m ≡ Fresh) ms → (mark_at ms j ≡ Fresh)
    ⊎ (length ms ≤ j)
fresh_at [] j a = inr (omega arith)
fresh_at (m ∷ ms) zero a = inl a.0
fresh_at (m ∷ ms) (suc j) a = elim (fresh_at ms j a.1) [ inl e ↦ inl e | inr l ↦ inr (omega arith) ]

pub fresh_none : (ms : List Mark) → AllByRecursion (λ m. m ≡ Fresh) ms → HasNoOpen ms
fresh_none [] a j o = let bad : ⊥ = cc in bad
fresh_none (m ∷ ms) a zero o = open_fresh m o a.0
fresh_none (m ∷ ms) a (suc j) o = fresh_none ms a.1 j o

no_edges : (es : List (List ℕ)) (j : ℕ) → length es ≤ j → edges_at es j ≡ []
no_edges [] j h = refl
no_edges (e ∷ es) zero h = absurd (omega arith)
no_edges (e ∷ es) (suc j) h = no_edges es j (omega arith)

pub fresh_partly : (es : List (List ℕ)) (ms : List Mark) → length ms ≡ length es
    → AllByRecursion (λ m. m ≡ Fresh) ms → IsPartly es ms
fresh_partly es ms h a = record { rank = λ x. x; done = λ i d. by i d (fresh_at ms i a) }
  where
    by : (i : ℕ) → mark_at ms i ≡ Done → (mark_at ms i ≡ Fresh) ⊎ (length ms ≤ i)
        → AllByRecursion (λ j. (mark_at ms j ≡ Done) × (j < i)) (edges_at es i)
    by i d (inl f) = absurd (fresh_done (mark_at ms i) f d)
    by i d (inr l) = subst (λ (xs : List ℕ). AllByRecursion (λ j. (mark_at ms j ≡ Done) × (j < i))
        xs) (sym (no_edges es i (omega arith))) tt

pub fresh_push : (ms : List Mark) → AllByRecursion (λ m. m ≡ Fresh) ms
    → AllByRecursion (λ m. m ≡ Fresh) (ms ++ Fresh ∷ [])
fresh_push [] a = (refl, tt)
fresh_push (m ∷ ms) a = (a.0, fresh_push ms a.1)

-- ---- what the code reads
pub led : (es : List (List ℕ)) (i : ℕ) (x leads : List ℕ) → i < length es → x ≡ get_or es i x
    → leads ≡ x → leads ≡ edges_at es i
led es i x leads h e f = f ∙ e ∙ get_or_default es i x [] h

pub fresh_read : (ms : List Mark) (i : ℕ) (d : Mark) → i < length ms → get_or ms i d ≡ Fresh
    → mark_at ms i ≡ Fresh
fresh_read ms i d h e = get_or_default ms i Done d h ∙ e

pub same_length : (first now : List Mark) (i : ℕ) (m : Mark) → length now ≡ length (set first i m)
    → length now ≡ length first
same_length first now i m e = e ∙ length-set first i m
