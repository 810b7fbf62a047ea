-- Each step of a board keeps its rule.
use Rattle.std.proofs.Common.{◌≡◌, ◌≢◌, ℕ, zero, suc, ◌+◌, ◌<◌, ◌≤◌, eqb, List, [], ◌∷◌, ◌++◌, set, get_or, length, refl, sym, ap, ◌∙◌, subst, arith, ⊎_elim, add-one, append_assoc}
use Rattle.std.proofs.lemmas.List.{set-get_or}
use Rattle.std.proofs.Common.{add-zero}
use mathlib.Core.Option.{some, some-ne-none, some-injective}
use lib.ListN.{get_elem?}
use Rattle.atomic_table.specs.Table.{State as TableState}
use Rattle.atomic_table.proofs.Lists.{at_set}
use Rattle.claim_board.specs.declared.size.Size.{Size}
use Rattle.std.specs.Prelude.{sum_by, All}
use Rattle.claim_board.specs.Counts.{one_if}
use Rattle.claim_board.specs.Protocol.{PassState, IsGood, Event, Step}
use Rattle.claim_board.specs.Seats.{View, limit_at, pass_view, all_passes, task_words, state_of, Rule}
use Rattle.std.proofs.lemmas.List.Elements.{All-append, All-nil, All-cons, All-head, All-tail}
use Rattle.std.proofs.lemmas.List.Sums.{sum_by-append, sum_by-cons}
use Rattle.claim_board.proofs.Totals.{total_set, total_up, all_left, all_right}
use Rattle.claim_board.proofs.Keeps.{step_keeps}

abbrev pub Tab : Type 0
Tab = TableState (Unit {0}) View

-- where an element stands after a list that comes first
module _ {A : Type 0} where
  get_behind : (xs ys : List A) (k : ℕ) (a : A) → get_elem? ys k ≡ some a
      → get_elem? (xs ++ ys) (length xs + k) ≡ some a
  get_behind [] ys k a e = subst (λ (j : ℕ). get_elem? ys j ≡ some a) (omega arith) e
  get_behind (x ∷ xs) ys k a e =
      subst (λ (j : ℕ). get_elem? (x ∷ (xs ++ ys)) j ≡ some a)
      (let j : suc (length xs + k) ≡ suc (length xs) + k = omega arith in j)
      (get_behind xs ys k a e)

  set_behind : (xs ys : List A) (k : ℕ) (a : A) → set (xs ++ ys) (length xs + k) a
      ≡ xs ++ set ys k a
  set_behind [] ys k a = ap (λ (j : ℕ). set ys j a) (omega arith)
  set_behind (x ∷ xs) ys k a = ap (λ (j : ℕ). set (x ∷ (xs ++ ys)) j a)
      (let j : suc (length xs) + k ≡ suc (length xs + k) = omega arith in j)
      ∙ ap (λ zs. x ∷ zs) (set_behind xs ys k a)

  pub total_ones : (xs : List A) → sum_by (λ _. 1) xs ≡ length xs
  total_ones [] = refl
  total_ones (x ∷ xs) = let r = total_ones xs in omega (arith, sum_by-cons (λ (_ : A). 1) x xs)

  pub total_least : (f g : A → ℕ) → ((x : A) → f x ≤ g x) → (xs : List A)
      → sum_by f xs ≤ sum_by g xs
  total_least f g h [] = omega arith
  total_least f g h (x ∷ xs) =
      let a = h x in let r = total_least f g h xs in
      omega (arith, sum_by-cons f x xs, sum_by-cons g x xs)

  pub total_same : (f g : A → ℕ) → ((x : A) → f x ≡ g x) → (xs : List A) → sum_by f xs ≡ sum_by g xs
  total_same f g h [] = refl
  total_same f g h (x ∷ xs) =
      let a = h x in let r = total_same f g h xs in
      omega (arith, sum_by-cons f x xs, sum_by-cons g x xs)

-- the place of a pass among all passes
pub place : (views : List View) (id : ℕ) (v : View) (p : PassState) → get_elem? views id ≡ some v
    → v.passes ≡ p ∷ []
    → (k : ℕ) × (get_elem? (all_passes views) k ≡ some p)
    × ((w : View) (q : PassState) → w.passes ≡ q ∷ [] → all_passes (set views id w)
    ≡ set (all_passes views) k q)
place [] id v p e one = absurd (some-ne-none v (sym e))
place (x ∷ xs) zero v p e one =
    let is : x.passes ≡ p ∷ [] = ap (λ (u : View). u.passes) (some-injective x v e) ∙ one in (
      0,
      subst (λ (ps : List PassState). get_elem? (ps ++ all_passes xs) 0 ≡ some p) (sym is) refl,
      λ w q only_one. ap (λ (ps : List PassState). ps ++ all_passes xs) only_one
          ∙ subst (λ (ps : List PassState). q ∷ all_passes xs ≡ set (ps ++ all_passes xs) 0 q)
          (sym is) refl,
    )
place (x ∷ xs) (suc id) v p e one =
    let r = place xs id v p e one in (
      length x.passes + r.0,
      get_behind x.passes (all_passes xs) r.0 p r.1,
      λ w q only_one. ap (λ (ps : List PassState). x.passes ++ ps) (r.2 w q only_one)
          ∙ sym (set_behind x.passes (all_passes xs) r.0 q),
    )

-- totals and facts of all passes, seat by seat
pub total_all : (f : PassState → ℕ) (views : List View) → sum_by f (all_passes views)
    ≡ sum_by (λ v. sum_by f v.passes) views
total_all f [] = refl
total_all f (v ∷ vs) =
    let r = total_all f vs in let a = sum_by-append f v.passes (all_passes vs) in
    let c = sum_by-cons (λ (u : View). sum_by f u.passes) v vs in omega arith

pub each_all : (P : PassState → Type 0) (views : List View) → All P (all_passes views)
    → All (λ v. All P v.passes) views
each_all P [] h = All-nil (λ (v : View). All P v.passes)
each_all P (v ∷ vs) h =
    All-cons (λ (u : View). All P u.passes) v vs (all_left P v.passes (all_passes vs) h)
    (each_all P vs (all_right P v.passes (all_passes vs) h))

pub all_each : (P : PassState → Type 0) (views : List View) → All (λ v. All P v.passes) views
    → All P (all_passes views)
all_each P [] h = All-nil P
all_each P (v ∷ vs) h =
    let Q : View → Type 0 = λ u. All P u.passes in
    All-append P v.passes (all_passes vs) (All-head Q v vs h) (all_each P vs (All-tail Q v vs h))

pub all_passes-append : (xs ys : List View) → all_passes (xs ++ ys) ≡ all_passes xs ++ all_passes ys
all_passes-append [] ys = refl
all_passes-append (x ∷ xs) ys =
    ap (λ (ps : List PassState). x.passes ++ ps) (all_passes-append xs ys)
    ∙ sym (append_assoc x.passes (all_passes xs) (all_passes ys))

-- a view that keeps its passes
pub all_passes_same : (views : List View) (id : ℕ) (v w : View) → get_elem? views id ≡ some v
    → w.passes ≡ v.passes → all_passes (set views id w) ≡ all_passes views
all_passes_same [] id v w e same = refl
all_passes_same (x ∷ xs) zero v w e same =
    ap (λ (ps : List PassState). ps ++ all_passes xs)
    (same ∙ sym (ap (λ (u : View). u.passes) (some-injective x v e)))
all_passes_same (x ∷ xs) (suc id) v w e same =
    ap (λ (ps : List PassState). x.passes ++ ps) (all_passes_same xs id v w e same)

-- the first seat's count is that of all
pub made_total : (views : List View) (v : View) → get_elem? views 0 ≡ some v
    → ((j : ℕ) (u : View) → get_elem? views j ≡ some u → j ≢ 0 → u.made ≡ 0)
    → sum_by (λ u. u.made) views ≡ v.made
made_total [] v e none = absurd (some-ne-none v (sym e))
made_total (x ∷ xs) v e none =
    let same : x.made ≡ v.made = ap (λ (u : View). u.made) (some-injective x v e) in
    let rest = rest_made xs (λ j u e. none (suc j) u e (λ z. absurd (omega arith))) in
    let c = sum_by-cons (λ (u : View). u.made) x xs in omega arith
  where
    rest_made : (ys : List View) → ((j : ℕ) (u : View) → get_elem? ys j ≡ some u → u.made ≡ 0)
        → sum_by (λ u. u.made) ys ≡ 0
    rest_made [] h = refl
    rest_made (y ∷ ys) h =
        let a = h 0 y refl in let r = rest_made ys (λ j u e. h (suc j) u e) in
        let c = sum_by-cons (λ (u : View). u.made) y ys in omega arith

-- the words, where one of them changes
pub next_set : (ws : List ℕ) (n : ℕ) → 0 < length ws → get_or (set ws 0 n) 0 0 ≡ n
next_set [] n h = absurd (omega arith)
next_set (w ∷ ws) n h = refl

pub rest_set_next : (ws : List ℕ) (n : ℕ) → task_words (set ws 0 n) ≡ task_words ws
rest_set_next [] n = refl
rest_set_next (w ∷ ws) n = refl

pub next_set_rest : (ws : List ℕ) (t n : ℕ) → get_or (set ws (t + 1) n) 0 0 ≡ get_or ws 0 0
next_set_rest [] t n = refl
next_set_rest (w ∷ ws) t n = rw add-one refl

pub rest_set : (ws : List ℕ) (t n : ℕ) → task_words (set ws (t + 1) n) ≡ set (task_words ws) t n
rest_set [] t n = refl
rest_set (w ∷ ws) t n = rw add-one refl

pub rest_at : (ws : List ℕ) (t : ℕ) → get_or (task_words ws) t 0 ≡ get_or ws (t + 1) 0
rest_at [] t = refl
rest_at (w ∷ ws) t = rw add-one refl

rest_same : (ws : List ℕ) (i : ℕ) → set ws i (get_or ws i 0) ≡ ws
rest_same ws i = set-get_or ws i 0

-- wherever the pass stands, p becomes q and the words ws by the event
abbrev pub Goes : Size → Tab → PassState → PassState → List ℕ → (ℕ → Event) → Type 0
Goes k s p q ws e =
    (j : ℕ) → get_elem? (all_passes s.views) j ≡ some p
    → Step k.tasks k.tries (state_of s.words s.views) (e j) record
    { next = get_or ws 0 0; words = task_words ws; passes = set (all_passes s.views) j q }

-- the draws past the limit stay as few as the passes that have ended
abbrev pub StaysLow : Size → Tab → PassState → PassState → List ℕ → Type 0
StaysLow k s p q ws =
    (x y : ℕ) → get_or s.words 0 0 ≤ limit_at k + x → y + one_if p.ended ≡ x + one_if q.ended
    → get_or ws 0 0 ≤ limit_at k + y

-- a step of one pass
pub pass_step : (k : Size) (s : Tab) (id : ℕ) (p q : PassState) (ws : List ℕ) (e : ℕ → Event)
    → Rule k s → get_elem? s.views id ≡ some (pass_view k p) → q.number ≡ p.number
    → length ws ≡ length s.words → Goes k s p q ws e → StaysLow k s p q ws
    → Rule k record { words = ws; homes = s.homes; views = set s.views id (pass_view k q) }
pass_step k s id p q ws e h at number size goes room =
    let pl = place s.views id (pass_view k p) p at refl in
    let j : ℕ = pl.0 in
    let now : all_passes (set s.views id (pass_view k q))
    ≡ set (all_passes s.views) j q = pl.2 (pass_view k q) q refl in
    let made : sum_by (λ (v : View). v.made) (set s.views id (pass_view k q))
    ≡ sum_by (λ (v : View). v.made) s.views =
    total_up (λ (v : View). v.made) s.views id 0 (pass_view k p) (pass_view k q) at
    (omega arith) ∙ add-zero _ in
    let lens : sum_by (λ (v : View). length v.passes) (set s.views id (pass_view k q))
    ≡ sum_by (λ (v : View). length v.passes) s.views =
    total_up (λ (v : View). length v.passes) s.views id 0 (pass_view k p) (pass_view k q) at
    (omega arith) ∙ add-zero _ in
    let same_number = λ (x : ℕ). ap
    (λ (l : List PassState). sum_by (λ (r : PassState). one_if (eqb r.number x)) l) now
    ∙ (total_up (λ (r : PassState). one_if (eqb r.number x)) (all_passes s.views) j 0 p q pl.1
    (ap (λ (n : ℕ). one_if (eqb n x)) number ∙ sym (add-zero _)) ∙ add-zero _) in
    record {
      size = h.size;
      wide = size ∙ h.wide;
      good = subst (λ (l : List PassState). IsGood k.tasks k.tries record
          { next = get_or ws 0 0; words = task_words ws; passes = l }) (sym now)
          (step_keeps k.tasks k.tries _ _ (e j) h.size.tasks (goes j pl.1) h.good);
      room = subst (λ (l : List PassState). get_or ws 0 0 ≤ limit_at k + sum_by
          (λ (r : PassState). one_if r.ended) l) (sym now)
          (room _ _ h.room (total_set (λ (r : PassState). one_if r.ended) (all_passes s.views) j p q
          pl.1));
      one_maker = λ i v a n. ⊎_elim (λ (t : (i ≡ id) × (pass_view k q ≡ v)). ap
          (λ (u : View). u.made) (sym t.1))
          (λ (t : (i ≢ id) × (get_elem? s.views i ≡ some v)). h.one_maker i v t.1 n)
          (at_set s.views id i (pass_view k q) v a);
      few = subst (λ (x : ℕ). x ≤ k.crew) (sym made) h.few;
      counted = lens ∙ (h.counted ∙ sym made);
      numbers = λ x. let old = h.numbers x in (
        (λ l. same_number x ∙ old.0 (subst (λ (y : ℕ). x < y) made l)),
        λ l. same_number x
            ∙ old.1 (subst (λ (y : ℕ). y ≤ x) made l),
      );
    }
