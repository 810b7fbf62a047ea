-- A board's seats are made and joined under its rule.
use Rattle.std.proofs.Common.{◌≡◌, ◌≢◌, ℕ, zero, suc, ◌+◌, ◌<◌, ◌≤◌, eqb, List, [], ◌∷◌, ◌++◌, set, get_or, replicate, length, refl, sym, ap, ◌∙◌, subst, arith, ⊎_elim, add-one, add-zero, append-nil}
use Rattle.std.proofs.lemmas.List.{length-replicate}
use mathlib.Core.Option.{some, some-ne-none, some-injective}
use lib.ListN.{get_elem?}
use Rattle.atomic_table.specs.Table.{Splits, Joins, Final, Seen, opening}
use Rattle.atomic_table.proofs.Lists.{at_set, at_snoc}
use Rattle.claim_board.specs.declared.size.Size.{Size}
use Rattle.std.specs.Prelude.{sum_by, All}
use Rattle.claim_board.specs.Counts.{one_if, times_in_list}
use Rattle.claim_board.specs.Protocol.{Deed, PassState, BoardState, times_placed, pass_begun, of_task, IsGoodPass, IsGood}
use Rattle.claim_board.specs.Seats.{View, IsSize, maker_view, pass_view, all_passes, task_words, state_of, Rule, spent_view}
use Rattle.claim_board.specs.inner.Seats.{make_left, make_right, take_over}
use Rattle.std.proofs.lemmas.List.Elements.{All-push, All-nil, All-cons, All-head}
use Rattle.std.proofs.lemmas.List.Sums.{sum_by_push, sum_by-cons}
use Rattle.claim_board.proofs.Totals.{total_set, all_set, all_at, at_test}
use Rattle.claim_board.specs.Boards.{Pass, states_of}
use Rattle.claim_board.proofs.Ruling.{Tab, rest_at, total_all, each_all, all_each, all_passes-append, all_passes_same, made_total}
use Rattle.claim_board.proofs.Whole.{start_good, fresh_pass}

pub opens : (k : Size) → IsSize k
    → Rule k (opening (replicate (k.tasks + 1) 0) [] (maker_view k 0 []))
opens k size = record {
  size = size;
  wide = length-replicate (k.tasks + 1) 0;
  good = rw add-one (start_good k.tasks k.tries 0);
  room = rw add-one (omega arith);
  one_maker = λ j v e n. absurd (away j v e n);
  few = omega arith;
  counted = refl;
  numbers = λ x. ((λ l. absurd (omega arith)), λ _. refl);
}
  where
    away : (j : ℕ) (v : View) → get_elem? (maker_view k 0 [] ∷ []) j ≡ some v → j ≢ 0 → ⊥
    away zero v e n = n refl
    away (suc j) v e n = some-ne-none v (sym e)

-- a good state with one fresh pass more
fresh_good : (tasks tries : ℕ) (s : BoardState) (m : ℕ) → IsGood tasks tries s
    → IsGood tasks tries record {
      next = s.next;
      words = s.words;
      passes =
          s.passes ++ pass_begun m ∷ [];
    }
fresh_good tasks tries s m h = record {
  sized = h.sized;
  each_once =
      λ d. let p =
      sum_by_push (λ (v : PassState). times_in_list d v.draws) s.passes (pass_begun m) in
      let o = h.each_once d in
      ((λ l. let a = o.0 l in omega arith), λ l. let a = o.1 l in omega arith);
  one_winner = λ t small. let p =
      sum_by_push (λ (v : PassState). of_task tasks t v.won) s.passes (pass_begun m) in let o =
      h.one_winner t small in
      ((λ l. let a = o.0 l in omega arith), λ l. let a = o.1 l in omega arith);
  passes = All-push (IsGoodPass tasks tries s.words) s.passes (pass_begun m) h.passes
      (fresh_pass tasks tries s.words m);
  order = let o = h.order in record {
    deeds = o.deeds;
    lead = o.lead;
    count = let p = sum_by_push (λ (v : PassState). length v.deeds) s.passes (pass_begun m) in
        let c = o.count in omega arith;
    placed = All-push (λ (v : PassState). All (λ x. get_elem? o.deeds x.0 ≡ some x.1) v.deeds)
        s.passes (pass_begun m) o.placed
        (All-nil (λ (x : ℕ × Deed). get_elem? o.deeds x.0 ≡ some x.1));
    each_once = λ n. let p =
        sum_by_push (λ (v : PassState). times_placed n v.deeds) s.passes (pass_begun m) in
        let e = o.each_once n in
        ((λ l. let a = e.0 l in omega arith), λ l. let a = e.1 l in omega arith);
  };
}

pub makes : (k : Size) (n : ℕ) (ps : List PassState) → n < k.crew
    → Splits (Rule k) 0 (maker_view k n ps) (maker_view k (n + 1) ps) (pass_view k (pass_begun n))
makes k n ps some_left s h at =
    let left : View = maker_view k (n + 1) ps in
    let right : View = pass_view k (pass_begun n) in
    let views : List View = set s.views 0 left ++ right ∷ [] in
    let now : all_passes views ≡ all_passes s.views ++ pass_begun n ∷ [] =
    all_passes-append (set s.views 0 left) (right ∷ [])
    ∙ ap (λ (l : List PassState). l ++ pass_begun n ∷ [])
    (all_passes_same s.views 0 (maker_view k n ps) left at refl) in
    let count = made_total s.views (maker_view k n ps) at h.one_maker in
    let made : sum_by (λ (v : View). v.made) views ≡ n + 1 =
    let a = sum_by_push (λ (v : View). v.made) (set s.views 0 left) right in let b =
    total_set (λ (v : View). v.made) s.views 0 (maker_view k n ps) left at in omega arith in
    let lens : sum_by (λ (v : View). length v.passes) views ≡ n + 1 =
    let a = sum_by_push (λ (v : View). length v.passes) (set s.views 0 left) right in let b =
    total_set (λ (v : View). length v.passes) s.views 0 (maker_view k n ps) left at in let c =
    h.counted in omega arith in
    let ended : sum_by (λ (v : PassState). one_if v.ended) (all_passes views)
    ≡ sum_by (λ (v : PassState). one_if v.ended) (all_passes s.views) =
    ap (λ (l : List PassState). sum_by (λ (v : PassState). one_if v.ended) l) now
    ∙ (sum_by_push (λ (v : PassState). one_if v.ended) (all_passes s.views) (pass_begun n)
    ∙ add-zero _) in
    record {
      size = h.size;
      wide = h.wide;
      good = subst (λ (l : List PassState). IsGood k.tasks k.tries record
          { next = get_or s.words 0 0; words = task_words s.words; passes = l }) (sym now)
          (fresh_good k.tasks k.tries (state_of s.words s.views) n h.good);
      room = let r = h.room in omega arith;
      one_maker = λ j v e away. ⊎_elim
          (λ (a : get_elem? (set s.views 0 left) j ≡ some v). ⊎_elim
          (λ (b : (j ≡ 0) × (left ≡ v)). absurd (away b.0))
          (λ (b : (j ≢ 0) × (get_elem? s.views j ≡ some v)). h.one_maker j v b.1 away)
          (at_set s.views 0 j left v a))
          (λ (a : right ≡ v). ap (λ (u : View). u.made) (sym a))
          (at_snoc (set s.views 0 left) right v j e);
      few = subst (λ (x : ℕ). x ≤ k.crew) (sym made) (omega arith);
      counted = lens ∙ sym made;
      numbers = λ x. let old = h.numbers x in
          let push : sum_by (λ (v : PassState). one_if (eqb v.number x)) (all_passes views)
          ≡ sum_by (λ (v : PassState). one_if (eqb v.number x)) (all_passes s.views) + one_if
          (eqb n x) =
          ap (λ (l : List PassState). sum_by (λ (v : PassState). one_if (eqb v.number x)) l) now
          ∙ sum_by_push (λ (v : PassState). one_if (eqb v.number x)) (all_passes s.views)
          (pass_begun n) in
          let T : ℕ = sum_by (λ (v : PassState). one_if (eqb v.number x)) (all_passes s.views) in
          let M : ℕ = sum_by (λ (v : View). v.made) s.views in
          let F : ℕ → Type 0 = λ y. (x < n + 1 → T + y ≡ 1) × (n + 1 ≤ x → T + y ≡ 0) in
          let q : F (one_if (eqb n x)) = at_test n x F
          (λ e. ((λ _. let z = old.1 (omega arith) in omega arith), λ l. absurd (omega arith)))
          (λ e. (
            (λ l. let z = old.0 (omega arith) in omega arith),
            λ l. let z =
                old.1 (omega arith) in omega arith,
          )) in (
            (λ l. push ∙ q.0 (subst (λ (y : ℕ). x < y) made l)),
            λ l. push
                ∙ q.1 (subst (λ (y : ℕ). y ≤ x) made l),
          );
    }

-- the totals are those of a good state, and each pass is good
regroup : (tasks tries next : ℕ) (ws : List ℕ) (ps qs : List PassState)
    → ((f : PassState → ℕ) → sum_by f qs ≡ sum_by f ps)
    → (((P : PassState → Type 0) → All P ps → All P qs))
    → IsGood tasks tries record { next = next; words = ws; passes = ps }
    → IsGood tasks tries record { next = next; words = ws; passes = qs }
regroup tasks tries next ws ps qs same each h = record {
  sized = h.sized;
  each_once =
      λ d. let e = same (λ (v : PassState). times_in_list d v.draws) in let o = h.each_once d in
      ((λ l. e ∙ o.0 l), λ l. e ∙ o.1 l);
  one_winner = λ t small. let e = same (λ (v : PassState). of_task tasks t v.won) in let o =
      h.one_winner t small in ((λ l. e ∙ o.0 l), λ l. e ∙ o.1 l);
  passes = each (IsGoodPass tasks tries ws) h.passes;
  order = let o = h.order in record {
    deeds = o.deeds;
    lead = o.lead;
    count = o.count ∙ sym (same (λ (v : PassState). length v.deeds));
    placed = each (λ v. All (λ x. get_elem? o.deeds x.0 ≡ some x.1) v.deeds) o.placed;
    each_once = λ n. let e = same (λ (v : PassState). times_placed n v.deeds) in
        let a = o.each_once n in ((λ l. e ∙ a.0 l), λ l. e ∙ a.1 l);
  };
}

pub joins : (k : Size) (n : ℕ) (ps : List PassState) (other : ℕ) (p : PassState)
    → Joins (Rule k) 0 (maker_view k n ps) other (pass_view k p) (maker_view k n (p ∷ ps))
    spent_view
joins k n ps other p s h at apart there =
    let both : View = maker_view k n (p ∷ ps) in
    let mid : List View = set s.views 0 both in
    let views : List View = set mid other spent_view in
    let was : get_elem? s.views other
    ≡ some (pass_view k p) = ⊎_elim
    (λ (b : (other ≡ 0) × (both ≡ pass_view k p)). absurd (apart b.0))
    (λ (b : (other ≢ 0) × (get_elem? s.views other ≡ some (pass_view k p))). b.1)
    (at_set s.views 0 other both (pass_view k p) there) in
    let same = λ (f : PassState → ℕ).
    let g : View → ℕ = λ v. sum_by f v.passes in
    let a : sum_by g mid + g (maker_view k n ps)
    ≡ sum_by g s.views + g both = total_set g s.views 0 (maker_view k n ps) both at in
    let b : sum_by g views + g (pass_view k p)
    ≡ sum_by g mid + g spent_view = total_set g mid other (pass_view k p) spent_view there in
    let one = sum_by-cons f p ps in
    let c : sum_by g views ≡ sum_by g s.views = omega arith in
    total_all f views ∙ (c ∙ sym (total_all f s.views)) in
    let each = λ (P : PassState → Type 0) (e : All P (all_passes s.views)).
    let Q : View → Type 0 = λ v. All P v.passes in
    let l = each_all P s.views e in
    let here : P p = All-head P p [] (all_at Q s.views other (pass_view k p) l was) in
    let rest : All P ps = all_at Q s.views 0 (maker_view k n ps) l at in
    let taken : All Q mid = all_set Q s.views 0 both l (All-cons P p ps here rest) in
    all_each P views (all_set Q mid other spent_view taken (All-nil P)) in
    let made : sum_by (λ (v : View). v.made) views ≡ sum_by (λ (v : View). v.made) s.views =
    let a = total_set (λ (v : View). v.made) s.views 0 (maker_view k n ps) both at in let b =
    total_set (λ (v : View). v.made) mid other (pass_view k p) spent_view there in
    omega arith in
    let lens : sum_by (λ (v : View). length v.passes) views
    ≡ sum_by (λ (v : View). length v.passes) s.views =
    let a = total_set (λ (v : View). length v.passes) s.views 0 (maker_view k n ps) both at in
    let b = total_set (λ (v : View). length v.passes) mid other (pass_view k p) spent_view there
    in omega arith in
    record {
      size = h.size;
      wide = h.wide;
      good = regroup k.tasks k.tries (get_or s.words 0 0) (task_words s.words) (all_passes s.views)
          (all_passes views) same each h.good;
      room = let r = h.room in let e = same (λ (v : PassState). one_if v.ended) in omega arith;
      one_maker = λ j v e away. ⊎_elim
          (λ (b : (j ≡ other) × (spent_view ≡ v)). ap (λ (u : View). u.made) (sym b.1))
          (λ (b : (j ≢ other) × (get_elem? mid j ≡ some v)). ⊎_elim
          (λ (c : (j ≡ 0) × (both ≡ v)). absurd (away c.0))
          (λ (c : (j ≢ 0) × (get_elem? s.views j ≡ some v)). h.one_maker j v c.1 away)
          (at_set s.views 0 j both v b.1))
          (at_set mid other j spent_view v e);
      few = subst (λ (x : ℕ). x ≤ k.crew) (sym made) h.few;
      counted = lens ∙ (h.counted ∙ sym made);
      numbers = λ x. let old = h.numbers x in let e =
          same (λ (v : PassState). one_if (eqb v.number x)) in (
            (λ l. e ∙ old.0 (subst (λ (y : ℕ). x < y) made l)),
            λ l. e
                ∙ old.1 (subst (λ (y : ℕ). y ≤ x) made l),
          );
    }

-- views with no pass
none_left : (views : List View) → sum_by (λ v. length v.passes) views ≡ 0 → all_passes views ≡ []
none_left [] h = refl
none_left (v ∷ vs) h =
    let c = sum_by-cons (λ (u : View). length u.passes) v vs in
    no_passes v.passes (all_passes vs) (omega arith) (none_left vs (omega arith))
  where
    no_passes : (ps qs : List PassState) → length ps ≡ 0 → qs ≡ [] → ps ++ qs ≡ []
    no_passes [] qs l e = e
    no_passes (p ∷ ps) qs l e = absurd (omega arith)

-- where the first seat has taken over as many passes as were made, they are all
all_of_first : (views : List View) (v : View) → get_elem? views 0 ≡ some v
    → sum_by (λ u. length u.passes) views ≡ length v.passes → all_passes views ≡ v.passes
all_of_first [] v e h = absurd (some-ne-none v (sym e))
all_of_first (x ∷ xs) v e h =
    let is : x.passes ≡ v.passes = ap (λ (u : View). u.passes) (some-injective x v e) in
    let len : length x.passes ≡ length v.passes = ap length is in
    let c = sum_by-cons (λ (u : View). length u.passes) x xs in
    ap (λ (l : List PassState). x.passes ++ l) (none_left xs (omega arith))
    ∙ (append-nil x.passes ∙ is)

pub closes : (k : Size) (n : ℕ) (ps : List PassState) (ws : List ℕ) (xs : List (Unit {0}))
    → length ps ≡ n → Final (Seen (Rule k) 0 (maker_view k n ps)) ws xs
    → (length ws ≡ k.tasks + 1) × IsGood k.tasks k.tries record
    { next = get_or ws 0 0; words = task_words ws; passes = ps }
closes k n ps ws xs full f =
    let s : Tab = f.0 in
    let h = f.1.0 in
    let at = f.1.1 in
    let is : s.words ≡ ws = f.2 in
    let made = made_total s.views (maker_view k n ps) at h.one_maker in
    let all = all_of_first s.views (maker_view k n ps) at (let c = h.counted in omega arith) in (
      subst (λ (w : List ℕ). length w ≡ k.tasks + 1) is h.wide,
      subst (λ (w : List ℕ). IsGood k.tasks k.tries record
          { next = get_or w 0 0; words = task_words w; passes = ps }) is
          (subst (λ (l : List PassState). IsGood k.tasks k.tries record
          { next = get_or s.words 0 0; words = task_words s.words; passes = l }) all h.good),
    )

-- the same at seats that are known by their views
pub makes_as : (k : Size) (n : ℕ) (ps : List PassState) (id : ℕ) (v : View) → id ≡ 0 → v
    ≡ maker_view k n ps → n < k.crew → Splits (Rule k) id v (make_left v) (make_right v)
makes_as k n ps id v first is more =
    subst (λ (x : ℕ × View). Splits (Rule k) x.0 x.1 (make_left x.1) (make_right x.1))
    (λ i. (sym first i, sym is i)) (makes k n ps more)

pub joins_as : (k : Size) (n : ℕ) (ps : List PassState) (id other : ℕ) (p : PassState) (v w : View)
    → id ≡ 0 → v ≡ maker_view k n ps → w ≡ pass_view k p
    → Joins (Rule k) id v other w (take_over v w) spent_view
joins_as k n ps id other p v w first is one =
    subst (λ (x : ℕ × View × View). Joins (Rule k) x.0 x.1 other x.2 (take_over x.1 x.2) spent_view)
    (λ i. (sym first i, sym is i, sym one i)) (joins k n ps other p)

pub closes_as : (k : Size) (n : ℕ) (ps : List PassState) (id : ℕ) (v : View) (ws : List ℕ)
    (xs : List (Unit {0})) → id ≡ 0 → v ≡ maker_view k n ps → length ps ≡ n
    → Final (Seen (Rule k) id v) ws xs
    → (length ws ≡ k.tasks + 1) × IsGood k.tasks k.tries record
    { next = get_or ws 0 0; words = task_words ws; passes = ps }
closes_as k n ps id v ws xs first is full f =
    closes k n ps ws xs full (subst (λ (x : ℕ × View). Final (Seen (Rule k) x.0 x.1) ws xs)
    (λ i. (first i, is i)) f)

-- a word that was read by its place
pub word_at : (ws : List ℕ) (i x : ℕ) → get_elem? ws i ≡ some x → get_or ws i 0 ≡ x
word_at [] i x e = absurd (some-ne-none x (sym e))
word_at (w ∷ ws) zero x e = some-injective w x e
word_at (w ∷ ws) (suc i) x e = word_at ws i x e

pub rest_word : (ws : List ℕ) (t x : ℕ) → get_elem? ws (t + 1) ≡ some x → get_or (task_words ws) t 0
    ≡ x
rest_word ws t x e = rest_at ws t ∙ word_at ws (t + 1) x e

pub rest_length : (ws : List ℕ) (n : ℕ) → length ws ≡ n + 1 → length (task_words ws) ≡ n
rest_length [] n e = absurd (omega arith)
rest_length (w ∷ ws) n e = omega arith

pub length_states_of : (ps : List Pass) → length (states_of ps) ≡ length ps
length_states_of [] = refl
length_states_of (p ∷ ps) = ap suc (length_states_of ps)
