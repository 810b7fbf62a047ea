-- The deeds of all passes stay one list, in which each tells what stood there.
use Rattle.std.proofs.Common.{◌≡◌, ℕ, zero, suc, ◌+◌, ◌<◌, ◌≤◌, eqb, List, [], ◌∷◌, ◌++◌, set, replicate, length, length-append, refl, sym, ap, ◌∙◌, subst, arith}
use Rattle.std.specs.Prelude.{sum_by, All}
use Rattle.std.proofs.lemmas.List.Elements.{All-push}
use Rattle.std.proofs.lemmas.List.Sums.{sum_by_push}
use mathlib.Core.Option.{some, some-ne-none}
use lib.ListN.{get_elem?}
use Rattle.claim_board.specs.Counts.{one_if}
use Rattle.claim_board.specs.Protocol.{Deed, PassState, BoardState, steps_of, times_placed, DeedGives, Lead, IsInOrder}
use Rattle.claim_board.specs.Boards.{AreBefore}
use Rattle.claim_board.proofs.Totals.{total_up, all_set, all_at, all_map, at_test}

module _ {A : Type 0} where
  get_before : (xs ys : List A) (k : ℕ) (a : A) → get_elem? xs k ≡ some a
      → get_elem? (xs ++ ys) k ≡ some a
  get_before [] ys k a e = absurd (some-ne-none a (sym e))
  get_before (x ∷ xs) ys zero a e = e
  get_before (x ∷ xs) ys (suc k) a e = get_before xs ys k a e

  get_last : (xs : List A) (a : A) → get_elem? (xs ++ a ∷ []) (length xs) ≡ some a
  get_last [] a = refl
  get_last (x ∷ xs) a = get_last xs a

  get_inside : (xs : List A) (k : ℕ) (a : A) → get_elem? xs k ≡ some a → k < length xs
  get_inside [] k a e = absurd (some-ne-none a (sym e))
  get_inside (x ∷ xs) zero a e = omega arith
  get_inside (x ∷ xs) (suc k) a e = let l = get_inside xs k a e in omega arith

module _ (tasks tries : ℕ) where
  lead_more : (next : ℕ) (words : List ℕ) (es : List Deed) (mid : ℕ) (vs : List ℕ) (e : Deed)
      (m : ℕ) (ws : List ℕ) → Lead tasks tries next words es mid vs
      → DeedGives tasks tries mid vs e m ws → Lead tasks tries next words (es ++ e ∷ []) m ws
  lead_more next words [] mid vs e m ws h does = (
    m,
    ws,
    subst (λ (x : ℕ × List ℕ). DeedGives tasks tries x.0 x.1 e m ws) (λ i. (h.0 i, h.1 i)) does,
    (refl, refl),
  )
  lead_more next words (x ∷ es) mid vs e m ws h does =
      (h.0, h.1, h.2, lead_more h.0 h.1 es mid vs e m ws h.3 does)

  -- one deed more, of one pass
  pub order_more : (s : BoardState) (i : ℕ) (p q : PassState) (e : Deed) (m : ℕ) (ws : List ℕ)
      → IsInOrder tasks tries s → get_elem? s.passes i ≡ some p
      → q.deeds ≡ p.deeds ++ (steps_of s.passes, e) ∷ []
      → DeedGives tasks tries s.next s.words e m ws
      → IsInOrder tasks tries record { next = m; words = ws; passes = set s.passes i q }
  order_more s i p q e m ws h at grew does =
      let n = steps_of s.passes in
      let more : List Deed = h.deeds ++ e ∷ [] in
      let Old : ℕ × Deed → Type 0 = λ x. get_elem? h.deeds x.0 ≡ some x.1 in
      let New : ℕ × Deed → Type 0 = λ x. get_elem? more x.0 ≡ some x.1 in
      let count = h.count in
      let size : length more ≡ length h.deeds + 1 = omega (arith, length-append h.deeds (e ∷ [])) in
      let keep = λ (u : PassState) (k : All Old u.deeds).
      all_map Old New u.deeds (λ x g. get_before h.deeds (e ∷ []) x.0 x.1 g) k in
      let newest : get_elem? more n ≡ some e =
      subst (λ (k : ℕ). get_elem? more k ≡ some e) h.count (get_last h.deeds e) in
      let longer : length q.deeds ≡ length p.deeds + 1 =
      ap length grew ∙ omega (arith, length-append p.deeds ((n, e) ∷ [])) in
      let all = total_up (λ (u : PassState). length u.deeds) s.passes i 1 p q at longer in record {
        deeds = more;
        lead = lead_more 0 (replicate tasks 0) h.deeds s.next s.words e m ws h.lead does;
        count = omega arith;
        placed = all_set (λ (u : PassState). All New u.deeds) s.passes i q
            (all_map (λ (u : PassState). All Old u.deeds) (λ (u : PassState). All New u.deeds)
            s.passes keep h.placed)
            (subst (All New) (sym grew)
            (All-push New p.deeds (n, e)
            (keep p (all_at (λ (u : PassState). All Old u.deeds) s.passes i p h.placed at))
            newest));
        each_once = λ k. let f : PassState → ℕ = λ u. times_placed k u.deeds in
            let up = total_up f s.passes i (one_if (eqb n k)) p q at
            (ap (times_placed k) grew
            ∙ sum_by_push (λ (x : ℕ × Deed). one_if (eqb x.0 k)) p.deeds (n, e)) in
            let before = h.each_once k in
            let F : ℕ → Type 0 = λ y. (k < length more → sum_by f s.passes + y ≡ 1)
            × (length more ≤ k → sum_by f s.passes + y ≡ 0) in
            let r : F (one_if (eqb n k)) = at_test n k F
            (λ is. (
              (λ _. let z = before.1 (omega arith) in omega arith),
              λ l. absurd (omega arith),
            ))
            (λ other. (
              (λ l. let z = before.0 (omega arith) in omega arith),
              λ l. let z = before.1 (omega arith) in omega arith,
            )) in
            ((λ l. up ∙ r.0 l), λ l. up ∙ r.1 l);
      }

  -- what a pass has done so far stands before the next place
  pub before_next : (s : BoardState) (i : ℕ) (p : PassState) → IsInOrder tasks tries s
      → get_elem? s.passes i ≡ some p → AreBefore (steps_of s.passes) p
  before_next s i p h at =
      let Old : ℕ × Deed → Type 0 = λ x. get_elem? h.deeds x.0 ≡ some x.1 in
      all_map Old (λ x. x.0 < steps_of s.passes) p.deeds
      (λ x g. subst (λ (k : ℕ). x.0 < k) h.count (get_inside h.deeds x.0 x.1 g))
      (all_at (λ (u : PassState). All Old u.deeds) s.passes i p h.placed at)
