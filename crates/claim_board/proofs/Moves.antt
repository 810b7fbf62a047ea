-- What a board's calls ask of its rule.
use Rattle.std.proofs.Common.{◌≡◌, ◌≢◌, ℕ, ◌+◌, ◌-◌, ◌*◌, ◌/◌, ◌%◌, ◌^◌, ◌<◌, ◌≤◌, Bool, true, false, eqb, leb, List, [], ◌∷◌, set, get_or, length, refl, sym, ap, ◌∙◌, subst, arith, ⊎_elim, length-set}
use Rattle.std.proofs.lemmas.Bool.Decides.{leb_tells, eqb_tells}
use Rattle.std.proofs.lemmas.List.Elements.{All-nil, All-cons, All-head, All-tail}
use Rattle.std.proofs.lemmas.List.{set-get_or}
use Rattle.std.specs.Bool.{MatchBool}
use Rattle.std.proofs.Math.Nat.{le_trans, div-lt_iff_lt-mul}
use Rattle.std.proofs.Common.{mul_comm, eq-eqb, ne_eqb, div-add-mod'}
use mathlib.Core.Logic.{dite}
use mathlib.Core.Option.{none}
use native.Mathlib.Decide.{ℕ_discrete}
use prog.Atomic.{either}
use Rattle.atomic_table.specs.Table.{step, keeps, stepped, Allows}
use Rattle.claim_board.specs.declared.size.Size.{Size}
use Rattle.std.specs.Prelude.{sum_by, All}
use Rattle.claim_board.specs.Counts.{one_if, times_in_list}
use Rattle.claim_board.specs.Protocol.{PassState, BoardState, steps_of, drawn, looked, winning, losing, of_task, IsOpen, IsGoodPass, IsGood, Draw, Look, Win, Lose}
use Rattle.claim_board.specs.Seats.{View, limit_at, pass_view, all_passes, task_words, Rule}
use Rattle.claim_board.specs.inner.Seats.{pass_in, Drawing, Looking, Claiming, Seated, Steps, draw_tells, look_tells, commit_tells}
use Rattle.claim_board.specs.Boards.{HasWon, HasLost}
use Rattle.claim_board.specs.Told.{draw_of}
use Rattle.claim_board.proofs.Placing.{before_next}
use Rattle.std.proofs.lemmas.List.Sums.{sum_by_push, sum_by-cons}
use Rattle.claim_board.proofs.Totals.{times-cons, total_at, all_at, all_map, one_if_eq}
use Rattle.claim_board.proofs.Ruling.{place, total_all, total_ones, total_least, total_same, rest_at}
use Rattle.claim_board.proofs.Stepping.{draw_steps, look_steps, win_steps, lose_steps}

-- each number of a list is one that the list has
each_member : (xs : List ℕ) → All (λ x. 0 < times_in_list x xs) xs
each_member [] = All-nil (λ (x : ℕ). 0 < times_in_list x [])
each_member (x ∷ xs) =
    let one = one_if_eq x x refl in
    All-cons (λ y. 0 < times_in_list y (x ∷ xs)) x xs (omega (arith, times-cons x x xs))
    (all_map (λ y. 0 < times_in_list y xs) (λ y. 0 < times_in_list y (x ∷ xs)) xs
    (λ y h. omega (arith, times-cons y x xs)) (each_member xs))

-- a total that is not 0 has a part that is not
pub part : {A : Type 0} (P : A → Type 0) (f : A → ℕ) (xs : List A) → All P xs → 0 < sum_by f xs
    → (a : A) × P a × (0 < f a)
part P f [] h l = absurd (omega arith)
part P f (x ∷ xs) h l =
    dite (ℕ_discrete (f x) 0)
    (λ z. part P f xs (All-tail P x xs h) (omega (arith, sum_by-cons f x xs)))
    (λ n. (x, All-head P x xs h, omega arith))

div_lt : (tasks tries d : ℕ) → 0 < tasks → d < tasks * tries → d / tasks < tries
div_lt tasks tries d some_task l =
    (div-lt_iff_lt-mul some_task).1 (subst (λ (x : ℕ). d < x) (mul_comm tasks tries) l)

-- a word is one of the tries
pub word_low : (tasks tries : ℕ) (s : BoardState) (t : ℕ) → t < tasks → IsGood tasks tries s
    → get_or s.words t 0 ≤ tries
word_low tasks tries s t small h = dite (ℕ_discrete (get_or s.words t 0) 0) (λ z. omega arith)
    (λ full. let P : PassState → Type 0 = λ v. IsGoodPass tasks tries s.words v in
    let one = (h.one_winner t small).1 full in
    let v = part P (λ (u : PassState). of_task tasks t u.won) s.passes h.passes (omega arith) in
    let Q : ℕ → Type 0 = λ d. (d < tasks * tries)
    × (get_or s.words (d % tasks) 0 ≡ d / tasks + 1) in
    let d = part Q (λ (x : ℕ). one_if (eqb (x % tasks) t)) v.0.won v.1.won v.2 in
    let at : d.0 % tasks ≡ t = ⊎_elim
    (λ (y : (eqb (d.0 % tasks) t ≡ true) × (d.0 % tasks ≡ t)). y.1)
    (λ (y : (eqb (d.0 % tasks) t ≡ false) × (d.0 % tasks ≢ t)). let z : one_if
    (eqb (d.0 % tasks) t) ≡ 0 = ap one_if y.0 in let l = d.2 in absurd (omega arith))
    (eqb_tells (d.0 % tasks) t) in
    let is : get_or s.words t 0 ≡ d.0 / tasks + 1 = ap (λ (y : ℕ). get_or s.words y 0) (sym at)
    ∙ d.1.1 in
    let low : d.0 / tasks < tries = div_lt tasks tries d.0 (omega arith) d.1.0 in omega arith)

module _ (k : Size) (p : PassState) (slots id : ℕ) where
  pub draws : p.ended ≡ false → Allows (Rule k) slots id (pass_view k p, []) 0
      (λ n. (n + 1) % 2 ^ 64) (λ n w. Steps (pass_view k p, []) w (λ k p q. Drawing k p n q))
  draws going s h _ at _ =
      let n : ℕ = get_or s.words 0 0 in
      let m : ℕ = steps_of (all_passes s.views) in
      let q : PassState = drawn (limit_at k) p m n in
      let wide = h.wide in
      let room = h.room in
      let size = h.size in
      let few = h.few in
      let counted = h.counted in
      let ended_few : sum_by (λ (v : PassState). one_if v.ended) (all_passes s.views) ≤ sum_by
      (λ (v : PassState). 1) (all_passes s.views) =
      total_least (λ (v : PassState). one_if v.ended) (λ _. 1) (λ v. one_if_low v.ended)
      (all_passes s.views) in
      let ones : sum_by (λ (v : PassState). 1) (all_passes s.views)
      ≡ sum_by (λ (v : View). length v.passes) s.views = total_all (λ _. 1) s.views
      ∙ total_same (λ (v : View). sum_by (λ (_ : PassState). 1) v.passes)
      (λ (v : View). length v.passes) (λ v. total_ones v.passes) s.views in
      let sum : (n + 1) % 18446744073709551616
      ≡ n + 1 = fits n (limit_at k) _ room
      (le_trans ended_few (subst (λ (x : ℕ). x ≤ k.crew) (sym (ones ∙ counted)) few)) size.limit
      size.crew.1 in
      let pl = place s.views id (pass_view k p) p at refl in
      let good = h.good in
      let mine = all_at (IsGoodPass k.tasks k.tries (task_words s.words)) (all_passes s.views) pl.0
      p good.passes pl.1 in
      let none = (good.each_once n).1 (omega arith) in
      let mine_none : times_in_list n p.draws
      ≡ 0 =
      let a = total_at (λ (v : PassState). times_in_list n v.draws) (all_passes s.views) pl.0 p
      pl.1 in omega arith in
      let own = mine.own n in (
        pass_view k q,
        keeps,
        tt,
        subst (λ (x : ℕ). Rule k record
            { words = set s.words 0 x; homes = s.homes; views = set s.views id (pass_view k q) })
            (sym sum) (draw_steps k s id p h at going).0,
        (
          refl,
          (
            (m, before_next k.tasks k.tries _ pl.0 p good.order pl.1, refl),
            (λ l. (
              (let one = one_if_eq n n refl in let push =
                  sum_by_push (λ (x : ℕ). one_if (eqb x n)) p.draws n in omega arith),
              l,
              omega arith,
              omega arith,
            )),
            all_map (λ x. 0 < times_in_list x p.draws) (λ x. x < n) p.draws
                (λ x l. ⊎_elim (λ (y : (leb n x ≡ true) × (n ≤ x)). let z =
                (good.each_once x).1 y.1 in let a =
                total_at (λ (v : PassState). times_in_list x v.draws) (all_passes s.views) pl.0 p
                pl.1
                in absurd (omega arith)) (λ (y : (leb n x ≡ false) × (x < n)). y.1)
                (leb_tells n x))
                (each_member p.draws),
          ),
        ),
      )
    where
      one_if_low : (b : Bool) → one_if b ≤ 1
      one_if_low true = omega arith
      one_if_low false = omega arith

      fits : (n l e : ℕ) → n ≤ l + e → e ≤ k.crew → l < 2 ^ 31 → k.crew ≤ 16
          → (n + 1) % 18446744073709551616 ≡ n + 1
      fits n l e a b c d = omega arith

  pub looks : (t : ℕ) → t < k.tasks
      → Allows (Rule k) slots id (pass_view k p, []) (t + 1) (λ n. n)
      (λ n w. Steps (pass_view k p, []) w (λ k p q. Looking k p t n q))
  looks t small s h _ at _ =
      let n : ℕ = get_or s.words (t + 1) 0 in
      let m : ℕ = steps_of (all_passes s.views) in
      let q : PassState = looked p m t n in
      let pl = place s.views id (pass_view k p) p at refl in
      let good = h.good in
      let later = before_next k.tasks k.tries _ pl.0 p good.order pl.1 in
      let same : set s.words (t + 1) n ≡ s.words = set-get_or s.words (t + 1) 0 in (
        pass_view k q,
        keeps,
        tt,
        subst (λ (ws : List ℕ). Rule k record
            { words = ws; homes = s.homes; views = set s.views id (pass_view k q) }) (sym same)
            (look_steps t k s id p h at small).0,
        (
          refl,
          (
            record { place = m; later = later; gained = refl },
            subst (λ (z : ℕ). z ≤ k.tries) (rest_at s.words t)
                (word_low k.tasks k.tries _ t small h.good),
          ),
        ),
      )

  pub commits : (d : ℕ) → IsOpen k.tasks k.tries p d → 0 < k.tasks
      → Allows (Rule k) slots id (pass_view k p, []) (d % k.tasks + 1)
      (λ n. either (eqb n 0) (d / k.tasks + 1) n)
      (λ n w. Steps (pass_view k p, []) w (λ k p q. Claiming k p d n q))
  commits d may some_task s h _ at _ =
      let t : ℕ = d % k.tasks in
      let small : t < k.tasks = omega arith in
      let n : ℕ = get_or s.words (t + 1) 0 in
      let low : n ≤ k.tries = subst (λ (z : ℕ). z ≤ k.tries) (rest_at s.words t)
      (word_low k.tasks k.tries _ t small h.good) in
      let a : ℕ = d / k.tasks + 1 in
      let m : ℕ = steps_of (all_passes s.views) in
      let pl = place s.views id (pass_view k p) p at refl in
      let good = h.good in
      let later = before_next k.tasks k.tries _ pl.0 p good.order pl.1 in
      dite (ℕ_discrete n 0)
      (λ hit. let q : PassState = winning p m d in
      let yes : eqb n 0 ≡ true = eq-eqb n 0 hit in (
        pass_view k q,
        keeps,
        tt,
        subst (λ (b : Bool). Rule k (stepped s (t + 1) (either b a n) id [] (pass_view k q) keeps))
            (sym yes)
            (win_steps d k s id p h at (may, hit)).0,
        (
          refl,
          (
            subst (λ (b : Bool). MatchBool b (HasWon p q d) (HasLost p q d n)) (sym yes)
                record { place = m; later = later; gained = refl },
            low,
          ),
        ),
      ))
      (λ miss. let q : PassState = losing p m d n in
      let no : eqb n 0 ≡ false = ne_eqb n 0 miss in (
        pass_view k q,
        keeps,
        tt,
        subst (λ (b : Bool). Rule k (stepped s (t + 1) (either b a n) id [] (pass_view k q) keeps))
            (sym no)
            (subst (λ (ws : List ℕ). Rule k record
            { words = ws; homes = s.homes; views = set s.views id (pass_view k q) })
            (sym (set-get_or s.words (t + 1) 0))
            (lose_steps d k s id p h at (may, miss)).0),
        (
          refl,
          (
            subst (λ (b : Bool). MatchBool b (HasWon p q d) (HasLost p q d n)) (sym no)
                record { place = m; later = later; gained = refl },
            low,
          ),
        ),
      ))

-- the same at a seat that is known by its view
module _ (k : Size) (slots id : ℕ) (me : Seated)
    (is : me ≡ (pass_view me.0.size (pass_in me.0), [])) (of : me.0.size ≡ k) where
  pub draws_as : (pass_in me.0).ended ≡ false
      → Allows (Rule k) slots id me 0 (λ n. (n + 1) % 2 ^ 64)
      (draw_tells (step slots 0 1 0 none) me)
  draws_as going = subst (λ (j : Size). Allows (Rule j) slots id me 0 (λ n. (n + 1) % 2 ^ 64)
      (draw_tells (step slots 0 1 0 none) me)) of
      (subst (λ (m : Seated). Allows (Rule me.0.size) slots id m 0 (λ n. (n + 1) % 2 ^ 64)
      (draw_tells (step slots 0 1 0 none) m)) (sym is)
      (draws me.0.size (pass_in me.0) slots id going))

  pub looks_as : (t : ℕ) → t < k.tasks
      → Allows (Rule k) slots id me (t + 1) (λ n. n) (look_tells (step slots (t + 1) 0 0 none) me)
  looks_as t small = subst (λ (j : Size). Allows (Rule j) slots id me (t + 1) (λ n. n)
      (look_tells (step slots (t + 1) 0 0 none) me)) of
      (subst (λ (m : Seated). Allows (Rule me.0.size) slots id m (t + 1) (λ n. n)
      (look_tells (step slots (t + 1) 0 0 none) m)) (sym is)
      (let back : t + 1 - 1 ≡ t = omega arith in
      subst (λ (u : ℕ). Allows (Rule me.0.size) slots id
      (pass_view me.0.size (pass_in me.0), []) (t + 1) (λ n. n)
      (λ n w. Steps (pass_view me.0.size (pass_in me.0), []) w (λ k p q. Looking k p u n q)))
      (sym back)
      (looks me.0.size (pass_in me.0) slots id t
      (subst (λ (j : Size). t < j.tasks) (sym of) small))))

  commits_as : (d : ℕ) → IsOpen k.tasks k.tries (pass_in me.0) d → 0 < k.tasks
      → Allows (Rule k) slots id me (d % k.tasks + 1) (λ n. either (eqb n 0) (d / k.tasks + 1) n)
      (commit_tells (step slots (d % k.tasks + 1) 0 (d / k.tasks + 1) none) me)
  commits_as d may some_task = subst
      (λ (j : Size). IsOpen j.tasks j.tries (pass_in me.0) d → 0 < j.tasks
      → Allows (Rule j) slots id me (d % j.tasks + 1) (λ n. either (eqb n 0) (d / j.tasks + 1) n)
      (commit_tells (step slots (d % j.tasks + 1) 0 (d / j.tasks + 1) none) me)) of
      (λ may some_task. let j : Size = me.0.size in let p : PassState = pass_in me.0 in
      let at : Seated = (pass_view j p, []) in
      subst (λ (m : Seated). Allows (Rule j) slots id m (d % j.tasks + 1)
      (λ n. either (eqb n 0) (d / j.tasks + 1) n)
      (commit_tells (step slots (d % j.tasks + 1) 0 (d / j.tasks + 1) none) m)) (sym is)
      (let back : draw_of j.tasks (d % j.tasks + 1 - 1) (d / j.tasks + 1) ≡ d = named j.tasks d in
      subst (λ (u : ℕ). Allows (Rule j) slots id at (d % j.tasks + 1)
      (λ n. either (eqb n 0) (d / j.tasks + 1) n)
      (λ n w. Steps at w (λ k p q. Claiming k p u n q))) (sym back)
      (commits j p slots id d may some_task))) may some_task
    where
      named : (tasks d : ℕ) → (d / tasks + 1 - 1) * tasks + (d % tasks + 1 - 1) ≡ d
      named tasks d =
          let a : d / tasks + 1 - 1 ≡ d / tasks = omega arith in let b : d % tasks + 1 - 1
          ≡ d % tasks = omega arith in
          ap (λ (x : ℕ). x * tasks + (d % tasks + 1 - 1)) a
          ∙ (ap (λ (x : ℕ). d / tasks * tasks + x) b ∙ div-add-mod' d tasks)

  pub commits_at : (d t a : ℕ) → t ≡ d % k.tasks → a ≡ d / k.tasks + 1
      → IsOpen k.tasks k.tries (pass_in me.0) d → 0 < k.tasks
      → Allows (Rule k) slots id me (t + 1) (λ n. either (eqb n 0) a n)
      (commit_tells (step slots (t + 1) 0 a none) me)
  commits_at d t a at by may some_task =
      subst (λ (x : ℕ × ℕ). Allows (Rule k) slots id me (x.0 + 1) (λ n. either (eqb n 0) x.1 n)
      (commit_tells (step slots (x.0 + 1) 0 x.1 none) me)) (λ i. (sym at i, sym by i))
      (commits_as d may some_task)
