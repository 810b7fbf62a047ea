-- The fates of workers' draws, from the causes of their turns.
use Rattle.std.proofs.Common.{◌≡◌, ℕ, ◌+◌, ◌-◌, ◌^◌, ◌<◌, ◌≤◌, Bool, true, false, ltb, leb, cond, ◌⊎◌, inl, inr, ⊎_elim, List, [], ◌∷◌, ◌++◌, length, length-append, map, append_assoc, refl, sym, ap, ◌∙◌, subst, arith, true≢false}
use Rattle.std.specs.Prelude.{All, Contains, sum_by}
use Rattle.std.specs.List.{filter}
use Rattle.std.proofs.lemmas.Bool.Decides.{leb_tells, Decides-ltb}
use Rattle.std.proofs.lemmas.List.{length-map}
use Rattle.std.proofs.lemmas.List.Elements.{All-nil, All-cons, All-head, All-tail, All-append, All-weaker, All-map, Contains-append_left, Contains-append_right}
use Rattle.std.proofs.lemmas.List.Sums.{sum_by-append}
use Rattle.outside.specs.Cause.{RoseBy}
use Rattle.outside.specs.declared.host.At.{At}
use Rattle.claim_board.specs.Counts.{times_in_list}
use Rattle.claim_board.specs.Protocol.{PassState, pass_begun, limit}
use Rattle.outside.specs.Accounts.{Account}
use Rattle.crew.specs.Hosts.{HaveRisen, RefusedPlace, SomeHost, at_place}
use Rattle.crew.specs.Drills.{Settings}
use Rattle.crew.specs.Work.{Turn, Worker, IsAsked, Cause, TookTurns, HaveWorked, all_downs, look_of, drawn_attempt}
use Rattle.crew.specs.Work.{Cause as cause}
use Rattle.crew.specs.inner.Fates.{Fate, Fated}
use Rattle.crew.specs.inner.Fates.Fate.{Won, Lost, Taken, Drilled, WentDown}
use Rattle.crew.proofs.Lists.{some_host_left, some_host_right, times_left, times_right, times_one, all_both}

module _ (tasks : ℕ) (s : Settings) where
  -- a fate stays one beside other downs
  fate_among : (downs all : List ℕ) (q : PassState) (d : ℕ)
      → (0 < times_in_list d downs → 0 < times_in_list d all) → Fate tasks s downs q d
      → Fate tasks s all q d
  fate_among downs all q d among (Won h) = Won h
  fate_among downs all q d among (Lost h) = Lost h
  fate_among downs all q d among (Taken x full h) = Taken x full h
  fate_among downs all q d among (Drilled h) = Drilled h
  fate_among downs all q d among (WentDown h) = WentDown (among h)

-- the draw of a turn, as often as it was refused a place
abbrev pub drops : Turn → List ℕ
drops t = map (λ (x : At). t.draw) t.downs

-- the same of all turns
abbrev pub downed : List Turn → List ℕ
downed [] = []
downed (t ∷ ts) = drops t ++ downed ts

length_downed : (ts : List Turn) → length (downed ts) ≡ length (all_downs ts)
length_downed [] = refl
length_downed (t ∷ ts) =
    let r = length_downed ts in
    let m = length-map t.downs (λ (x : At). t.draw) in
    omega (arith, length-append (drops t) (downed ts), length-append t.downs (all_downs ts))

-- what holds of the numbers below a limit
all_below : (P : ℕ → Type 0) (most : ℕ) (xs : List ℕ) → All P (filter (λ x. ltb x most) xs)
    → All (λ x. x < most → P x) xs
all_below P most [] h = All-nil (λ x. x < most → P x)
all_below P most (x ∷ xs) h = go (ltb x most) refl h (all_below P most xs)
  where
    go : (b : Bool) → ltb x most ≡ b
        → All P (cond b (x ∷ filter (λ y. ltb y most) xs) (filter (λ y. ltb y most) xs))
        → (All P (filter (λ y. ltb y most) xs) → All (λ y. y < most → P y) xs)
        → All (λ y. y < most → P y) (x ∷ xs)
    go true is k rest =
        let ys : List ℕ = filter (λ y. ltb y most) xs in
        All-cons (λ y. y < most → P y) x xs (λ _. All-head P x ys k) (rest (All-tail P x ys k))
    go false is k rest =
        All-cons (λ y. y < most → P y) x xs
        (λ low. absurd (true≢false (sym ((Decides-ltb x most).1 low) ∙ is))) (rest k)

-- the look of each turn is among all
looks : (tasks : ℕ) (ts : List Turn)
    → All (λ t. Contains (map (look_of tasks) ts) (look_of tasks t)) ts
looks tasks [] = All-nil (λ t. Contains [] (look_of tasks t))
looks tasks (t ∷ ts) =
    let look = look_of tasks in
    All-cons (λ u. Contains (look t ∷ map look ts) (look u)) t ts
    (Contains-append_left (look t ∷ []) (map look ts) (look t) (0, omega arith, refl))
    (All-weaker (λ u. Contains (map look ts) (look u))
    (λ u. Contains (look t ∷ map look ts) (look u))
    (λ u h. Contains-append_right (look t ∷ []) (map look ts) (look u) h) ts (looks tasks ts))

-- the draw of each turn that was refused a place is among the downs
drops_in : (ts : List Turn)
    → All (λ t. (x : At) → t.downs ≡ x ∷ [] → 0 < times_in_list t.draw (downed ts)) ts
drops_in [] = All-nil (λ t. (x : At) → t.downs ≡ x ∷ [] → 0 < times_in_list t.draw [])
drops_in (t ∷ ts) =
    All-cons (λ u. (x : At) → u.downs ≡ x ∷ [] → 0 < times_in_list u.draw (drops t ++ downed ts)) t
    ts
    (λ x e. times_left t.draw (drops t) (downed ts)
    (subst (λ (l : List At). 0 < times_in_list t.draw (map (λ (y : At). t.draw) l)) (sym e)
    (times_one t.draw)))
    (All-weaker (λ u. (x : At) → u.downs ≡ x ∷ [] → 0 < times_in_list u.draw (downed ts))
    (λ u. (x : At) → u.downs ≡ x ∷ [] → 0 < times_in_list u.draw (drops t ++ downed ts))
    (λ u h x e. times_right u.draw (drops t) (downed ts) (h x e)) ts (drops_in ts))

module _ (tasks : ℕ) (s : Settings) (places : ℕ → ℕ) where
  fate_of : (downs : List ℕ) (q : PassState) (t : Turn) → Contains q.seen (look_of tasks t)
      → ((x : At) → t.downs ≡ x ∷ [] → 0 < times_in_list t.draw downs) → Cause tasks s places q t
      → Fate tasks s downs q t.draw
  fate_of downs q t saw down (cause.Taken full passed none commit) = Taken t.word full saw
  fate_of downs q t saw down (cause.Won made h) = Won h
  fate_of downs q t saw down (cause.Lost x made h) = Lost h
  fate_of downs q t saw down (cause.Drilled made h commit) = Drilled h
  fate_of downs q t saw down (cause.WentDown h commit) =
      WentDown (down (at_place (drawn_attempt tasks s t.draw) h.place) h.downs)

  -- each draw of a pass that was fresh has a fate
  fates_of : (p q : PassState) (a b : Account) (ts : List Turn) → p.draws ≡ [] → p.seen ≡ []
      → TookTurns tasks s places p q a b ts → All (Cause tasks s places q) ts
      → All (λ d. d < limit tasks s.tries → Fate tasks s (downed ts) q d) q.draws
  fates_of p q a b ts no_draw no_look w causes =
      let F : ℕ → Type 0 = λ d. Fate tasks s (downed ts) q d in
      let S : Turn → Type 0 = λ t. Contains q.seen (look_of tasks t) in
      let D : Turn → Type 0 =
      λ t. (x : At) → t.downs ≡ x ∷ [] → 0 < times_in_list t.draw (downed ts) in
      let C : Turn → Type 0 = λ t. Cause tasks s places q t in
      let draw : Turn → ℕ = λ t. t.draw in
      let seen : q.seen ≡ map (look_of tasks) ts =
      w.seen ∙ ap (λ (l : List (ℕ × ℕ)). l ++ map (look_of tasks) ts) no_look in
      let draws : q.draws ≡ w.gained =
      w.draws ∙ ap (λ (l : List ℕ). l ++ w.gained) no_draw in
      let saw = subst (λ (l : List (ℕ × ℕ)). All (λ t. Contains l (look_of tasks t)) ts) (sym seen)
      (looks tasks ts) in
      let each = All-weaker (λ t. S t × (D t × C t)) (λ t. F (draw t))
      (λ t h. fate_of (downed ts) q t h.0 h.1.0 h.1.1) ts
      (all_both S (λ t. D t × C t) ts saw (all_both D C ts (drops_in ts) causes)) in
      subst (All (λ d. d < limit tasks s.tries → F d)) (sym draws)
      (all_below F (limit tasks s.tries) w.gained
      (subst (All F) w.each (All-map F draw ts each)))

  -- where a down of the draw stands among these
  abbrev StandsIn : List At → ℕ → Type 0
  StandsIn ds d =
      (before : List At) × (after : List At) × (place : ℕ)
      × (ds ≡ before ++ (at_place (drawn_attempt tasks s d) place ∷ after))

  first_stands : (t : Turn) (ds : List At) → IsAsked tasks s places t
      → All (StandsIn (t.downs ++ ds)) (drops t)
  first_stands t ds h =
      let here = at_place (drawn_attempt tasks s t.draw) h.through in
      let Fine : List At → Type 0 =
      λ l. All (StandsIn (l ++ ds)) (map (λ (x : At). t.draw) l) in
      ⊎_elim
      (λ (e : t.downs ≡ []). subst Fine (sym e) (All-nil (StandsIn ([] ++ ds))))
      (λ (e : t.downs ≡ here ∷ []). subst Fine (sym e)
      (All-cons (StandsIn (here ∷ ds)) t.draw [] ([], ds, h.through, refl)
      (All-nil (StandsIn (here ∷ ds)))))
      h.downs

  all_stand : (ts : List Turn) → All (IsAsked tasks s places) ts
      → All (StandsIn (all_downs ts)) (downed ts)
  all_stand [] h = All-nil (StandsIn [])
  all_stand (t ∷ ts) h =
      let A = IsAsked tasks s places in
      let Whole = StandsIn (t.downs ++ all_downs ts) in
      All-append Whole (drops t) (downed ts)
      (first_stands t (all_downs ts) (All-head A t ts h))
      (All-weaker (StandsIn (all_downs ts)) Whole
      (λ d k. (
        t.downs ++ k.0,
        k.1,
        k.2,
        ap (λ (l : List At). t.downs ++ l) k.3
            ∙ sym (append_assoc t.downs k.0
            (at_place (drawn_attempt tasks s d) k.2 ∷ k.1)),
      ))
      (downed ts) (all_stand ts (All-tail A t ts h)))

  -- where its host tells, it has refused a place of each down
  downs_told : (p q : PassState) (a b : Account) (ts : List Turn)
      → TookTurns tasks s places p q a b ts
      → All (λ d. RefusedPlace a b (drawn_attempt tasks s d)) (downed ts)
  downs_told p q a b ts w =
      All-weaker (StandsIn (all_downs ts)) (λ d. RefusedPlace a b (drawn_attempt tasks s d))
      (λ d k t. (
        k.0,
        k.1,
        k.2,
        (w.gains.told t).2
            ∙ ap (λ (l : List At). a.downs ++ l) k.3,
      ))
      (downed ts) (all_stand ts w.asked)

-- a count that rose, or that is at its last value
rose_or_full : (n before now : ℕ) → RoseBy n before now
    → (before + n ≤ now) ⊎ (2 ^ 64 - 1 ≤ now)
rose_or_full n before now h =
    ⊎_elim (λ (t : (leb (before + n) now ≡ true) × (before + n ≤ now)). inl t.1)
    (λ (t : (leb (before + n) now ≡ false) × (now < before + n)).
    let l = t.1 in inr (omega arith))
    (leb_tells (before + n) now)

rise_one : (a b : Account) (n : ℕ) → RoseBy n a.losses b.losses → HaveRisen n (a ∷ []) (b ∷ [])
rise_one a b n h =
    ⊎_elim (λ (l : a.losses + n ≤ b.losses). inl (omega arith))
    (λ (full : 2 ^ 64 - 1 ≤ b.losses). inr (b, (0, omega arith, refl), full))
    (rose_or_full n a.losses b.losses h)

rise_both : (us vs xs ys : List Account) (m n : ℕ) → HaveRisen m us vs → HaveRisen n xs ys
    → HaveRisen (m + n) (us ++ xs) (vs ++ ys)
rise_both us vs xs ys m n h k =
    let f : Account → ℕ = λ a. a.losses in
    let Full : List Account → Type 0 =
    λ bs. (b : Account) × Contains bs b × (2 ^ 64 - 1 ≤ b.losses) in
    let a = sum_by-append f us xs in let b = sum_by-append f vs ys in
    ⊎_elim
    (λ (x : sum_by f us + m ≤ sum_by f vs).
    ⊎_elim (λ (y : sum_by f xs + n ≤ sum_by f ys). inl (omega arith))
    (λ (y : Full ys). inr (y.0, Contains-append_right vs ys y.0 y.1, y.2)) k)
    (λ (x : Full vs). inr (x.0, Contains-append_left vs ys x.0 x.1, x.2)) h

module _ (tasks : ℕ) (s : Settings) where
  abbrev Fell : List Account → List Account → ℕ → Type 0
  Fell us vs d = SomeHost (λ a b. RefusedPlace a b (drawn_attempt tasks s d)) us vs

  abbrev HaveFate : List ℕ → PassState → Type 0
  HaveFate downs p = All (λ d. d < limit tasks s.tries → Fate tasks s downs p d) p.draws

  fated_both : (ps qs : List PassState) (us vs xs ys : List Account) → length us ≡ length vs
      → Fated tasks s ps us vs → Fated tasks s qs xs ys
      → Fated tasks s (ps ++ qs) (us ++ xs) (vs ++ ys)
  fated_both ps qs us vs xs ys len h k =
      let downs = h.downs ++ k.downs in record {
        downs = downs;
        fates = All-append (HaveFate downs) ps qs
            (All-weaker (HaveFate h.downs) (HaveFate downs)
            (λ p t. All-weaker (λ d. d < limit tasks s.tries → Fate tasks s h.downs p d)
            (λ d. d < limit tasks s.tries → Fate tasks s downs p d)
            (λ d u l. fate_among tasks s h.downs downs p d (times_left d h.downs k.downs) (u l))
            p.draws t)
            ps h.fates)
            (All-weaker (HaveFate k.downs) (HaveFate downs)
            (λ p t. All-weaker (λ d. d < limit tasks s.tries → Fate tasks s k.downs p d)
            (λ d. d < limit tasks s.tries → Fate tasks s downs p d)
            (λ d u l. fate_among tasks s k.downs downs p d (times_right d h.downs k.downs) (u l))
            p.draws t)
            qs k.fates);
        risen = subst (λ (n : ℕ). HaveRisen n (us ++ xs) (vs ++ ys))
            (sym (length-append h.downs k.downs))
            (rise_both us vs xs ys (length h.downs) (length k.downs) h.risen k.risen);
        told = All-append (Fell (us ++ xs) (vs ++ ys)) h.downs k.downs
            (All-weaker (Fell us vs) (Fell (us ++ xs) (vs ++ ys))
            (λ d t.
            some_host_left (λ a b. RefusedPlace a b (drawn_attempt tasks s d)) us vs xs ys t)
            h.downs h.told)
            (All-weaker (Fell xs ys) (Fell (us ++ xs) (vs ++ ys))
            (λ d t.
            some_host_right (λ a b. RefusedPlace a b (drawn_attempt tasks s d)) us vs xs ys len t)
            k.downs k.told);
      }

module _ (tasks : ℕ) (s : Settings) (places : ℕ → ℕ) where
  abbrev HasTaken : Worker → Type 0
  HasTaken w = TookTurns tasks s places (pass_begun w.pass.number) w.pass w.before w.after w.turns

  abbrev HasCauses : Worker → Type 0
  HasCauses w = All (Cause tasks s places w.pass) w.turns

  fated_one : (w : Worker) → HasTaken w → HasCauses w
      → Fated tasks s (w.pass ∷ []) (w.before ∷ []) (w.after ∷ [])
  fated_one w took causes =
      let old = pass_begun w.pass.number in
      let downs = downed w.turns in
      let a = w.before in
      let b = w.after in record {
        downs = downs;
        fates = All-cons (HaveFate tasks s downs) w.pass []
            (fates_of tasks s places old w.pass a b w.turns refl refl took causes)
            (All-nil (HaveFate tasks s downs));
        risen = rise_one a b (length downs)
            (subst (λ (n : ℕ). RoseBy n a.losses b.losses) (sym (length_downed w.turns))
            took.lost);
        told = All-weaker (λ d. RefusedPlace a b (drawn_attempt tasks s d))
            (Fell tasks s (a ∷ []) (b ∷ [])) (λ d t. inl t) downs
            (downs_told tasks s places old w.pass a b w.turns took);
      }

  fated_all : (ws : List Worker) → All HasTaken ws → All HasCauses ws
      → Fated tasks s (map (λ w. w.pass) ws) (map (λ w. w.before) ws) (map (λ w. w.after) ws)
  fated_all [] took causes = record {
    downs = [];
    fates = All-nil (HaveFate tasks s []);
    risen = inl (omega arith);
    told = All-nil (Fell tasks s [] []);
  }
  fated_all (w ∷ ws) took causes =
      fated_both tasks s (w.pass ∷ []) (map (λ (v : Worker). v.pass) ws) (w.before ∷ [])
      (w.after ∷ []) (map (λ (v : Worker). v.before) ws) (map (λ (v : Worker). v.after) ws) refl
      (fated_one w (All-head HasTaken w ws took) (All-head HasCauses w ws causes))
      (fated_all ws (All-tail HasTaken w ws took) (All-tail HasCauses w ws causes))

  pub fated : (ps : List PassState) (us vs : List Account) → HaveWorked tasks s places ps us vs
      → Fated tasks s ps us vs
  fated ps us vs h =
      let a = h.are in
      subst (λ (x : List PassState × List Account × List Account). Fated tasks s x.0 x.1 x.2)
      (λ i. (a.passes i, a.before i, a.after i)) (fated_all h.workers a.took h.causes)
