-- What one worker has done, and what two groups of workers have.
use Rattle.std.proofs.Common.{◌≡◌, ℕ, true, inl, List, [], ◌∷◌, ◌++◌, get_or, set, length, map, append-nil, append_assoc, refl, sym, ap, ◌∙◌, subst, arith}
use Rattle.std.specs.Prelude.{All, Result, Ok, Err, IfOk, IsOkAnd, OnOk}
use Rattle.std.specs.List.{AllZip}
use Rattle.std.proofs.lemmas.List.{map-append}
use Rattle.std.proofs.lemmas.List.Elements.{All-nil, All-cons, All-head, All-append, All-weaker, length_all_zip}
use Rattle.claim_board.specs.Protocol.{PassState, Deed, DrewNumber, pass_begun}
use Rattle.claim_board.specs.Boards.{Pass, states_of}
use Rattle.crew.specs.declared.kept.KeptOut.{KeptOut}
use Rattle.outside.specs.Accounts.{Account}
use Rattle.crew.specs.Hosts.{Grew, SomeHost}
use Rattle.crew.specs.Drills.{Settings}
use Rattle.crew.specs.Outs.{IsOut, RanOn, draw_by}
use Rattle.crew.specs.Work.{Turn, Worker, AreWorkers, HaveWorked, HasDone, Cause, CameFar, TookTurns, Took, Worked, all_deeds, look_of}
use Rattle.crew.specs.Workers.{IsFresh, AllTook, Phased, wons}
use Rattle.crew.proofs.Lists.{some_host_left, some_host_right}

wons-append : (xs ys : List Pass) → wons (xs ++ ys) ≡ wons xs ++ wons ys
wons-append [] ys = refl
wons-append (x ∷ xs) ys =
    ap (λ (l : List ℕ). x.state.won ++ l) (wons-append xs ys)
    ∙ sym (append_assoc x.state.won (wons xs) (wons ys))

module _ (tasks : ℕ) (s : Settings) (places : ℕ → ℕ) where
  -- two groups of workers
  are_both : (ps qs : List PassState) (us vs xs ys : List Account) (ws zs : List Worker)
      → AreWorkers tasks s places ps us vs ws → AreWorkers tasks s places qs xs ys zs
      → AreWorkers tasks s places (ps ++ qs) (us ++ xs) (vs ++ ys) (ws ++ zs)
  are_both ps qs us vs xs ys ws zs h k = record {
    passes = map-append (λ (w : Worker). w.pass) ws zs ∙ (λ i. h.passes i ++ k.passes i);
    before = map-append (λ (w : Worker). w.before) ws zs ∙ (λ i. h.before i ++ k.before i);
    after = map-append (λ (w : Worker). w.after) ws zs ∙ (λ i. h.after i ++ k.after i);
    took = All-append
        (λ (w : Worker). TookTurns tasks s places (pass_begun w.pass.number) w.pass w.before w.after
        w.turns) ws zs h.took k.took;
  }

  states_both : (ps qs : List Pass) → states_of ps ++ states_of qs ≡ states_of (ps ++ qs)
  states_both ps qs = sym (map-append (λ (p : Pass). p.state) ps qs)

  pub took_both : (ps qs : List Pass) (us vs xs ys : List Account)
      → AllTook tasks s places ps us vs → AllTook tasks s places qs xs ys
      → AllTook tasks s places (ps ++ qs) (us ++ xs) (vs ++ ys)
  took_both ps qs us vs xs ys h k = (
    h.0 ++ k.0,
    subst (λ (l : List PassState). AreWorkers tasks s places l (us ++ xs) (vs ++ ys) (h.0 ++ k.0))
        (states_both ps qs)
        (are_both (states_of ps) (states_of qs) us vs xs ys h.0 k.0 h.1 k.1),
    All-append (λ (w : Worker). CameFar tasks s places w.pass w.turns) h.0 k.0 h.2 k.2,
  )

  worked_both : (ps qs : List Pass) (us vs xs ys : List Account)
      → HaveWorked tasks s places (states_of ps) us vs
      → HaveWorked tasks s places (states_of qs) xs ys
      → HaveWorked tasks s places (states_of (ps ++ qs)) (us ++ xs) (vs ++ ys)
  worked_both ps qs us vs xs ys h k =
      let ws = h.workers ++ k.workers in record {
        workers = ws;
        are = subst
            (λ (l : List PassState). AreWorkers tasks s places l (us ++ xs) (vs ++ ys) ws)
            (states_both ps qs)
            (are_both (states_of ps) (states_of qs) us vs xs ys h.workers k.workers h.are k.are);
        causes = All-append (λ (w : Worker). All (Cause tasks s places w.pass) w.turns) h.workers
            k.workers h.causes k.causes;
      }

  -- one worker, with a fresh pass
  are_one : (old : PassState) (q : Pass) (a b : Account) (ts : List Turn) → IsFresh old
      → TookTurns tasks s places old q.state a b ts
      → AreWorkers tasks s places (states_of (q ∷ [])) (a ∷ []) (b ∷ [])
      (record { pass = q.state; before = a; after = b; turns = ts } ∷ [])
  are_one old q a b ts f w =
      let T : Worker → Type 0 =
      λ v. TookTurns tasks s places (pass_begun v.pass.number) v.pass v.before v.after v.turns in
      let one : Worker = record { pass = q.state; before = a; after = b; turns = ts } in record {
        passes = refl;
        before = refl;
        after = refl;
        took = All-cons T one [] (record {
          gained = w.gained;
          draws = w.draws ∙ ap (λ (l : List ℕ). l ++ w.gained) f.draws;
          each = w.each;
          seen = w.seen ∙ ap (λ (l : List (ℕ × ℕ)). l ++ map (look_of tasks) ts) f.seen;
          past = w.past;
          late = w.late;
          deeds = subst
              (λ (l : List (ℕ × Deed)).
              HasDone l (all_deeds tasks ts ++ map DrewNumber w.past) q.state.deeds)
              f.deeds w.deeds;
          gains = w.gains;
          lost = w.lost;
          asked = w.asked;
        }) (All-nil T);
      }

  took_alone : (old : PassState) (q : Pass) (a b : Account) → IsFresh old
      → Took tasks s places old q.state a b → AllTook tasks s places (q ∷ []) (a ∷ []) (b ∷ [])
  took_alone old q a b f w =
      let one : Worker = record { pass = q.state; before = a; after = b; turns = w.0 } in
      let C : Worker → Type 0 = λ v. CameFar tasks s places v.pass v.turns in (
        one ∷ [],
        are_one old q a b w.0 f w.1,
        All-cons C one [] w.2 (All-nil C),
      )

module _ (tasks : ℕ) (s : Settings) {O : Type 0} (is_value : ℕ → O → Type 0) (places : ℕ → ℕ) where
  abbrev IsKeptBy : List Account → List Account → KeptOut O → Type 0
  IsKeptBy us vs k = IsOut is_value tasks s k × SomeHost (λ a b. RanOn places s a b k) us vs

  phased_both : (ps qs : List Pass) (us vs xs ys : List Account) (ks ls : List (KeptOut O))
      → AllZip Grew us vs → Phased tasks s is_value places ps us vs ks
      → Phased tasks s is_value places qs xs ys ls
      → Phased tasks s is_value places (ps ++ qs) (us ++ xs) (vs ++ ys) (ks ++ ls)
  phased_both ps qs us vs xs ys ks ls grew h k =
      let len = length_all_zip Grew us vs grew in record {
        won = wons-append ps qs
            ∙ (ap (λ (l : List ℕ). l ++ wons qs) h.won
            ∙ (ap (λ (l : List ℕ). map (draw_by tasks) ks ++ l) k.won
            ∙ sym (map-append (draw_by tasks) ks ls)));
        kept = All-append (IsKeptBy (us ++ xs) (vs ++ ys)) ks ls
            (All-weaker (IsKeptBy us vs) (IsKeptBy (us ++ xs) (vs ++ ys))
            (λ e t. (t.0, some_host_left (λ a b. RanOn places s a b e) us vs xs ys t.1)) ks h.kept)
            (All-weaker (IsKeptBy xs ys) (IsKeptBy (us ++ xs) (vs ++ ys))
            (λ e t. (t.0, some_host_right (λ a b. RanOn places s a b e) us vs xs ys len t.1))
            ls k.kept);
        ended = All-append (λ (p : Pass). p.state.ended ≡ true) ps qs h.ended k.ended;
        worked = worked_both tasks s places ps qs us vs xs ys h.worked k.worked;
      }

  -- where both keep their outs
  pub phased_kept : {E : Type 0} (first last all : Result (List (KeptOut O)) E) (ps qs : List Pass)
      (us vs xs ys : List Account) → AllZip Grew us vs
      → IfOk first (Phased tasks s is_value places ps us vs)
      → IfOk last (Phased tasks s is_value places qs xs ys)
      → IfOk all (λ ks. IsOkAnd first (λ one. IsOkAnd last (λ other. ks ≡ one ++ other)))
      → IfOk all (Phased tasks s is_value places (ps ++ qs) (us ++ xs) (vs ++ ys))
  phased_kept (Ok one) (Ok other) (Ok ks) ps qs us vs xs ys grew h k is =
      subst (Phased tasks s is_value places (ps ++ qs) (us ++ xs) (vs ++ ys)) (sym is)
      (phased_both ps qs us vs xs ys one other grew h k)
  phased_kept (Ok one) (Err e) (Ok ks) ps qs us vs xs ys grew h k is = absurd is
  phased_kept (Err e) last (Ok ks) ps qs us vs xs ys grew h k is = absurd is
  phased_kept first last (Err e) ps qs us vs xs ys grew h k is = tt

  -- one worker, with a fresh pass
  phased_one : (old : PassState) (q : Pass) (a b : Account) (ks : List (KeptOut O))
      → IsFresh old → Worked tasks s is_value places old q.state a b ks
      → q.state.ended ≡ true
      → Phased tasks s is_value places (q ∷ []) (a ∷ []) (b ∷ []) ks
  phased_one old q a b ks f w ended =
      let one : Worker = record { pass = q.state; before = a; after = b; turns = w.turns } in
      let C : Worker → Type 0 = λ v. All (Cause tasks s places v.pass) v.turns in record {
        won = append-nil q.state.won
            ∙ (w.won ∙ ap (λ (l : List ℕ). l ++ map (draw_by tasks) ks) f.won);
        kept = All-weaker (λ k. IsOut is_value tasks s k × RanOn places s a b k)
            (IsKeptBy (a ∷ []) (b ∷ [])) (λ k t. (t.0, inl t.1)) ks w.kept;
        ended = All-cons (λ (p : Pass). p.state.ended ≡ true) q [] ended
            (All-nil (λ (p : Pass). p.state.ended ≡ true));
        worked = record {
          workers = one ∷ [];
          are = are_one tasks s places old q a b w.turns f w.took;
          causes = All-cons C one [] w.causes (All-nil C);
        };
      }

  -- the same whether or not there was memory
  phased_alone : {E : Type 0} (r : Result (List (KeptOut O)) E) (old : PassState) (q : Pass)
      (a b : Account) → IsFresh old
      → IfOk r (Worked tasks s is_value places old q.state a b) → OnOk r (q.state.ended ≡ true)
      → IfOk r (Phased tasks s is_value places (q ∷ []) (a ∷ []) (b ∷ []))
  phased_alone (Ok ks) old q a b f w ended = phased_one old q a b ks f w ended
  phased_alone (Err e) old q a b f w ended = tt

set_alone : {A : Type 0} (xs : List A) (y : A) → length xs ≡ 1 → set xs 0 y ≡ y ∷ []
set_alone [] y e = absurd (omega arith)
set_alone (x ∷ []) y e = refl
set_alone (x ∷ z ∷ xs) y e = absurd (omega arith)

alone : {A : Type 0} (xs : List A) (x : A) → length xs ≡ 1 → x ≡ get_or xs 0 x → xs ≡ x ∷ []
alone [] x e is = absurd (omega arith)
alone (y ∷ []) x e is = ap (λ z. z ∷ []) (sym is)
alone (y ∷ z ∷ xs) x e is = absurd (omega arith)

-- one worker, with the only pass and the only host
module _ (tasks : ℕ) (s : Settings) (places : ℕ → ℕ) {H : Type 0} (f : H → Account)
    (ps : List Pass) (hs : List H) (p q : Pass) (h k : H) (one : length ps ≡ 1)
    (one_host : length hs ≡ 1) (is_p : p ≡ get_or ps 0 p) (is_h : h ≡ get_or hs 0 h)
    (fresh : All (λ r. IsFresh r.state) ps) where
  was_fresh : IsFresh p.state
  was_fresh =
      let Fresh : Pass → Type 0 = λ r. IsFresh r.state in
      All-head Fresh p [] (subst (All Fresh) (alone ps p one is_p) fresh)

  of_all : (P : List Pass → List Account → List Account → Type 0)
      → P (q ∷ []) (f h ∷ []) (f k ∷ []) → P (set ps 0 q) (map f hs) (map f (set hs 0 k))
  of_all P =
      subst (λ (x : List Pass × List H × List H). P x.0 (map f x.1) (map f x.2))
      (λ i. (
        sym (set_alone ps q one) i,
        sym (alone hs h one_host is_h) i,
        sym (set_alone hs k one_host) i,
      ))

  pub took_by_one : Took tasks s places (get_or ps 0 p).state q.state (f (get_or hs 0 h)) (f k)
      → AllTook tasks s places (set ps 0 q) (map f hs) (map f (set hs 0 k))
  took_by_one took =
      of_all (AllTook tasks s places)
      (took_alone tasks s places p.state q (f h) (f k) was_fresh
      (subst (λ (x : Pass × H). Took tasks s places x.0.state q.state (f x.1) (f k))
      (λ i. (sym is_p i, sym is_h i)) took))

  pub phased_by_one : {O E : Type 0} (is_value : ℕ → O → Type 0) (r : Result (List (KeptOut O)) E)
      → IfOk r (Worked tasks s is_value places (get_or ps 0 p).state q.state (f (get_or hs 0 h))
      (f k)) → OnOk r (q.state.ended ≡ true)
      → IfOk r (Phased tasks s is_value places (set ps 0 q) (map f hs) (map f (set hs 0 k)))
  phased_by_one is_value r worked ended =
      of_all (λ xs us vs. IfOk r (Phased tasks s is_value places xs us vs))
      (phased_alone tasks s is_value places r p.state q (f h) (f k) was_fresh
      (subst (λ (x : Pass × H). IfOk r (Worked tasks s is_value places x.0.state q.state (f x.1)
      (f k))) (λ i. (sym is_p i, sym is_h i)) worked) ended)

-- what holds of the accounts of hosts that are cut in two holds of the accounts of all
pub of_both : {H : Type 0} (f : H → Account) (P : List Account → List Account → Type 0)
    (hs us vs ys zs : List H) → hs ≡ us ++ vs → P (map f us ++ map f vs) (map f ys ++ map f zs)
    → P (map f hs) (map f (ys ++ zs))
of_both f P hs us vs ys zs cut = subst (λ (x : List Account × List Account). P x.0 x.1) (λ i. (
  (sym (map-append f us vs) ∙ ap (map f) (sym cut)) i,
  sym (map-append f ys zs) i,
))
