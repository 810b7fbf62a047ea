-- How many elements each output of each step emits, counted by its place in preorder.
use Rattle.std.proofs.Common.{◌≡◌, ◌<◌, ◌+◌, ◌^◌, ℕ, zero, suc, List, [], ◌∷◌, ◌++◌, length, drop, map, Option, Some, refl, sym, ap, ◌∙◌, subst, arith, length-append, append-nil, append_assoc}
use Rattle.std.specs.Prelude.{Ok, Err, slice_get, unwrap_or}
use Rattle.std.specs.List.{flat_map}
use Rattle.std.proofs.lemmas.List.{map-append}
use Rattle.std.proofs.lemmas.Grind.{flat_map-append}
use Rattle.flume_value.specs.declared.value.Value.{Value}
use Rattle.flume_collection.specs.Calls.{Called, emissions, or_none}
use Rattle.forest_steps.specs.of_exec_graph.Calls.{called, emitted}
use Rattle.forest_steps.specs.of_exec_graph.Forests.{Label, Forest, Bare, Grow}
use Rattle.forest_steps.specs.of_exec_graph.World.{World}
use Rattle.task_lists.specs.Runs.{kept_count, step_lists}
use Rattle.forest_steps.specs.Running.{Given, Run, and_then, below, next_behind, counted_at, with_values_put, bounded_place, raised_at, run, run_answer, run_each, run_out}
use Rattle.forest_steps.specs.Places.{outputs_in, sizes_in}
use Rattle.forest_steps.specs.Fresh.{zeros}
use Rattle.forest_steps.proofs.Sizing.{sizes_length}

-- ---- numbers added from a place on
abbrev pub added : ℕ → List ℕ → List ℕ → List ℕ
added zero [] e = e
added zero (n ∷ ns) [] = []
added zero (n ∷ ns) (m ∷ e) = (m + n) ∷ added zero ns e
added (suc k) ns [] = []
added (suc k) ns (m ∷ e) = m ∷ added k ns e

-- numbers added one by one
abbrev pub plus : List ℕ → List ℕ → List ℕ
plus [] ms = ms
plus (n ∷ ns) [] = n ∷ ns
plus (n ∷ ns) (m ∷ ms) = (n + m) ∷ plus ns ms

added_nothing : (at : ℕ) (e : List ℕ) → added at [] e ≡ e
added_nothing zero e = refl
added_nothing (suc k) [] = refl
added_nothing (suc k) (m ∷ e) = ap (λ l. m ∷ l) (added_nothing k e)

added_next : (at n : ℕ) (ns : List ℕ) (e : List ℕ)
    → added (suc at) ns (added at (n ∷ []) e) ≡ added at (n ∷ ns) e
added_next zero n ns [] = refl
added_next zero n ns (m ∷ e) = refl
added_next (suc k) n ns [] = refl
added_next (suc k) n ns (m ∷ e) = ap (λ l. m ∷ l) (added_next k n ns e)

added_append : (at : ℕ) (ns ms e : List ℕ)
    → added (at + length ns) ms (added at ns e) ≡ added at (ns ++ ms) e
added_append at [] ms e =
    (let z : at + 0 ≡ at = omega arith in ap (λ k. added k ms (added at [] e)) z)
    ∙ ap (added at ms) (added_nothing at e)
added_append at (n ∷ ns) ms e =
    (let z : at + suc (length ns) ≡ suc at + length ns = omega arith in
    ap (λ k. added k ms (added at (n ∷ ns) e)) z)
    ∙ ap (added (suc at + length ns) ms) (sym (added_next at n ns e))
    ∙ added_append (suc at) ns ms (added at (n ∷ []) e)
    ∙ added_next at n (ns ++ ms) e

added_twice : (at : ℕ) (ns ms e : List ℕ) → length ns ≡ length ms
    → added at ms (added at ns e) ≡ added at (plus ns ms) e
added_twice zero [] [] e h = refl
added_twice zero [] (m ∷ ms) e h = absurd (omega arith)
added_twice zero (n ∷ ns) [] e h = absurd (omega arith)
added_twice zero (n ∷ ns) (m ∷ ms) [] h = refl
added_twice zero (n ∷ ns) (m ∷ ms) (k ∷ e) h =
    let same : k + n + m ≡ k + (n + m) = omega arith in
    let less : length ns ≡ length ms = omega arith in
    λ i. same i ∷ added_twice zero ns ms e less i
added_twice (suc k) ns ms [] h = refl
added_twice (suc k) ns ms (m ∷ e) h = ap (λ l. m ∷ l) (added_twice k ns ms e h)

-- ---- counts that stop at their last value
kept_more : (m n : ℕ) → kept_count (kept_count m + n) ≡ kept_count (m + n)
kept_more m n = omega arith

raised_kept : (at n : ℕ) (e : List ℕ)
    → raised_at at n (map kept_count e) ≡ map kept_count (added at (n ∷ []) e)
raised_kept zero n [] = refl
raised_kept zero n (m ∷ e) = ap (λ c. c ∷ map kept_count e) (kept_more m n)
raised_kept (suc k) n [] = refl
raised_kept (suc k) n (m ∷ e) = ap (λ l. kept_count m ∷ l) (raised_kept k n e)

kept_zeros : (n : ℕ) → map kept_count (zeros n) ≡ zeros n
kept_zeros zero = refl
kept_zeros (suc n) = ap (λ l. 0 ∷ l) (kept_zeros n)

zeros_append : (m n : ℕ) → zeros m ++ zeros n ≡ zeros (m + n)
zeros_append zero n = let z : n ≡ 0 + n = omega arith in ap zeros z
zeros_append (suc m) n =
    ap (λ l. 0 ∷ l) (zeros_append m n)
    ∙ (let z : suc (m + n) ≡ suc m + n = omega arith in ap zeros z)

added_zeros : (at n : ℕ) (e : List ℕ) → added at (zeros n) e ≡ e
added_zeros zero zero e = refl
added_zeros zero (suc n) [] = refl
added_zeros zero (suc n) (m ∷ e) =
    let z : m + 0 ≡ m = omega arith in λ i. z i ∷ added_zeros zero n e i
added_zeros (suc k) n [] = refl
added_zeros (suc k) n (m ∷ e) = ap (λ l. m ∷ l) (added_zeros k n e)

added_all : (ns : List ℕ) → added 0 ns (zeros (length ns)) ≡ ns
added_all [] = refl
added_all (n ∷ ns) = let z : 0 + n ≡ n = omega arith in λ i. z i ∷ added_all ns i

plus_append : (ks ls ms ns : List ℕ) → length ks ≡ length ms
    → plus (ks ++ ls) (ms ++ ns) ≡ plus ks ms ++ plus ls ns
plus_append [] ls [] ns h = refl
plus_append [] ls (m ∷ ms) ns h = absurd (omega arith)
plus_append (k ∷ ks) ls [] ns h = absurd (omega arith)
plus_append (k ∷ ks) ls (m ∷ ms) ns h =
    ap (λ l. (k + m) ∷ l) (plus_append ks ls ms ns (omega arith))

-- ---- the table of sizes
from_drop : (n : ℕ) (xs ys : List ℕ) (y : ℕ) → drop n xs ≡ y ∷ ys
    → (slice_get xs n ≡ Some y) × (drop (suc n) xs ≡ ys)
from_drop zero [] ys y e = cc e
from_drop zero (x ∷ xs) ys y e =
    let same : x ≡ y = cc in let rest : xs ≡ ys = cc in (ap Some same, rest)
from_drop (suc n) [] ys y e = cc e
from_drop (suc n) (x ∷ xs) ys y e = from_drop n xs ys y e

past_drop : (n : ℕ) (xs ys zs : List ℕ) → drop n xs ≡ ys ++ zs → drop (n + length ys) xs ≡ zs
past_drop n xs [] zs e = (let z : n + 0 ≡ n = omega arith in ap (λ k. drop k xs) z) ∙ e
past_drop n xs (y ∷ ys) zs e =
    (let z : n + suc (length ys) ≡ suc n + length ys = omega arith in ap (λ k. drop k xs) z)
    ∙ past_drop (suc n) xs ys zs (from_drop n xs (ys ++ zs) y e).1

-- a run that is not trapped leaves these counts
abbrev pub Tallies : List ℕ → Run → Type 0
Tallies e (Ok g) = g.counts ≡ map kept_count e
Tallies e (Err trap) = Unit {0}

tallies_then : (d e : List ℕ) (r : Run) (f : Given → Run) → Tallies d r
    → ((g : Given) → g.counts ≡ map kept_count d → Tallies e (f g)) → Tallies e (and_then r f)
tallies_then d e (Ok g) f h k = k g h
tallies_then d e (Err trap) f h k = tt

tallies_kept : (e : List ℕ) (r : Run) (out : Option ℕ) (values : List Value) → Tallies e r
    → Tallies e (and_then r (λ more. Ok (with_values_put out values more)))
tallies_kept e (Ok g) out values h = h
tallies_kept e (Err trap) out values h = tt

-- ---- what the steps of a forest emit
module _ (w : World) where
  abbrev pub emits : Forest → List Value → List ℕ
  emits f xs = map length (step_lists w f xs)

  emits_step : (l : Label) (kids rest : Forest) (xs : List Value)
      → emits (Grow l kids rest) xs
      ≡ length (flat_map (emitted w l) xs)
      ∷ (emits kids (flat_map (emitted w l) xs) ++ emits rest xs)
  emits_step l kids rest xs =
      let ys = flat_map (emitted w l) xs in
      ap (λ t. length ys ∷ t)
      (map-append (λ (vs : List Value). length vs) (step_lists w kids ys) (step_lists w rest xs))

  pub emits_length : (f : Forest) (xs : List Value) → length (emits f xs) ≡ outputs_in f
  emits_length Bare xs = refl
  emits_length (Grow l kids rest) xs =
      let ys = flat_map (emitted w l) xs in
      let a = emits_length kids ys in
      let b = emits_length rest xs in
      let c = ap length (emits_step l kids rest xs) in
      let d = length-append (emits kids ys) (emits rest xs) in omega arith

  emits_none : (f : Forest) → emits f [] ≡ zeros (outputs_in f)
  emits_none Bare = refl
  emits_none (Grow l kids rest) =
      emits_step l kids rest []
      ∙ ap (λ t. 0 ∷ t)
      ((λ i. emits_none kids i ++ emits_none rest i)
      ∙ zeros_append (outputs_in kids) (outputs_in rest))

  pub emits_more : (f : Forest) (xs ys : List Value)
      → emits f (xs ++ ys) ≡ plus (emits f xs) (emits f ys)
  emits_more Bare xs ys = refl
  emits_more (Grow l kids rest) xs ys =
      let us = flat_map (emitted w l) xs in
      let vs = flat_map (emitted w l) ys in
      let both = flat_map-append (emitted w l) xs ys in
      let same : length (emits kids us) ≡ length (emits kids vs) =
      emits_length kids us ∙ sym (emits_length kids vs) in
      emits_step l kids rest (xs ++ ys)
      ∙ (λ i. length (both i) ∷ (emits kids (both i) ++ emits_more rest xs ys i))
      ∙ (λ i. length-append us vs i
      ∷ (emits_more kids us vs i ++ plus (emits rest xs) (emits rest ys)))
      ∙ ap (λ t. (length us + length vs) ∷ t)
      (sym (plus_append (emits kids us) (emits rest xs) (emits kids vs) (emits rest ys) same))
      ∙ (λ i. plus (sym (emits_step l kids rest xs) i) (sym (emits_step l kids rest ys) i))

  -- ---- one element after another
  each_tallies : (at : ℕ) (f : Forest) (F : Value → Given → Run)
      → ((x : Value) (g : Given) (e : List ℕ) → g.counts ≡ map kept_count e
      → Tallies (added at (emits f (x ∷ [])) e) (F x g)) → (xs : List Value) (g : Given)
      (e : List ℕ) → g.counts ≡ map kept_count e
      → Tallies (added at (emits f xs) e) (run_each F xs g)
  each_tallies at f F h [] g e is =
      is ∙ ap (map kept_count)
      (sym (ap (λ ns. added at ns e) (emits_none f) ∙ added_zeros at (outputs_in f) e))
  each_tallies at f F h (x ∷ xs) g e is =
      let first = emits f (x ∷ []) in
      let both : added at (emits f xs) (added at first e) ≡ added at (emits f (x ∷ xs)) e =
      added_twice at first (emits f xs) e (emits_length f (x ∷ []) ∙ sym (emits_length f xs))
      ∙ ap (λ ns. added at ns e) (sym (emits_more f (x ∷ []) xs)) in
      tallies_then (added at first e) (added at (emits f (x ∷ xs)) e) (F x g) (run_each F xs)
      (h x g e is)
      (λ more h2. subst (λ d. Tallies d (run_each F xs more)) both
      (each_tallies at f F h xs more (added at first e) h2))

  out_tallies : (at : ℕ) (kids : Forest) (F : Value → Given → Run)
      → ((x : Value) (g : Given) (e : List ℕ) → g.counts ≡ map kept_count e
      → Tallies (added (suc at) (emits kids (x ∷ [])) e) (F x g)) → (out : Option ℕ)
      (vs : List Value) (g : Given) (e : List ℕ) → g.counts ≡ map kept_count e
      → Tallies (added at (length vs ∷ emits kids vs) e) (run_out out at F vs g)
  out_tallies at kids F h out vs g e is =
      let n = length vs in
      let now : raised_at at n g.counts ≡ map kept_count (added at (n ∷ []) e) =
      ap (raised_at at n) is ∙ raised_kept at n e in
      tallies_kept (added at (n ∷ emits kids vs) e) (run_each F vs (counted_at at n g)) out vs
      (subst (λ d. Tallies d (run_each F vs (counted_at at n g)))
      (added_next at n (emits kids vs) e)
      (each_tallies (suc at) kids F h vs (counted_at at n g) (added at (n ∷ []) e) now))

  answer_tallies : (at : ℕ) (kids : Forest) (F : Value → Given → Run)
      → ((x : Value) (g : Given) (e : List ℕ) → g.counts ≡ map kept_count e
      → Tallies (added (suc at) (emits kids (x ∷ [])) e) (F x g)) → (origin which : ℕ)
      (answer : Called) (out : Option ℕ) (g : Given) (e : List ℕ) → g.counts ≡ map kept_count e
      → Tallies (added at (length (emissions which answer) ∷ emits kids (emissions which answer)) e)
      (run_answer origin which answer out at F g)
  answer_tallies at kids F h origin which (Ok answers) out g e is =
      out_tallies at kids F h out (or_none (slice_get answers which)) g e is
  answer_tallies at kids F h origin which (Err trap) out g e is = tt

  module _ (sizes : List ℕ) where
    run_tallies : (at : ℕ) (f : Forest) (x : Value) (g : Given) (e more : List ℕ)
        → drop at sizes ≡ sizes_in f ++ more → at + outputs_in f < 2 ^ 64
        → g.counts ≡ map kept_count e
        → Tallies (added at (emits f (x ∷ [])) e) (run w sizes at f x g)
    run_tallies at Bare x g e more table small is = is
        ∙ ap (map kept_count) (sym (added_nothing at e))
    run_tallies at (Grow l kids rest) x g e more table small is =
        let k = outputs_in kids in
        let vs = emitted w l x in
        let here = from_drop at sizes ((sizes_in kids ++ sizes_in rest) ++ more) (suc k) table in
        let low : below at ≡ suc at = omega arith in
        let next : next_behind sizes at ≡ at + suc k =
        ap (λ o. bounded_place (at + unwrap_or o 0)) here.0 ∙ (omega arith) in
        let on : drop (suc at) sizes ≡ sizes_in kids ++ (sizes_in rest ++ more) =
        here.1 ∙ append_assoc (sizes_in kids) (sizes_in rest) more in
        let past : drop (suc at + length (sizes_in kids)) sizes ≡ sizes_in rest ++ more =
        past_drop (suc at) sizes (sizes_in kids) (sizes_in rest ++ more) on in
        let many : suc at + length (sizes_in kids) ≡ at + suc k =
        omega (arith, sizes_length kids) in
        let own = length vs ∷ emits kids vs in
        let own_length : length own ≡ suc k = ap suc (emits_length kids vs) in
        let first : Tallies (added at own e)
        (run_answer l.origin l.at (called w l.does x) l.out at (run w sizes (below at) kids) g) =
        subst (λ b. Tallies (added at own e)
        (run_answer l.origin l.at (called w l.does x) l.out at (run w sizes b kids) g)) (sym low)
        (answer_tallies at kids (run w sizes (suc at) kids)
        (λ y h d q. run_tallies (suc at) kids y h d (sizes_in rest ++ more) on (omega arith) q)
        l.origin l.at (called w l.does x) l.out g e is) in
        let all : added (at + suc k) (emits rest (x ∷ [])) (added at own e)
        ≡ added at (emits (Grow l kids rest) (x ∷ [])) e =
        (λ i. added (at + sym own_length i) (emits rest (x ∷ [])) (added at own e))
        ∙ added_append at own (emits rest (x ∷ [])) e
        ∙ ap (λ ns. added at ns e)
        ((λ i. length (sym (append-nil vs) i)
        ∷ (emits kids (sym (append-nil vs) i) ++ emits rest (x ∷ [])))
        ∙ sym (emits_step l kids rest (x ∷ []))) in
        tallies_then (added at own e) (added at (emits (Grow l kids rest) (x ∷ [])) e)
        (run_answer l.origin l.at (called w l.does x) l.out at (run w sizes (below at) kids) g)
        (run w sizes (next_behind sizes at) rest x) first
        (λ now q. subst (λ b. Tallies (added at (emits (Grow l kids rest) (x ∷ [])) e)
        (run w sizes b rest x now)) (sym next)
        (subst (λ d. Tallies d (run w sizes (at + suc k) rest x now)) all
        (run_tallies (at + suc k) rest x now (added at own e) more
        (ap (λ b. drop b sizes) (sym many) ∙ past) (omega arith) q)))

    pub all_counted : (f : Forest) (xs : List Value) (g left : Given) → sizes ≡ sizes_in f
        → outputs_in f < 2 ^ 64 → g.counts ≡ zeros (outputs_in f)
        → run_each (run w sizes 0 f) xs g ≡ Ok left
        → left.counts ≡ map kept_count (emits f xs)
    all_counted f xs g left table small none e =
        let start : g.counts ≡ map kept_count (zeros (outputs_in f)) =
        none ∙ sym (kept_zeros (outputs_in f)) in
        subst (Tallies (added 0 (emits f xs) (zeros (outputs_in f)))) e
        (each_tallies 0 f (run w sizes 0 f)
        (λ x h d q. run_tallies 0 f x h d [] (table ∙ sym (append-nil (sizes_in f))) (omega arith)
        q)
        xs g (zeros (outputs_in f)) start)
        ∙ ap (map kept_count)
        (ap (λ n. added 0 (emits f xs) (zeros n)) (sym (emits_length f xs))
        ∙ added_all (emits f xs))
