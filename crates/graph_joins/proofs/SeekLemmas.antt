-- Walks that look for the output of a number.
use Rattle.std.proofs.Common.{◌≡◌, ◌≢◌, ◌≤◌, ◌<◌, ℕ, ◌+◌, ◌-◌, zero, suc, Bool, true, false, cond, eqb, ◌||◌, List, [], ◌∷◌, ◌++◌, drop, length, get_or, Option, Some, None, refl, sym, ap, ap₂, subst, ◌∙◌, arith}
use Rattle.std.proofs.lemmas.Bool.{eq-eqb, eqb-false, eqb-true, false≢true, ne_eqb}
use Rattle.std.specs.List.{flat_map}
use Rattle.exec_graph.specs.Forests.{Branch, Forest, Bare, Grow, grown}
use Rattle.exec_graph.specs.Meaning.{OutsDiffer, has_out, is_out}
use Rattle.graph_laws.specs.Kids.{number_after}
use Rattle.graph_walks.specs.Outs.{out_list, outs, place_of}
use Rattle.graph_walks.specs.inner.Numbering.{branches_outs}
use Rattle.graph_walks.proofs.InPlace.{IsSeen, none_left, seen_here}
use Rattle.graph_walks.proofs.NumberLemmas.{outs_grown}
use Rattle.graph_walks.proofs.Places.{holds, holds_append, holds_outs, number_place}
use Rattle.graph_joins.specs.inner.Seeks.{is_kth, is_name, seek}
use Rattle.graph_joins.specs.declared.seeking.Sought.{Sought}
use Rattle.graph_joins.specs.declared.seeking.Sought.TheVariants.{Found, Behind}

-- ---- among these, and else among others

abbrev pub seek_on : Sought → List ℕ → Sought
seek_on (Found n) ys = Found n
seek_on (Behind k) ys = seek ys k

seek_append : (xs ys : List ℕ) (k : ℕ) → seek (xs ++ ys) k ≡ seek_on (seek xs k) ys
seek_append [] ys k = refl
seek_append (x ∷ xs) ys k = by (eqb k 0) (seek_append xs ys (k - 1))
  where
    by : (b : Bool) → seek (xs ++ ys) (k - 1) ≡ seek_on (seek xs (k - 1)) ys
        → cond b (Found x) (seek (xs ++ ys) (k - 1))
        ≡ seek_on (cond b (Found x) (seek xs (k - 1))) ys
    by true h = refl
    by false h = h

pub seek_more : (xs ys : List ℕ) (k : ℕ) (s : Sought) → s ≡ seek xs k
    → seek_on s ys ≡ seek (xs ++ ys) k
seek_more xs ys k s e =
    ap (λ (x : Sought). seek_on x ys) e ∙ sym (seek_append xs ys k)

module _ {X V : Type 0} (seen : List X → List V) (one : X → V) (s : IsSeen seen one)
    (outs_of : V → List ℕ) (xs : List X) (i k : ℕ) where
  pub seek_turn : (x : X) (sought : Sought) → i < length xs → x ≡ get_or xs i x
      → sought ≡ seek (outs_of (one x)) k
      → seek_on sought (flat_map outs_of (seen (drop (i + 1) xs)))
      ≡ seek (flat_map outs_of (seen (drop i xs))) k
  seek_turn x sought lt is e =
      seek_more (outs_of (one x)) (flat_map outs_of (seen (drop (i + 1) xs))) k sought e
      ∙ ap (λ (vs : List V). seek (flat_map outs_of vs) k)
      (sym (seen_here seen one s xs i x x lt is))

  pub seek_end : length xs ≤ i → Behind k ≡ seek (flat_map outs_of (seen (drop i xs))) k
  seek_end past =
      ap (λ (vs : List V). seek (flat_map outs_of vs) k) (sym (none_left seen one s xs i past))

-- behind the first
kth_next : (m : ℕ) (ns : List ℕ) (k n : ℕ) → is_kth (m ∷ ns) (suc k) n ≡ is_kth ns k n
kth_next m ns k n =
    let z : eqb (suc k) 0 ≡ false =
    ne_eqb (suc k) 0 (λ e. let f : suc k ≡ 0 = e in omega arith) in
    let p : suc k - 1 ≡ k = omega arith in
    ap (λ (b : Bool). is_name n (cond b (Found m) (seek ns (suc k - 1)))) z
    ∙ ap (λ (i : ℕ). is_name n (seek ns i)) p

-- the number at a place, and none behind the end
pub kth_told : (ns : List ℕ) (k d n : ℕ) → k < length ns
    → is_kth ns k n ≡ eqb (get_or ns k d) n
kth_told [] k d n lt = let bad : ⊥ = omega arith in absurd bad
kth_told (m ∷ ns) zero d n lt = refl
kth_told (m ∷ ns) (suc k) d n lt = kth_next m ns k n ∙ kth_told ns k d n (omega arith)

pub kth_behind : (ns : List ℕ) (k n : ℕ) → length ns ≤ k → is_kth ns k n ≡ false
kth_behind [] k n past = refl
kth_behind (m ∷ ns) zero n past = let bad : ⊥ = omega arith in absurd bad
kth_behind (m ∷ ns) (suc k) n past = kth_next m ns k n ∙ kth_behind ns k n (omega arith)

-- an output behind which the walk goes on among the steps on it
pub twig_sought : (out : Option ℕ) (kids : List Branch) (k m : ℕ) (s : Sought)
    → Behind m ≡ seek (out_list out) k → s ≡ seek (branches_outs kids) m
    → s ≡ seek (out_list out ++ outs (grown kids)) k
twig_sought out kids k m s e d =
    d ∙ ap (λ (ns : List ℕ). seek ns m) (outs_grown kids)
    ∙ seek_more (out_list out) (outs (grown kids)) k (Behind m) e

-- ---- numbers that differ

abbrev Apart : List ℕ → Type 0
Apart [] = Unit {0}
Apart (n ∷ ns) = (holds ns n ≡ false) × Apart ns

or_true : (b : Bool) → (b || true) ≡ true
or_true true = refl
or_true false = refl

holds_out : (o : Option ℕ) (j : ℕ) → holds (out_list o) j ≡ true → is_out o j ≡ true
holds_out None j h = h
holds_out (Some i) j h = by (eqb i j) h
  where
    by : (b : Bool) → (b || false) ≡ true → b ≡ true
    by true e = refl
    by false e = e

apart_append : (xs ys : List ℕ) → Apart xs → Apart ys
    → ((j : ℕ) → holds xs j ≡ true → holds ys j ≡ false) → Apart (xs ++ ys)
apart_append [] ys a b h = b
apart_append (x ∷ xs) ys a b h = (
  holds_append xs ys x
      ∙ ap₂ (λ (c d : Bool). c || d) a.0
      (h x (ap (λ (c : Bool). c || holds xs x) (eq-eqb x x refl))),
  apart_append xs ys a.1 b
      (λ j e. h j (ap (λ (c : Bool). eqb x j || c) e ∙ or_true (eqb x j))),
)

apart_out : (o : Option ℕ) → Apart (out_list o)
apart_out None = tt
apart_out (Some i) = (refl, tt)

outs_apart : (f : Forest) → OutsDiffer f → Apart (outs f)
outs_apart Bare d = tt
outs_apart (Grow l kids rest) d =
    apart_append (out_list l.out) (outs kids ++ outs rest) (apart_out l.out)
    (apart_append (outs kids) (outs rest) (outs_apart kids d.2) (outs_apart rest d.3)
    (λ j h. holds_outs rest j ∙ d.1 j (sym (holds_outs kids j) ∙ h)))
    (λ j h. holds_append (outs kids) (outs rest) j
    ∙ ap₂ (λ (c e : Bool). c || e) (holds_outs kids j) (holds_outs rest j)
    ∙ d.0 j (holds_out l.out j h))

-- ---- the k-th of numbers that differ

record IsAt (ns : List ℕ) (k n : ℕ) : Type 0 where
  among : holds ns n ≡ true
  place : place_of ns n ≡ k

kth_at : (ns : List ℕ) (k n : ℕ) → Apart ns → is_kth ns k n ≡ true → IsAt ns k n
kth_at [] k n a h = absurd (false≢true h)
kth_at (m ∷ ns) k n a h = by (eqb k 0) refl h (kth_at ns (k - 1) n a.1)
  where
    later : (b : Bool) → eqb m n ≡ b → eqb k 0 ≡ false → IsAt ns (k - 1) n
        → IsAt (m ∷ ns) k n
    later true i z r =
        let e : m ≡ n = eqb-true m n i in
        let no : holds ns n ≡ false = subst (λ (j : ℕ). holds ns j ≡ false) e a.0 in
        absurd (false≢true (sym no ∙ r.among))
    later false i z r =
        let p : k ≢ 0 = eqb-false k 0 z in
        let q : place_of ns n ≡ k - 1 = r.place in
        let s : suc (place_of ns n) ≡ k = omega arith in
        record {
          among = ap (λ (c : Bool). c || holds ns n) i ∙ r.among;
          place = ap (λ (c : Bool). cond c 0 (suc (place_of ns n))) i ∙ s;
        }

    by : (b : Bool) → eqb k 0 ≡ b → is_name n (cond b (Found m) (seek ns (k - 1))) ≡ true
        → (is_kth ns (k - 1) n ≡ true → IsAt ns (k - 1) n) → IsAt (m ∷ ns) k n
    by true z e f = record {
      among = ap (λ (c : Bool). c || holds ns n) e;
      place = ap (λ (c : Bool). cond c 0 (suc (place_of ns n))) e ∙ sym (eqb-true k 0 z);
    }
    by false z e f = later (eqb m n) refl z (f e)

pub kth_is : (f : Forest) (k n : ℕ) → OutsDiffer f → is_kth (outs f) k n ≡ true
    → (has_out n f ≡ true) × (number_after 0 f n ≡ k)
kth_is f k n d h =
    let there = kth_at (outs f) k n (outs_apart f d) h in
    let a = number_place 0 f n in
    let b : place_of (outs f) n ≡ k = there.place in
    let e : number_after 0 f n ≡ k = omega arith in
    (sym (holds_outs f n) ∙ there.among, e)

-- and the other way round
kth_placed : (ns : List ℕ) (n : ℕ) → holds ns n ≡ true → is_kth ns (place_of ns n) n ≡ true
kth_placed [] n h = absurd (false≢true h)
kth_placed (m ∷ ns) n h = by (eqb m n) refl h (kth_placed ns n)
  where
    by : (b : Bool) → eqb m n ≡ b → (b || holds ns n) ≡ true
        → (holds ns n ≡ true → is_kth ns (place_of ns n) n ≡ true)
        → is_kth (m ∷ ns) (cond b 0 (suc (place_of ns n))) n ≡ true
    by true e r f = e
    by false e r f = kth_next m ns (place_of ns n) n ∙ f r

pub is_told_kth : (f : Forest) (k n : ℕ) → has_out n f ≡ true → number_after 0 f n ≡ k
    → is_kth (outs f) k n ≡ true
is_told_kth f k n has number =
    let a = number_place 0 f n in
    let b : number_after 0 f n ≡ k = number in
    let e : place_of (outs f) n ≡ k = omega arith in
    subst (λ (i : ℕ). is_kth (outs f) i n ≡ true) e
    (kth_placed (outs f) n (holds_outs f n ∙ has))
