-- Numbers by their labels: each label has one class, where it stands first.
use Rattle.std.proofs.Common.{◌≡◌, ℕ, ◌+◌, ◌<◌, ◌≤◌, ◌⊎◌, eqb, not, Bool, true, false, cond, List, [], ◌∷◌, length, zero, suc, refl, sym, ap, ◌∙◌, arith, inl, inr}
use Rattle.std.proofs.lemmas.Bool.{eqb-true, eq-eqb, false≢true}
use Rattle.std.specs.List.{AllByRecursion as Each, filter}
use Rattle.flume_value.proofs.EachLemmas.{Each-filter, Each-filter_passes, Each-weaker}
use Rattle.plan_laws.specs.Operations.{times_named}
use Rattle.form_laws.specs.Classes.{IsShared, Rises, class_members}
use Rattle.form_laws.proofs.Basics.{all_at, counted, counts_head, none_counted, times_append}

abbrev like : (ℕ → ℕ) → ℕ → ℕ → Bool
like l n k = eqb (l n) (l k)

abbrev unlike : (ℕ → ℕ) → ℕ → ℕ → Bool
unlike l n k = not (eqb (l n) (l k))

-- the numbers by their labels, each label where it stands first
abbrev pub by_label : (ℕ → ℕ) → ℕ → List ℕ → List (List ℕ)
by_label l zero ns = []
by_label l (suc turns) [] = []
by_label l (suc turns) (n ∷ ns) =
    (n ∷ filter (like l n) ns) ∷ by_label l turns (filter (unlike l n) ns)

parts_by : (f : ℕ → Bool) (x n : ℕ) (ns : List ℕ) (t : Bool)
    → times_named x (filter f ns) + times_named x (filter (λ k. not (f k)) ns) ≡ times_named x ns
    → times_named x (cond t (n ∷ filter f ns) (filter f ns))
    + times_named x (cond (not t) (n ∷ filter (λ k. not (f k)) ns) (filter (λ k. not (f k)) ns))
    ≡ times_named x (n ∷ ns)
parts_by f x n ns true h = omega arith
parts_by f x n ns false h = omega arith

parts_times : (f : ℕ → Bool) (x : ℕ) (ns : List ℕ)
    → times_named x (filter f ns) + times_named x (filter (λ k. not (f k)) ns) ≡ times_named x ns
parts_times f x [] = refl
parts_times f x (n ∷ ns) = parts_by f x n ns (f n) (parts_times f x ns)

fewer_by : (n : ℕ) (ns ms : List ℕ) (t : Bool) → length ms ≤ length ns
    → length (cond t (n ∷ ms) ms) ≤ length (n ∷ ns)
fewer_by n ns ms true h = omega arith
fewer_by n ns ms false h = omega arith

fewer : (f : ℕ → Bool) (ns : List ℕ) → length (filter f ns) ≤ length ns
fewer f [] = omega arith
fewer f (n ∷ ns) = fewer_by n ns (filter f ns) (f n) (fewer f ns)

pub label_times : (l : ℕ → ℕ) (turns : ℕ) (ns : List ℕ) → length ns ≤ turns → (x : ℕ)
    → times_named x (class_members (by_label l turns ns)) ≡ times_named x ns
label_times l zero [] h x = refl
label_times l zero (n ∷ ns) h x = absurd (omega arith)
label_times l (suc turns) [] h x = refl
label_times l (suc turns) (n ∷ ns) h x =
    let rest : List ℕ = filter (unlike l n) ns in
    let few = fewer (unlike l n) ns in
    let i = label_times l turns rest (omega arith) x in
    let a = times_append x (n ∷ filter (like l n) ns) (class_members (by_label l turns rest)) in
    let p = parts_times (like l n) x ns in
    omega arith

pub label_some : (l : ℕ → ℕ) (turns : ℕ) (ns : List ℕ)
    → Each (λ c. 0 < length c) (by_label l turns ns)
label_some l zero ns = tt
label_some l (suc turns) [] = tt
label_some l (suc turns) (n ∷ ns) =
    (omega arith, label_some l turns (filter (unlike l n) ns))

pub rises_by : (n : ℕ) (ns : List ℕ) (t : Bool) → Each (λ k. n < k) ns → Rises ns
    → Rises (cond t (n ∷ ns) ns)
rises_by n ns true a h = (a, h)
rises_by n ns false a h = h

rises_kept : (f : ℕ → Bool) (ns : List ℕ) → Rises ns → Rises (filter f ns)
rises_kept f [] h = tt
rises_kept f (n ∷ ns) h =
    rises_by n (filter f ns) (f n) (Each-filter (λ k. n < k) f ns h.0) (rises_kept f ns h.1)

pub label_rise : (l : ℕ → ℕ) (turns : ℕ) (ns : List ℕ) → Rises ns
    → Each Rises (by_label l turns ns)
label_rise l zero ns h = tt
label_rise l (suc turns) [] h = tt
label_rise l (suc turns) (n ∷ ns) h = (
  (Each-filter (λ k. n < k) (like l n) ns h.0, rises_kept (like l n) ns h.1),
  label_rise l turns (filter (unlike l n) ns) (rises_kept (unlike l n) ns h.1),
)

pub label_each : (P : ℕ → Type 0) (l : ℕ → ℕ) (turns : ℕ) (ns : List ℕ) → Each P ns
    → Each (Each P) (by_label l turns ns)
label_each P l zero ns a = tt
label_each P l (suc turns) [] a = tt
label_each P l (suc turns) (n ∷ ns) a = (
  (a.0, Each-filter P (like l n) ns a.1),
  label_each P l turns (filter (unlike l n) ns) (Each-filter P (unlike l n) ns a.1),
)

-- those of one class have one label
same_label : (l : ℕ → ℕ) (n : ℕ) (ns : List ℕ)
    → Each (λ k. l n ≡ l k) (n ∷ filter (like l n) ns)
same_label l n ns = (
  refl,
  Each-weaker (λ k. like l n k ≡ true) (λ k. l n ≡ l k) (λ k e. eqb-true (l n) (l k) e)
      (filter (like l n) ns) (Each-filter_passes (like l n) ns),
)

pub shared_label : (l : ℕ → ℕ) (turns : ℕ) (ns : List ℕ) (n k : ℕ)
    → IsShared n k (by_label l turns ns) → l n ≡ l k
shared_label l zero ns n k h = absurd h
shared_label l (suc turns) [] n k h = absurd h
shared_label l (suc turns) (x ∷ xs) n k (inl h) =
    let c : List ℕ = x ∷ filter (like l x) xs in
    sym (all_at (λ m. l x ≡ l m) n c (same_label l x xs) h.0)
    ∙ all_at (λ m. l x ≡ l m) k c (same_label l x xs) h.1
shared_label l (suc turns) (x ∷ xs) n k (inr h) =
    shared_label l turns (filter (unlike l x) xs) n k h

kept_by : (n x : ℕ) (f : ℕ → Bool) (ms : List ℕ) (t : Bool) → f x ≡ t → f n ≡ true
    → (x ≡ n) ⊎ (0 < times_named n ms) → 0 < times_named n (cond t (x ∷ ms) ms)
kept_by n x f ms true e p (inl i) = counts_head n x ms i
kept_by n x f ms true e p (inr h) = omega arith
kept_by n x f ms false e p (inl i) = absurd (false≢true (sym e ∙ ap f i ∙ p))
kept_by n x f ms false e p (inr h) = h

kept_in : (f : ℕ → Bool) (n : ℕ) (ns : List ℕ) → f n ≡ true → 0 < times_named n ns
    → 0 < times_named n (filter f ns)
kept_in f n [] p h = absurd (none_counted n h)
kept_in f n (x ∷ xs) p h =
    kept_by n x f (filter f xs) (f x) refl p
    (elim (counted n x xs h) [ inl e ↦ inl e | inr i ↦ inr (kept_in f n xs p i) ])

-- what has the label of x is in its class, and what has not is in the others
in_class : (l : ℕ → ℕ) (x n : ℕ) (xs : List ℕ) → eqb (l x) (l n) ≡ true → 0 < times_named n (x ∷ xs)
    → 0 < times_named n (x ∷ filter (like l x) xs)
in_class l x n xs e h =
    elim (counted n x xs h) [
      | inl i ↦ counts_head n x (filter (like l x) xs) i
      | inr i ↦ (let k = kept_in (like l x) n xs e i in omega arith)
    ]

in_others : (l : ℕ → ℕ) (x n : ℕ) (xs : List ℕ) → eqb (l x) (l n) ≡ false
    → 0 < times_named n (x ∷ xs) → 0 < times_named n (filter (unlike l x) xs)
in_others l x n xs e h =
    elim (counted n x xs h) [
      | inl i ↦ absurd (false≢true (sym e ∙ eq-eqb (l x) (l n) (ap l i)))
      | inr i ↦ kept_in (unlike l x) n xs (ap not e) i
    ]

pub label_shared : (l : ℕ → ℕ) (turns : ℕ) (ns : List ℕ) (n k : ℕ) → length ns ≤ turns
    → 0 < times_named n ns → 0 < times_named k ns → l n ≡ l k → IsShared n k (by_label l turns ns)
label_shared l turns [] n k h p q e = absurd (none_counted n p)
label_shared l zero (x ∷ xs) n k h p q e = absurd (omega arith)
label_shared l (suc turns) (x ∷ xs) n k h p q e =
    by (λ i j. label_shared l turns (filter (unlike l x) xs) n k
    (let few = fewer (unlike l x) xs in omega arith) i j e) (eqb (l x) (l n)) refl
  where
    by : (0 < times_named n (filter (unlike l x) xs) → 0 < times_named k (filter (unlike l x) xs)
        → IsShared n k (by_label l turns (filter (unlike l x) xs)))
        → (t : Bool) → eqb (l x) (l n) ≡ t
        → ((0 < times_named n (x ∷ filter (like l x) xs)) ×
        (0 < times_named k (x ∷ filter (like l x) xs)))
        ⊎ IsShared n k (by_label l turns (filter (unlike l x) xs))
    by f true i =
        inl (
          in_class l x n xs i p,
          in_class l x k xs (sym (ap (eqb (l x)) e) ∙ i) q,
        )
    by f false i =
        inr (f (in_others l x n xs i p) (in_others l x k xs (sym (ap (eqb (l x)) e) ∙ i) q))
