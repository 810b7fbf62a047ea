-- The outputs of a step, each in a Pdo of its own, under numbers that tell them apart.
use Rattle.std.proofs.Common.{◌≡◌, ℕ, ◌/◌, ◌%◌, ◌<◌, ◌≤◌, Bool, true, false, cond, eqb, ◌||◌, List, [], ◌∷◌, ◌++◌, Option, Some, None, refl, sym, ap, ◌∙◌, subst, arith, suc}
use Rattle.std.proofs.lemmas.Bool.{eqb-true, eq-eqb, false≢true}
use Rattle.std.proofs.lemmas.Nat.{div-mul-add, mod-mul-add}
use Rattle.std.specs.List.{flat_map, AllByRecursion}
use Rattle.flume_value.proofs.EachLemmas.{Each-weaker, Each-append, Each-left, Each-right}
use Rattle.exec_graph.specs.Forests.{Label, Forest, Bare, Grow, Branch, Twig, twigs}
use Rattle.exec_graph.specs.Meaning.{is_out, has_out, AllDiffer, OutsDiffer}
use Rattle.exec_graph.specs.declared.graph.Place.{Place}
use Rattle.exec_graph.specs.declared.graph.Node.{Node}
use Rattle.exec_graph.specs.declared.graph.Node.TheVariants.{Pdo}
use Rattle.exec_graph.specs.declared.graph.Entry.{Entry}
use Rattle.graph_laws.specs.Joining.{reread}
use Rattle.graph_laws.specs.Single.{HasSteps, IsOneStep}
use Rattle.pardo_fuse.specs.Parting.{part_number, sole_output, parts, parts_of_node, at_of}
use Rattle.graph_laws.proofs.NumberedHas.{last as or_last}

-- ---- numbers

pub number_mod : (k n i : ℕ) → n < k → part_number k n i % k ≡ n
number_mod k n i h = mod-mul-add i k n h

pub number_div : (k n i : ℕ) → n < k → part_number k n i / k ≡ i
number_div k n i h = div-mul-add i k n h

pub first_number : (k n : ℕ) → part_number k n 0 ≡ n
first_number k n = omega arith

pub small_mod : (k n : ℕ) → n < k → n % k ≡ n
small_mod k n h = ap (λ (x : ℕ). x % k) (sym (first_number k n)) ∙ number_mod k n 0 h

-- ---- outputs side by side

-- The outputs of one step, from place i on, without kids.
abbrev pub IsRow : ℕ → Forest → Type 0
IsRow i Bare = Unit {0}
IsRow i (Grow l kids rest) = (l.at ≡ i) × (kids ≡ Bare) × IsRow (suc i) rest

abbrev pub EachLabel : (Label → Type 0) → Forest → Type 0
EachLabel P Bare = Unit {0}
EachLabel P (Grow l kids rest) = P l × EachLabel P rest

pub label_weaker : (P Q : Label → Type 0) → ((l : Label) → P l → Q l) → (f : Forest)
    → EachLabel P f → EachLabel Q f
label_weaker P Q h Bare a = tt
label_weaker P Q h (Grow l kids rest) a = (h l a.0, label_weaker P Q h rest a.1)

pub label_both : (P Q R : Label → Type 0) → ((l : Label) → P l → Q l → R l) → (f : Forest)
    → EachLabel P f → EachLabel Q f → EachLabel R f
label_both P Q R h Bare a b = tt
label_both P Q R h (Grow l kids rest) a b = (h l a.0 b.0, label_both P Q R h rest a.1 b.1)

twigs_row : (b : Branch) (n : ℕ) (ts : List Twig) → AllByRecursion (λ t. t.kids ≡ Bare) ts
    → IsRow n (twigs b n ts Bare)
twigs_row b n [] a = tt
twigs_row b n (t ∷ ts) a = (refl, a.0, twigs_row b (suc n) ts a.1)

pub row_of : (f : Forest) → IsOneStep f → IsRow 0 f
row_of f s = subst (IsRow 0) (sym s.alone) (refl, s.first, twigs_row s.step 1 s.step.more s.more)

pub row_above : (i : ℕ) (f : Forest) → IsRow i f → EachLabel (λ l. i ≤ l.at) f
row_above i Bare r = tt
row_above i (Grow l kids rest) r = (
  let e = r.0 in omega arith,
  label_weaker (λ m. suc i ≤ m.at) (λ m. i ≤ m.at) (λ m h. omega arith) rest
      (row_above (suc i) rest r.2),
)

-- The number that the output at place i has.
abbrev pub out_at : ℕ → Forest → Option ℕ
out_at i Bare = None
out_at i (Grow l kids rest) = cond (eqb l.at i) l.out (out_at i rest)

out_next : (l m : Label) (kids rest : Forest) → l.at < m.at → out_at m.at rest ≡ m.out
    → out_at m.at (Grow l kids rest) ≡ m.out
out_next l m kids rest h e = by (eqb l.at m.at) refl
  where
    by : (r : Bool) → eqb l.at m.at ≡ r → cond r l.out (out_at m.at rest) ≡ m.out
    by true q = let i : l.at ≡ m.at = eqb-true l.at m.at q in absurd (omega arith)
    by false q = e

-- Each output is found at its place.
pub outs_at : (i : ℕ) (f : Forest) → IsRow i f → EachLabel (λ l. out_at l.at f ≡ l.out) f
outs_at i Bare r = tt
outs_at i (Grow l kids rest) r = (
  ap (λ (t : Bool). cond t l.out (out_at l.at rest)) (eq-eqb l.at l.at refl),
  label_both (λ m. suc i ≤ m.at) (λ m. out_at m.at rest ≡ m.out)
      (λ m. out_at m.at (Grow l kids rest) ≡ m.out)
      (λ m h e. let z = r.0 in let low : l.at < m.at = omega arith in out_next l m kids rest low e)
      rest (row_above (suc i) rest r.2) (outs_at (suc i) rest r.2),
)

has_this : (j : ℕ) (o : Option ℕ) (b : Bool) → o ≡ Some j → (is_out o j || b) ≡ true
has_this j o b e = ap (λ (x : Option ℕ). is_out x j || b) e
    ∙ ap (λ (t : Bool). t || b) (eq-eqb j j refl)

pub labels_has : (f : Forest) → EachLabel (λ l. (j : ℕ) → l.out ≡ Some j → has_out j f ≡ true) f
labels_has Bare = tt
labels_has (Grow l kids rest) = (
  λ j e. has_this j l.out (has_out j kids || has_out j rest) e,
  label_weaker (λ m. (j : ℕ) → m.out ≡ Some j → has_out j rest ≡ true)
      (λ m. (j : ℕ) → m.out ≡ Some j → has_out j (Grow l kids rest) ≡ true)
      (λ m h j e. or_last (is_out l.out j) (has_out j kids) (has_out j rest) (h j e)) rest
      (labels_has rest),
)

both_false : (a b : Bool) → (a || b) ≡ false → b ≡ false
both_false true b h = absurd (false≢true (sym h))
both_false false b h = h

at_next : (l : Label) (kids rest : Forest) (j : ℕ) (at : ℕ) → OutsDiffer (Grow l kids rest)
    → has_out j rest ≡ true → at_of j rest ≡ at → at_of j (Grow l kids rest) ≡ at
at_next l kids rest j at d h e = by (is_out l.out j) refl
  where
    by : (r : Bool) → is_out l.out j ≡ r → cond r l.at (at_of j rest) ≡ at
    by true q = absurd (false≢true (sym (both_false (has_out j kids) (has_out j rest) (d.0 j q))
        ∙ h))
    by false q = e

-- And by its number.
pub ats_of : (f : Forest) → OutsDiffer f
    → EachLabel (λ l. (j : ℕ) → l.out ≡ Some j → at_of j f ≡ l.at) f
ats_of Bare d = tt
ats_of (Grow l kids rest) d = (
  λ j e. ap (λ (o : Option ℕ). cond (is_out o j) l.at (at_of j rest)) e
      ∙ ap (λ (t : Bool). cond t l.at (at_of j rest)) (eq-eqb j j refl),
  label_both (λ m. (j : ℕ) → m.out ≡ Some j → has_out j rest ≡ true)
      (λ m. (j : ℕ) → m.out ≡ Some j → at_of j rest ≡ m.at)
      (λ m. (j : ℕ) → m.out ≡ Some j → at_of j (Grow l kids rest) ≡ m.at)
      (λ m h e j q. at_next l kids rest j m.at d (h j q) (e j q)) rest (labels_has rest)
      (ats_of rest d.3),
)

-- ---- the parts of a node

pub parts_mod : (k n : ℕ) (x : Node) → n < k
    → AllByRecursion (λ h. h.number % k ≡ n) (parts_of_node k n x)
parts_mod k n (Pdo c f) h = by f
  where
    by : (f : Forest) → AllByRecursion (λ (h : Entry). h.number % k ≡ n) (parts k n c f)
    by Bare = tt
    by (Grow l kids rest) = (number_mod k n l.at h, by rest)
parts_mod k n _ h = (small_mod k n h, tt)

-- What holds of each output's Pdo.
pub parts_each : (P : Entry → Type 0) (k n : ℕ) (c : Place) (f : Forest)
    → EachLabel (λ l. P (record { number = part_number k n l.at; node = Pdo c (sole_output l) })) f
    → AllByRecursion P (parts k n c f)
parts_each P k n c Bare a = tt
parts_each P k n c (Grow l kids rest) a = (a.0, parts_each P k n c rest a.1)

pub each_parts : (P : Entry → Type 0) (k n : ℕ) (c : Place) (f : Forest)
    → AllByRecursion P (parts k n c f)
    → EachLabel (λ l. P (record { number = part_number k n l.at; node = Pdo c (sole_output l) })) f
each_parts P k n c Bare a = tt
each_parts P k n c (Grow l kids rest) a = (a.0, each_parts P k n c rest a.1)

number_apart : (k n i j : ℕ) → n < k → i < j → part_number k n j ≡ part_number k n i → ⊥
number_apart k n i j h l e =
    let same : j ≡ i = sym (number_div k n j h) ∙ ap (λ (x : ℕ). x / k) e ∙ number_div k n i h in
    omega arith

row_differ : (k n i : ℕ) (c : Place) (f : Forest) → n < k → IsRow i f → AllDiffer (parts k n c f)
row_differ k n i c Bare h r = tt
row_differ k n i c (Grow l kids rest) h r = (
  parts_each (λ d. d.number ≡ part_number k n l.at → ⊥) k n c rest
      (label_weaker (λ m. suc i ≤ m.at) (λ m. part_number k n m.at ≡ part_number k n l.at → ⊥)
      (λ m a. let z = r.0 in let low : l.at < m.at = omega arith in
      number_apart k n l.at m.at h low) rest
      (row_above (suc i) rest r.2)),
  row_differ k n (suc i) c rest h r.2,
)

differ_node : (k n : ℕ) (x : Node) → n < k → HasSteps IsOneStep x → (r : Place → Place)
    → AllDiffer (parts_of_node k n (reread r x))
differ_node k n (Pdo c f) h a r = row_differ k n 0 (r c) f h (row_of f a)
differ_node k n _ h a r = (tt, tt)

differ_append : (xs ys : List Entry) → AllDiffer xs → AllDiffer ys
    → AllByRecursion (λ x. AllByRecursion (λ y. y.number ≡ x.number → ⊥) ys) xs
    → AllDiffer (xs ++ ys)
differ_append [] ys a b c = b
differ_append (x ∷ xs) ys a b c = (
  Each-append (λ y. y.number ≡ x.number → ⊥) xs ys a.0 c.0,
  differ_append xs ys a.1 b c.1,
)

-- ---- the parts of all nodes

abbrev pub all_parts : ℕ → (Place → Place) → List Entry → List Entry
all_parts k r es = flat_map (λ e. parts_of_node k e.number (reread r e.node)) es

pub parts_from : (P : Entry → Type 0) (k : ℕ) (r : Place → Place) (es : List Entry)
    → AllByRecursion (λ e. AllByRecursion P (parts_of_node k e.number (reread r e.node))) es
    → AllByRecursion P (all_parts k r es)
parts_from P k r [] a = tt
parts_from P k r (e ∷ es) a = Each-append P (parts_of_node k e.number (reread r e.node))
    (all_parts k r es) a.0 (parts_from P k r es a.1)

pub from_parts : (P : Entry → Type 0) (k : ℕ) (r : Place → Place) (es : List Entry)
    → AllByRecursion P (all_parts k r es)
    → AllByRecursion (λ e. AllByRecursion P (parts_of_node k e.number (reread r e.node))) es
from_parts P k r [] a = tt
from_parts P k r (e ∷ es) a = (
  Each-left P (parts_of_node k e.number (reread r e.node)) (all_parts k r es) a,
  from_parts P k r es (Each-right P (parts_of_node k e.number (reread r e.node)) (all_parts k r es)
      a),
)

others_mod : (k n : ℕ) (r : Place → Place) (es : List Entry)
    → AllByRecursion (λ (e : Entry). e.number < k) es
    → AllByRecursion (λ (e : Entry). e.number ≡ n → ⊥) es
    → AllByRecursion (λ (h : Entry). h.number % k ≡ n → ⊥) (all_parts k r es)
others_mod k n r [] a d = tt
others_mod k n r (e ∷ es) a d =
    Each-append (λ (h : Entry). h.number % k ≡ n → ⊥) (parts_of_node k e.number (reread r e.node))
    (all_parts k r es)
    (Each-weaker (λ (h : Entry). h.number % k ≡ e.number) (λ (h : Entry). h.number % k ≡ n → ⊥)
    (λ h i j. d.0 (sym i ∙ j)) (parts_of_node k e.number (reread r e.node))
    (parts_mod k e.number (reread r e.node) a.0))
    (others_mod k n r es a.1 d.1)

pub differ_parts : (k : ℕ) (r : Place → Place) (es : List Entry) → AllDiffer es
    → AllByRecursion (λ (e : Entry). e.number < k) es
    → AllByRecursion (λ (e : Entry). HasSteps IsOneStep e.node) es → AllDiffer (all_parts k r es)
differ_parts k r [] d a s = tt
differ_parts k r (e ∷ es) d a s =
    let mine : List Entry = parts_of_node k e.number (reread r e.node) in
    differ_append mine (all_parts k r es) (differ_node k e.number e.node a.0 s.0 r)
    (differ_parts k r es d.1 a.1 s.1)
    (Each-weaker (λ (h : Entry). h.number % k ≡ e.number)
    (λ x. AllByRecursion (λ (y : Entry). y.number ≡ x.number → ⊥) (all_parts k r es))
    (λ x i. Each-weaker (λ (y : Entry). y.number % k ≡ e.number → ⊥)
    (λ (y : Entry). y.number ≡ x.number → ⊥)
    (λ y f q. f (ap (λ (z : ℕ). z % k) q ∙ i)) (all_parts k r es)
    (others_mod k e.number r es a.1 d.0))
    mine (parts_mod k e.number (reread r e.node) a.0))
