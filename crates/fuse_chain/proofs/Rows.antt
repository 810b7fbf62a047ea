-- The outputs of a step, each in a Pdo of its own, are side by side the forest of that step.
use Rattle.std.proofs.Common.{◌≡◌, ℕ, ◌+◌, ◌/◌, ◌%◌, ◌<◌, ◌≤◌, Bool, true, false, cond, eqb, ◌||◌, List, [], ◌∷◌, Option, Some, None, refl, sym, ap, ◌∙◌, subst, arith, suc}
use Rattle.std.proofs.lemmas.Bool.{eqb-true, eq-eqb, false≢true, ne_eqb}
use Rattle.exec_graph.specs.Forests.{Label, Forest, Bare, Grow, next_after, after_out, new_label, new_out, numbered, with_out}
use Rattle.exec_graph.specs.Meaning.{node_at, is_out, has_out}
use Rattle.exec_graph.specs.declared.graph.Node.TheVariants.{Pdo}
use Rattle.exec_graph.specs.declared.graph.Blocked.{Blocked}
use Rattle.graph_laws.specs.Kids.{number_after}
use Rattle.pardo_fuse.specs.SingleFusing.{planted, step_at, step_of}
use Rattle.pardo_fuse.specs.Parting.{part_number, at_of, parted, parted_nodes}
use Rattle.pardo_fuse.proofs.Counting.{hit, one_if, times}
use Rattle.pardo_fuse.proofs.Naming.{has_pruned, has_times}
use Rattle.pardo_fuse.proofs.Partition.{numbers}
use Rattle.pardo_fuse.proofs.Parting.{EachLabel, IsRow, number_div, number_mod, row_above}
use Rattle.pardo_fuse.proofs.Sites.{outputs_of}
use Rattle.pardo_fuse.proofs.Unparting.{at_out, low}
use Rattle.fuse_chain.specs.Cuts.{siblings_of}
use Rattle.fuse_chain.proofs.SideBySide.{bare, reads_output, rooted}

-- ---- steps side by side

pub rooted_numbers : (b : Blocked) (ns : List ℕ)
    → numbers (planted (step_at (siblings_of b)) bare ns) ≡ ns
rooted_numbers b [] = refl
rooted_numbers b (n ∷ ns) = ap (λ (l : List ℕ). n ∷ l) (rooted_numbers b ns)

pub rooted_in : (b : Blocked) (ns : List ℕ) (i : ℕ) → has_out i (rooted b ns) ≡ true
    → 0 < times i ns
rooted_in b ns i h =
    let f : Forest = planted (step_at (siblings_of b)) bare ns in
    let t : 0 < times i (numbers f) = has_times i f (has_pruned (reads_output b) f i h) in
    let e : times i (numbers f) ≡ times i ns = ap (times i) (rooted_numbers b ns) in
    omega arith

pub rooted_has : (b : Blocked) (ns : List ℕ) (i : ℕ) → 0 < times i ns → reads_output b i ≡ true
    → has_out i (rooted b ns) ≡ true
rooted_has b [] i t k = absurd (omega arith)
rooted_has b (n ∷ ns) i t k = by (eqb n i) refl t (rooted_has b ns i)
  where
    by : (r : Bool) → eqb n i ≡ r → 0 < one_if r + times i ns
        → (0 < times i ns → reads_output b i ≡ true → has_out i (rooted b ns) ≡ true)
        → (is_out (cond (reads_output b n) (Some n) None) i || (false || has_out i (rooted b ns)))
        ≡ true
    by true e t f =
        let same : n ≡ i = eqb-true n i e in
        ap (λ (x : Bool). is_out (cond x (Some n) None) i || (false || has_out i (rooted b ns)))
        (ap (reads_output b) same ∙ k)
        ∙ ap (λ (x : Bool). x || (false || has_out i (rooted b ns))) e
    by false e t f = last (is_out (cond (reads_output b n) (Some n) None) i)
        (has_out i (rooted b ns))
        (f (omega arith) k)
      where
        last : (x y : Bool) → y ≡ true → (x || (false || y)) ≡ true
        last true y h = refl
        last false y h = h

-- ---- the outputs of one step

pub sites_mod : (k n : ℕ) (f : Forest) (i : ℕ) → n < k → 0 < times i (outputs_of k n f) → i % k ≡ n
sites_mod k n Bare i h t = absurd (omega arith)
sites_mod k n (Grow l kids rest) i h t =
    by (eqb (part_number k n l.at) i) refl t (sites_mod k n rest i h)
  where
    by : (r : Bool) → eqb (part_number k n l.at) i ≡ r
        → 0 < one_if r + times i (outputs_of k n rest)
        → (0 < times i (outputs_of k n rest) → i % k ≡ n) → i % k ≡ n
    by true e t f = ap (λ (x : ℕ). x % k) (sym (eqb-true (part_number k n l.at) i e))
        ∙ number_mod k n l.at h
    by false e t f = f (omega arith)

sites_none : (k n i at : ℕ) (f : Forest) → n < k → at < i → IsRow i f
    → times (part_number k n at) (outputs_of k n f) ≡ 0
sites_none k n i at Bare h l r = refl
sites_none k n i at (Grow m kids rest) h l r =
    let z = sites_none k n (suc i) at rest h (omega arith) r.2 in
    let e : hit (part_number k n at) (part_number k n m.at) ≡ 0 =
    ap one_if (ne_eqb (part_number k n m.at) (part_number k n at) (λ q.
    let same : m.at ≡ at = sym (number_div k n m.at h) ∙ ap (λ (x : ℕ). x / k) q
    ∙ number_div k n at h in
    let w = r.0 in omega arith)) in
    omega arith

pub sites_once : (k n i q : ℕ) (f : Forest) → n < k → IsRow i f → times q (outputs_of k n f) ≤ 1
sites_once k n i q Bare h r = omega arith
sites_once k n i q (Grow m kids rest) h r = by (eqb (part_number k n m.at) q) refl
    (sites_once k n (suc i) q rest h r.2)
  where
    by : (t : Bool) → eqb (part_number k n m.at) q ≡ t → times q (outputs_of k n rest) ≤ 1
        → one_if t + times q (outputs_of k n rest) ≤ 1
    by true e a =
        let z : times q (outputs_of k n rest) ≡ 0 =
        ap (λ (x : ℕ). times x (outputs_of k n rest)) (sym (eqb-true (part_number k n m.at) q e))
        ∙ sites_none k n (suc i) m.at rest h (let w = r.0 in omega arith) r.2 in
        omega arith
    by false e a = omega arith

pub site_in : (k n : ℕ) (j : ℕ) (f : Forest) → has_out j f ≡ true → (i : ℕ) → IsRow i f
    → 0 < times (part_number k n (at_of j f)) (outputs_of k n f)
site_in k n j Bare h i r = absurd (false≢true h)
site_in k n j (Grow l kids rest) h i r = by (is_out l.out j) refl
    (subst (λ (x : Forest). (is_out l.out j || (has_out j x || has_out j rest)) ≡ true) r.1 h)
    (λ t. site_in k n j rest t (suc i) r.2)
  where
    by : (t : Bool) → is_out l.out j ≡ t → (t || has_out j rest) ≡ true
        → (has_out j rest ≡ true → 0 < times (part_number k n (at_of j rest)) (outputs_of k n rest))
        → 0 < hit (part_number k n (cond t l.at (at_of j rest))) (part_number k n l.at)
        + times (part_number k n (cond t l.at (at_of j rest))) (outputs_of k n rest)
    by true e h f =
        let a : hit (part_number k n l.at) (part_number k n l.at) ≡ 1 =
        ap one_if (eq-eqb (part_number k n l.at) (part_number k n l.at) refl) in omega arith
    by false e h f = let a = f h in omega arith

-- ---- the forest of the outputs is that of the step

abbrev pub is_some : Option ℕ → Bool
is_some None = false
is_some (Some j) = true

-- What an output's Pdo does, and whether it is read.
abbrev pub Stands : Blocked → ℕ → Label → Type 0
Stands b n l =
    (let p : Label = step_of (node_at (parted_nodes b.graph) (part_number b.graph.next n l.at)) in
    p ≡ new_label 0 l)
    × (reads_output (parted b) (part_number b.graph.next n l.at) ≡ is_some l.out)

first_label_is : (l m : Label) (f h : Forest) (x y : Forest) → Grow l f x ≡ Grow m h y → l ≡ m
first_label_is l m f h x y e = cc

rest_is : (l m : Label) (f h : Forest) (x y : Forest) → Grow l f x ≡ Grow m h y → x ≡ y
rest_is l m f h x y e = cc

out_again : (s q : ℕ) (o : Option ℕ) (t : Bool) → t ≡ is_some o → new_out s o ≡ o
    → new_out s (cond t (Some q) None) ≡ o
out_again s q None true e h = let bad : ⊥ = cc in absurd bad
out_again s q None false e h = refl
out_again s q (Some j) true e h = h
out_again s q (Some j) false e h = let bad : ⊥ = cc in absurd bad

after_again : (s q : ℕ) (o : Option ℕ) (t : Bool) → t ≡ is_some o
    → after_out s (cond t (Some q) None) ≡ after_out s o
after_again s q None true e = let bad : ⊥ = cc in absurd bad
after_again s q None false e = refl
after_again s q (Some j) true e = refl
after_again s q (Some j) false e = let bad : ⊥ = cc in absurd bad

pub row_numbered : (b : Blocked) (n s i : ℕ) (f : Forest) → IsRow i f → EachLabel (Stands b n) f
    → numbered s f ≡ f → numbered s (rooted (parted b) (outputs_of b.graph.next n f)) ≡ f
row_numbered b n s i Bare r a e = refl
row_numbered b n s i (Grow l kids rest) r a e =
    let k : ℕ = b.graph.next in
    let q : ℕ = part_number k n l.at in
    let keep : ℕ → Bool = reads_output (parted b) in
    let own : Label = step_of (node_at (parted_nodes b.graph) q) in
    let label : new_label s l ≡ l =
    first_label_is (new_label s l) l (numbered (after_out s l.out) kids) kids
    (numbered (next_after (after_out s l.out) kids) rest) rest e in
    let out : new_out s l.out ≡ l.out = ap (λ (m : Label). m.out) label in
    let more : numbered (next_after (after_out s l.out) kids) rest ≡ rest =
    rest_is (new_label s l) l (numbered (after_out s l.out) kids) kids
    (numbered (next_after (after_out s l.out) kids) rest) rest e in
    let plain : next_after (after_out s l.out) kids ≡ after_out s l.out =
    ap (next_after (after_out s l.out)) r.1 in
    let rec = row_numbered b n (after_out s l.out) (suc i) rest r.2 a.1
    (ap (λ (x : ℕ). numbered x rest) (sym plain) ∙ more) in
    ap (λ (o : Option ℕ). Grow (with_out o own) Bare
    (numbered (after_out s (cond (keep q) (Some q) None))
    (rooted (parted b) (outputs_of k n rest)))) (out_again s q l.out (keep q) a.0.1 out)
    ∙ ap (λ (m : Label). Grow (with_out l.out m) Bare
    (numbered (after_out s (cond (keep q) (Some q) None))
    (rooted (parted b) (outputs_of k n rest)))) a.0.0
    ∙ ap (λ (x : ℕ). Grow l Bare (numbered x (rooted (parted b) (outputs_of k n rest))))
    (after_again s q l.out (keep q) a.0.1)
    ∙ ap (λ (x : Forest). Grow l Bare x) rec
    ∙ ap (λ (x : Forest). Grow l x rest) (sym r.1)

at_above : (j i : ℕ) (f : Forest) → IsRow i f → has_out j f ≡ true → i ≤ at_of j f
at_above j i f r h =
    let w = at_out (λ l. i ≤ l.at) i j f r (row_above i f r) h in
    let a = w.holds in let e = w.at in omega arith

pub row_number : (b : Blocked) (n s i j : ℕ) (f : Forest) → n < b.graph.next → IsRow i f
    → EachLabel (Stands b n) f → numbered s f ≡ f → has_out j f ≡ true
    → number_after s (rooted (parted b) (outputs_of b.graph.next n f))
    (part_number b.graph.next n (at_of j f)) ≡ j
row_number b n s i j Bare lo r a e h = absurd (false≢true h)
row_number b n s i j (Grow l kids rest) lo r a e h =
    by (is_out l.out j) refl
    (subst (λ (x : Forest). (is_out l.out j || (has_out j x || has_out j rest)) ≡ true) r.1 h)
    (λ t. row_number b n (after_out s l.out) (suc i) j rest lo r.2 a.1
    (ap (λ (x : ℕ). numbered x rest) (sym (ap (next_after (after_out s l.out)) r.1))
    ∙ rest_is (new_label s l) l (numbered (after_out s l.out) kids) kids
    (numbered (next_after (after_out s l.out) kids) rest) rest e) t)
  where
    k : ℕ
    k = b.graph.next

    q : ℕ
    q = part_number b.graph.next n l.at

    keep : ℕ → Bool
    keep = reads_output (parted b)

    rows : Forest
    rows = rooted (parted b) (outputs_of b.graph.next n rest)

    out : new_out s l.out ≡ l.out
    out = ap (λ (m : Label). m.out)
        (first_label_is (new_label s l) l (numbered (after_out s l.out) kids) kids
        (numbered (next_after (after_out s l.out) kids) rest) rest e)

    number : (o : Option ℕ) → new_out s o ≡ o → is_out o j ≡ true → s ≡ j
    number None g t = absurd (false≢true t)
    number (Some x) g t = let z : s ≡ x = cc in z ∙ eqb-true x j t

    some : (o : Option ℕ) → is_out o j ≡ true → is_some o ≡ true
    some None t = absurd (false≢true t)
    some (Some x) t = refl

    other : (t : Bool) (x y : ℕ) → eqb x y ≡ false → is_out (cond t (Some x) None) y ≡ false
    other true x y g = g
    other false x y g = refl

    by : (t : Bool) → is_out l.out j ≡ t → (t || has_out j rest) ≡ true
        → (has_out j rest ≡ true
        → number_after (after_out s l.out) rows (part_number b.graph.next n (at_of j rest)) ≡ j)
        → number_after s (Grow (with_out (cond (keep q) (Some q) None)
        (step_of (node_at (parted_nodes b.graph) q))) Bare rows)
        (part_number b.graph.next n (cond t l.at (at_of j rest))) ≡ j
    by true g h f =
        ap (λ (x : Bool). cond (is_out (cond x (Some q) None) q) s
        (number_after (after_out s (cond (keep q) (Some q) None)) rows q)) (a.0.1 ∙ some l.out g)
        ∙ ap (λ (x : Bool). cond x s (number_after (after_out s (cond (keep q) (Some q) None)) rows
        q))
        (eq-eqb q q refl)
        ∙ number l.out out g
    by false g h f =
        let z : ℕ = part_number b.graph.next n (at_of j rest) in
        let low : suc i ≤ at_of j rest = at_above j (suc i) rest r.2 h in
        let apart : eqb q z ≡ false = ne_eqb q z (λ w.
        let same : l.at ≡ at_of j rest = sym (number_div k n l.at lo) ∙ ap (λ (x : ℕ). x / k) w
        ∙ number_div k n (at_of j rest) lo in
        let v = r.0 in omega arith) in
        ap (λ (x : Bool). cond x s (number_after (after_out s (cond (keep q) (Some q) None)) rows
        z))
        (other (keep q) q z apart)
        ∙ ap (λ (x : ℕ). number_after x rows z) (after_again s q l.out (keep q) a.0.1)
        ∙ f h
