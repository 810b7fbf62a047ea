-- The least of some numbers, and of the numbers of forests that are put together.
use Rattle.std.proofs.Common.{◌≡◌, ℕ, ◌+◌, ◌<◌, ◌≤◌, Bool, true, false, cond, ltb, ◌||◌, List, [], ◌∷◌, ◌++◌, append_assoc, refl, sym, ap, ◌∙◌, arith}
use Rattle.std.proofs.lemmas.Bool.{false≢true, le-ltb, lt-ltb, ltb-false, ltb-true}
use Rattle.exec_graph.specs.Forests.{Label, Forest, Bare, Grow}
use Rattle.exec_graph.specs.Meaning.{has_out, is_out}
use Rattle.exec_graph.proofs.Bools.{not_true}
use Rattle.graph_laws.specs.Joining.{beside, grafted}
use Rattle.graph_laws.proofs.Joining.{lacks_grafted}
use Rattle.graph_laws.proofs.Numbering.{label_old}
use Rattle.pardo_fuse.specs.Readers.{Cut}
use Rattle.pardo_fuse.specs.Fusing.{least_number, lesser_number}
use Rattle.pardo_fuse.specs.SingleFusing.{Grown}
use Rattle.pardo_fuse.proofs.Counting.{hit, sum_append, times}
use Rattle.pardo_fuse.proofs.Leasts.{least_more}
use Rattle.pardo_fuse.proofs.Naming.{has_times}
use Rattle.pardo_fuse.proofs.Partition.{numbers}

-- ---- two numbers
pub first_is : (n q : ℕ) → n ≤ q → lesser_number n q ≡ n
first_is n q h = ap (λ (b : Bool). cond b q n) (le-ltb q n h)

second_is : (n q : ℕ) → q < n → lesser_number n q ≡ q
second_is n q h = ap (λ (b : Bool). cond b q n) (lt-ltb q n h)

-- which is the least of three
lesser_swap : (a x y : ℕ)
    → lesser_number (lesser_number a x) y ≡ lesser_number (lesser_number a y) x
lesser_swap a x y = by (ltb x a) (ltb y a) refl refl
  where
    both : x < a → y < a → (b : Bool) → ltb y x ≡ b → cond b y x ≡ cond (ltb x y) x y
    both h i true j =
        let less : y < x = ltb-true y x j in
        sym (ap (λ (b : Bool). cond b x y) (le-ltb x y (omega (arith, less))))
    both h i false j =
        let most : x ≤ y = ltb-false y x j in
        sym (other (ltb x y) refl most)
      where
        other : (b : Bool) → ltb x y ≡ b → x ≤ y → cond b x y ≡ x
        other true k m = refl
        other false k m = let n : y ≤ x = ltb-false x y k in omega arith

    by : (r s : Bool) → ltb x a ≡ r → ltb y a ≡ s
        → lesser_number (cond r x a) y ≡ lesser_number (cond s y a) x
    by true true i j = both (ltb-true x a i) (ltb-true y a j) (ltb y x) refl
    by true false i j =
        let less : x < a = ltb-true x a i in
        let most : a ≤ y = ltb-false y a j in
        first_is x y (omega (arith, less, most)) ∙ sym (second_is a x less)
    by false true i j =
        let most : a ≤ x = ltb-false x a i in
        let less : y < a = ltb-true y a j in
        second_is a y less ∙ sym (first_is y x (omega (arith, less, most)))
    by false false i j =
        first_is a y (ltb-false y a j) ∙ sym (first_is a x (ltb-false x a i))

lesser_join : (a q x : ℕ)
    → lesser_number (lesser_number a q) x ≡ lesser_number a (lesser_number q x)
lesser_join a q x = by (ltb q a) (ltb x q) refl refl
  where
    by : (r s : Bool) → ltb q a ≡ r → ltb x q ≡ s
        → lesser_number (cond r q a) x ≡ lesser_number a (cond s x q)
    by true true i j =
        let less : q < a = ltb-true q a i in
        let low : x < q = ltb-true x q j in
        second_is q x low ∙ sym (second_is a x (omega (arith, less, low)))
    by true false i j =
        first_is q x (ltb-false x q j) ∙ sym (second_is a q (ltb-true q a i))
    by false true i j = refl
    by false false i j =
        let most : a ≤ q = ltb-false q a i in
        let high : q ≤ x = ltb-false x q j in
        first_is a x (omega (arith, most, high)) ∙ sym (first_is a q most)

pub lesser_under : (m n : ℕ) → lesser_number m n ≤ n
lesser_under m n = by (ltb n m) refl
  where
    by : (b : Bool) → ltb n m ≡ b → cond b n m ≤ n
    by true i = omega arith
    by false i = ltb-false n m i

pub lesser_same : (n : ℕ) → lesser_number n n ≡ n
lesser_same n = first_is n n (omega arith)

-- ---- lists
least_last : (a x : ℕ) (xs : List ℕ)
    → least_number (lesser_number a x) xs ≡ lesser_number (least_number a xs) x
least_last a x [] = refl
least_last a x (y ∷ ys) =
    ap (λ (n : ℕ). least_number n ys) (lesser_swap a x y) ∙ least_last (lesser_number a y) x ys

least_swap : (a : ℕ) (xs ys : List ℕ)
    → least_number (least_number a xs) ys ≡ least_number (least_number a ys) xs
least_swap a [] ys = refl
least_swap a (x ∷ xs) ys =
    least_swap (lesser_number a x) xs ys ∙ ap (λ (n : ℕ). least_number n xs) (least_last a x ys)

-- what comes behind q is joined to it
pub least_joined : (a q : ℕ) (xs : List ℕ)
    → least_number (lesser_number a q) xs ≡ lesser_number a (least_number q xs)
least_joined a q [] = refl
least_joined a q (x ∷ xs) =
    ap (λ (n : ℕ). least_number n xs) (lesser_join a q x) ∙ least_joined a (lesser_number q x) xs

-- ---- forests
numbers_beside : (f g : Forest) → numbers (beside f g) ≡ numbers f ++ numbers g
numbers_beside Bare g = refl
numbers_beside (Grow l kids rest) g =
    ap (λ (xs : List ℕ). label_old l.out ∷ (numbers kids ++ xs)) (numbers_beside rest g)
    ∙ sym (ap (λ (xs : List ℕ). label_old l.out ∷ xs)
    (append_assoc (numbers kids) (numbers rest) (numbers g)))

-- what is grafted under one step counts once
pub least_grafted : (n : ℕ) (h f : Forest) (a : ℕ) → has_out n f ≡ true
    → times n (numbers f) ≤ 1
    → least_number a (numbers (grafted n h f))
    ≡ least_number (least_number a (numbers f)) (numbers h)
least_grafted n h Bare a has few = absurd (false≢true has)
least_grafted n h (Grow l kids rest) a has few =
    by (is_out l.out n) (has_out n kids) (has_out n rest) refl refl refl has
    (λ b i. least_grafted n h kids b i (omega (arith, split, few)))
    (λ b i. least_grafted n h rest b i (omega (arith, split, few)))
  where
    first : ℕ
    first = label_old l.out

    K : List ℕ
    K = numbers kids

    R : List ℕ
    R = numbers rest

    H : List ℕ
    H = numbers h

    split : times n (K ++ R) ≡ times n K + times n R
    split = sum_append (hit n) K R

    -- one behind the other
    apart : (b : ℕ)
        → least_number (least_number (least_number b K) H) R
        ≡ least_number (least_number b (K ++ R)) H
    apart b =
        least_swap (least_number b K) H R
        ∙ ap (λ (m : ℕ). least_number m H) (sym (least_more b K R))

    by : (o k r : Bool) → is_out l.out n ≡ o → has_out n kids ≡ k → has_out n rest ≡ r
        → (o || (k || r)) ≡ true
        → ((b : ℕ) → k ≡ true → least_number b (numbers (grafted n h kids)) ≡ least_number
        (least_number b K) H)
        → ((b : ℕ) → r ≡ true → least_number b (numbers (grafted n h rest)) ≡ least_number
        (least_number b R) H)
        → least_number a (numbers (cond o (Grow l (beside kids h) rest)
        (Grow l (grafted n h kids) (grafted n h rest))))
        ≡ least_number (least_number (lesser_number a first) (K ++ R)) H
    by true k r i j m e f g =
        ap (λ (xs : List ℕ). least_number (lesser_number a first) (xs ++ R)) (numbers_beside kids h)
        ∙ least_more (lesser_number a first) (K ++ H) R
        ∙ ap (λ (x : ℕ). least_number x R) (least_more (lesser_number a first) K H)
        ∙ apart (lesser_number a first)
    by false true r i j m e f g =
        let t : 0 < times n K = has_times n kids j in
        let none : has_out n rest ≡ false =
        not_true (has_out n rest) (λ s. let u : 0 < times n R = has_times n rest s in
        let w : times n (first ∷ (K ++ R)) ≤ 1 = few in
        omega (arith, split, t, u, w)) in
        ap (λ (x : Forest). least_number (lesser_number a first)
        (numbers (grafted n h kids) ++ numbers x))
        (lacks_grafted n rest h none)
        ∙ least_more (lesser_number a first) (numbers (grafted n h kids)) R
        ∙ ap (λ (x : ℕ). least_number x R) (f (lesser_number a first) refl)
        ∙ apart (lesser_number a first)
    by false false true i j m e f g =
        ap (λ (x : Forest). least_number (lesser_number a first)
        (numbers x ++ numbers (grafted n h rest)))
        (lacks_grafted n kids h j)
        ∙ least_more (lesser_number a first) K (numbers (grafted n h rest))
        ∙ g (least_number (lesser_number a first) K) refl
        ∙ ap (λ (x : ℕ). least_number x H) (sym (least_more (lesser_number a first) K R))
    by false false false i j m e f g = absurd (false≢true e)

-- the first root is the first of the numbers
pub grown_first : (b : Cut) (q : ℕ) (qs : List ℕ) (f : Forest) → Grown b (q ∷ qs) f
    → (xs : List ℕ) × (numbers f ≡ q ∷ xs)
grown_first b q qs Bare g = absurd g
grown_first b q qs (Grow l kids rest) g = (
  numbers kids ++ numbers rest,
  ap (λ (n : ℕ). n ∷ (numbers kids ++ numbers rest)) (ap (λ (m : Label). label_old m.out) g.0),
)
