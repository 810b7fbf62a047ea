-- How bytes stand in order, read off numbers.
use Rattle.std.proofs.Common.{◌≡◌, ℕ, zero, suc, ◌+◌, ◌*◌, ◌<◌, ◌≤◌, List, [], ◌∷◌, ◌++◌, length, take, drop, get_or, refl, sym, ap, ◌∙◌, subst, arith}
use Rattle.std.specs.declared.cmp.Ordering.{Ordering}
use Rattle.std.specs.declared.cmp.Ordering.TheVariants.{Less, Equal, Greater}
use Rattle.std.specs.Ordering.{nat_cmp, ordering_then, MatchOrdering}
use Rattle.std.specs.Cmp.{nat_cmp_is}
use Rattle.std.specs.Cmp.Lexicographic.{slice_cmp}
use Rattle.std.specs.List.{AllByRecursion as Each}
use Rattle.std.proofs.lemmas.Cmp.{ranked, tied_itself, nat_list_cmp_total}
use Rattle.std.specs.FinMap.{nat_cmp-IsAntisymmetric}
use Rattle.std.proofs.lemmas.List.{take-append-drop, take_all, length-drop, length-take-le}
use Rattle.flume_value.specs.inner.Padded.{padded}
use Rattle.flume_value.specs.inner.Numbers.{number_from, number, IsFirst}

abbrev pub Small : List ℕ → Type 0
Small bytes = Each (λ b. b < 256) bytes

pub small_from : (bytes : List ℕ) → ((i : ℕ) → get_or bytes i 0 < 256) → Small bytes
small_from [] h = tt
small_from (b ∷ bytes) h = (h 0, small_from bytes (λ i. h (suc i)))

-- ---- the order of numbers

pub same_number : (n : ℕ) → nat_cmp n n ≡ Equal
same_number n = sym (nat_cmp_is n n Equal refl)

pub less : (m n : ℕ) → m < n → nat_cmp m n ≡ Less
less m n l = sym (nat_cmp_is m n Less l)

pub greater : (m n : ℕ) → n < m → nat_cmp m n ≡ Greater
greater m n l = sym (nat_cmp_is m n Greater l)

next_by : (m n : ℕ) (o : Ordering) → MatchOrdering o (m < n) (m ≡ n) (n < m)
    → o ≡ nat_cmp (suc m) (suc n)
next_by m n Less h = nat_cmp_is (suc m) (suc n) Less (omega arith)
next_by m n Equal h = nat_cmp_is (suc m) (suc n) Equal (ap suc h)
next_by m n Greater h = nat_cmp_is (suc m) (suc n) Greater (omega arith)

next : (m n : ℕ) → nat_cmp m n ≡ nat_cmp (suc m) (suc n)
next m n = next_by m n (nat_cmp m n) (ranked m n (nat_cmp m n) refl)

-- ---- the order of bytes is that of their number

number_from-less : (m n : ℕ) (xs ys : List ℕ) → length xs ≡ length ys → Small xs → m < n
    → number_from m xs < number_from n ys
number_from-less m n [] [] e s l = l
number_from-less m n [] (y ∷ ys) e s l = absurd (omega arith)
number_from-less m n (x ∷ xs) [] e s l = absurd (omega arith)
number_from-less m n (x ∷ xs) (y ∷ ys) e s l =
    let small : x < 256 = s.0 in
    number_from-less (m * 256 + x) (n * 256 + y) xs ys (omega arith) s.1 (omega arith)

number_from-cmp_by : (n x y : ℕ) (xs ys : List ℕ) → length xs ≡ length ys → Small xs → Small ys
    → nat_cmp (number_from (n * 256 + x) xs) (number_from (n * 256 + x) ys)
    ≡ slice_cmp nat_cmp xs ys
    → (o : Ordering) → MatchOrdering o (x < y) (x ≡ y) (y < x)
    → nat_cmp (number_from (n * 256 + x) xs) (number_from (n * 256 + y) ys)
    ≡ ordering_then o (slice_cmp nat_cmp xs ys)
number_from-cmp_by n x y xs ys e s t rest Less h =
    less _ _ (number_from-less (n * 256 + x) (n * 256 + y) xs ys e s (omega arith))
number_from-cmp_by n x y xs ys e s t rest Equal h =
    ap (λ z. nat_cmp (number_from (n * 256 + x) xs) (number_from (n * 256 + z) ys)) (sym h) ∙ rest
number_from-cmp_by n x y xs ys e s t rest Greater h =
    greater _ _ (number_from-less (n * 256 + y) (n * 256 + x) ys xs (sym e) t (omega arith))

number_from-cmp : (n : ℕ) (xs ys : List ℕ) → length xs ≡ length ys → Small xs → Small ys
    → nat_cmp (number_from n xs) (number_from n ys) ≡ slice_cmp nat_cmp xs ys
number_from-cmp n [] [] e s t = same_number n
number_from-cmp n [] (y ∷ ys) e s t = absurd (omega arith)
number_from-cmp n (x ∷ xs) [] e s t = absurd (omega arith)
number_from-cmp n (x ∷ xs) (y ∷ ys) e s t =
    let f : length xs ≡ length ys = omega arith in
    number_from-cmp_by n x y xs ys f s.1 t.1
    (number_from-cmp (n * 256 + x) xs ys f s.1 t.1) (nat_cmp x y) (ranked x y (nat_cmp x y) refl)

-- ---- parts

then_assoc : (a b c : Ordering)
    → ordering_then a (ordering_then b c) ≡ ordering_then (ordering_then a b) c
then_assoc Less b c = refl
then_assoc Equal b c = refl
then_assoc Greater b c = refl

slice_cmp-append : (xs ys more rest : List ℕ) → length xs ≡ length ys
    → slice_cmp nat_cmp (xs ++ more) (ys ++ rest)
    ≡ ordering_then (slice_cmp nat_cmp xs ys) (slice_cmp nat_cmp more rest)
slice_cmp-append [] [] more rest e = refl
slice_cmp-append [] (y ∷ ys) more rest e = absurd (omega arith)
slice_cmp-append (x ∷ xs) [] more rest e = absurd (omega arith)
slice_cmp-append (x ∷ xs) (y ∷ ys) more rest e =
    ap (ordering_then (nat_cmp x y)) (slice_cmp-append xs ys more rest (omega arith))
    ∙ then_assoc (nat_cmp x y) _ _

-- ---- texts of a fixed length

nothing_above : (n : ℕ) (b : List ℕ)
    → ordering_then (slice_cmp nat_cmp (padded n []) (padded n b)) Less ≡ Less
nothing_above zero b = refl
nothing_above (suc n) [] =
    ap (λ o. ordering_then (ordering_then o (slice_cmp nat_cmp (padded n []) (padded n []))) Less)
    (same_number 0) ∙ nothing_above n []
nothing_above (suc n) (zero ∷ b) =
    ap (λ o. ordering_then (ordering_then o (slice_cmp nat_cmp (padded n []) (padded n b))) Less)
    (same_number 0) ∙ nothing_above n b
nothing_above (suc n) (suc y ∷ b) =
    ap (λ o. ordering_then (ordering_then o (slice_cmp nat_cmp (padded n []) (padded n b))) Less)
    (less 0 (suc y) (omega arith))

nothing_below : (n : ℕ) (a : List ℕ)
    → ordering_then (slice_cmp nat_cmp (padded n a) (padded n [])) Greater ≡ Greater
nothing_below zero a = refl
nothing_below (suc n) [] =
    ap (λ o. ordering_then (ordering_then o (slice_cmp nat_cmp (padded n []) (padded n [])))
    Greater) (same_number 0) ∙ nothing_below n []
nothing_below (suc n) (zero ∷ a) =
    ap (λ o. ordering_then (ordering_then o (slice_cmp nat_cmp (padded n a) (padded n [])))
    Greater) (same_number 0) ∙ nothing_below n a
nothing_below (suc n) (suc x ∷ a) =
    ap (λ o. ordering_then (ordering_then o (slice_cmp nat_cmp (padded n a) (padded n [])))
    Greater) (greater (suc x) 0 (omega arith))

padded-cmp : (n : ℕ) (a b : List ℕ) → length a ≤ n → length b ≤ n
    → ordering_then (slice_cmp nat_cmp (padded n a) (padded n b)) (nat_cmp (length a) (length b))
    ≡ slice_cmp nat_cmp a b
padded-cmp zero [] [] l m = same_number 0
padded-cmp zero [] (y ∷ b) l m = absurd (omega arith)
padded-cmp zero (x ∷ a) b l m = absurd (omega arith)
padded-cmp (suc n) [] [] l m =
    ap (λ o. ordering_then (ordering_then o (slice_cmp nat_cmp (padded n []) (padded n [])))
    (nat_cmp 0 0)) (same_number 0) ∙ padded-cmp n [] [] (omega arith) (omega arith)
padded-cmp (suc n) [] (y ∷ b) l m =
    ap (ordering_then (slice_cmp nat_cmp (padded (suc n) []) (padded (suc n) (y ∷ b))))
    (less 0 (suc (length b)) (omega arith)) ∙ nothing_above (suc n) (y ∷ b)
padded-cmp (suc n) (x ∷ a) [] l m =
    ap (ordering_then (slice_cmp nat_cmp (padded (suc n) (x ∷ a)) (padded (suc n) [])))
    (greater (suc (length a)) 0 (omega arith)) ∙ nothing_below (suc n) (x ∷ a)
padded-cmp (suc n) (x ∷ a) (y ∷ b) l m =
    sym (then_assoc (nat_cmp x y) (slice_cmp nat_cmp (padded n a) (padded n b)) _)
    ∙ ap (λ o. ordering_then (nat_cmp x y)
    (ordering_then (slice_cmp nat_cmp (padded n a) (padded n b)) o))
    (sym (next (length a) (length b)))
    ∙ ap (ordering_then (nat_cmp x y)) (padded-cmp n a b (omega arith) (omega arith))

-- ---- three numbers decide

pub small-take : (n : ℕ) (xs : List ℕ) → Small xs → Small (take n xs)
small-take zero xs s = tt
small-take (suc n) [] s = tt
small-take (suc n) (x ∷ xs) s = (s.0, small-take n xs s.1)

pub small-drop : (n : ℕ) (xs : List ℕ) → Small xs → Small (drop n xs)
small-drop zero xs s = s
small-drop (suc n) [] s = tt
small-drop (suc n) (x ∷ xs) s = small-drop n xs s.1

small-append : (xs ys : List ℕ) → Small xs → Small ys → Small (xs ++ ys)
small-append [] ys s t = t
small-append (x ∷ xs) ys s t = (s.0, small-append xs ys s.1 t)

same_take : (n : ℕ) (xs ys : List ℕ) → length xs ≡ length ys
    → length (take n xs) ≡ length (take n ys)
same_take zero xs ys e = refl
same_take (suc n) [] [] e = refl
same_take (suc n) [] (y ∷ ys) e = absurd (omega arith)
same_take (suc n) (x ∷ xs) [] e = absurd (omega arith)
same_take (suc n) (x ∷ xs) (y ∷ ys) e = ap suc (same_take n xs ys (omega arith))

pub same_drop : (n : ℕ) (xs ys : List ℕ) → length xs ≡ length ys
    → length (drop n xs) ≡ length (drop n ys)
same_drop zero xs ys e = e
same_drop (suc n) [] [] e = refl
same_drop (suc n) [] (y ∷ ys) e = absurd (omega arith)
same_drop (suc n) (x ∷ xs) [] e = absurd (omega arith)
same_drop (suc n) (x ∷ xs) (y ∷ ys) e = same_drop n xs ys (omega arith)

longer : (xs ys : List ℕ) (a b c d : ℕ) → length xs ≡ length ys
    → length (xs ++ a ∷ b ∷ []) ≡ length (ys ++ c ∷ d ∷ [])
longer [] [] a b c d e = refl
longer [] (y ∷ ys) a b c d e = absurd (omega arith)
longer (x ∷ xs) [] a b c d e = absurd (omega arith)
longer (x ∷ xs) (y ∷ ys) a b c d e = ap suc (longer xs ys a b c d (omega arith))

-- the first k bytes as a number, and then the others
first-cmp : (k : ℕ) (xs ys : List ℕ) → length xs ≡ length ys → Small xs → Small ys
    → ordering_then (nat_cmp (number (take k xs)) (number (take k ys)))
    (slice_cmp nat_cmp (drop k xs) (drop k ys)) ≡ slice_cmp nat_cmp xs ys
first-cmp k xs ys e s t =
    ap (λ o. ordering_then o (slice_cmp nat_cmp (drop k xs) (drop k ys)))
    (number_from-cmp 0 (take k xs) (take k ys) (same_take k xs ys e) (small-take k xs s)
    (small-take k ys t))
    ∙ sym (slice_cmp-append (take k xs) (take k ys) (drop k xs) (drop k ys) (same_take k xs ys e))
    ∙ ap (λ zs. slice_cmp nat_cmp zs (take k ys ++ drop k ys)) (take-append-drop k xs)
    ∙ ap (slice_cmp nat_cmp xs) (take-append-drop k ys)

-- where the first k bytes differ their numbers decide
apart_by : (p q : ℕ) (o rest tail : Ordering) → MatchOrdering o (p < q) (p ≡ q) (q < p)
    → (p ≡ q → ⊥) → o ≡ ordering_then (ordering_then o rest) tail
apart_by p q Less rest tail h apart = refl
apart_by p q Equal rest tail h apart = absurd (apart h)
apart_by p q Greater rest tail h apart = refl

pub told_apart : (k : ℕ) (xs ys : List ℕ) (tail : Ordering) (p q : ℕ) → length xs ≡ length ys
    → Small xs → Small ys → p ≡ number (take k xs) → q ≡ number (take k ys) → (p ≡ q → ⊥)
    → nat_cmp p q ≡ ordering_then (slice_cmp nat_cmp xs ys) tail
told_apart k xs ys tail p q e s t f g apart =
    let rest = slice_cmp nat_cmp (drop k xs) (drop k ys) in
    apart_by p q (nat_cmp p q) rest tail (ranked p q (nat_cmp p q) refl) apart
    ∙ (λ i. ordering_then (ordering_then (nat_cmp (f i) (g i)) rest) tail)
    ∙ ap (λ o. ordering_then o tail) (first-cmp k xs ys e s t)

pub tied : (k : ℕ) (xs ys : List ℕ) (tail : Ordering) (p q : ℕ) → length xs ≡ length ys
    → Small xs → Small ys → p ≡ number (take k xs) → q ≡ number (take k ys) → p ≡ q
    → ordering_then (slice_cmp nat_cmp (drop k xs) (drop k ys)) tail
    ≡ ordering_then (slice_cmp nat_cmp xs ys) tail
tied k xs ys tail p q e s t f g same =
    let rest = slice_cmp nat_cmp (drop k xs) (drop k ys) in
    let equal : Equal ≡ nat_cmp (number (take k xs)) (number (take k ys))
    = nat_cmp_is _ _ Equal (sym f ∙ same ∙ g) in
    ap (λ o. ordering_then (ordering_then o rest) tail) equal
    ∙ ap (λ o. ordering_then o tail) (first-cmp k xs ys e s t)

drop_on : (xs : List ℕ) → 8 ≤ length xs → drop 16 xs ≡ drop 8 (drop 8 xs)
drop_on [] l = absurd (omega arith)
drop_on (a ∷ []) l = absurd (omega arith)
drop_on (a ∷ b ∷ []) l = absurd (omega arith)
drop_on (a ∷ b ∷ c ∷ []) l = absurd (omega arith)
drop_on (a ∷ b ∷ c ∷ d ∷ []) l = absurd (omega arith)
drop_on (a ∷ b ∷ c ∷ d ∷ e ∷ []) l = absurd (omega arith)
drop_on (a ∷ b ∷ c ∷ d ∷ e ∷ f ∷ []) l = absurd (omega arith)
drop_on (a ∷ b ∷ c ∷ d ∷ e ∷ f ∷ g ∷ []) l = absurd (omega arith)
drop_on (a ∷ b ∷ c ∷ d ∷ e ∷ f ∷ g ∷ h ∷ xs) l = refl

last_six : (xs : List ℕ) → length xs ≡ 22 → take 6 (drop 16 xs) ≡ drop 8 (drop 8 xs)
last_six xs e =
    take_all 6 (drop 16 xs) (omega (arith, length-drop 16 xs)) ∙ drop_on xs (omega arith)

then_equal : (o : Ordering) → ordering_then o Equal ≡ o
then_equal Less = refl
then_equal Equal = refl
then_equal Greater = refl

one_number : (m n : ℕ) → slice_cmp nat_cmp (0 ∷ m ∷ []) (0 ∷ n ∷ []) ≡ nat_cmp m n
one_number m n =
    ap (λ o. ordering_then o (ordering_then (nat_cmp m n) Equal)) (same_number 0)
    ∙ then_equal (nat_cmp m n)

pub last-cmp : (a b : List ℕ) (m n : ℕ) → length a ≡ 22 → length b ≡ 22 → Small a → Small b
    → m < 256 → n < 256
    → nat_cmp (number (take 6 (drop 16 a) ++ 0 ∷ m ∷ []))
    (number (take 6 (drop 16 b) ++ 0 ∷ n ∷ []))
    ≡ ordering_then (slice_cmp nat_cmp (drop 8 (drop 8 a)) (drop 8 (drop 8 b))) (nat_cmp m n)
last-cmp a b m n e f s t k l =
    let xs = take 6 (drop 16 a) in
    let ys = take 6 (drop 16 b) in
    let same : length xs ≡ length ys
    = same_take 6 (drop 16 a) (drop 16 b) (same_drop 16 a b (e ∙ sym f)) in
    number_from-cmp 0 (xs ++ 0 ∷ m ∷ []) (ys ++ 0 ∷ n ∷ [])
    (longer xs ys 0 m 0 n same)
    (small-append xs (0 ∷ m ∷ []) (small-take 6 (drop 16 a) (small-drop 16 a s))
    (omega arith, (k, tt)))
    (small-append ys (0 ∷ n ∷ []) (small-take 6 (drop 16 b) (small-drop 16 b t))
    (omega arith, (l, tt)))
    ∙ slice_cmp-append xs ys (0 ∷ m ∷ []) (0 ∷ n ∷ []) same
    ∙ (λ i. ordering_then (slice_cmp nat_cmp (last_six a e i) (last_six b f i)) (one_number m n i))

-- ---- two texts in place

pub framed-cmp : (m n : ℕ) (xs ys a b : List ℕ) → m ≤ 22 → n ≤ 22 → length xs ≡ 22
    → length ys ≡ 22 → xs ≡ padded 22 (take m xs) → ys ≡ padded 22 (take n ys) → take m xs ≡ a
    → take n ys ≡ b → ordering_then (slice_cmp nat_cmp xs ys) (nat_cmp m n) ≡ slice_cmp nat_cmp a b
framed-cmp m n xs ys a b k l e f g h v w =
    let long : length (take m xs) ≡ m = length-take-le m xs (omega arith) in
    let other : length (take n ys) ≡ n = length-take-le n ys (omega arith) in
    (λ i. ordering_then (slice_cmp nat_cmp (g i) (h i)) (nat_cmp (sym long i) (sym other i)))
    ∙ padded-cmp 22 (take m xs) (take n ys) (omega arith) (omega arith)
    ∙ (λ i. slice_cmp nat_cmp (v i) (w i))

-- ---- the first bytes of texts of any length

settled_less : (o : Ordering) → ordering_then o Less ≡ Less → (o ≡ Equal → ⊥) → o ≡ Less
settled_less Less e apart = refl
settled_less Equal e apart = absurd (apart refl)
settled_less Greater e apart = e

settled_greater : (o : Ordering) → ordering_then o Greater ≡ Greater → (o ≡ Equal → ⊥) → o ≡ Greater
settled_greater Less e apart = e
settled_greater Equal e apart = absurd (apart refl)
settled_greater Greater e apart = refl

onward : (o s t : Ordering) → ((s ≡ Equal → ⊥) → s ≡ t) → (ordering_then o s ≡ Equal → ⊥)
    → ordering_then o s ≡ ordering_then o t
onward Less s t rest apart = refl
onward Equal s t rest apart = rest apart
onward Greater s t rest apart = refl

-- where the first n bytes differ, they decide
padded-early : (n : ℕ) (a b : List ℕ)
    → (slice_cmp nat_cmp (padded n a) (padded n b) ≡ Equal → ⊥)
    → slice_cmp nat_cmp (padded n a) (padded n b) ≡ slice_cmp nat_cmp a b
padded-early zero a b apart = absurd (apart refl)
padded-early (suc n) [] [] apart =
    absurd (apart (tied_itself nat_list_cmp_total (padded (suc n) [])))
padded-early (suc n) [] (y ∷ b) apart =
    settled_less (slice_cmp nat_cmp (padded (suc n) []) (padded (suc n) (y ∷ b)))
    (nothing_above (suc n) (y ∷ b)) apart
padded-early (suc n) (x ∷ a) [] apart =
    settled_greater (slice_cmp nat_cmp (padded (suc n) (x ∷ a)) (padded (suc n) []))
    (nothing_below (suc n) (x ∷ a)) apart
padded-early (suc n) (x ∷ a) (y ∷ b) apart =
    onward (nat_cmp x y) (slice_cmp nat_cmp (padded n a) (padded n b)) (slice_cmp nat_cmp a b)
    (padded-early n a b) apart

same_padded : (n : ℕ) (a b : List ℕ) → length (padded n a) ≡ length (padded n b)
same_padded zero a b = refl
same_padded (suc n) [] [] = refl
same_padded (suc n) [] (y ∷ b) = ap suc (same_padded n [] b)
same_padded (suc n) (x ∷ a) [] = ap suc (same_padded n a [])
same_padded (suc n) (x ∷ a) (y ∷ b) = ap suc (same_padded n a b)

first_decides : (n : ℕ) (a b : List ℕ) (p q : ℕ) → p ≡ number (padded n a)
    → q ≡ number (padded n b) → Small (padded n a) → Small (padded n b) → (p ≡ q → ⊥)
    → nat_cmp p q ≡ slice_cmp nat_cmp a b
first_decides n a b p q f g s t apart =
    let e : nat_cmp p q ≡ slice_cmp nat_cmp (padded n a) (padded n b)
    = (λ i. nat_cmp (f i) (g i))
    ∙ number_from-cmp 0 (padded n a) (padded n b) (same_padded n a b) s t in
    e ∙ padded-early n a b (λ h. apart (nat_cmp-IsAntisymmetric p q (e ∙ h)))

-- the first bytes of what is padded, and of what is long enough
take-padded : (m n : ℕ) (a : List ℕ) → m ≤ n → take m (padded n a) ≡ padded m a
take-padded zero n a l = refl
take-padded (suc m) zero a l = absurd (omega arith)
take-padded (suc m) (suc n) [] l = ap (λ xs. 0 ∷ xs) (take-padded m n [] (omega arith))
take-padded (suc m) (suc n) (x ∷ a) l = ap (λ xs. x ∷ xs) (take-padded m n a (omega arith))

take-is_padded : (n : ℕ) (a : List ℕ) → n ≤ length a → take n a ≡ padded n a
take-is_padded zero a l = refl
take-is_padded (suc n) [] l = absurd (omega arith)
take-is_padded (suc n) (x ∷ a) l = ap (λ xs. x ∷ xs) (take-is_padded n a (omega arith))

pub short_first : (m p : ℕ) (xs a : List ℕ) → xs ≡ padded 22 (take m xs) → take m xs ≡ a → Small xs
    → p ≡ number (take 8 xs) → IsFirst p a
short_first m p xs a inside view s f =
    let e : take 8 xs ≡ padded 8 a
    = ap (take 8) inside ∙ take-padded 8 22 (take m xs) (omega arith) ∙ ap (padded 8) view in
    record {
      is = f ∙ ap number e;
      bytes = subst Small e (small-take 8 xs s);
    }

pub long_first : (p : ℕ) (a : List ℕ) → 8 ≤ length a → p ≡ number (take 8 a) → Small (take 8 a)
    → IsFirst p a
long_first p a l f s =
    let e : take 8 a ≡ padded 8 a = take-is_padded 8 a l in
    record {
      is = f ∙ ap number e;
      bytes = subst Small e s;
    }

pub first_tells : (a b : List ℕ) (p q : ℕ) → IsFirst p a → IsFirst q b → (p ≡ q → ⊥)
    → nat_cmp p q ≡ slice_cmp nat_cmp a b
first_tells a b p q f g apart = first_decides 8 a b p q f.is g.is f.bytes g.bytes apart
