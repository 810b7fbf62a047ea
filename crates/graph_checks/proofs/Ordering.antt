-- What the outputs in preorder say of the numbers of a forest's outputs, and of its steps.
use Rattle.std.proofs.Common.{◌≡◌, ℕ, ◌+◌, Bool, true, false, ◌&&◌, List, [], ◌∷◌, ◌++◌, Option, Some, None, refl, sym, ap, ◌∙◌, subst}
use Rattle.std.proofs.lemmas.Bool.{eqb-true, eq-eqb, false≢true}
use Rattle.std.specs.List.{list_any}
use Rattle.flume_value.proofs.BoolLemmas.{both_true, and_both}
use Rattle.exec_graph.specs.Forests.{Label, Forest, Bare, Grow, next_after, after_out, new_out, numbered, with_out}
use Rattle.exec_graph.specs.Meaning.{has_out, is_out, place}
use Rattle.exec_graph.specs.Readers.{is_read}
use Rattle.exec_graph.specs.declared.graph.Graph.{Graph}
use Rattle.exec_graph.specs.declared.spots.Spot.{Spot}
use Rattle.graph_checks.specs.inner.Checks.{all_read, in_order, is_next, out_read}
use Rattle.exec_graph.specs.Spots.{spots}
use Rattle.exec_graph.proofs.Bools.{or_else, or_left, or_right}
use Rattle.graph_checks.proofs.Spotting.{has_spots}

-- ---- numbers
abbrev after_spots : ℕ → List Spot → ℕ
after_spots n [] = n
after_spots n (s ∷ ss) = after_spots (after_out n s.out) ss

after-append : (n : ℕ) (xs ys : List Spot)
    → after_spots n (xs ++ ys) ≡ after_spots (after_spots n xs) ys
after-append n [] ys = refl
after-append n (x ∷ xs) ys = after-append (after_out n x.out) xs ys

after_is : (n : ℕ) (f : Forest) → after_spots n (spots f) ≡ next_after n f
after_is n Bare = refl
after_is n (Grow l kids rest) =
    let a : ℕ = after_out n l.out in
    after-append a (spots kids) (spots rest)
    ∙ ap (λ m. after_spots m (spots rest)) (after_is a kids)
    ∙ after_is (next_after a kids) rest

order-append : (n : ℕ) (xs ys : List Spot)
    → in_order n (xs ++ ys) ≡ (in_order n xs && in_order (after_spots n xs) ys)
order-append n [] ys = refl
order-append n (x ∷ xs) ys = by (is_next n x.out) (order-append (after_out n x.out) xs ys)
  where
    by : (b : Bool) → in_order (after_out n x.out) (xs ++ ys)
        ≡ (in_order (after_out n x.out) xs && in_order (after_spots (after_out n x.out) xs) ys)
        → (b && in_order (after_out n x.out) (xs ++ ys))
        ≡ ((b && in_order (after_out n x.out) xs)
        && in_order (after_spots (after_out n x.out) xs) ys)
    by true e = e
    by false e = refl

order_parts : (n : ℕ) (l : Label) (kids rest : Forest)
    → in_order n (spots (Grow l kids rest)) ≡ (is_next n l.out
    && (in_order (after_out n l.out) (spots kids)
    && in_order (next_after (after_out n l.out) kids) (spots rest)))
order_parts n l kids rest =
    let a : ℕ = after_out n l.out in
    ap (λ b. is_next n l.out && b) (order-append a (spots kids) (spots rest)
    ∙ ap (λ m. in_order a (spots kids) && in_order m (spots rest)) (after_is a kids))

next_is : (n : ℕ) (o : Option ℕ) → is_next n o ≡ true → new_out n o ≡ o
next_is n None e = refl
next_is n (Some j) e = ap (λ (m : ℕ). Some m) (sym (eqb-true j n e))

is_next_to : (n : ℕ) (o : Option ℕ) → new_out n o ≡ o → is_next n o ≡ true
is_next_to n None e = refl
is_next_to n (Some j) e = let same : n ≡ j = cc in eq-eqb j n (sym same)

pub numbered_from : (n : ℕ) (f : Forest) → in_order n (spots f) ≡ true → numbered n f ≡ f
numbered_from n Bare h = refl
numbered_from n (Grow l kids rest) h =
    let a : ℕ = after_out n l.out in
    let p = both_true (is_next n l.out)
    (in_order a (spots kids) && in_order (next_after a kids) (spots rest))
    (sym (order_parts n l kids rest) ∙ h) in
    let q = both_true (in_order a (spots kids)) (in_order (next_after a kids) (spots rest)) p.1 in
    λ i. Grow (with_out (next_is n l.out p.0 i) l) (numbered_from a kids q.0 i)
    (numbered_from (next_after a kids) rest q.1 i)

abbrev label_of : Forest → Option (Option ℕ)
label_of Bare = None
label_of (Grow l kids rest) = Some l.out

abbrev kids_of : Forest → Forest
kids_of Bare = Bare
kids_of (Grow l kids rest) = kids

abbrev rest_of : Forest → Forest
rest_of Bare = Bare
rest_of (Grow l kids rest) = rest

pub numbered_to : (n : ℕ) (f : Forest) → numbered n f ≡ f → in_order n (spots f) ≡ true
numbered_to n Bare h = refl
numbered_to n (Grow l kids rest) h =
    let a : ℕ = after_out n l.out in
    let outs : Some (new_out n l.out) ≡ Some l.out = ap label_of h in
    let same : new_out n l.out ≡ l.out = cc in
    order_parts n l kids rest
    ∙ and_both (is_next n l.out)
    (in_order a (spots kids) && in_order (next_after a kids) (spots rest)) (is_next_to n l.out same)
    (and_both (in_order a (spots kids)) (in_order (next_after a kids) (spots rest))
    (numbered_to a kids (ap kids_of h)) (numbered_to (next_after a kids) rest (ap rest_of h)))

-- ---- what is read
out_read_at : (g : Graph) (n j : ℕ) (o : Option ℕ) → is_out o j ≡ true → out_read g n o ≡ true
    → is_read g (place n j) ≡ true
out_read_at g n j None e h = absurd (false≢true e)
out_read_at g n j (Some i) e h =
    subst (λ (m : ℕ). is_read g (place n m) ≡ true) (eqb-true i j e) h

spots_read_from : (g : Graph) (n j : ℕ) (ss : List Spot) → all_read g n ss ≡ true
    → list_any (λ s. is_out s.out j) ss ≡ true → is_read g (place n j) ≡ true
spots_read_from g n j [] a h = absurd (false≢true h)
spots_read_from g n j (s ∷ ss) a h =
    let p = both_true (out_read g n s.out) (all_read g n ss) a in
    or_else (is_read g (place n j) ≡ true) (is_out s.out j) (list_any (λ s. is_out s.out j) ss) h
    (λ e. out_read_at g n j s.out e p.0) (λ i. spots_read_from g n j ss p.1 i)

pub read_from : (g : Graph) (n : ℕ) (f : Forest) → all_read g n (spots f) ≡ true → (j : ℕ)
    → has_out j f ≡ true → is_read g (place n j) ≡ true
read_from g n f a j h = spots_read_from g n j (spots f) a (has_spots j f ∙ h)

out_read_to : (g : Graph) (n : ℕ) (o : Option ℕ)
    → ((j : ℕ) → is_out o j ≡ true → is_read g (place n j) ≡ true) → out_read g n o ≡ true
out_read_to g n None h = refl
out_read_to g n (Some i) h = h i (eq-eqb i i refl)

spots_read_to : (g : Graph) (n : ℕ) (ss : List Spot)
    → ((j : ℕ) → list_any (λ s. is_out s.out j) ss ≡ true → is_read g (place n j) ≡ true)
    → all_read g n ss ≡ true
spots_read_to g n [] h = refl
spots_read_to g n (s ∷ ss) h =
    and_both (out_read g n s.out) (all_read g n ss)
    (out_read_to g n s.out
    (λ j e. h j (or_left (is_out s.out j) (list_any (λ s. is_out s.out j) ss) e)))
    (spots_read_to g n ss
    (λ j e. h j (or_right (is_out s.out j) (list_any (λ s. is_out s.out j) ss) e)))

pub read_to : (g : Graph) (n : ℕ) (f : Forest)
    → ((j : ℕ) → has_out j f ≡ true → is_read g (place n j) ≡ true)
    → all_read g n (spots f) ≡ true
read_to g n f h = spots_read_to g n (spots f) (λ j e. h j (sym (has_spots j f) ∙ e))
