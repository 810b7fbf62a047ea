use Rattle.std.proofs.Common.{◌≡◌, Bool, true, false, cond, List, [], ◌∷◌, ◌++◌, refl, sym, ap, ◌∙◌, subst}
use Rattle.std.specs.List.{flat_map}
use Rattle.std.proofs.lemmas.List.Concat.{flat_map-append}
use Rattle.flume_collection.specs.Sets.{IsOrder, put_new, gather, set_of}

-- one element more, and all of a list put in
abbrev pub put_by : {X : Type 0} → (X → X → Bool) → X → List X → List X
put_by le x [] = x ∷ []
put_by le x (y ∷ ys) = cond (le x y) (x ∷ (y ∷ ys)) (y ∷ put_by le x ys)

abbrev pub bag_by : {X : Type 0} → (X → X → Bool) → List X → List X
bag_by le xs = gather (put_by le) xs []

-- putting in commutes
abbrev pub Swaps : {X B : Type 0} → (X → B → B) → Type 0
Swaps {X} {B} p = (x y : X) (b : B) → p x (p y b) ≡ p y (p x b)

two : {X : Type 0} (le : X → X → Bool) → IsOrder le → (x y : X) (r s : Bool) → le x y ≡ r
    → le y x ≡ s → (zs : List X) → cond r (x ∷ (y ∷ zs)) (y ∷ (x ∷ zs))
    ≡ cond s (y ∷ (x ∷ zs)) (x ∷ (y ∷ zs))
two le o x y true true e f zs = let h = o.anti x y e f in cc
two le o x y true false e f zs = refl
two le o x y false true e f zs = refl
two le o x y false false e f zs = let h = o.total x y e in cc

-- an element that is not above one is not above a lower one
not_above : {X : Type 0} (le : X → X → Bool) → IsOrder le → (x y z : X) (r : Bool) → le y x ≡ r
    → le x z ≡ true → le y z ≡ false → le y x ≡ false
not_above le o x y z true e f g = let h = o.trans y x z e f in cc
not_above le o x y z false e f g = e

put_step : {X : Type 0} (le : X → X → Bool) → IsOrder le → (x y z : X) (r s : Bool) → le x z ≡ r
    → le y z ≡ s → (zs : List X) → put_by le x (put_by le y zs) ≡ put_by le y (put_by le x zs)
    → put_by le x (cond s (y ∷ (z ∷ zs)) (z ∷ put_by le y zs))
    ≡ put_by le y (cond r (x ∷ (z ∷ zs)) (z ∷ put_by le x zs))
put_step le o x y z true true e f zs i = rw (e, f)
    (two le o x y (le x y) (le y x) refl refl (z ∷ zs))
put_step le o x y z true false e f zs i = rw (not_above le o x y z (le y x) refl e f, e, f) refl
put_step le o x y z false true e f zs i = rw (not_above le o y x z (le x y) refl f e, e, f) refl
put_step le o x y z false false e f zs i = rw (e, f) (ap (λ l. z ∷ l) i)

pub put_swaps : {X : Type 0} (le : X → X → Bool) → IsOrder le → Swaps (put_by le)
put_swaps le o x y [] = two le o x y (le x y) (le y x) refl refl []
put_swaps le o x y (z ∷ zs) = put_step le o x y z (le x z) (le y z) refl refl zs
    (put_swaps le o x y zs)

-- the same for sets
new_two : {X : Type 0} (le : X → X → Bool) → IsOrder le → (x y : X) (r s : Bool) → le x y ≡ r
    → le y x ≡ s → (zs : List X) → cond r (cond s (y ∷ zs) (x ∷ (y ∷ zs))) (y ∷ (x ∷ zs))
    ≡ cond s (cond r (x ∷ zs) (y ∷ (x ∷ zs))) (x ∷ (y ∷ zs))
new_two le o x y true true e f zs = let h = o.anti x y e f in cc
new_two le o x y true false e f zs = refl
new_two le o x y false true e f zs = refl
new_two le o x y false false e f zs = let h = o.total x y e in cc

at_most_self : {X : Type 0} (le : X → X → Bool) → IsOrder le → (x : X) (r : Bool) → le x x ≡ r
    → le x x ≡ true
at_most_self le o x true e = e
at_most_self le o x false e = o.total x x e

self : {X : Type 0} (le : X → X → Bool) → IsOrder le → (x : X) → le x x ≡ true
self le o x = at_most_self le o x (le x x) refl

-- the head of a list is no new element
head : {X : Type 0} (le : X → X → Bool) → IsOrder le → (z : X) (zs : List X)
    → put_new le z (z ∷ zs) ≡ z ∷ zs
head le o z zs = rw (self le o z) refl

head_after : {X : Type 0} (le : X → X → Bool) → IsOrder le → (x z : X) (r t : Bool) → le x z ≡ r
    → le z x ≡ t → (zs : List X) → put_new le z (put_new le x (z ∷ zs)) ≡ put_new le x (z ∷ zs)
head_after le o x z true true e f zs = rw (e, f, self le o z) refl
head_after le o x z true false e f zs = rw (e, f, f, self le o z) refl
head_after le o x z false t e f zs = rw (e, self le o z) refl

new_step : {X : Type 0} (le : X → X → Bool) → IsOrder le → (x y z : X) (r t s u : Bool) → le x z ≡ r
    → le z x ≡ t → le y z ≡ s → le z y ≡ u → (zs : List X)
    → put_new le x (put_new le y zs) ≡ put_new le y (put_new le x zs)
    → put_new le x (put_new le y (z ∷ zs)) ≡ put_new le y (put_new le x (z ∷ zs))
new_step le o x y z r t true true a b c d zs i =
    let h = o.anti y z c d in
    subst (λ v. put_new le x (put_new le v (z ∷ zs)) ≡ put_new le v (put_new le x (z ∷ zs))) (sym h)
    (ap (put_new le x) (head le o z zs) ∙ sym
    (head_after le o x z (le x z) (le z x) refl refl zs))
new_step le o x y z true true s u a b c d zs i =
    let h = o.anti x z a b in
    subst (λ v. put_new le v (put_new le y (z ∷ zs)) ≡ put_new le y (put_new le v (z ∷ zs))) (sym h)
    (head_after le o y z (le y z) (le z y) refl refl zs
    ∙ sym (ap (put_new le y) (head le o z zs)))
new_step le o x y z true false true false a b c d zs i =
    simp (a, b, c, d) (new_two le o x y (le x y) (le y x) refl refl (z ∷ zs))
new_step le o x y z true false false u a b c d zs i =
    simp (a, b, c, not_above le o x y z (le y x) refl a c) refl
new_step le o x y z false t true false a b c d zs i =
    simp (a, c, d, not_above le o y x z (le x y) refl c a) refl
new_step le o x y z false t false u a b c d zs i = rw (a, c) (rw a (ap (λ l. z ∷ l) i))

pub new_swaps : {X : Type 0} (le : X → X → Bool) → IsOrder le → Swaps (put_new le)
new_swaps le o x y [] = new_two le o x y (le x y) (le y x) refl refl []
new_swaps le o x y (z ∷ zs) = new_step le o x y z (le x z) (le z x) (le y z) (le z y) refl refl refl
    refl zs (new_swaps le o x y zs)

new_again : {X : Type 0} (le : X → X → Bool) → IsOrder le → (x y : X) (r s : Bool) → le x y ≡ r
    → le y x ≡ s → (ys : List X) → put_new le x (put_new le x ys) ≡ put_new le x ys
    → put_new le x (cond r (cond s (y ∷ ys) (x ∷ (y ∷ ys))) (y ∷ put_new le x ys))
    ≡ cond r (cond s (y ∷ ys) (x ∷ (y ∷ ys))) (y ∷ put_new le x ys)
new_again le o x y true true e f ys i = rw (e, f) refl
new_again le o x y true false e f ys i = rw (self le o x) refl
new_again le o x y false s e f ys i = rw e (ap (λ l. y ∷ l) i)

-- a second time changes nothing
pub new_same : {X : Type 0} (le : X → X → Bool) → IsOrder le → (x : X) (b : List X)
    → put_new le x (put_new le x b) ≡ put_new le x b
new_same le o x [] = rw (self le o x) refl
new_same le o x (y ∷ ys) = new_again le o x y (le x y) (le y x) refl refl ys (new_same le o x ys)

-- gathering
pub gather-append : {X B : Type 0} (p : X → B → B) (xs ys : List X) (b : B)
    → gather p (xs ++ ys) b ≡ gather p xs (gather p ys b)
gather-append p [] ys b = refl
gather-append p (x ∷ xs) ys b = ap (p x) (gather-append p xs ys b)

pub gather-put : {X B : Type 0} (p : X → B → B) → Swaps p → (xs : List X) (y : X) (b : B)
    → gather p xs (p y b) ≡ p y (gather p xs b)
gather-put p s [] y b = refl
gather-put p s (x ∷ xs) y b = ap (p x) (gather-put p s xs y b) ∙ s x y (gather p xs b)

pub gather-gather : {X B : Type 0} (p : X → B → B) → Swaps p → (xs ys : List X) (b : B)
    → gather p xs (gather p ys b) ≡ gather p ys (gather p xs b)
gather-gather p s xs [] b = refl
gather-gather p s xs (y ∷ ys) b = gather-put p s xs y (gather p ys b)
    ∙ ap (p y) (gather-gather p s xs ys b)

-- what the elements of a bag give is what those of the list give
spread_put : {X Y B : Type 0} (le : X → X → Bool) (p : Y → B → B) → Swaps p
    → (f : X → List Y) (x y : X) (r : Bool) (ys : List X) (b : B)
    → gather p (flat_map f (put_by le x ys)) b ≡ gather p (f x) (gather p (flat_map f ys) b)
    → gather p (flat_map f (cond r (x ∷ (y ∷ ys)) (y ∷ put_by le x ys))) b
    ≡ gather p (f x) (gather p (f y ++ flat_map f ys) b)
spread_put le p s f x y true ys b i = gather-append p (f x) (f y ++ flat_map f ys) b
spread_put le p s f x y false ys b i =
    gather-append p (f y) (flat_map f (put_by le x ys)) b
    ∙ ap (gather p (f y)) i
    ∙ gather-gather p s (f y) (f x) (gather p (flat_map f ys) b)
    ∙ sym (ap (gather p (f x)) (gather-append p (f y) (flat_map f ys) b))

spread-put : {X Y B : Type 0} (le : X → X → Bool) (p : Y → B → B) → Swaps p
    → (f : X → List Y) (x : X) (xs : List X) (b : B)
    → gather p (flat_map f (put_by le x xs)) b ≡ gather p (f x) (gather p (flat_map f xs) b)
spread-put le p s f x [] b = gather-append p (f x) [] b
spread-put le p s f x (y ∷ ys) b = spread_put le p s f x y (le x y) ys b
    (spread-put le p s f x ys b)

pub spread-bag : {X Y B : Type 0} (le : X → X → Bool) (p : Y → B → B) → Swaps p
    → (f : X → List Y) (xs : List X) (b : B) → gather p (flat_map f (bag_by le xs)) b
    ≡ gather p (flat_map f xs) b
spread-bag le p s f [] b = refl
spread-bag le p s f (x ∷ xs) b =
    spread-put le p s f x (bag_by le xs) b ∙ ap (gather p (f x)) (spread-bag le p s f xs b)
    ∙ sym (gather-append p (f x) (flat_map f xs) b)

bag_put : {X B : Type 0} (le : X → X → Bool) (p : X → B → B) → Swaps p
    → (x y : X) (r : Bool) (ys : List X) (b : B) → gather p (put_by le x ys) b ≡ p x (gather p ys b)
    → gather p (cond r (x ∷ (y ∷ ys)) (y ∷ put_by le x ys)) b ≡ p x (p y (gather p ys b))
bag_put le p s x y true ys b i = refl
bag_put le p s x y false ys b i = ap (p y) i ∙ s y x (gather p ys b)

bag-put : {X B : Type 0} (le : X → X → Bool) (p : X → B → B) → Swaps p
    → (x : X) (xs : List X) (b : B) → gather p (put_by le x xs) b ≡ p x (gather p xs b)
bag-put le p s x [] b = refl
bag-put le p s x (y ∷ ys) b = bag_put le p s x y (le x y) ys b (bag-put le p s x ys b)

-- a bag gathered is its list gathered
pub bag-gathered : {X B : Type 0} (le : X → X → Bool) (p : X → B → B) → Swaps p
    → (xs : List X) (b : B) → gather p (bag_by le xs) b ≡ gather p xs b
bag-gathered le p s [] b = refl
bag-gathered le p s (x ∷ xs) b = bag-put le p s x (bag_by le xs) b
    ∙ ap (p x) (bag-gathered le p s xs b)

set_put : {X : Type 0} (le : X → X → Bool) → IsOrder le → (x y : X) (r t : Bool) → le x y ≡ r
    → le y x ≡ t → (ys b : List X) → gather (put_new le) (put_new le x ys) b
    ≡ put_new le x (gather (put_new le) ys b)
    → gather (put_new le) (cond r (cond t (y ∷ ys) (x ∷ (y ∷ ys))) (y ∷ put_new le x ys)) b
    ≡ put_new le x (put_new le y (gather (put_new le) ys b))
set_put le o x y true true e f ys b i = let h = o.anti x y e f in
    rw h (sym (new_same le o y (gather (put_new le) ys b)))
set_put le o x y true false e f ys b i = refl
set_put le o x y false t e f ys b i = ap (put_new le y) i
    ∙ new_swaps le o y x (gather (put_new le) ys b)

set-put : {X : Type 0} (le : X → X → Bool) → IsOrder le → (x : X) (xs b : List X)
    → gather (put_new le) (put_new le x xs) b ≡ put_new le x (gather (put_new le) xs b)
set-put le o x [] b = refl
set-put le o x (y ∷ ys) b = set_put le o x y (le x y) (le y x) refl refl ys b (set-put le o x ys b)

-- a set gathered into a set is its list gathered
pub set-gathered : {X : Type 0} (le : X → X → Bool) → IsOrder le → (xs b : List X)
    → gather (put_new le) (set_of le xs) b ≡ gather (put_new le) xs b
set-gathered le o [] b = refl
set-gathered le o (x ∷ xs) b = set-put le o x (set_of le xs) b
    ∙ ap (put_new le x) (set-gathered le o xs b)

-- the pieces of two kinds may be gathered apart
pub gather-both : {X Y B : Type 0} (p : Y → B → B) → Swaps p
    → (f g : X → List Y) (xs : List X) (b : B)
    → gather p (flat_map (λ x. f x ++ g x) xs) b
    ≡ gather p (flat_map f xs) (gather p (flat_map g xs) b)
gather-both p s f g [] b = refl
gather-both p s f g (x ∷ xs) b =
    gather-append p (f x ++ g x) (flat_map (λ x. f x ++ g x) xs) b
    ∙ gather-append p (f x) (g x) (gather p (flat_map (λ x. f x ++ g x) xs) b)
    ∙ ap (λ c. gather p (f x) (gather p (g x) c)) (gather-both p s f g xs b)
    ∙ ap (gather p (f x)) (gather-gather p s (g x) (flat_map f xs) (gather p (flat_map g xs) b))
    ∙ ap (λ c. gather p (f x) (gather p (flat_map f xs) c))
    (sym (gather-append p (g x) (flat_map g xs) b))
    ∙ sym (gather-append p (f x) (flat_map f xs) (gather p (g x ++ flat_map g xs) b))

-- pieces that gather alike may stand for each other
pub gather-alike : {X Y B : Type 0} (p : Y → B → B) (f g : X → List Y)
    → ((x : X) (b : B) → gather p (f x) b ≡ gather p (g x) b) → (xs : List X) (b : B)
    → gather p (flat_map f xs) b ≡ gather p (flat_map g xs) b
gather-alike p f g h [] b = refl
gather-alike p f g h (x ∷ xs) b =
    gather-append p (f x) (flat_map f xs) b ∙ ap (gather p (f x)) (gather-alike p f g h xs b)
    ∙ h x (gather p (flat_map g xs) b) ∙ sym (gather-append p (g x) (flat_map g xs) b)

pub flat_map-flat_map : {X Y Z : Type 0} (g : Y → List Z) (f : X → List Y) (xs : List X)
    → flat_map g (flat_map f xs) ≡ flat_map (λ x. flat_map g (f x)) xs
flat_map-flat_map g f [] = refl
flat_map-flat_map g f (x ∷ xs) = flat_map-append g (f x) (flat_map f xs)
    ∙ ap (λ l. flat_map g (f x) ++ l) (flat_map-flat_map g f xs)
