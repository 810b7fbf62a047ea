-- Numbered outputs: each has its own list.
use Rattle.std.proofs.Common.{◌≡◌, ◌<◌, ◌≤◌, ◌+◌, ℕ, ◌-◌, zero, suc, true, false, cond, Bool, ◌||◌, List, [], ◌∷◌, ◌++◌, length, map, Option, Some, None, refl, sym, ap, ◌∙◌, subst, arith, append-nil, append_assoc, inl, inr, ⊎_elim}
use Rattle.std.specs.Prelude.{slice_set, ◌==◌, ◌⊎◌}
use Rattle.std.specs.List.{flat_map, fold, slice_get}
use Rattle.std.proofs.Math.ListN.{length-set}
use Rattle.flume_value.specs.declared.value.Value.{Value}
use Rattle.flume_collection.specs.Calls.{or_none}
use Rattle.shards.proofs.Alike.{flat_map-nothing}
use Rattle.forest_steps.specs.of_exec_graph.Calls.{emitted}
use Rattle.forest_steps.specs.of_exec_graph.Forests.{Forest, Bare, Grow, next_after, after_out, new_out, numbered}
use Rattle.forest_steps.specs.of_exec_graph.Meaning.{is_out, has_out}
use Rattle.forest_steps.specs.of_exec_graph.World.{World}
use Rattle.task_lists.specs.of_exec_plan.Channels.{kept_out, outs_of}
use Rattle.task_lists.specs.Runs.{out_at}
use Rattle.forest_steps.specs.Running.{OutputLists, put_on_output}
use Rattle.forest_steps.specs.Fresh.{empties}
use Rattle.forest_courses.proofs.Pouring.{poured, poured_all}

-- ---- an output that is kept has the number n, and outputs have the numbers from n on, in preorder
abbrev Begins : ℕ → Option ℕ → Type 0
Begins n None = Unit {0}
Begins n (Some j) = j ≡ n

abbrev IsFrom : ℕ → Forest → Type 0
IsFrom n Bare = Unit {0}
IsFrom n (Grow l kids rest) =
    Begins n l.out × IsFrom (after_out n l.out) kids
    × IsFrom (next_after (after_out n l.out) kids) rest

begins_at : (n : ℕ) (o : Option ℕ) → new_out n o ≡ o → Begins n o
begins_at n None e = tt
begins_at n (Some j) e = cc e

label_out : Forest → Option ℕ
label_out Bare = None
label_out (Grow l kids rest) = l.out

kids_in : Forest → Forest
kids_in Bare = Bare
kids_in (Grow l kids rest) = kids

rest_in : Forest → Forest
rest_in Bare = Bare
rest_in (Grow l kids rest) = rest

pub from_numbered : (n : ℕ) (f : Forest) → numbered n f ≡ f → IsFrom n f
unfolding label_out kids_in rest_in
from_numbered n Bare e = tt
from_numbered n (Grow l kids rest) e = (
  begins_at n l.out (ap label_out e),
  from_numbered (after_out n l.out) kids (ap kids_in e),
  from_numbered (next_after (after_out n l.out) kids) rest (ap rest_in e),
)

-- ---- numbers rise
after_rises : (f : Forest) (n : ℕ) → n ≤ next_after n f
after_rises Bare n = omega arith
after_rises (Grow l kids rest) n =
    omega (
      arith,
      after_out_rises n l.out,
      after_rises kids (after_out n l.out),
      after_rises rest (next_after (after_out n l.out) kids),
    ) where
      after_out_rises : (n : ℕ) (o : Option ℕ) → n ≤ after_out n o
      after_out_rises n None = omega arith
      after_out_rises n (Some j) = omega arith

pub record Within (low high j : ℕ) : Type 0 where
  pub above : low ≤ j
  pub below : j < high

-- an output stands between the first number and the one after the last
out_within : (n j : ℕ) (o : Option ℕ) → Begins n o → is_out o j ≡ true → (j ≡ n)
    × (after_out n o ≡ n + 1)
out_within n j None b h = cc
out_within n j (Some i) b h = let same : i ≡ j = grind (arith, h) in (sym same ∙ b, refl)

either : (a b : Bool) → (a || b) ≡ true → (a ≡ true) ⊎ (b ≡ true)
either true b h = inl refl
either false b h = inr h

has_within : (f : Forest) (n j : ℕ) → IsFrom n f → has_out j f ≡ true → Within n (next_after n f) j
has_within Bare n j is h = cc
has_within (Grow l kids rest) n j is h =
    let m = after_out n l.out in let k = next_after m kids in
    let up_m : n ≤ m = after_rises (Grow l Bare Bare) n in let up_k : m ≤ k = after_rises kids m in
    let up : k ≤ next_after k rest = after_rises rest k in
    ⊎_elim (λ here. let w = out_within n j l.out is.0 here in
    record { above = omega (arith, w.0); below = omega (arith, w.0, w.1) })
    (λ below. ⊎_elim
    (λ in_kids. let w = has_within kids m j is.1 in_kids in
    record { above = omega (arith, w.above); below = omega (arith, w.below) })
    (λ in_rest. let w = has_within rest k j is.2 in_rest in
    record { above = omega (arith, w.above); below = w.below })
    (either (has_out j kids) (has_out j rest) below))
    (either (is_out l.out j) (has_out j kids || has_out j rest) h)

lacks : (f : Forest) (n j : ℕ) → IsFrom n f → (Within n (next_after n f) j → ⊥)
    → has_out j f ≡ false
lacks f n j is h = elim (has_out j f) as (λ b. has_out j f ≡ b → b ≡ false)
    [ true ↦ λ e. absurd (h (has_within f n j is e)) | false ↦ λ e. refl ] refl

-- there is a list for the output
abbrev HasRoom : ℕ → Option ℕ → Type 0
HasRoom n None = Unit {0}
HasRoom n (Some j) = j < n

has_room : (n m : ℕ) (o : Option ℕ) → Begins n o → after_out n o ≤ m → HasRoom m o
has_room n m None b h = tt
has_room n m (Some j) b h = omega (arith, b)

-- ---- nothing comes of an output that a forest lacks
none_lacks : (a b : Bool) → (a || b) ≡ false → (a ≡ false) × (b ≡ false)
none_lacks true b h = cc
none_lacks false b h = (refl, h)

pub out_none : (w : World) (f : Forest) (j : ℕ) (x : Value) → has_out j f ≡ false → out_at w f j x
    ≡ []
out_none w Bare j x h = refl
out_none w (Grow l kids rest) j x h =
    let a = none_lacks (is_out l.out j) (has_out j kids || has_out j rest) h in let b =
    none_lacks (has_out j kids) (has_out j rest) a.1 in
    (λ i. cond (a.0 i) (emitted w l x)
    (cond (b.0 i) (flat_map (out_at w kids j) (emitted w l x)) (out_at w rest j x)))
    ∙ out_none w rest j x b.1

-- ---- the list of each output
abbrev pub part_at : OutputLists → ℕ → List Value
part_at os j = or_none (slice_get os j)

same_suc : (i j : ℕ) → (i == j) ≡ (suc i == suc j)
same_suc i j = elim (i == j) as (λ b. (i == j) ≡ b → b ≡ (suc i == suc j)) [
  | true ↦ λ e. let same : i ≡ j = grind (arith, e) in let more : (suc i == suc j)
      ≡ true = grind (arith, same) in sym more
  | false ↦ λ e. let other : (suc i == suc j) ≡ false = grind (arith, e) in sym other
] refl

part_set : (os : OutputLists) (i j : ℕ) (v : List Value) → i < length os
    → part_at (slice_set os i v) j ≡ cond (i == j) v (part_at os j)
part_set [] i j v h = absurd (omega arith)
part_set (o ∷ os) zero zero v h = refl
part_set (o ∷ os) zero (suc j) v h = let e : (0 == suc j)
    ≡ false = grind arith in ap (λ b. cond b v (part_at os j)) (sym e)
part_set (o ∷ os) (suc i) zero v h = let e : (suc i == 0)
    ≡ false = grind arith in ap (λ b. cond b v o) (sym e)
part_set (o ∷ os) (suc i) (suc j) v h = part_set os i j v (omega arith)
    ∙ ap (λ b. cond b v (part_at os j)) (same_suc i j)

put_at : (o : Option ℕ) (vs : List Value) (os : OutputLists) (j : ℕ) → HasRoom (length os) o
    → part_at (put_on_output o vs os) j ≡ part_at os j ++ cond (is_out o j) vs []
put_at None vs os j h = sym (append-nil (part_at os j))
put_at (Some i) vs os j h =
    part_set os i j (part_at os i ++ vs) h
    ∙ elim (i == j) as (λ b. (i == j) ≡ b → cond b (part_at os i ++ vs) (part_at os j)
    ≡ part_at os j ++ cond b vs []) [
      | true ↦ λ e. let same : i ≡ j = grind (arith, e) in ap (λ k. part_at os k ++ vs) same
      | false ↦ λ e. sym (append-nil (part_at os j))
    ] refl

put_length : (o : Option ℕ) (vs : List Value) (os : OutputLists)
    → length (put_on_output o vs os) ≡ length os
put_length None vs os = refl
put_length (Some i) vs os = length-set os i (part_at os i ++ vs)

all_length : (g : Value → OutputLists → OutputLists)
    → ((y : Value) (os : OutputLists) → length (g y os) ≡ length os)
    → (xs : List Value) (os : OutputLists) → length (fold (λ us y. g y us) os xs) ≡ length os
all_length g h [] os = refl
all_length g h (y ∷ ys) os = all_length g h ys (g y os) ∙ h y os

poured_length : (w : World) (f : Forest) (x : Value) (os : OutputLists) → length (poured w f x os)
    ≡ length os
poured_length w Bare x os = refl
poured_length w (Grow l kids rest) x os =
    poured_length w rest x (put_on_output l.out (emitted w l x)
    (poured_all w kids (emitted w l x) os))
    ∙ put_length l.out (emitted w l x) (poured_all w kids (emitted w l x) os)
    ∙ all_length (poured w kids) (poured_length w kids) (emitted w l x) os

poured_all_length : (w : World) (f : Forest) (xs : List Value) (os : OutputLists)
    → length (poured_all w f xs os) ≡ length os
poured_all_length w f xs os = all_length (poured w f) (poured_length w f) xs os

-- one output of many elements, from that of one
all_at : (w : World) (f : Forest) (j m : ℕ)
    → ((x : Value) (os : OutputLists) → length os ≡ m → part_at (poured w f x os) j
    ≡ part_at os j ++ out_at w f j x) → (xs : List Value) (os : OutputLists) → length os ≡ m
    → part_at (poured_all w f xs os) j ≡ part_at os j ++ flat_map (out_at w f j) xs
all_at w f j m h [] os e = sym (append-nil (part_at os j))
all_at w f j m h (y ∷ ys) os e =
    all_at w f j m h ys (poured w f y os) (poured_length w f y os ∙ e)
    ∙ ap (λ l. l ++ flat_map (out_at w f j) ys) (h y os e)
    ∙ append_assoc (part_at os j) (out_at w f j y) (flat_map (out_at w f j) ys)

none_at : (w : World) (f : Forest) (j : ℕ) (xs : List Value) → has_out j f ≡ false
    → flat_map (out_at w f j) xs ≡ []
none_at w f j xs h = (λ i. flat_map (λ x. out_none w f j x h i) xs) ∙ flat_map-nothing xs

-- own emissions, those of kids, and those beside, of which at most one are an output's
one_of_three : (b c : Bool) (os own kids rest : List Value) → (b ≡ true → (kids ≡ []) × (rest ≡ []))
    → (b ≡ false → c ≡ true → rest ≡ []) → (c ≡ false → kids ≡ [])
    → ((os ++ kids) ++ cond b own []) ++ rest ≡ os ++ cond b own (cond c kids rest)
one_of_three true c os own kids rest g h k = let e = g refl in
    (λ i. ((os ++ e.0 i) ++ own) ++ e.1 i) ∙ append-nil ((os ++ []) ++ own)
    ∙ ap (λ l. l ++ own) (append-nil os)
one_of_three false true os own kids rest g h k = (λ i. ((os ++ kids) ++ []) ++ h refl refl i)
    ∙ append-nil ((os ++ kids) ++ []) ∙ append-nil (os ++ kids)
one_of_three false false os own kids rest g h k = (λ i. ((os ++ k refl i) ++ []) ++ rest)
    ∙ (λ i. append-nil (append-nil os i) i ++ rest)

-- a list gets what its output gives
poured_at : (w : World) (f : Forest) (n m j : ℕ) (x : Value) (os : OutputLists) → IsFrom n f
    → next_after n f ≤ m → length os ≡ m
    → part_at (poured w f x os) j ≡ part_at os j ++ out_at w f j x
poured_at w Bare n m j x os is h e = sym (append-nil (part_at os j))
poured_at w (Grow l kids rest) n m j x os is h e =
    let a = after_out n l.out in let k = next_after a kids in
    let up_a : n ≤ a = after_rises (Grow l Bare Bare) n in let up_k : a ≤ k = after_rises kids a in
    let up : k ≤ next_after k rest = after_rises rest k in
    let vs = emitted w l x in
    let us = poured_all w kids vs os in
    let ws = put_on_output l.out vs us in
    let us_length : length us ≡ m = poured_all_length w kids vs os ∙ e in
    let own_room : HasRoom m l.out = has_room n m l.out is.0 (omega arith) in
    poured_at w rest k m j x ws is.2 h (put_length l.out vs us ∙ us_length)
    ∙ ap (λ q. q ++ out_at w rest j x)
    (put_at l.out vs us j (subst (λ q. HasRoom q l.out) (sym us_length) own_room))
    ∙ ap (λ q. (q ++ cond (is_out l.out j) vs []) ++ out_at w rest j x)
    (all_at w kids j m (λ y ts len. poured_at w kids a m j y ts is.1 (omega arith) len) vs os e)
    ∙ one_of_three (is_out l.out j) (has_out j kids) (part_at os j) vs
    (flat_map (out_at w kids j) vs) (out_at w rest j x)
    (λ here. let v = out_within n j l.out is.0 here in (
      none_at w kids j vs (lacks kids a j is.1 (λ z. omega (arith, v.0, v.1, z.above))),
      out_none w rest j x (lacks rest k j is.2 (λ z. omega (arith, v.0, v.1, z.above))),
    ))
    (λ no_own in_kids. let v = has_within kids a j is.1 in_kids in
    out_none w rest j x (lacks rest k j is.2 (λ z. omega (arith, v.below, z.above))))
    (λ not_kids. none_at w kids j vs not_kids)

-- ---- all lists
abbrev pub ups : ℕ → ℕ → List ℕ
ups a zero = []
ups a (suc k) = a ∷ ups (suc a) k

ups_append : (a p q : ℕ) → ups a (p + q) ≡ ups a p ++ ups (a + p) q
ups_append a zero q = (let e : 0 + q ≡ q = omega arith in ap (ups a) e)
    ∙ (let d : a ≡ a + 0 = omega arith in ap (λ b. ups b q) d)
ups_append a (suc p) q =
    (let e : suc p + q ≡ suc (p + q) = omega arith in ap (ups a) e)
    ∙ ap (λ l. a ∷ l) (ups_append (suc a) p q)
    ∙ (let d : suc a + p ≡ a + suc p = omega arith in ap (λ b. a ∷ (ups (suc a) p ++ ups b q)) d)

ups_split : (a b c : ℕ) → a ≤ b → b ≤ c → ups a (b - a) ++ ups b (c - b) ≡ ups a (c - a)
ups_split a b c g h =
    (let d : b ≡ a + (b - a) = omega arith in ap (λ z. ups a (b - a) ++ ups z (c - b)) d)
    ∙ sym (ups_append a (b - a) (c - b))
    ∙ (let e : (b - a) + (c - b) ≡ c - a = omega arith in ap (ups a) e)

kept_ups : (n : ℕ) (o : Option ℕ) → Begins n o → kept_out o ≡ ups n (after_out n o - n)
kept_ups n None b = let e : 0 ≡ n - n = omega arith in ap (ups n) e
kept_ups n (Some j) b = ap (λ i. i ∷ []) b ∙ (let e : 1 ≡ n + 1 - n = omega arith in ap (ups n) e)

pub outs_ups : (f : Forest) (n : ℕ) → IsFrom n f → outs_of f ≡ ups n (next_after n f - n)
outs_ups Bare n is = let e : 0 ≡ n - n = omega arith in ap (ups n) e
outs_ups (Grow l kids rest) n is =
    let a = after_out n l.out in let k = next_after a kids in
    (λ i. kept_ups n l.out is.0 i ++ (outs_ups kids a is.1 i ++ outs_ups rest k is.2 i))
    ∙ ap (λ q. ups n (a - n) ++ q)
    (ups_split a k (next_after k rest) (after_rises kids a) (after_rises rest k))
    ∙ ups_split n a (next_after k rest) (after_rises (Grow l Bare Bare) n)
    (omega (arith, after_rises kids a, after_rises rest k))

map_ups_shift : (os : OutputLists) (o : List Value) (a k : ℕ)
    → map (part_at (o ∷ os)) (ups (suc a) k)
    ≡ map (part_at os) (ups a k)
map_ups_shift os o a zero = refl
map_ups_shift os o a (suc k) = ap (λ l. part_at os a ∷ l) (map_ups_shift os o (suc a) k)

map_parts : (os : OutputLists) → map (part_at os) (ups 0 (length os)) ≡ os
map_parts [] = refl
map_parts (o ∷ os) = ap (λ l. o ∷ l) (map_ups_shift os o 0 (length os) ∙ map_parts os)

empties_length : (n : ℕ) → length (empties n) ≡ n
empties_length zero = refl
empties_length (suc n) = ap suc (empties_length n)

empties_at : (n j : ℕ) → part_at (empties n) j ≡ []
empties_at zero j = refl
empties_at (suc n) zero = refl
empties_at (suc n) (suc j) = empties_at n j

pub poured_whole : (w : World) (f : Forest) (xs : List Value) → IsFrom 0 f
    → poured_all w f xs (empties (next_after 0 f))
    ≡ map (λ j. flat_map (out_at w f j) xs) (outs_of f)
poured_whole w f xs is =
    let n = next_after 0 f in
    let os = poured_all w f xs (empties n) in
    let len : length os ≡ n = poured_all_length w f xs (empties n) ∙ empties_length n in
    let at : (j : ℕ) → part_at os j ≡ flat_map (out_at w f j) xs =
    λ j. all_at w f j n (λ y ts e. poured_at w f 0 n j y ts is (omega arith) e) xs (empties n)
    (empties_length n) ∙ ap (λ l. l ++ flat_map (out_at w f j) xs) (empties_at n j) in
    let e : n ≡ n - 0 = omega arith in
    sym (map_parts os) ∙ ap (λ k. map (part_at os) (ups 0 k)) (len ∙ e)
    ∙ (λ i. map (λ j. at j i) (ups 0 (n - 0)))
    ∙ ap (map (λ j. flat_map (out_at w f j) xs)) (sym (outs_ups f 0 is))
