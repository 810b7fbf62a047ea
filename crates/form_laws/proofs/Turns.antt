-- The order as a relation: what is picked is next, and in just one order each is next in its turn.
use Rattle.std.proofs.Common.{◌≡◌, ℕ, ◌≤◌, ◌⊎◌, Bool, true, false, cond, not, ◌&&◌, List, [], ◌∷◌, ◌++◌, length, Option, Some, None, zero, suc, refl, sym, ap, ◌∙◌, subst, arith, inl, inr}
use Rattle.std.proofs.lemmas.Bool.{false≢true}
use Rattle.std.specs.List.{AllByRecursion as Each}
use Rattle.flume_value.proofs.EachLemmas.{Each-append, Each-left, Each-right}
use Rattle.exec_graph.specs.declared.graph.Place.{Place}
use Rattle.exec_graph.specs.declared.graph.Entry.{Entry}
use Rattle.plan_rules.proofs.of_graph_laws.Lexicographic.{Le, le_both, le_not, le_self, le_trans, less_le, not_less}
use Rattle.plan_laws.specs.declared.operations.Operation.{Operation}
use Rattle.plan_laws.specs.Operations.{IsIn, gives_of}
use Rattle.form_laws.specs.declared.ranked.Ranked.{Ranked}
use Rattle.form_laws.specs.Order.{AreOthers, InTurn, IsNext, IsTurn, Picked, is_ranked_before, is_ready, ordered, ordered_by, picked_least, pick_by, picked}
use Rattle.form_laws.proofs.Ordering.{pick_ok, some_picked, stuck}
use Rattle.form_laws.proofs.Settling.{among_all}

-- ---- before

-- y is not behind z
abbrev Behind : Ranked → Ranked → Type 0
Behind y z = Le y.rank y.number z.rank z.number

not_before : (z y : Ranked) → is_ranked_before z y ≡ false → Behind y z
not_before z y h = not_less y.rank y.number z.rank z.number h

before_not : (z y : Ranked) → Behind y z → is_ranked_before z y ≡ false
before_not z y h = le_not y.rank y.number z.rank z.number h

self_not : (x : Ranked) → is_ranked_before x x ≡ false
self_not x = before_not x x (le_self x.rank x.number)

-- ---- what is picked is next

abbrev Least : List Entry → List Place → List Ranked → Ranked → Type 0
Least es made xs y = (z : Ranked) → IsIn z xs → is_ready es made z.does ≡ true
    → is_ranked_before z y ≡ false

-- what is picked, where none that is ready is before it, with the others
record Picks (es : List Entry) (made : List Place) (xs : List Ranked) (p : Picked) : Type 0 where
  pub least : Least es made xs p.op
  pub beside : AreOthers xs p.op p.rest

here : (x : Ranked) (xs : List Ranked) → AreOthers (x ∷ xs) x xs
here x xs = record { left = []; right = xs; all = refl; others = refl }

behind : (x y : Ranked) (xs rest : List Ranked) → AreOthers xs y rest
    → AreOthers (x ∷ xs) y (x ∷ rest)
behind x y xs rest h = record {
  left = x ∷ h.left;
  right = h.right;
  all = ap (λ (l : List Ranked). x ∷ l) h.all;
  others = ap (λ (l : List Ranked). x ∷ l) h.others;
}

least_this : (es : List Entry) (made : List Place) (x y : Ranked) (xs : List Ranked) → Behind x y
    → Least es made xs y → Least es made (x ∷ xs) x
least_this es made x y xs l h z (inl e) r =
    subst (λ (u : Ranked). is_ranked_before u x ≡ false) e (self_not x)
least_this es made x y xs l h z (inr i) r =
    before_not z x (le_trans x.rank x.number y.rank y.number z.rank z.number l
    (not_before z y (h z i r)))

least_later : (es : List Entry) (made : List Place) (x y : Ranked) (xs : List Ranked)
    → (is_ready es made x.does ≡ true → Behind y x) → Least es made xs y
    → Least es made (x ∷ xs) y
least_later es made x y xs l h z (inl e) r =
    subst (λ (u : Ranked). is_ranked_before u y ≡ false) e
    (before_not x y (l (ap (λ (u : Ranked). is_ready es made u.does) e ∙ r)))
least_later es made x y xs l h z (inr i) r = h z i r

only_this : (es : List Entry) (made : List Place) (x : Ranked) (xs : List Ranked)
    → picked_least es made xs ≡ None → Least es made (x ∷ xs) x
only_this es made x xs n z (inl e) r =
    subst (λ (u : Ranked). is_ranked_before u x ≡ false) e (self_not x)
only_this es made x xs n z (inr i) r = absurd (false≢true (sym (stuck es made xs n z i) ∙ r))

picks_none : (es : List Entry) (made : List Place) (x : Ranked) (xs : List Ranked) (r : Bool)
    (p : Picked) → picked_least es made xs ≡ None → cond r (Some (picked x xs)) None ≡ Some p
    → Picks es made (x ∷ xs) p
picks_none es made x xs true p n e =
    subst (Picks es made (x ∷ xs)) (some_picked (picked x xs) p e)
    (record { least = only_this es made x xs n; beside = here x xs })
picks_none es made x xs false p n e = let bad : ⊥ = cc in absurd bad

picks_some : (es : List Entry) (made : List Place) (x : Ranked) (xs : List Ranked) (r s : Bool)
    (q p : Picked) → is_ready es made x.does ≡ r → is_ranked_before q.op x ≡ s → Picks es made xs q
    → cond (r && not s) (Some (picked x xs)) (Some (picked q.op (x ∷ q.rest))) ≡ Some p
    → Picks es made (x ∷ xs) p
picks_some es made x xs true false q p i j h e =
    subst (Picks es made (x ∷ xs)) (some_picked (picked x xs) p e) (record {
      least = least_this es made x q.op xs (not_before q.op x j) h.least;
      beside = here x xs;
    })
picks_some es made x xs true true q p i j h e =
    subst (Picks es made (x ∷ xs)) (some_picked (picked q.op (x ∷ q.rest)) p e) (record {
      least = least_later es made x q.op xs (λ _. less_le q.op.rank q.op.number x.rank x.number j)
          h.least;
      beside = behind x q.op xs q.rest h.beside;
    })
picks_some es made x xs false s q p i j h e =
    subst (Picks es made (x ∷ xs)) (some_picked (picked q.op (x ∷ q.rest)) p e) (record {
      least = least_later es made x q.op xs (λ r. absurd (false≢true (sym i ∙ r))) h.least;
      beside = behind x q.op xs q.rest h.beside;
    })

picks_by : (es : List Entry) (made : List Place) (x : Ranked) (xs : List Ranked)
    (o : Option Picked) (p : Picked) → picked_least es made xs ≡ o
    → ((q : Picked) → o ≡ Some q → Picks es made xs q)
    → pick_by (is_ready es made x.does) x xs o ≡ Some p → Picks es made (x ∷ xs) p
picks_by es made x xs None p n f e = picks_none es made x xs (is_ready es made x.does) p n e
picks_by es made x xs (Some q) p n f e =
    picks_some es made x xs (is_ready es made x.does) (is_ranked_before q.op x) q p refl refl
    (f q refl) e

picks : (es : List Entry) (made : List Place) (xs : List Ranked) (p : Picked)
    → picked_least es made xs ≡ Some p → Picks es made xs p
picks es made [] p e = let bad : ⊥ = cc in absurd bad
picks es made (x ∷ xs) p e =
    picks_by es made x xs (picked_least es made xs) p refl (λ q i. picks es made xs q i) e

pub picks_next : (es : List Entry) (made : List Place) (xs : List Ranked) (p : Picked)
    → picked_least es made xs ≡ Some p → IsTurn es made xs p.op.does p.rest
picks_next es made xs p e =
    let k = pick_ok es made xs p e in
    let t = picks es made xs p e in
    record {
      next = p.op;
      does = refl;
      is_next = record {
        among = k.from p.op (inl refl);
        ready = k.ready;
        least = t.least;
      };
      beside = t.beside;
    }

-- ---- all in turn

turn_by : (es : List Entry) (k : ℕ) (made : List Place) (xs : List Ranked) (o : Option Picked)
    → picked_least es made xs ≡ o
    → ((p : Picked) → picked_least es made xs ≡ Some p
    → InTurn es (gives_of es p.op.does ++ made) p.rest
    (ordered es k (gives_of es p.op.does ++ made) p.rest))
    → InTurn es made xs (ordered_by o (λ p. ordered es k (gives_of es p.op.does ++ made) p.rest))
turn_by es k made xs None e f = stuck es made xs e
turn_by es k made xs (Some p) e f = (p.rest, picks_next es made xs p e, f p e)

pub ordered_in_turn : (es : List Entry) (k : ℕ) (made : List Place) (xs : List Ranked)
    → length xs ≤ k → InTurn es made xs (ordered es k made xs)
unfolding ordered
ordered_in_turn es zero made [] l = λ y i. absurd i
ordered_in_turn es zero made (x ∷ xs) l = absurd (omega arith)
ordered_in_turn es (suc k) made xs l =
    turn_by es k made xs (picked_least es made xs) refl
    (λ p e. ordered_in_turn es k (gives_of es p.op.does ++ made) p.rest
    (let s = (pick_ok es made xs p e).length in omega arith))

-- ---- in one order

abbrev pub Other : Ranked → Ranked → Type 0
Other x y = x.number ≡ y.number → ⊥

-- no two have one number
abbrev pub Apart : List Ranked → Type 0
Apart [] = Unit {0}
Apart (x ∷ xs) = Each (Other x) xs × Apart xs

taken_apart : (left : List Ranked) (y : Ranked) (right : List Ranked)
    → Apart (left ++ y ∷ right) → Each (Other y) (left ++ right) × Apart (left ++ right)
taken_apart [] y right h = h
taken_apart (x ∷ left) y right h =
    let r = taken_apart left y right h.1 in
    let a : Each (Other x) left = Each-left (Other x) left (y ∷ right) h.0 in
    let b : Each (Other x) (y ∷ right) = Each-right (Other x) left (y ∷ right) h.0 in (
      (λ e. b.0 (sym e), r.0),
      (Each-append (Other x) left right a b.1, r.1),
    )

-- what stands among others of y
among_out : (z : Ranked) (left : List Ranked) (y : Ranked) (right : List Ranked)
    → IsIn z (left ++ y ∷ right) → (y ≡ z) ⊎ IsIn z (left ++ right)
among_out z [] y right h = h
among_out z (x ∷ left) y right (inl e) = inr (inl e)
among_out z (x ∷ left) y right (inr h) =
    elim (among_out z left y right h) [ inl e ↦ inl e | inr i ↦ inr (inr i) ]

among_in : (z : Ranked) (left : List Ranked) (y : Ranked) (right : List Ranked)
    → IsIn z (left ++ right) → IsIn z (left ++ y ∷ right)
among_in z [] y right h = inr h
among_in z (x ∷ left) y right (inl e) = inl e
among_in z (x ∷ left) y right (inr h) = inr (among_in z left y right h)

-- the others of one of xs
record Rest (xs : List Ranked) (y : Ranked) (rest : List Ranked) : Type 0 where
  pub apart : Apart rest
  pub other : Each (Other y) rest
  pub out : (z : Ranked) → IsIn z xs → (y ≡ z) ⊎ IsIn z rest
  pub back : (z : Ranked) → IsIn z rest → IsIn z xs

rest_of : (xs : List Ranked) (y : Ranked) (rest : List Ranked) → Apart xs
    → AreOthers xs y rest → Rest xs y rest
rest_of xs y rest a h =
    let t = taken_apart h.left y h.right (subst Apart h.all a) in
    record {
      apart = subst Apart (sym h.others) t.1;
      other = subst (Each (Other y)) (sym h.others) t.0;
      out = λ z i.
          elim (among_out z h.left y h.right (subst (IsIn z) h.all i))
          [ inl e ↦ inl e | inr j ↦ inr (subst (IsIn z) (sym h.others) j) ];
      back = λ z i. subst (IsIn z) (sym h.all)
          (among_in z h.left y h.right (subst (IsIn z) h.others i));
    }

same_number : (xs : List Ranked) (y z : Ranked) → Apart xs → IsIn y xs → IsIn z xs
    → y.number ≡ z.number → y ≡ z
same_number [] y z a i j e = absurd i
same_number (x ∷ xs) y z a (inl i) (inl j) e = sym i ∙ j
same_number (x ∷ xs) y z a (inl i) (inr j) e =
    absurd (among_all (Other x) xs z a.0 j (ap (λ (r : Ranked). r.number) i ∙ e))
same_number (x ∷ xs) y z a (inr i) (inl j) e =
    absurd (among_all (Other x) xs y a.0 i (ap (λ (r : Ranked). r.number) j ∙ sym e))
same_number (x ∷ xs) y z a (inr i) (inr j) e = same_number xs y z a.1 i j e

-- the same ones stand in both
pub record AreSame (xs ys : List Ranked) : Type 0 where
  pub there : (z : Ranked) → IsIn z xs → IsIn z ys
  pub back : (z : Ranked) → IsIn z ys → IsIn z xs

next_same : (es : List Entry) (made : List Place) (xs ys : List Ranked) (x y : Ranked)
    → Apart xs → AreSame xs ys → IsNext es made xs x → IsNext es made ys y → x ≡ y
next_same es made xs ys x y a s h k =
    same_number xs x y a h.among (s.back y k.among)
    (le_both x.rank x.number y.rank y.number
    (not_before y x (h.least y (s.back y k.among) k.ready))
    (not_before x y (k.least x (s.there x h.among) h.ready))).1

rest_within : (xs ys rest others : List Ranked) (y : Ranked) → AreSame xs ys
    → Rest xs y rest → Rest ys y others → (z : Ranked) → IsIn z rest → IsIn z others
rest_within xs ys rest others y s h k z i =
    elim (k.out z (s.there z (h.back z i))) [
      | inl e ↦ absurd (among_all (Other y) rest z h.other i (ap (λ (r : Ranked). r.number) e))
      | inr j ↦ j
    ]

same_back : (xs ys : List Ranked) → AreSame xs ys → AreSame ys xs
same_back xs ys s = record { there = s.back; back = s.there }

rest_same : (xs ys rest others : List Ranked) (y : Ranked) → AreSame xs ys
    → Rest xs y rest → Rest ys y others → AreSame rest others
rest_same xs ys rest others y s h k = record {
  there = rest_within xs ys rest others y s h k;
  back = rest_within ys xs others rest y (same_back xs ys s) k h;
}

pub one_order : (es : List Entry) (made : List Place) (xs ys : List Ranked)
    (os ps : List Operation) → Apart xs → Apart ys → AreSame xs ys → InTurn es made xs os
    → InTurn es made ys ps → os ≡ ps
one_order es made xs ys [] [] a b s h k = refl
one_order es made xs ys [] (p ∷ ps) a b s h k =
    let n = k.1.is_next in
    absurd (false≢true (sym (h k.1.next (s.back k.1.next n.among)) ∙ n.ready))
one_order es made xs ys (o ∷ os) [] a b s h k =
    let n = h.1.is_next in
    absurd (false≢true (sym (k h.1.next (s.there h.1.next n.among)) ∙ n.ready))
one_order es made xs ys (o ∷ os) (p ∷ ps) a b s h k =
    let x : Ranked = h.1.next in
    let y : Ranked = k.1.next in
    let same : x ≡ y = next_same es made xs ys x y a s h.1.is_next k.1.is_next in
    let does : o ≡ p = sym h.1.does ∙ ap (λ (r : Ranked). r.does) same ∙ k.1.does in
    let left : Rest xs x h.0 = rest_of xs x h.0 a h.1.beside in
    let right : Rest ys x k.0 =
    subst (λ (r : Ranked). Rest ys r k.0) (sym same) (rest_of ys y k.0 b k.1.beside) in
    let tail : InTurn es (gives_of es o ++ made) k.0 ps =
    subst (λ (q : Operation). InTurn es (gives_of es q ++ made) k.0 ps) (sym does) k.2 in
    let rest : os ≡ ps =
    one_order es (gives_of es o ++ made) h.0 k.0 os ps left.apart right.apart
    (rest_same xs ys h.0 k.0 x s left right) h.2 tail in
    ap (λ (q : Operation). q ∷ os) does ∙ ap (λ (l : List Operation). p ∷ l) rest
