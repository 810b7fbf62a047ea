-- The walk for the least number: what is left of it gives the least of what it found and the rest.
use Rattle.std.proofs.Common.{◌≡◌, ℕ, ◌+◌, ◌-◌, ◌<◌, ◌≤◌, Bool, true, false, cond, eqb, ltb, List, [], ◌∷◌, ◌++◌, length, map, drop, drop-cons, get_or, Option, Some, refl, sym, ap, ◌∙◌, subst, arith, zero, suc, append_assoc}
use Rattle.std.specs.List.{flat_map, insert, list_all}
use Rattle.std.proofs.lemmas.Bool.{eqb-true}
use Rattle.std.proofs.lemmas.List.{drop_all}
use Rattle.exec_graph.specs.Forests.{Forest, Bare, Grow, Branch, Twig, grown, limb, twigs}
use Rattle.exec_graph.specs.Meaning.{node_at}
use Rattle.exec_graph.specs.Twigs.{twig}
use Rattle.exec_graph.specs.declared.step.Output.{Output}
use Rattle.exec_graph.specs.declared.graph.Entry.{Entry}
use Rattle.graph_laws.specs.Joining.{beside}
use Rattle.pardo_fuse.specs.Readers.{Cut}
use Rattle.pardo_fuse.specs.Fusing.{least_number, least_at, least_of, lesser_number, members, over_outs}
use Rattle.pardo_fuse.specs.Renumbering.{entries_in_order, put_entry}
use Rattle.pardo_fuse.specs.inner.Naming.{steps_at}
use Rattle.pardo_fuse.specs.inner.Numbers.{least_from, members_at, place_before}
use Rattle.pardo_fuse.proofs.Growing.{beside_limb}
use Rattle.pardo_fuse.proofs.Places.{and_left, and_right}

-- ---- lists one after another
pub least_more : (n : ℕ) (xs ys : List ℕ)
    → least_number n (xs ++ ys) ≡ least_number (least_number n xs) ys
least_more n [] ys = refl
least_more n (x ∷ xs) ys = least_more (lesser_number n x) xs ys

-- one part is done
pub least_step : (start old new : ℕ) (whole left part rest : List ℕ) → left ≡ part ++ rest
    → least_number old left ≡ least_number start whole → new ≡ least_number old part
    → least_number new rest ≡ least_number start whole
least_step start old new whole left part rest e h i =
    ap (λ (n : ℕ). least_number n rest) i ∙ sym (least_more old part rest)
    ∙ ap (least_number old) (sym e) ∙ h

-- ---- Pdos one after another
abbrev pub around : Cut → ℕ → ℕ → List ℕ
around b k n = n ∷ over_outs (members_at b k n) (steps_at b n)

members_next : (b : Cut) (k : ℕ) (ns : List ℕ)
    → members b (suc k) ns ≡ flat_map (around b k) ns
unfolding members
members_next b k ns = refl

pub members_none : (b : Cut) (k : ℕ) (ns : List ℕ) → k ≡ 0 → members b k ns ≡ []
unfolding members
members_none b k ns e = ap (λ (j : ℕ). members b j ns) e

pub members_some : (b : Cut) (k : ℕ) (ns : List ℕ) → 0 < k
    → members b k ns ≡ flat_map (around b (k - 1)) ns
members_some b zero ns h = absurd (omega arith)
members_some b (suc k) ns h =
    let e : suc k - 1 ≡ k = omega arith in
    members_next b k ns ∙ ap (λ (j : ℕ). flat_map (around b j) ns) (sym e)

pub around_split : (b : Cut) (k i : ℕ) (ns : List ℕ) → i < length ns
    → flat_map (around b k) (drop i ns)
    ≡ around b k (get_or ns i 0) ++ flat_map (around b k) (drop (i + 1) ns)
around_split b k i ns h =
    let n : ℕ = get_or ns i 0 in
    let one : suc i ≡ i + 1 = omega arith in
    ap (flat_map (around b k)) (drop-cons ns i 0 h ∙ ap (λ (j : ℕ). n ∷ drop j ns) one)

pub around_done : (b : Cut) (k i : ℕ) (ns : List ℕ) → length ns ≤ i
    → flat_map (around b k) (drop i ns) ≡ []
around_done b k i ns h = ap (flat_map (around b k)) (drop_all i ns h)

-- ---- the steps of a Pdo
over_beside : (over : Option ℕ → List ℕ) (f g : Forest)
    → over_outs over (beside f g) ≡ over_outs over f ++ over_outs over g
over_beside over Bare g = refl
over_beside over (Grow l kids rest) g =
    ap (λ (xs : List ℕ). over l.out ++ xs) (over_beside over rest g)
    ∙ sym (append_assoc (over l.out) (over_outs over rest) (over_outs over g))

over_split : (over : Option ℕ → List ℕ) (s : Branch) (ss : List Branch)
    → over_outs over (grown (s ∷ ss))
    ≡ over_outs over (limb s Bare) ++ over_outs over (grown ss)
over_split over s ss =
    ap (over_outs over) (sym (beside_limb s Bare (grown ss)))
    ∙ over_beside over (limb s Bare) (grown ss)

-- ---- the outputs of a step
over_twigs : (over : Option ℕ → List ℕ) (s : Branch) (at : ℕ) (ts : List Twig)
    → over_outs over (twigs s at ts Bare) ≡ flat_map (λ (t : Twig). over t.out) ts
over_twigs over s at [] = refl
over_twigs over s at (t ∷ ts) =
    ap (λ (xs : List ℕ). over t.out ++ xs) (over_twigs over s (suc at) ts)

over_limb : (over : Option ℕ → List ℕ) (s : Branch)
    → over_outs over (limb s Bare) ≡ over s.first.out ++ flat_map (λ (t : Twig). over t.out) s.more
over_limb over s = ap (λ (xs : List ℕ). over s.first.out ++ xs) (over_twigs over s 1 s.more)

-- ---- in loops
drop_item : {X : Type 0} (i : ℕ) (xs : List X) (x : X) → i < length xs → x ≡ get_or xs i x
    → drop i xs ≡ x ∷ drop (i + 1) xs
drop_item {X} i xs x h e =
    let one : suc i ≡ i + 1 = omega arith in
    drop-cons xs i x h ∙ ap (λ (y : X). y ∷ drop (suc i) xs) (sym e)
    ∙ ap (λ (j : ℕ). x ∷ drop j xs) one

pub over_left : (over : Option ℕ → List ℕ) (i : ℕ) (ss : List Branch) (s : Branch)
    → i < length ss → s ≡ get_or ss i s
    → over_outs over (grown (drop i ss))
    ≡ over_outs over (limb s Bare) ++ over_outs over (grown (drop (i + 1) ss))
over_left over i ss s h e =
    ap (λ (xs : List Branch). over_outs over (grown xs)) (drop_item i ss s h e)
    ∙ over_split over s (drop (i + 1) ss)

pub outs_left : (over : Option ℕ → List ℕ) (i : ℕ) (os : List Output) (o : Output)
    → i < length os → o ≡ get_or os i o
    → flat_map (λ (t : Twig). over t.out) (map twig (drop i os))
    ≡ over o.number ++ flat_map (λ (t : Twig). over t.out) (map twig (drop (i + 1) os))
outs_left over i os o h e =
    ap (λ (xs : List Output). flat_map (λ (t : Twig). over t.out) (map twig xs))
    (drop_item i os o h e)

-- the first output is done
pub limb_begun : (over : Option ℕ → List ℕ) (start now : ℕ) (o : Option ℕ) (s : Branch)
    (ts : List Twig) → now ≡ least_number start (over o) → o ≡ s.first.out → ts ≡ s.more
    → least_number now (flat_map (λ (t : Twig). over t.out) ts)
    ≡ least_number start (over_outs over (limb s Bare))
limb_begun over start now o s ts h e f =
    let rest : List Twig → List ℕ = λ us. flat_map (λ (t : Twig). over t.out) us in
    ap (λ (n : ℕ). least_number n (rest ts)) (h ∙ ap (λ (p : Option ℕ). least_number start (over p))
    e)
    ∙ sym (least_more start (over s.first.out) (rest ts))
    ∙ ap (λ (us : List Twig). least_number start (over s.first.out ++ rest us)) f
    ∙ ap (least_number start) (sym (over_limb over s))

-- ---- nodes put in order
abbrev pub put_onto : List Entry → List Entry → List Entry
put_onto [] ds = ds
put_onto (e ∷ es) ds = put_entry e (put_onto es ds)

pub onto_none : (es : List Entry) → put_onto es [] ≡ entries_in_order es
onto_none [] = refl
onto_none (e ∷ es) = ap (put_entry e) (onto_none es)

pub onto_last : (es : List Entry) (e : Entry) (ds : List Entry)
    → put_onto (es ++ e ∷ []) ds ≡ put_onto es (put_entry e ds)
onto_last [] e ds = refl
onto_last (x ∷ xs) e ds = ap (put_entry x) (onto_last xs e ds)

pub put_inserts : (e : Entry) (ds : List Entry)
    → insert ds (place_before e.number ds) e ≡ put_entry e ds
put_inserts e [] = refl
put_inserts e (d ∷ ds) = by (ltb e.number d.number) (put_inserts e ds)
  where
    p : ℕ
    p = place_before e.number ds

    by : (b : Bool) → insert ds p e ≡ put_entry e ds
        → insert (d ∷ ds) (cond b 0 (p + 1)) e ≡ cond b (e ∷ (d ∷ ds)) (d ∷ put_entry e ds)
    by true i = refl
    by false i =
        let one : p + 1 ≡ suc p = omega arith in
        ap (λ (k : ℕ). insert (d ∷ ds) k e) one ∙ ap (λ (l : List Entry). d ∷ l) i

-- ---- the table of numbers
told_at : (b : Cut) (es : List Entry) (n : ℕ) → least_from b es n ≡ least_at b n (node_at es n)
told_at b [] n = refl
told_at b (e ∷ es) n = by (eqb e.number n) refl (told_at b es n)
  where
    by : (t : Bool) → eqb e.number n ≡ t → least_from b es n ≡ least_at b n (node_at es n)
        → cond t (least_at b e.number (Some e.node)) (least_from b es n)
        ≡ least_at b n (cond t (Some e.node) (node_at es n))
    by true i h = ap (λ (k : ℕ). least_at b k (Some e.node)) (eqb-true e.number n i)
    by false i h = h

pub least_told : (b : Cut) (n : ℕ) → least_from b b.graph.nodes n ≡ least_of b n
least_told b n = told_at b b.graph.nodes n

-- where all numbers that are there stay, all do
pub stay_told : (b : Cut) (r : ℕ → ℕ) (ds : List Entry)
    → list_all (λ (e : Entry). eqb (r e.number) e.number) ds ≡ true → (n : ℕ)
    → r n ≡ least_from b ds n → r n ≡ n
stay_told b r [] h n told = told
stay_told b r (e ∷ es) h n told =
    by (eqb e.number n) refl told
    (stay_told b r es (and_right (eqb (r e.number) e.number)
    (list_all (λ (d : Entry). eqb (r d.number) d.number) es) h) n)
  where
    by : (t : Bool) → eqb e.number n ≡ t
        → r n ≡ cond t (least_at b e.number (Some e.node)) (least_from b es n)
        → (r n ≡ least_from b es n → r n ≡ n) → r n ≡ n
    by true i j rest =
        let is : e.number ≡ n = eqb-true e.number n i in
        let stays : r e.number ≡ e.number =
        eqb-true (r e.number) e.number (and_left (eqb (r e.number) e.number)
        (list_all (λ (d : Entry). eqb (r d.number) d.number) es) h) in
        subst (λ (k : ℕ). r k ≡ k) is stays
    by false i j rest = rest j
