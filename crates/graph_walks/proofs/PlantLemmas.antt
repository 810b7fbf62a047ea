-- Roots on an output, as the steps are held.
use Rattle.std.proofs.Common.{◌≡◌, ℕ, suc, Bool, true, false, cond, ◌||◌, List, [], ◌∷◌, Option, refl, sym, ap, ap₂, ◌∙◌}
use Rattle.graph_laws.specs.of_exec_graph.Forests.{Branch, Forest, Bare, Grow, Twig, grown, label_at, limb, twigs, with_out}
use Rattle.graph_laws.specs.of_exec_graph.Meaning.{OutsDiffer, has_out, is_out}
use Rattle.graph_laws.proofs.of_exec_graph.Bools.{or_false}
use Rattle.graph_laws.specs.Joining.{beside, grafted}
use Rattle.graph_walks.specs.inner.Plants.{on_branch, on_branches, on_twig, on_twigs, put_branch, put_branches, put_in, put_out, put_twigs}

-- ---- whether an output is there

or_thrice : (a b c d : Bool) → (a || (b || (c || d))) ≡ (((a || b) || c) || d)
or_thrice true b c d = refl
or_thrice false true c d = refl
or_thrice false false c d = refl

has_twigs : (j : ℕ) (b : Branch) (n : ℕ) (ts : List Twig) (rest : Forest)
    → has_out j (twigs b n ts rest) ≡ (on_twigs j ts || has_out j rest)
has_twigs j b n [] rest = refl
has_twigs j b n (t ∷ ts) rest =
    ap (λ x. is_out t.out j || (has_out j t.kids || x)) (has_twigs j b (suc n) ts rest)
    ∙ or_thrice (is_out t.out j) (has_out j t.kids) (on_twigs j ts) (has_out j rest)

pub has_grown : (j : ℕ) (bs : List Branch) → on_branches j bs ≡ has_out j (grown bs)
has_grown j [] = refl
has_grown j (b ∷ bs) =
    ap (λ x. on_branch j b || x) (has_grown j bs)
    ∙ sym (has_twigs j b 0 (b.first ∷ b.more) (grown bs))

-- ---- the forest of the steps

-- the outputs of a step that differs in its outputs alone
twigs_stay : (j : ℕ) (k : Bool) (g : Forest) (b : Branch) (n : ℕ) (ts : List Twig)
    (rest : Forest) → twigs b n ts rest ≡ twigs (put_branch j k g b) n ts rest
twigs_stay j k g b n [] rest = refl
twigs_stay j k g b n (t ∷ ts) rest =
    ap (λ (f : Forest). Grow (label_at b n t) t.kids f) (twigs_stay j k g b (suc n) ts rest)

twigs_put : (j : ℕ) (k : Bool) (g : Forest) (b : Branch) (n : ℕ) (ts : List Twig)
    (rest : Forest) → put_in j k g (twigs b n ts rest)
    ≡ twigs (put_branch j k g b) n (put_twigs j k g ts)
    (cond (on_twigs j ts) rest (put_in j k g rest))
twigs_put j k g b n [] rest = refl
twigs_put j k g b n (t ∷ ts) rest =
    ap (λ (f : Forest). Grow (with_out (put_out j k t.out) (label_at b n t))
    (cond (is_out t.out j) (beside t.kids g) (put_in j k g t.kids)) f)
    (by (on_twig j t) (twigs_put j k g b (suc n) ts rest))
  where
    by : (x : Bool) → put_in j k g (twigs b (suc n) ts rest)
        ≡ twigs (put_branch j k g b) (suc n) (put_twigs j k g ts)
        (cond (on_twigs j ts) rest (put_in j k g rest))
        → cond x (twigs b (suc n) ts rest) (put_in j k g (twigs b (suc n) ts rest))
        ≡ twigs (put_branch j k g b) (suc n) (cond x ts (put_twigs j k g ts))
        (cond (x || on_twigs j ts) rest (put_in j k g rest))
    by true h = twigs_stay j k g b (suc n) ts rest
    by false h = h

pub grown_put : (j : ℕ) (k : Bool) (g : Forest) (bs : List Branch)
    → grown (put_branches j k g bs) ≡ put_in j k g (grown bs)
grown_put j k g [] = refl
grown_put j k g (b ∷ bs) =
    ap (λ (f : Forest). limb (put_branch j k g b) f)
    (by (on_branch j b) (grown_put j k g bs))
    ∙ sym (twigs_put j k g b 0 (b.first ∷ b.more) (grown bs))
  where
    by : (x : Bool) → grown (put_branches j k g bs) ≡ put_in j k g (grown bs)
        → grown (cond x bs (put_branches j k g bs)) ≡ cond x (grown bs) (put_in j k g (grown bs))
    by true h = refl
    by false h = h

-- ---- on one output at most

pub grafted_none : (j : ℕ) (g f : Forest) → has_out j f ≡ false → f ≡ grafted j g f
grafted_none j g Bare h = refl
grafted_none j g (Grow l kids rest) h =
    let a = or_false (is_out l.out j) (has_out j kids || has_out j rest) h in
    let b = or_false (has_out j kids) (has_out j rest) a.1 in
    ap₂ (λ (k r : Forest). Grow l k r) (grafted_none j g kids b.0) (grafted_none j g rest b.1)
    ∙ ap (λ (c : Bool). cond c (Grow l (beside kids g) rest)
    (Grow l (grafted j g kids) (grafted j g rest))) (sym a.0)

-- the output stays where it is kept
out_stays : (j : ℕ) (o : Option ℕ) → put_out j true o ≡ o
out_stays j o = by (is_out o j)
  where
    by : (b : Bool) → cond b o o ≡ o
    by true = refl
    by false = refl

put_grafted : (j : ℕ) (g f : Forest) → OutsDiffer f → put_in j true g f ≡ grafted j g f
put_grafted j g Bare d = refl
put_grafted j g (Grow l kids rest) d =
    ap (λ (o : Option ℕ). Grow (with_out o l)
    (cond (is_out l.out j) (beside kids g) (put_in j true g kids))
    (cond (is_out l.out j || has_out j kids) rest (put_in j true g rest))) (out_stays j l.out)
    ∙ by (is_out l.out j) (has_out j kids) refl (put_grafted j g kids d.2)
    (put_grafted j g rest d.3)
  where
    by : (a b : Bool) → has_out j kids ≡ b → put_in j true g kids ≡ grafted j g kids
        → put_in j true g rest ≡ grafted j g rest
        → Grow l (cond a (beside kids g) (put_in j true g kids))
        (cond (a || b) rest (put_in j true g rest))
        ≡ cond a (Grow l (beside kids g) rest) (Grow l (grafted j g kids) (grafted j g rest))
    by true b e k r = refl
    by false true e k r =
        ap₂ (λ (m o : Forest). Grow l m o) k (grafted_none j g rest (d.1 j e))
    by false false e k r = ap₂ (λ (m o : Forest). Grow l m o) k r

pub grown_grafted : (j : ℕ) (g : Forest) (bs : List Branch) → OutsDiffer (grown bs)
    → grown (put_branches j true g bs) ≡ grafted j g (grown bs)
grown_grafted j g bs d = grown_put j true g bs ∙ put_grafted j g (grown bs) d
