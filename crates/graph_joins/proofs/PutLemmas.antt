-- Roots on an output that is dropped or not.
use Rattle.std.proofs.Common.{◌≡◌, ℕ, Bool, true, false, cond, eqb, ◌||◌, Option, Some, None, refl, sym, ap, ap₂, ◌∙◌}
use Rattle.exec_graph.specs.Forests.{Forest, Bare, Grow, with_out}
use Rattle.exec_graph.specs.Meaning.{OutsDiffer, has_out, is_out}
use Rattle.exec_graph.proofs.Bools.{or_false}
use Rattle.graph_laws.specs.Joining.{beside, grafted}
use Rattle.graph_laws.specs.Kids.{kept_by, out_kept}
use Rattle.graph_states.specs.States.{all_but}
use Rattle.graph_walks.specs.inner.Plants.{put_in, put_out}
use Rattle.graph_walks.proofs.PlantLemmas.{grafted_none}

out_but : (j : ℕ) (k : Bool) (o : Option ℕ) → put_out j k o ≡ out_kept (all_but j k) o
out_but j k None = refl
out_but j k (Some i) = by (eqb i j)
  where
    by : (b : Bool) → cond b (cond k (Some i) None) (Some i) ≡ cond (cond b k true) (Some i) None
    by true = refl
    by false = refl

-- without the output all is kept
kept_none : (j : ℕ) (k : Bool) (f : Forest) → has_out j f ≡ false
    → kept_by (all_but j k) f ≡ f
kept_none j k Bare h = refl
kept_none j k (Grow l kids rest) h =
    let a = or_false (is_out l.out j) (has_out j kids || has_out j rest) h in
    let b = or_false (has_out j kids) (has_out j rest) a.1 in
    ap (λ (o : Option ℕ). Grow (with_out o l) (kept_by (all_but j k) kids)
    (kept_by (all_but j k) rest)) (sym (out_but j k l.out)
    ∙ ap (λ (x : Bool). cond x (cond k l.out None) l.out) a.0)
    ∙ ap₂ (λ (m r : Forest). Grow l m r) (kept_none j k kids b.0) (kept_none j k rest b.1)

kept_beside : (r : ℕ → Bool) (f g : Forest)
    → kept_by r (beside f g) ≡ beside (kept_by r f) (kept_by r g)
kept_beside r Bare g = refl
kept_beside r (Grow l kids rest) g =
    ap (λ (x : Forest). Grow (with_out (out_kept r l.out) l) (kept_by r kids) x)
    (kept_beside r rest g)

-- the roots are put on one output at most, which is dropped then or not
pub put_kept : (j : ℕ) (k : Bool) (g f : Forest) → OutsDiffer f → has_out j g ≡ false
    → put_in j k g f ≡ kept_by (all_but j k) (grafted j g f)
put_kept j k g Bare d none = refl
put_kept j k g (Grow l kids rest) d none =
    by (is_out l.out j) (has_out j kids) refl refl (put_kept j k g kids d.2 none)
    (put_kept j k g rest d.3 none)
  where
    r : ℕ → Bool
    r = all_but j k

    same : (m n : Forest) → Grow (with_out (put_out j k l.out) l) m n
        ≡ Grow (with_out (out_kept r l.out) l) m n
    same m n = ap (λ (o : Option ℕ). Grow (with_out o l) m n) (out_but j k l.out)

    by : (a b : Bool) → is_out l.out j ≡ a → has_out j kids ≡ b
        → put_in j k g kids ≡ kept_by r (grafted j g kids)
        → put_in j k g rest ≡ kept_by r (grafted j g rest)
        → Grow (with_out (put_out j k l.out) l) (cond a (beside kids g) (put_in j k g kids))
        (cond (a || b) rest (put_in j k g rest))
        ≡ kept_by r (cond a (Grow l (beside kids g) rest)
        (Grow l (grafted j g kids) (grafted j g rest)))
    by true b e i m n =
        let out = or_false (has_out j kids) (has_out j rest) (d.0 j e) in
        same (beside kids g) rest
        ∙ ap₂ (λ (x y : Forest). Grow (with_out (out_kept r l.out) l) x y)
        (ap₂ beside (sym (kept_none j k kids out.0)) (sym (kept_none j k g none))
        ∙ sym (kept_beside r kids g)) (sym (kept_none j k rest out.1))
    by false true e i m n =
        same (put_in j k g kids) rest
        ∙ ap₂ (λ (x y : Forest). Grow (with_out (out_kept r l.out) l) x y) m
        (sym (kept_none j k rest (d.1 j i))
        ∙ ap (kept_by r) (grafted_none j g rest (d.1 j i)))
    by false false e i m n =
        same (put_in j k g kids) (put_in j k g rest)
        ∙ ap₂ (λ (x y : Forest). Grow (with_out (out_kept r l.out) l) x y) m n
