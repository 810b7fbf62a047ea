-- Forests under other numbers, as the steps are held.
use Rattle.std.proofs.Common.{◌≡◌, ℕ, suc, Bool, List, [], ◌∷◌, ◌++◌, map, Option, refl, sym, ap, ap₂, ◌∙◌}
use Rattle.graph_laws.specs.of_exec_graph.Forests.{Branch, Forest, Bare, Grow, Label, Twig, grown, label_at, limb, twigs, with_out}
use Rattle.graph_laws.specs.of_exec_graph.Twigs.{twig}
use Rattle.graph_laws.specs.of_exec_graph.declared.step.Step.TheInside.{Inside}
use Rattle.graph_laws.specs.Joining.{beside}
use Rattle.graph_laws.specs.Kids.{kept_by, named_by, out_kept, out_named}
use Rattle.graph_walks.specs.inner.Relabels.{relabelled, relabelled_branch, relabelled_twig}

abbrev pub twig_of : Option ℕ → Forest → Twig
twig_of o f = record { out = o; kids = f }

-- a step with other outputs
abbrev pub step_of : Branch → Twig → List Twig → Branch
step_of b f ms =
    record { origin = b.origin; last = b.last; does = b.does; first = f; more = ms }

-- a step that is held in its parts
abbrev pub held : Inside → Branch
held a = record {
  origin = a.origin;
  last = a.last;
  does = a.does;
  first = twig a.first;
  more = map twig a.more.items;
}

-- ---- steps one behind the other

twigs_beside : (b : Branch) (n : ℕ) (ts : List Twig) (rest g : Forest)
    → beside (twigs b n ts rest) g ≡ twigs b n ts (beside rest g)
twigs_beside b n [] rest g = refl
twigs_beside b n (t ∷ ts) rest g =
    ap (λ (f : Forest). Grow (label_at b n t) t.kids f) (twigs_beside b (suc n) ts rest g)

pub grown_append : (xs ys : List Branch) → grown (xs ++ ys) ≡ beside (grown xs) (grown ys)
grown_append [] ys = refl
grown_append (b ∷ bs) ys =
    ap (λ (f : Forest). limb b f) (grown_append bs ys)
    ∙ sym (twigs_beside b 0 (b.first ∷ b.more) (grown bs) (grown ys))

-- ---- other numbers

twigs_relabelled : (r : Option ℕ → Option ℕ) (b : Branch) (n : ℕ) (ts : List Twig)
    (rest : Forest) → relabelled r (twigs b n ts rest)
    ≡ twigs (relabelled_branch r b) n (map (relabelled_twig r) ts) (relabelled r rest)
twigs_relabelled r b n [] rest = refl
twigs_relabelled r b n (t ∷ ts) rest =
    ap (λ (f : Forest). Grow (with_out (r t.out) (label_at b n t)) (relabelled r t.kids) f)
    (twigs_relabelled r b (suc n) ts rest)

grown_relabelled : (r : Option ℕ → Option ℕ) (bs : List Branch)
    → grown (map (relabelled_branch r) bs) ≡ relabelled r (grown bs)
grown_relabelled r [] = refl
grown_relabelled r (b ∷ bs) =
    ap (λ (f : Forest). limb (relabelled_branch r b) f) (grown_relabelled r bs)
    ∙ sym (twigs_relabelled r b 0 (b.first ∷ b.more) (grown bs))

-- one function gives it all forests, where it does so to each label
relabelled_is : (r : Option ℕ → Option ℕ) (k : Forest → Forest) → k Bare ≡ Bare
    → ((l : Label) (f h : Forest) → k (Grow l f h) ≡ Grow (with_out (r l.out) l) (k f) (k h))
    → (f : Forest) → relabelled r f ≡ k f
relabelled_is r k bare grow Bare = sym bare
relabelled_is r k bare grow (Grow l kids rest) =
    ap₂ (λ (f h : Forest). Grow (with_out (r l.out) l) f h) (relabelled_is r k bare grow kids)
    (relabelled_is r k bare grow rest) ∙ sym (grow l kids rest)

pub grown_named : (r : ℕ → ℕ) (bs : List Branch)
    → grown (map (relabelled_branch (out_named r)) bs) ≡ named_by r (grown bs)
grown_named r bs =
    grown_relabelled (out_named r) bs
    ∙ relabelled_is (out_named r) (named_by r) refl (λ l f h. refl) (grown bs)

pub grown_kept : (keep : ℕ → Bool) (bs : List Branch)
    → grown (map (relabelled_branch (out_kept keep)) bs) ≡ kept_by keep (grown bs)
grown_kept keep bs =
    grown_relabelled (out_kept keep) bs
    ∙ relabelled_is (out_kept keep) (kept_by keep) refl (λ l f h. refl) (grown bs)

-- an output whose kids are done
pub relabelled_end : (r : Option ℕ → Option ℕ) (out number : Option ℕ) (kids now : List Branch)
    → number ≡ r out → now ≡ map (relabelled_branch r) kids
    → twig_of number (grown now) ≡ relabelled_twig r (twig_of out (grown kids))
relabelled_end r out number kids now e d =
    ap₂ twig_of e (ap grown d ∙ grown_relabelled r kids)
