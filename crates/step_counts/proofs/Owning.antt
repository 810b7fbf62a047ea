-- Owners, step by step and output by output.
use Rattle.std.proofs.Common.{◌≡◌, ◌≤◌, ℕ, suc, List, [], ◌∷◌, ◌++◌, Option, drop, length, map, append-nil, append_assoc, refl, sym, ap, ◌∙◌}
use Rattle.std.proofs.Math.ListN.{drop_of_length-le}
use Rattle.exec_graph.specs.Forests.{Branch, Forest, Twig, grown, label_at, twigs}
use Rattle.task_lists.specs.Runs.{labels_in}
use Rattle.step_counts.specs.Owners.{owner, owners_in}
use Rattle.step_counts.specs.inner.Owned.{branch_owners, branches_owners, twigs_owners}

map-append : {A B : Type 0} (f : A → B) (xs ys : List A) → map f (xs ++ ys) ≡ map f xs ++ map f ys
map-append f [] ys = refl
map-append f (x ∷ xs) ys = ap (λ l. f x ∷ l) (map-append f xs ys)

twigs_are : (b : Branch) (n : ℕ) (ts : List Twig) (rest : Forest)
    → owners_in (twigs b n ts rest) ≡ twigs_owners b n ts ++ owners_in rest
twigs_are b n [] rest = refl
twigs_are b n (t ∷ ts) rest =
    ap (λ l. owner (label_at b n t) ∷ l)
    (map-append owner (labels_in t.kids) (labels_in (twigs b (suc n) ts rest))
    ∙ ap (λ l. owners_in t.kids ++ l) (twigs_are b (suc n) ts rest)
    ∙ sym (append_assoc (owners_in t.kids) (twigs_owners b (suc n) ts) (owners_in rest)))

pub grown_are : (bs : List Branch) → owners_in (grown bs) ≡ branches_owners bs
grown_are [] = refl
grown_are (b ∷ bs) =
    twigs_are b 0 (b.first ∷ b.more) (grown bs)
    ∙ ap (λ l. branch_owners b ++ l) (grown_are bs)

-- behind the last branch
pub all_owned : (now whole : List (Option ℕ)) (bs : List Branch) (i : ℕ) → length bs ≤ i
    → now ++ branches_owners (drop i bs) ≡ whole → now ≡ whole
all_owned now whole bs i past along =
    sym (ap (λ l. now ++ branches_owners l) (drop_of_length-le bs past) ∙ append-nil now) ∙ along
