-- Outputs numbered one behind the other, as the steps are held.
use Rattle.std.proofs.Common.{◌≡◌, ℕ, suc, ◌+◌, List, [], ◌∷◌, ◌++◌, length, Option, Some, None, refl, sym, ap, ap₂, ◌∙◌, arith, append_assoc, length-append}
use Rattle.std.specs.List.{flat_map}
use Rattle.graph_laws.specs.of_exec_graph.Forests.{Branch, Forest, Bare, Grow, Twig, next_after, after_out, grown, label_at, limb, new_label, numbered, twigs}
use Rattle.graph_walks.specs.Outs.{out_list, outs}
use Rattle.graph_walks.specs.inner.Numbering.{after_branch, after_twig, after_twigs, branch_outs, branches_outs, numbered_branch, numbered_branches, numbered_twigs, twig_outs, twigs_outs}

-- ---- the forest

twigs_numbered : (b : Branch) (m k n : ℕ) (ts : List Twig) (rest : Forest)
    → numbered n (twigs b k ts rest)
    ≡ twigs (numbered_branch m b) k (numbered_twigs n ts) (numbered (after_twigs n ts) rest)
twigs_numbered b m k n [] rest = refl
twigs_numbered b m k n (t ∷ ts) rest =
    ap (λ (f : Forest). Grow (new_label n (label_at b k t))
    (numbered (after_out n t.out) t.kids) f)
    (twigs_numbered b m (suc k) (after_twig n t) ts rest)

pub grown_numbered : (n : ℕ) (bs : List Branch)
    → grown (numbered_branches n bs) ≡ numbered n (grown bs)
grown_numbered n [] = refl
grown_numbered n (b ∷ bs) =
    ap (λ (f : Forest). limb (numbered_branch n b) f) (grown_numbered (after_branch n b) bs)
    ∙ sym (twigs_numbered b n 0 n (b.first ∷ b.more) (grown bs))

-- ---- its outputs

outs_twigs : (b : Branch) (k : ℕ) (ts : List Twig) (rest : Forest)
    → outs (twigs b k ts rest) ≡ twigs_outs ts ++ outs rest
outs_twigs b k [] rest = refl
outs_twigs b k (t ∷ ts) rest =
    ap (λ ns. out_list t.out ++ (outs t.kids ++ ns)) (outs_twigs b (suc k) ts rest)
    ∙ sym (append_assoc (out_list t.out) (outs t.kids) (twigs_outs ts ++ outs rest))
    ∙ sym (append_assoc (twig_outs t) (twigs_outs ts) (outs rest))

pub outs_grown : (bs : List Branch) → branches_outs bs ≡ outs (grown bs)
outs_grown [] = refl
outs_grown (b ∷ bs) =
    ap (λ ns. branch_outs b ++ ns) (outs_grown bs)
    ∙ sym (outs_twigs b 0 (b.first ∷ b.more) (grown bs))

-- ---- how many they are

pub out_count : (n : ℕ) (o : Option ℕ) → after_out n o ≡ n + length (out_list o)
out_count n None = omega arith
out_count n (Some j) = refl

pub after_count : (n : ℕ) (f : Forest) → next_after n f ≡ n + length (outs f)
after_count n Bare = omega arith
after_count n (Grow l kids rest) =
    let a = out_count n l.out in
    let b = after_count (after_out n l.out) kids in
    let c = after_count (next_after (after_out n l.out) kids) rest in
    let d = length-append (out_list l.out) (outs kids ++ outs rest) in
    let e = length-append (outs kids) (outs rest) in
    omega arith

pub twig_count : (n : ℕ) (t : Twig) → after_twig n t ≡ n + length (twig_outs t)
twig_count n t =
    let a = out_count n t.out in
    let b = after_count (after_out n t.out) t.kids in
    let c = length-append (out_list t.out) (outs t.kids) in
    omega arith

twigs_count : (n : ℕ) (ts : List Twig) → after_twigs n ts ≡ n + length (twigs_outs ts)
twigs_count n [] = omega arith
twigs_count n (t ∷ ts) =
    let a = twig_count n t in
    let b = twigs_count (after_twig n t) ts in
    let c = length-append (twig_outs t) (twigs_outs ts) in
    omega arith

pub branch_count : (n : ℕ) (b : Branch) → after_branch n b ≡ n + length (branch_outs b)
branch_count n b = twigs_count n (b.first ∷ b.more)

-- ---- one more

pub counted : {X : Type 0} (behind : ℕ → X → ℕ) (outs_of : X → List ℕ)
    → ((n : ℕ) (x : X) → behind n x ≡ n + length (outs_of x))
    → (before after : List ℕ) (x : X) → after ≡ before ++ outs_of x
    → length after ≡ behind (length before) x
counted behind outs_of counts before after x f =
    ap length f ∙ length-append before (outs_of x) ∙ sym (counts (length before) x)

pub outs_more : {X : Type 0} (outs_of : X → List ℕ) (before after : List ℕ) (x : X) (xs : List X)
    → after ≡ before ++ outs_of x
    → after ++ flat_map outs_of xs ≡ before ++ flat_map outs_of (x ∷ xs)
outs_more outs_of before after x xs f =
    ap (λ ns. ns ++ flat_map outs_of xs) f
    ∙ append_assoc before (outs_of x) (flat_map outs_of xs)
