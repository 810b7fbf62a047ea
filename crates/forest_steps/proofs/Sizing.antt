-- The table of sizes, as it grows.
use Rattle.std.proofs.Common.{◌≡◌, ℕ, ◌-◌, suc, List, [], ◌∷◌, ◌++◌, length, length-append, append_assoc, refl, sym, ap, ◌∙◌, arith}
use Rattle.std.specs.Prelude.{slice_set}
use Rattle.exec_graph.specs.Forests.{Branch, Forest, Bare, Grow, Twig, grown, twigs}
use Rattle.exec_graph.specs.Twigs.{twig}
use Rattle.exec_graph.specs.declared.step.Output.{Output}
use Rattle.forest_steps.specs.Places.{outputs_in, sizes_in}
use Rattle.forest_steps.specs.inner.Sizes.{branch_sizes, branches_sizes, twig_sizes, twigs_sizes}

twigs_are : (b : Branch) (n : ℕ) (ts : List Twig) (rest : Forest)
    → sizes_in (twigs b n ts rest) ≡ twigs_sizes ts ++ sizes_in rest
twigs_are b n [] rest = refl
twigs_are b n (t ∷ ts) rest =
    ap (λ l. suc (outputs_in t.kids) ∷ l)
    (ap (λ l. sizes_in t.kids ++ l) (twigs_are b (suc n) ts rest)
    ∙ sym (append_assoc (sizes_in t.kids) (twigs_sizes ts) (sizes_in rest)))

pub grown_are : (bs : List Branch) → sizes_in (grown bs) ≡ branches_sizes bs
grown_are [] = refl
grown_are (b ∷ bs) =
    twigs_are b 0 (b.first ∷ b.more) (grown bs)
    ∙ ap (λ l. branch_sizes b ++ l) (grown_are bs)

pub sizes_length : (f : Forest) → length (sizes_in f) ≡ outputs_in f
sizes_length Bare = refl
sizes_length (Grow l kids rest) =
    let a = sizes_length kids in
    let b = sizes_length rest in
    let c = length-append (sizes_in kids) (sizes_in rest) in omega arith

set_behind : (before after : List ℕ) (n m : ℕ)
    → slice_set (before ++ m ∷ after) (length before) n ≡ before ++ n ∷ after
set_behind [] after n m = refl
set_behind (x ∷ before) after n m = ap (λ l. x ∷ l) (set_behind before after n m)

-- the size of an output stands once its kids do
pub size_stands : (o : Output) (old now : List ℕ) (at n : ℕ) (items : List Branch)
    → items ≡ o.kids.items → at ≡ length old → now ≡ old ++ 0 ∷ branches_sizes items
    → n ≡ length now - at → slice_set now at n ≡ old ++ twig_sizes (twig o)
size_stands o old now at n items same here is size =
    let kids = grown o.kids.items in
    let whole : branches_sizes items ≡ sizes_in kids =
    ap branches_sizes same ∙ sym (grown_are o.kids.items) in
    let stands : now ≡ old ++ 0 ∷ sizes_in kids = is ∙ ap (λ l. old ++ 0 ∷ l) whole in
    let count : n ≡ suc (outputs_in kids) =
    let a = ap length stands in
    let b = length-append old (0 ∷ sizes_in kids) in
    let c = sizes_length kids in omega arith in
    (λ i. slice_set (stands i) (here i) (count i))
    ∙ set_behind old (sizes_in kids) (suc (outputs_in kids)) 0
