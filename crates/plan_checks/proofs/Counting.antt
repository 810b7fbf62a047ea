-- Outputs counted branch by branch, and their numbers followed so.
use Rattle.std.proofs.Common.{◌≡◌, ℕ, ◌+◌, ◌≤◌, List, [], ◌∷◌, Option, Some, None, suc, refl, sym, ap, ◌∙◌, arith}
use Rattle.exec_graph.specs.Forests.{Branch, Twig, Forest, twigs, limb, grown}
use Rattle.exec_graph.specs.Twigs.{twig}
use Rattle.exec_graph.specs.declared.step.Output.{Output}
use Rattle.exec_plan.specs.Wellformed.{outputs_told, out_count}
use Rattle.plan_checks.specs.inner.Counts.{branch_from, branch_kept, branches_from, branches_kept, out_from, outs_from, then_from, twig_from, twigs_from, twigs_kept}

twigs_counted : (b : Branch) (n : ℕ) (ts : List Twig) (rest : Forest)
    → outputs_told (twigs b n ts rest) ≡ twigs_kept ts + outputs_told rest
twigs_counted b n [] rest = omega arith
twigs_counted b n (t ∷ ts) rest = omega (arith, twigs_counted b (suc n) ts rest)

limb_counted : (b : Branch) (rest : Forest)
    → outputs_told (limb b rest) ≡ branch_kept b + outputs_told rest
limb_counted b rest = twigs_counted b 0 (b.first ∷ b.more) rest

pub grown_counted : (bs : List Branch) → outputs_told (grown bs) ≡ branches_kept bs
grown_counted [] = refl
grown_counted (b ∷ bs) = omega (arith, limb_counted b (grown bs), grown_counted bs)

pub out_few : (o : Option ℕ) → out_count o ≤ 1
out_few None = omega arith
out_few (Some j) = omega arith

pub kids_counted : (o : Output) (items : List Branch) → items ≡ o.kids.items
    → branches_kept items ≡ outputs_told (grown o.kids.items)
kids_counted o items e = ap branches_kept e ∙ sym (grown_counted o.kids.items)

-- ---- numbers
then_twice : (o : Option ℕ) (f g : ℕ → Option ℕ)
    → then_from (then_from o f) g ≡ then_from o (λ k. then_from (f k) g)
then_twice None f g = refl
then_twice (Some n) f g = refl

then_alike : (o : Option ℕ) (f g : ℕ → Option ℕ) → ((k : ℕ) → f k ≡ g k)
    → then_from o f ≡ then_from o g
then_alike None f g h = refl
then_alike (Some n) f g h = h n

twigs_followed : (b : Branch) (i : ℕ) (ts : List Twig) (rest : Forest) (n : ℕ)
    → outs_from n (twigs b i ts rest) ≡ then_from (twigs_from n ts) (λ k. outs_from k rest)
twigs_followed b i [] rest n = refl
twigs_followed b i (t ∷ ts) rest n =
    then_alike (twig_from n t) (λ k. outs_from k (twigs b (suc i) ts rest))
    (λ k. then_from (twigs_from k ts) (λ k. outs_from k rest))
    (λ k. twigs_followed b (suc i) ts rest k)
    ∙ sym (then_twice (twig_from n t) (λ k. twigs_from k ts) (λ k. outs_from k rest))

pub grown_followed : (bs : List Branch) (n : ℕ) → outs_from n (grown bs) ≡ branches_from n bs
grown_followed [] n = refl
grown_followed (b ∷ bs) n =
    twigs_followed b 0 (b.first ∷ b.more) (grown bs) n
    ∙ then_alike (branch_from n b) (λ k. outs_from k (grown bs)) (λ k. branches_from k bs)
    (λ k. grown_followed bs k)

pub kids_followed : (o : Output) (items : List Branch) (number next : ℕ) → items ≡ o.kids.items
    → Some next ≡ out_from number o.number
    → branches_from next items ≡ twig_from number (twig o)
kids_followed o items number next e h =
    ap (branches_from next) e ∙ sym (grown_followed o.kids.items next)
    ∙ ap (λ (r : Option ℕ). then_from r (λ k. outs_from k (grown o.kids.items))) h
