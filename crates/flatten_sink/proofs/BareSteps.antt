-- A step on whose outputs there are no steps counts as one.
use Rattle.std.proofs.Common.{◌≡◌, ℕ, ◌<◌, ◌≤◌, true, false, eqb, List, [], ◌∷◌, length, get_or, map, suc, refl, sym, ap, arith}
use Rattle.std.proofs.lemmas.Bool.{and_parts, eqb-true}
use Rattle.std.specs.List.{list_all}
use Rattle.exec_graph.specs.Forests.{Branch, Twig, Bare, grown, one_at, steps, twigs}
use Rattle.exec_graph.specs.Twigs.{twig}
use Rattle.exec_graph.specs.declared.step.Output.{Output}
use Rattle.exec_graph.proofs.Bools.{not_true}

none_of : (bs : List Branch) → length bs ≡ 0 → steps (grown bs) ≡ 0
none_of [] h = refl
none_of (b ∷ bs) h = absurd (omega arith)

not_first : (n : ℕ) → one_at (suc n) ≡ 0
not_first n =
    let e : eqb (suc n) 0 ≡ false = not_true (eqb (suc n) 0)
    (λ i. let z : suc n ≡ 0 = eqb-true (suc n) 0 i in absurd (omega arith)) in rw e refl

none_more : (b : Branch) (n : ℕ) (os : List Output)
    → list_all (λ o. eqb (length o.kids.items) 0) os ≡ true
    → steps (twigs b (suc n) (map twig os) Bare) ≡ 0
none_more b n [] h = refl
none_more b n (o ∷ os) h =
    let (one, all) = and_parts (eqb (length o.kids.items) 0)
    (list_all (λ o. eqb (length o.kids.items) 0) os) h in
    let a = none_of o.kids.items (eqb-true (length o.kids.items) 0 one) in
    let c = none_more b (suc n) os all in
    let d = not_first n in omega arith

pub bare_is_one : (b : Branch) (o : Output) (os : List Output) → b.first ≡ twig o
    → b.more ≡ map twig os → length o.kids.items ≡ 0
    → list_all (λ o. eqb (length o.kids.items) 0) os ≡ true → steps (grown (b ∷ [])) ≡ 1
bare_is_one b o os f m z h =
    let a = none_of o.kids.items z in
    let c = none_more b 0 os h in
    let d : steps b.first.kids ≡ steps (grown o.kids.items) = ap (λ (t : Twig). steps t.kids) f in
    let e : steps (twigs b 1 b.more Bare) ≡ steps (twigs b 1 (map twig os) Bare) =
    ap (λ (ts : List Twig). steps (twigs b 1 ts Bare)) m in omega arith

pub alone : (bs : List Branch) (b : Branch) → 1 ≤ length bs → length bs < 2
    → b ≡ get_or bs 0 b → bs ≡ b ∷ []
alone [] b h l e = absurd (omega arith)
alone (c ∷ []) b h l e = ap (λ (d : Branch). d ∷ []) (sym e)
alone (c ∷ (d ∷ bs)) b h l e = absurd (omega arith)
