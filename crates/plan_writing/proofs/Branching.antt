-- A forest printed step by step.
use Rattle.std.proofs.Common.{◌≡◌, ℕ, suc, ◌+◌, ◌<◌, ◌==◌, true, false, List, [], ◌∷◌, ◌++◌, length, drop, get_or, codes, refl, sym, ap, ◌∙◌, rules, add-one, append_assoc, append-nil, drop-cons, ◌≤◌}
use Rattle.std.specs.Prelude.{Option, Some, None, Result, Ok, Err, OnOk, is_ok, if◌then◌else◌}
use Rattle.std.proofs.lemmas.List.{drop_all}
use Rattle.exec_graph.specs.Forests.{Branch, Twig, Forest, Grow, label_at, twigs, grown}
use Rattle.exec_graph.specs.Twigs.{twig}
use Rattle.exec_graph.specs.declared.step.Output.{Output}
use Rattle.plan_writing.specs.Naming.{Naming}
use Rattle.plan_writing.specs.Forests.{is_further_output, is_bare, kids_text, number_text, steps_text}
use Rattle.plan_writing.specs.inner.Branches.{branch_text, branches_text, choice_text, first_of_several, space_before, twig_text, twigs_text}

begins_anew : (bs : List Branch) → is_further_output (grown bs) ≡ false
begins_anew [] = refl
begins_anew (b ∷ bs) = refl

regroup : (a b c d : List ℕ) → a ++ (b ++ (c ++ d)) ≡ (a ++ (b ++ c)) ++ d
regroup a b c d = simp append_assoc

-- a further output of a step
later : (names : Naming) (b : Branch) (n : ℕ) (t : Twig) (rest : Forest)
    → steps_text names (codes " ") (Grow (label_at b (suc n) t) t.kids rest)
    ≡ twig_text names (Some (suc (suc n))) t ++ steps_text names (codes " ") rest
later names b n t rest =
    let differs : (suc n == 0) ≡ false = search rules in
    rw (differs, add-one)
    (regroup (choice_text (Some (suc (suc n))) t) (number_text t.out)
    (kids_text t.kids (steps_text names [] t.kids)) (steps_text names (codes " ") rest))

-- the one output of a step
alone : (names : Naming) (before : List ℕ) (b : Branch) (t : Twig) (rest : Forest)
    → is_further_output rest ≡ false
    → steps_text names before (Grow (label_at b 0 t) t.kids rest)
    ≡ before
    ++ ((names.step b.origin b.does ++ (twig_text names None t ++ []))
    ++ steps_text names (codes " ") rest)
alone names before b t rest last = rw last (simp append_assoc)

-- the first output of several
leading : (names : Naming) (before : List ℕ) (b : Branch) (t : Twig) (rest : Forest)
    → is_further_output rest ≡ true
    → steps_text names before (Grow (label_at b 0 t) t.kids rest)
    ≡ before
    ++ (names.step b.origin b.does
    ++ (twig_text names (Some 1) t ++ steps_text names (codes " ") rest))
leading names before b t rest more = rw more (simp append_assoc)

twigs_printed : (names : Naming) (b : Branch) (n : ℕ) (ts : List Twig) (bs : List Branch)
    → steps_text names (codes " ") (twigs b (suc n) ts (grown bs))
    ≡ twigs_text names (suc (suc n)) ts ++ steps_text names (codes " ") (grown bs)
twigs_printed names b n [] bs = refl
twigs_printed names b n (t ∷ ts) bs =
    later names b n t (twigs b (suc (suc n)) ts (grown bs))
    ∙ (ap (λ rest. twig_text names (Some (suc (suc n))) t ++ rest)
    (twigs_printed names b (suc n) ts bs)
    ∙ sym (append_assoc (twig_text names (Some (suc (suc n))) t)
    (twigs_text names (suc (suc (suc n))) ts) (steps_text names (codes " ") (grown bs))))

-- a step whose further outputs are these
begun : (names : Naming) (before : List ℕ) (b : Branch) (bs : List Branch) (more : List Twig)
    → steps_text names before
    (Grow (label_at b 0 b.first) b.first.kids (twigs b 1 more (grown bs)))
    ≡ before
    ++ ((names.step b.origin b.does
    ++ (twig_text names (first_of_several more) b.first ++ twigs_text names 2 more))
    ++ steps_text names (codes " ") (grown bs))
begun names before b bs [] = alone names before b b.first (grown bs) (begins_anew bs)
begun names before b bs (t ∷ ts) =
    leading names before b b.first (twigs b 1 (t ∷ ts) (grown bs)) refl
    ∙ (ap (λ rest. before
    ++ (names.step b.origin b.does ++ (twig_text names (Some 1) b.first ++ rest)))
    (twigs_printed names b 0 (t ∷ ts) bs)
    ∙ ap (λ text. before ++ text)
    (regroup (names.step b.origin b.does) (twig_text names (Some 1) b.first)
    (twigs_text names 2 (t ∷ ts)) (steps_text names (codes " ") (grown bs))))

pub grown_printed : (names : Naming) (before : List ℕ) (bs : List Branch)
    → steps_text names before (grown bs) ≡ branches_text names before bs
grown_printed names before [] = refl
grown_printed names before (b ∷ bs) =
    begun names before b bs b.more
    ∙ ap (λ rest. before ++ (branch_text names b ++ rest)) (grown_printed names (codes " ") bs)

pub bare_grown : (bs : List Branch) → is_bare (grown bs) ≡ (length bs == 0)
bare_grown [] = refl
bare_grown (b ∷ bs) = let differs : (suc (length bs) == 0) ≡ false = search rules in sym differs

space_later : (i : ℕ) → space_before (i + 1) ≡ codes " "
space_later i =
    let differs : (suc i == 0) ≡ false = search rules in rw (add-one, differs) refl

-- one step more
pub branches_next : (names : Naming) (text pushed more all : List ℕ) (steps : List Branch) (i : ℕ)
    (step : Branch) → i < length steps → step ≡ get_or steps i step
    → pushed ≡ text ++ space_before i → more ≡ pushed ++ branch_text names step
    → text ++ branches_text names (space_before i) (drop i steps) ≡ all
    → more ++ branches_text names (space_before (i + 1)) (drop (i + 1) steps) ≡ all
branches_next names text pushed more all steps i step below is spaced here so_far =
    let rest : List ℕ = branches_text names (codes " ") (drop (suc i) steps) in
    let cut : branches_text names (space_before i) (drop i steps)
    ≡ space_before i ++ (branch_text names step ++ rest)
    = ap (branches_text names (space_before i)) (drop-cons steps i step below)
    ∙ ap (λ b. space_before i ++ (branch_text names b ++ rest)) (sym is) in
    rw (here, spaced, space_later i, add-one)
    (append_assoc (text ++ space_before i) (branch_text names step) rest
    ∙ (append_assoc text (space_before i) (branch_text names step ++ rest)
    ∙ (ap (λ part. text ++ part) (sym cut) ∙ so_far)))

-- no step more
pub branches_all : (names : Naming) (text all : List ℕ) (steps : List Branch) (i : ℕ)
    → length steps ≤ i
    → text ++ branches_text names (space_before i) (drop i steps) ≡ all → text ≡ all
branches_all names text all steps i end so_far =
    sym (append-nil text)
    ∙ ap (λ rest. text ++ branches_text names (space_before i) rest) (sym (drop_all i steps end))
    ∙ so_far

-- an output with steps on it, which stand between brackets
pub kids_ended : (names : Naming) (which : Option ℕ) (o : Output) (items : List Branch)
    (before chosen kept opened filled : List ℕ) → items ≡ o.kids.items
    → is_bare (grown o.kids.items) ≡ false → chosen ≡ before ++ choice_text which (twig o)
    → kept ≡ chosen ++ number_text o.number → opened ≡ kept ++ codes "("
    → filled ≡ opened ++ branches_text names [] items
    → filled ++ codes ")" ≡ before ++ twig_text names which (twig o)
kids_ended names which o items before chosen kept opened filled same some c k p f =
    let printed : steps_text names [] (grown o.kids.items) ≡ branches_text names [] items
    = grown_printed names [] o.kids.items ∙ ap (branches_text names []) (sym same) in
    rw (f, p, k, c, some, printed) (simp append_assoc)

-- the last piece, where it is pushed
pub piece_pushed : {E : Type 0} (r : Result (Unit {0}) E) (new old piece other all : List ℕ)
    → new ≡ (if is_ok r then old ++ piece else other) → old ++ piece ≡ all → OnOk r (new ≡ all)
piece_pushed (Ok x) new old piece other all pushed whole = pushed ∙ whole
piece_pushed (Err x) new old piece other all pushed whole = tt
