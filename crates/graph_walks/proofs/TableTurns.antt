-- A table of places, one number more.
use Rattle.std.proofs.Common.{◌≡◌, ℕ, suc, ◌+◌, ◌<◌, ◌≤◌, Bool, true, false, cond, eqb, ◌&&◌, List, ◌∷◌, drop, length, get_or, refl, sym, ap, ◌∙◌, arith}
use Rattle.std.proofs.lemmas.Bool.{eqb-true}
use Rattle.std.proofs.lemmas.List.{drop_all, drop_more}
use Rattle.graph_laws.proofs.of_exec_graph.Bools.{not_true}
use Rattle.graph_walks.specs.Outs.{place_of}

-- a number that has no place yet is among those that are left
abbrev pub place_from : List ℕ → ℕ → ℕ → ℕ → ℕ → ℕ
place_from outs i count old j = cond (eqb old count) (i + place_of (drop i outs) j) old

turn : (rest : List ℕ) (i count x j old new all : ℕ) → i < count
    → new ≡ cond (eqb x j && eqb old count) i old
    → cond (eqb old count) (i + place_of (x ∷ rest) j) old ≡ all
    → cond (eqb new count) (i + 1 + place_of rest j) new ≡ all
turn rest i count x j old new all lt is so_far =
    by (eqb x j) (eqb old count) refl is so_far
  where
    other : eqb i count ≡ false
    other = not_true (eqb i count) (λ e. let f : i ≡ count = eqb-true i count e in omega arith)

    by : (a b : Bool) → eqb old count ≡ b → new ≡ cond (a && b) i old
        → cond b (i + cond a 0 (suc (place_of rest j))) old ≡ all
        → cond (eqb new count) (i + 1 + place_of rest j) new ≡ all
    by true true e n h =
        ap (λ (m : ℕ). cond (eqb m count) (i + 1 + place_of rest j) m) n
        ∙ ap (λ (b : Bool). cond b (i + 1 + place_of rest j) i) other
        ∙ (let z : i ≡ all = omega arith in z)
    by true false e n h =
        ap (λ (m : ℕ). cond (eqb m count) (i + 1 + place_of rest j) m) n
        ∙ ap (λ (b : Bool). cond b (i + 1 + place_of rest j) old) e ∙ h
    by false true e n h =
        ap (λ (m : ℕ). cond (eqb m count) (i + 1 + place_of rest j) m) n
        ∙ ap (λ (b : Bool). cond b (i + 1 + place_of rest j) old) e
        ∙ (let z : i + 1 + place_of rest j ≡ all = omega arith in z)
    by false false e n h =
        ap (λ (m : ℕ). cond (eqb m count) (i + 1 + place_of rest j) m) n
        ∙ ap (λ (b : Bool). cond b (i + 1 + place_of rest j) old) e ∙ h

pub table_turn : (outs : List ℕ) (i count x j old new all : ℕ) → i < length outs
    → length outs ≡ count → x ≡ get_or outs i 0
    → new ≡ cond (eqb x j && eqb old count) i old → place_from outs i count old j ≡ all
    → place_from outs (i + 1) count new j ≡ all
table_turn outs i count x j old new all lt long at is so_far =
    let here : drop i outs ≡ x ∷ drop (i + 1) outs =
    drop_more outs i 0 lt ∙ ap (λ (y : ℕ). y ∷ drop (i + 1) outs) (sym at) in
    turn (drop (i + 1) outs) i count x j old new all (omega arith) is
    (ap (λ (l : List ℕ). cond (eqb old count) (i + place_of l j) old) (sym here) ∙ so_far)

pub table_end : (outs : List ℕ) (i count j old all : ℕ) → length outs ≤ i → i ≡ count
    → place_from outs i count old j ≡ all → old ≡ all
table_end outs i count j old all past same so_far =
    by (eqb old count) refl
    (ap (λ (l : List ℕ). cond (eqb old count) (i + place_of l j) old)
    (sym (drop_all i outs past)) ∙ so_far)
  where
    by : (b : Bool) → eqb old count ≡ b → cond b (i + 0) old ≡ all → old ≡ all
    by true e h = let f : old ≡ count = eqb-true old count e in omega arith
    by false e h = h
