-- Before any step: lists and counts one by one.
use Rattle.std.proofs.Common.{◌≡◌, ◌+◌, ℕ, zero, suc, List, [], ◌∷◌, ◌++◌, refl, sym, ap, ◌∙◌, add-one}
use Rattle.flume_value.specs.declared.value.Value.{Value}
use Rattle.forest_steps.specs.Fresh.{empties, zeros}
use Rattle.forest_steps.specs.Running.{OutputLists}

empties_push : (n : ℕ) → empties n ++ [] ∷ [] ≡ empties (suc n)
empties_push zero = refl
empties_push (suc n) = ap (λ l. [] ∷ l) (empties_push n)

pub empties_more : (n : ℕ) (old new : OutputLists) (v : List Value) → old ≡ empties n
    → new ≡ old ++ v ∷ [] → v ≡ [] → new ≡ empties (n + 1)
empties_more n old new v e push none =
    push ∙ (λ i. e i ++ none i ∷ []) ∙ empties_push n ∙ ap empties (sym (add-one n))

zeros_push : (n : ℕ) → zeros n ++ 0 ∷ [] ≡ zeros (suc n)
zeros_push zero = refl
zeros_push (suc n) = ap (λ l. 0 ∷ l) (zeros_push n)

pub zeros_more : (n : ℕ) (old new : List ℕ) → old ≡ zeros n → new ≡ old ++ 0 ∷ []
    → new ≡ zeros (n + 1)
zeros_more n old new e push =
    push ∙ (λ i. e i ++ 0 ∷ []) ∙ zeros_push n ∙ ap zeros (sym (add-one n))
