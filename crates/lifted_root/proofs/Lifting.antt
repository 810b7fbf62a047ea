-- The steps of a lifted reducer on the accumulators of keys, and on the keys' groups.
use Rattle.std.proofs.Common.{◌≡◌, ℕ, List, [], ◌∷◌, map, Some, refl, sym, ap, ◌∙◌}
use Rattle.std.specs.Prelude.{Ok, Err}
use Rattle.std.specs.List.{AllByRecursion}
use Rattle.flume_value.specs.declared.value.Value.{Value}
use Rattle.flume_collection.specs.Calls.{Called}
use Rattle.combine_table.specs.declared.comb.Comb.{Comb}
use Rattle.exec_graph.specs.Calls.{called}
use Rattle.exec_graph.specs.declared.step.Does.{Does}
use Rattle.exec_graph.specs.declared.step.Does.TheVariants as does
use Rattle.exec_graph.specs.Forests.{Branch, Bare, Grow, Twig, grown, label_at, limb, twigs}
use Rattle.exec_graph.specs.Wellformed.{comb_of, root_comb}
use Rattle.exec_graph.specs.World.{World}
use Rattle.forest_steps.specs.Running.{Given, and_then, below, next_behind, run, run_answer, run_each}
use Rattle.forest_steps.specs.Safety.{Safe}
use Rattle.forest_steps.proofs.Twigging.{limb_run, limb_safe, then_alike}
use Rattle.lifted_root.specs.Lifted.{partial_answer, run_called, run_partial, SafeCalled}

-- ---- the one root of a lifted reducer

pub record IsRoot (c : Comb) (bs : List Branch) : Type 0 where
  pub root : Branch
  pub alone : bs ≡ root ∷ []
  pub does : root.does ≡ does.Combine c

does_combine : (d : Does) (c : Comb) → comb_of d ≡ Some c → d ≡ does.Combine c
does_combine (does.Combine k) c e = let same : k ≡ c = cc in ap does.Combine same
does_combine _ c e = cc

root_with : (c : Comb) (b : Branch) (more : List Twig) (bs : List Branch)
    → root_comb (Grow (label_at b 0 b.first) b.first.kids (twigs b 1 more (grown bs))) ≡ Some c
    → (bs ≡ []) × (b.does ≡ does.Combine c)
root_with c b [] [] e = (refl, does_combine b.does c e)
root_with c b [] (d ∷ ds) e = cc
root_with c b (t ∷ ts) bs e = cc

pub one_root : (c : Comb) (bs : List Branch) → root_comb (grown bs) ≡ Some c → IsRoot c bs
one_root c [] e = cc
one_root c (b ∷ bs) e =
    let r = root_with c b b.more bs e in
    record { root = b; alone = ap (λ l. b ∷ l) r.0; does = r.1 }

-- ---- one key

module _ (w : World) (sizes : List ℕ) (b : Branch) where
  called_run : (answer : Called) (x : Value) (g : Given) → called w b.does x ≡ answer
      → run w sizes 0 (limb b Bare) x g ≡ run_called w sizes b answer g
  called_run (Ok answers) x g e = limb_run w sizes 0 b x answers g e
  called_run (Err trap) x g e =
      ap (λ c. and_then
      (run_answer b.origin 0 c b.first.out 0 (run w sizes (below 0) b.first.kids) g)
      (run w sizes (next_behind sizes 0) (twigs b 1 b.more Bare) x)) e

  -- ---- all keys

  pub all_run : (c : Comb) (ps : List (Value × Value)) (xs : List Value) (g : Given)
      → map (partial_answer c) ps ≡ map (called w b.does) xs
      → run_each (run_partial w sizes b c) ps g ≡ run_each (run w sizes 0 (limb b Bare)) xs g
  all_run c [] [] g e = refl
  all_run c [] (x ∷ xs) g e = cc
  all_run c (p ∷ ps) [] g e = cc
  all_run c (p ∷ ps) (x ∷ xs) g e =
      let here : partial_answer c p ≡ called w b.does x = cc in
      let rest : map (partial_answer c) ps ≡ map (called w b.does) xs = cc in
      ap (λ r. and_then r (run_each (run_partial w sizes b c) ps))
      (sym (called_run (partial_answer c p) x g (sym here)))
      ∙ then_alike (run w sizes 0 (limb b Bare) x g) (run_each (run_partial w sizes b c) ps)
      (run_each (run w sizes 0 (limb b Bare)) xs) (λ more. all_run c ps xs more rest)

-- ---- what may be called

module _ (w : World) (takes : ℕ → Value → Type 0) (b : Branch) where
  safe_called : (answer : Called) (x : Value) → called w b.does x ≡ answer
      → Safe w takes (limb b Bare) x → SafeCalled w takes b answer
  safe_called (Ok answers) x e safe = limb_safe w takes b x answers e safe
  safe_called (Err trap) x e safe = tt

  pub all_safe : (c : Comb) (ps : List (Value × Value)) (xs : List Value)
      → map (partial_answer c) ps ≡ map (called w b.does) xs
      → AllByRecursion (Safe w takes (limb b Bare)) xs
      → AllByRecursion (λ p. SafeCalled w takes b (partial_answer c p)) ps
  all_safe c [] xs e safe = tt
  all_safe c (p ∷ ps) [] e safe = cc
  all_safe c (p ∷ ps) (x ∷ xs) e safe =
      let here : partial_answer c p ≡ called w b.does x = cc in
      let rest : map (partial_answer c) ps ≡ map (called w b.does) xs = cc in
      (safe_called (partial_answer c p) x (sym here) safe.0, all_safe c ps xs rest safe.1)
