-- The walk that puts steps on the first output of a number: one turn more, and the end.
use Rattle.std.proofs.Common.{◌≡◌, ◌≤◌, ◌<◌, ℕ, ◌+◌, Bool, true, false, cond, ◌||◌, List, [], ◌∷◌, ◌++◌, set, take, drop, length, get_or, Option, None, refl, sym, ap, ap₂, ◌∙◌, length-set}
use Rattle.std.specs.List.{list_any}
use Rattle.graph_laws.specs.of_exec_graph.Forests.{Branch, Forest, Twig, grown}
use Rattle.graph_laws.specs.of_exec_graph.Meaning.{has_out, is_out}
use Rattle.graph_laws.specs.Joining.{beside}
use Rattle.graph_walks.specs.inner.Plants.{on_branch, on_branches, on_twig, on_twigs, put_branch, put_branches, put_first, put_in, put_twig, put_twigs}
use Rattle.graph_walks.proofs.InPlace.{IsSeen, all_done, none_left, one_last, one_more, seen_here, seen_left}
use Rattle.graph_walks.proofs.PlantLemmas.{grown_put, has_grown}
use Rattle.graph_walks.proofs.Relabeling.{step_of, twig_of}

-- none of the first i of the list has the output, and all others are still to be put there
pub record IsPassed {X V : Type 0} (seen : List X → List V) (on : V → Bool)
    (put : List Branch → V → V) (first now : List X) (others left : List Branch) (i : ℕ)
    : Type 0 where
  pub same : length now ≡ length first
  pub kept : left ≡ others
  pub found : list_any on (seen (drop i now)) ≡ list_any on (seen first)
  pub done : seen (take i now) ++ put_first on (put others) (seen (drop i now))
      ≡ put_first on (put others) (seen first)

pub passed_none : {X V : Type 0} (seen : List X → List V) (one : X → V) → IsSeen seen one
    → (on : V → Bool) (put : List Branch → V → V) (xs : List X) (others : List Branch)
    → IsPassed seen on put xs xs others others 0
passed_none seen one s on put xs others = record {
  same = refl;
  kept = refl;
  found = refl;
  done = ap (λ vs. vs ++ put_first on (put others) (seen xs)) s.none;
}

module _ {X V : Type 0} {on : V → Bool} {put : List Branch → V → V} {first now : List X}
    {others left : List Branch} {i : ℕ} (seen : List X → List V) (one : X → V)
    (s : IsSeen seen one) (p : IsPassed seen on put first now others left i) where
  pub none_passed : length now ≤ i
      → (false ≡ list_any on (seen first)) × (seen now ≡ put_first on (put others) (seen first))
  none_passed past = (
    sym (ap (list_any on) (none_left seen one s now i past)) ∙ p.found,
    sym (all_done seen one s now i past (put_first on (put others)) refl) ∙ p.done,
  )

  module _ (x y : X) (found : Bool) (lt : i < length now) (is : x ≡ get_or now i x)
      (f : found ≡ on (one x)) (e : one y ≡ put left (one x)) where
    abbrev rest : List V
    rest = seen (drop (i + 1) now)

    -- what becomes of it and of those behind it
    turned : (b : Bool) → found ≡ b → put_first on (put others) (one x ∷ rest)
        ≡ one y ∷ cond b rest (put_first on (put others) rest)
    turned b is_b =
        ap₂ (λ (c : Bool) (v : V). v ∷ cond c rest (put_first on (put others) rest))
        (sym f ∙ is_b) (sym (e ∙ ap (λ bs. put bs (one x)) p.kept))

    any_left : (b : Bool) → found ≡ b → (b || list_any on rest) ≡ list_any on (seen first)
    any_left b is_b =
        ap (λ (c : Bool). c || list_any on rest) (sym is_b ∙ f)
        ∙ ap (list_any on) (sym (seen_here seen one s now i x y lt is)) ∙ p.found

    pub passed_next : (after : List Branch) → found ≡ false → after ≡ left
        → IsPassed seen on put first (set now i y) others after (i + 1)
    passed_next after off stay = record {
      same = length-set now i y ∙ p.same;
      kept = stay ∙ p.kept;
      found = ap (list_any on) (seen_left seen one s now i x y lt is) ∙ any_left false off;
      done = one_more seen one s now i x y lt is (put_first on (put others))
          (put_first on (put others)) (turned false off) ∙ p.done;
    }

    pub passed_here : found ≡ true
        → (true ≡ list_any on (seen first))
        × (seen (set now i y) ≡ put_first on (put others) (seen first))
    passed_here on_it = (
      any_left true on_it,
      one_last seen one s now i x y lt is (put_first on (put others)) (turned true on_it) ∙ p.done,
    )

-- ---- an output and a step, whose parts are done

pub twig_put : (j : ℕ) (k : Bool) (g : Forest) (out : Option ℕ) (kids now : List Branch)
    → is_out out j ≡ false → now ≡ put_branches j k g kids
    → twig_of out (grown now) ≡ put_twig j k g (twig_of out (grown kids))
twig_put j k g out kids now other e =
    ap (twig_of out)
    (ap grown e ∙ grown_put j k g kids
    ∙ ap (λ (b : Bool). cond b (beside (grown kids) g) (put_in j k g (grown kids))) (sym other))
    ∙ ap (λ (b : Bool). twig_of (cond b (cond k out None) out)
    (cond (is_out out j) (beside (grown kids) g) (put_in j k g (grown kids)))) (sym other)

pub twig_on : (j : ℕ) (out : Option ℕ) (kids : List Branch) (b : Bool) → is_out out j ≡ false
    → b ≡ on_branches j kids → b ≡ on_twig j (twig_of out (grown kids))
twig_on j out kids b other e =
    e ∙ has_grown j kids ∙ ap (λ (x : Bool). x || has_out j (grown kids)) (sym other)

-- by the first output, and else by the others
pub step_found : (j : ℕ) (k : Bool) (g : Forest) (b : Branch) (first : Twig)
    → on_twig j b.first ≡ true → first ≡ put_twig j k g b.first
    → step_of b first b.more ≡ put_branch j k g b
step_found j k g b first on e =
    ap₂ (step_of b) e
    (ap (λ (x : Bool). cond x b.more (put_twigs j k g b.more)) (sym on))

pub step_next : (j : ℕ) (k : Bool) (g : Forest) (b : Branch) (first : Twig) (more : List Twig)
    → on_twig j b.first ≡ false → first ≡ put_twig j k g b.first
    → more ≡ put_twigs j k g b.more → step_of b first more ≡ put_branch j k g b
step_next j k g b first more off e m =
    ap₂ (step_of b) e
    (m ∙ ap (λ (x : Bool). cond x b.more (put_twigs j k g b.more)) (sym off))

pub step_on : (j : ℕ) (b : Branch) → on_twig j b.first ≡ true → true ≡ on_branch j b
step_on j b on = ap (λ (x : Bool). x || on_twigs j b.more) (sym on)

pub step_off : (j : ℕ) (b : Branch) (found : Bool) → on_twig j b.first ≡ false
    → found ≡ on_twigs j b.more → found ≡ on_branch j b
step_off j b found off e = e ∙ ap (λ (x : Bool). x || on_twigs j b.more) (sym off)
