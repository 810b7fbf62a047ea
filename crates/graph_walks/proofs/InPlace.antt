-- A list whose elements change one after another, where they stand, as it is seen.
use Rattle.std.proofs.Common.{◌≡◌, ◌≤◌, ◌<◌, ℕ, ◌+◌, List, [], ◌∷◌, ◌++◌, map, set, take, drop, length, get_or, refl, sym, ap, ap₂, ◌∙◌, append_assoc, append-nil, arith}
use Rattle.std.proofs.lemmas.List.{drop-set-lt, drop_all, drop_more, map-append, take-append-drop, take_all, take_more_set}
use Rattle.graph_laws.specs.of_exec_graph.Twigs.{twig}
use Rattle.graph_laws.specs.of_exec_graph.declared.step.Output.{Output}

-- a list is seen as its elements are
pub record IsSeen {X V : Type 0} (seen : List X → List V) (one : X → V) : Type 0 where
  pub none : seen [] ≡ []
  pub more : (x : X) (xs : List X) → seen (x ∷ xs) ≡ one x ∷ seen xs
  pub both : (xs ys : List X) → seen (xs ++ ys) ≡ seen xs ++ seen ys

pub as_held : {X : Type 0} → IsSeen (λ (xs : List X). xs) (λ (x : X). x)
as_held = record { none = refl; more = λ x xs. refl; both = λ xs ys. refl }

pub as_twigs : IsSeen (λ (os : List Output). map twig os) twig
as_twigs = record { none = refl; more = λ o os. refl; both = λ os ps. map-append twig os ps }

left_here : {X : Type 0} (xs : List X) (i : ℕ) (x : X) → i < length xs → x ≡ get_or xs i x
    → drop i xs ≡ x ∷ drop (i + 1) xs
left_here xs i x lt is =
    drop_more xs i x lt ∙ ap (λ y. y ∷ drop (i + 1) xs) (sym is)

module _ {X V : Type 0} (seen : List X → List V) (one : X → V) (s : IsSeen seen one)
    (xs : List X) (i : ℕ) where
  module _ (x y : X) (lt : i < length xs) (is : x ≡ get_or xs i x) where
    -- one is changed: those left are as before, and it is behind those done
    pub seen_here : seen (drop i xs) ≡ one x ∷ seen (drop (i + 1) xs)
    seen_here = ap seen (left_here xs i x lt is) ∙ s.more x (drop (i + 1) xs)

    pub seen_left : seen (drop (i + 1) (set xs i y)) ≡ seen (drop (i + 1) xs)
    seen_left = ap seen (drop-set-lt (i + 1) xs i y (omega arith))

    seen_done : seen (take (i + 1) (set xs i y)) ≡ seen (take i xs) ++ one y ∷ []
    seen_done =
        ap seen (take_more_set xs i y lt) ∙ s.both (take i xs) (y ∷ [])
        ∙ ap (λ l. seen (take i xs) ++ l) (s.more y [] ∙ ap (λ l. one y ∷ l) s.none)

    -- what becomes of those left, behind those done
    pub one_more : (before after : List V → List V)
        → before (one x ∷ seen (drop (i + 1) xs)) ≡ one y ∷ after (seen (drop (i + 1) xs))
        → seen (take (i + 1) (set xs i y)) ++ after (seen (drop (i + 1) (set xs i y)))
        ≡ seen (take i xs) ++ before (seen (drop i xs))
    one_more before after e =
        ap₂ (λ ds ls. ds ++ after ls) seen_done seen_left
        ∙ append_assoc (seen (take i xs)) (one y ∷ []) (after (seen (drop (i + 1) xs)))
        ∙ ap (λ l. seen (take i xs) ++ l) (sym e)
        ∙ ap (λ l. seen (take i xs) ++ before l) (sym seen_here)

    pub each_more : (f : V → V) → one y ≡ f (one x)
        → seen (take (i + 1) (set xs i y)) ++ map f (seen (drop (i + 1) (set xs i y)))
        ≡ seen (take i xs) ++ map f (seen (drop i xs))
    each_more f e =
        one_more (map f) (map f) (ap (λ v. v ∷ map f (seen (drop (i + 1) xs))) (sym e))

    -- it is the last that is changed
    pub one_last : (before : List V → List V)
        → before (one x ∷ seen (drop (i + 1) xs)) ≡ one y ∷ seen (drop (i + 1) xs)
        → seen (set xs i y) ≡ seen (take i xs) ++ before (seen (drop i xs))
    one_last before e =
        ap seen (sym (take-append-drop (i + 1) (set xs i y)))
        ∙ s.both (take (i + 1) (set xs i y)) (drop (i + 1) (set xs i y))
        ∙ one_more before (λ l. l) e

  module _ (past : length xs ≤ i) where
    pub none_left : seen (drop i xs) ≡ []
    none_left = ap seen (drop_all i xs past) ∙ s.none

    pub all_done : (after : List V → List V) → after [] ≡ []
        → seen (take i xs) ++ after (seen (drop i xs)) ≡ seen xs
    all_done after e =
        ap₂ (λ ds ls. ds ++ ls) (ap seen (take_all i xs past)) (ap after none_left ∙ e)
        ∙ append-nil (seen xs)
