-- The walks that number: one turn more, and the end.
use Rattle.std.proofs.Common.{◌≡◌, ◌≤◌, ◌<◌, ℕ, ◌+◌, List, [], ◌∷◌, ◌++◌, set, take, drop, length, get_or, refl, sym, ap, ap₂, ◌∙◌, append-nil, length-set}
use Rattle.std.specs.List.{flat_map}
use Rattle.graph_walks.specs.inner.Numbering.{numbered_all}
use Rattle.graph_walks.proofs.InPlace.{IsSeen, all_done, none_left, one_more, seen_here, seen_left}
use Rattle.graph_walks.proofs.NumberLemmas.{counted, outs_more}

-- the first i of the list have their numbers, and what these keep is noted
pub record AreNumbered {X V : Type 0} (seen : List X → List V) (number : ℕ → V → V)
    (behind : ℕ → V → ℕ) (outs_of : V → List ℕ) (first now : List X) (before noted : List ℕ)
    (i : ℕ) : Type 0 where
  pub same : length now ≡ length first
  pub done : seen (take i now) ++ numbered_all number behind (length noted) (seen (drop i now))
      ≡ numbered_all number behind (length before) (seen first)
  pub outs : noted ++ flat_map outs_of (seen (drop i now))
      ≡ before ++ flat_map outs_of (seen first)

pub numbered_none : {X V : Type 0} (seen : List X → List V) (one : X → V) → IsSeen seen one
    → (number : ℕ → V → V) (behind : ℕ → V → ℕ) (outs_of : V → List ℕ) (xs : List X)
    (before : List ℕ) → AreNumbered seen number behind outs_of xs xs before before 0
numbered_none seen one s number behind outs_of xs before = record {
  same = refl;
  done = ap (λ vs. vs ++ numbered_all number behind (length before) (seen xs)) s.none;
  outs = refl;
}

module _ {X V : Type 0} {number : ℕ → V → V} {behind : ℕ → V → ℕ} {outs_of : V → List ℕ}
    {first now : List X} {before noted : List ℕ} {i : ℕ} (seen : List X → List V)
    (one : X → V) (s : IsSeen seen one)
    (p : AreNumbered seen number behind outs_of first now before noted i)
    (counts : (n : ℕ) (v : V) → behind n v ≡ n + length (outs_of v)) where
  pub numbered_next : (x y : X) (after : List ℕ) → i < length now → x ≡ get_or now i x
      → one y ≡ number (length noted) (one x) → after ≡ noted ++ outs_of (one x)
      → AreNumbered seen number behind outs_of first (set now i y) before after (i + 1)
  numbered_next x y after lt is e f =
      let rest : List V = seen (drop (i + 1) now) in record {
        same = length-set now i y ∙ p.same;
        done = one_more seen one s now i x y lt is (numbered_all number behind (length noted))
            (numbered_all number behind (length after))
            (ap₂ (λ (v : V) (n : ℕ). v ∷ numbered_all number behind n rest) (sym e)
            (sym (counted behind outs_of counts noted after (one x) f)))
            ∙ p.done;
        outs = ap (λ vs. after ++ flat_map outs_of vs) (seen_left seen one s now i x y lt is)
            ∙ outs_more outs_of noted after (one x) rest f
            ∙ ap (λ vs. noted ++ flat_map outs_of vs) (sym (seen_here seen one s now i x y lt is))
            ∙ p.outs;
      }

  pub numbered_end : length now ≤ i
      → (seen now ≡ numbered_all number behind (length before) (seen first))
      × (noted ≡ before ++ flat_map outs_of (seen first))
  numbered_end past = (
    sym (all_done seen one s now i past (numbered_all number behind (length noted)) refl)
        ∙ p.done,
    sym (ap (λ vs. noted ++ flat_map outs_of vs) (none_left seen one s now i past)
        ∙ append-nil noted) ∙ p.outs,
  )
