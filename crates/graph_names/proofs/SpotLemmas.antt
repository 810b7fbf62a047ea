-- A name is where its output has its place among those of the forest.
use Rattle.std.proofs.Common.{◌≡◌, ℕ, suc, ◌+◌, Bool, true, false, cond, eqb, ◌||◌, List, [], ◌∷◌, Some, None, refl, sym, ap, ap₂, ◌∙◌, arith}
use Rattle.exec_graph.specs.Forests.{Forest}
use Rattle.exec_graph.specs.Meaning.{has_out, place}
use Rattle.exec_graph.specs.declared.graph.Node.{Node}
use Rattle.exec_graph.specs.declared.graph.Node.TheVariants.{Pdo}
use Rattle.exec_graph.specs.declared.graph.Place.{Place}
use Rattle.graph_laws.specs.Kids.{number_after}
use Rattle.graph_walks.specs.Outs.{outs, place_of}
use Rattle.graph_walks.proofs.Places.{holds, holds_outs, number_place}
use Rattle.graph_names.specs.inner.Spots.{spot_from, spot_in}

spot_place : (k s : ℕ) (xs : List ℕ) (n : ℕ)
    → spot_from k s xs n ≡ cond (holds xs n) (Some (place k (s + place_of xs n))) None
spot_place k s [] n = refl
spot_place k s (x ∷ xs) n = by (eqb x n) (holds xs n) (spot_place k (s + 1) xs n)
  where
    by : (a b : Bool)
        → spot_from k (s + 1) xs n ≡ cond b (Some (place k (s + 1 + place_of xs n))) None
        → cond a (Some (place k s)) (spot_from k (s + 1) xs n)
        ≡ cond (a || b) (Some (place k (s + cond a 0 (suc (place_of xs n))))) None
    by true b e =
        let z : s ≡ s + 0 = omega arith in ap (λ (m : ℕ). Some (place k m)) z
    by false true e =
        let z : s + 1 + place_of xs n ≡ s + suc (place_of xs n) = omega arith in
        e ∙ ap (λ (m : ℕ). Some (place k m)) z
    by false false e = e

spot_outs : (k : ℕ) (f : Forest) (n : ℕ)
    → spot_from k 0 (outs f) n ≡ cond (has_out n f) (Some (place k (number_after 0 f n))) None
spot_outs k f n =
    spot_place k 0 (outs f) n
    ∙ ap₂ (λ (b : Bool) (m : ℕ). cond b (Some (place k m)) None) (holds_outs f n)
    (sym (number_place 0 f n))

pub spot_node : (k : ℕ) (x : Node) (c : Place) (f : Forest) (ns : List ℕ) (n : ℕ)
    → x ≡ Pdo c f → ns ≡ outs f → spot_from k 0 ns n ≡ spot_in k x n
spot_node k x c f ns n e o =
    ap (λ (l : List ℕ). spot_from k 0 l n) o ∙ spot_outs k f n
    ∙ ap (λ (y : Node). spot_in k y n) (sym e)
