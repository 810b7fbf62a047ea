-- The numbers of nodes that give objects tell which collections are objects.
use Rattle.std.proofs.Common.{◌≡◌, ℕ, ◌<◌, Bool, true, false, cond, eqb, ◌&&◌, ◌||◌, List, [], ◌∷◌, Some, refl, sym, ap, ◌∙◌, arith}
use Rattle.std.specs.List.{AllByRecursion as Each, list_any}
use Rattle.std.proofs.lemmas.Bool.{eqb-true}
use Rattle.exec_graph.specs.declared.graph.Entry.{Entry}
use Rattle.exec_graph.specs.Meaning.{node_at}
use Rattle.exec_graph.specs.Wellformed.{Ascends, is_object}
use Rattle.graph_checks.specs.inner.Objects.{has_object}
use Rattle.graph_checks.proofs.Spotting.{swap}
use Rattle.graph_checks.proofs.Founding.{or_false}

-- ---- where objects stand
no_object : (es : List Entry) (n k : ℕ) → Each (λ d. k < d.number) es → n ≡ k
    → list_any (has_object n) es ≡ false
no_object [] n k a e = refl
no_object (d ∷ ds) n k a e = by (eqb n d.number) refl (no_object ds n k a.1 e)
  where
    by : (b : Bool) → eqb n d.number ≡ b → list_any (has_object n) ds ≡ false
        → ((b && is_object (Some d.node)) || list_any (has_object n) ds) ≡ false
    by true q i = let l : k < d.number = a.0 in
        let s : n ≡ d.number = eqb-true n d.number q in absurd (omega arith)
    by false q i = i

pub object_there : (es : List Entry) (n : ℕ) → Ascends es
    → list_any (has_object n) es ≡ is_object (node_at es n)
object_there [] n a = refl
object_there (e ∷ es) n a =
    ap (λ (b : Bool). (b && is_object (Some e.node)) || list_any (has_object n) es)
    (swap n e.number) ∙ by (eqb e.number n) refl (object_there es n a.1)
  where
    by : (b : Bool) → eqb e.number n ≡ b → list_any (has_object n) es ≡ is_object (node_at es n)
        → ((b && is_object (Some e.node)) || list_any (has_object n) es)
        ≡ is_object (cond b (Some e.node) (node_at es n))
    by true q i = ap (λ (r : Bool). is_object (Some e.node) || r)
        (no_object es n e.number a.0 (sym (eqb-true e.number n q)))
        ∙ or_false (is_object (Some e.node))
    by false q i = i
