-- What is noted of a number is so of its node.
use Rattle.std.proofs.Common.{◌≡◌, ◌≤◌, ℕ, Bool, true, false, cond, eqb, List, [], ◌∷◌, drop, length, Option, Some, None, refl, sym, ap, ◌∙◌}
use Rattle.std.proofs.lemmas.List.{drop_all}
use Rattle.exec_graph.specs.Meaning.{node_at}
use Rattle.exec_graph.specs.declared.graph.Entry.{Entry}
use Rattle.pardo_fuse.specs.Readers.{is_pdo}
use Rattle.graph_names.specs.inner.Kinds.{first_kind, kind_in}
use Rattle.graph_names.specs.inner.Moves.{is_so}

kind_at : (es : List Entry) (n : ℕ) → is_so (kind_in es n) ≡ is_pdo (node_at es n)
kind_at [] n = refl
kind_at (e ∷ es) n = by (eqb e.number n) (kind_at es n)
  where
    by : (b : Bool) → is_so (kind_in es n) ≡ is_pdo (node_at es n)
        → is_so (cond b (Some (is_pdo (Some e.node))) (kind_in es n))
        ≡ is_pdo (cond b (Some e.node) (node_at es n))
    by true h = refl
    by false h = h

nothing_more : (o : Option Bool) → o ≡ first_kind o None
nothing_more None = refl
nothing_more (Some b) = refl

-- once nothing is left
pub noted : (o : Option Bool) (es : List Entry) (i n : ℕ) → length es ≤ i
    → first_kind o (kind_in (drop i es) n) ≡ kind_in es n → is_so o ≡ is_pdo (node_at es n)
noted o es i n past h =
    ap is_so (nothing_more o
    ∙ ap (λ (ds : List Entry). first_kind o (kind_in ds n)) (sym (drop_all i es past)) ∙ h)
    ∙ kind_at es n
