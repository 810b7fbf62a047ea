-- What stands between two rewrites, and what is told of one made of it.
use Rattle.std.specs.Prelude.{IfOk, IfSome}
use Rattle.std.proofs.Common.{◌≡◌, ℕ, ◌<◌, List, Option, Some, Result, ap, ap₂, sym, ◌∙◌, subst}
use Rattle.exec_graph.specs.declared.graph.Blocked.{Blocked}
use Rattle.exec_graph.specs.declared.graph.Graph.{Graph}
use Rattle.exec_graph.specs.declared.graph.Place.{Place}
use Rattle.graph_rewrites.specs.Rewrites.{CanBeKid, CanBeSibling, after_kid, after_sibling}
use Rattle.graph_rewrites.specs.declared.rewrite.Rewrite.{Rewrite}
use Rattle.graph_rewrites.specs.declared.rewrite.Rewrite.TheVariants.{Kid, Sibling}
use Rattle.graph_rewriting.specs.Applied.{IsApplied}
use Rattle.graph_rewriting.specs.inner.Standings.{IsStanding, shown}
use Rattle.graph_rewriting.specs.declared.standing.Standing.{Standing}

pub standing_of : (o : Option Standing) (s : Standing) → IfSome o (λ t. IsStanding t)
    → o ≡ Some s → IsStanding s
standing_of o s h e = subst (λ (x : Option Standing). IfSome x (λ t. IsStanding t)) e h

abbrev pub with_marks : Graph → List Place → Blocked
with_marks g ms = record { graph = g; marks = ms }

-- it is told of a graph with its marks and of a rewrite, whatever their names
module _ {E : Type 0} (made : Result (Option Standing) E) where
  pub told : (a b : Blocked) (r : Rewrite) → a ≡ b → IfOk made (λ o. IsApplied a r (shown o))
      → IfOk made (λ o. IsApplied b r (shown o))
  told a b r = subst (λ (x : Blocked). IfOk made (λ o. IsApplied x r (shown o)))

  pub renamed : (b : Blocked) (r s : Rewrite) → r ≡ s
      → IfOk made (λ o. IsApplied b s (shown o)) → IfOk made (λ o. IsApplied b r (shown o))
  renamed b r s e = subst (λ (x : Rewrite). IfOk made (λ o. IsApplied b x (shown o))) (sym e)

-- ---- what is made under names

pub under : (b : Blocked) (g : Graph) (ms : List Place) → g ≡ b.graph → ms ≡ b.marks
    → with_marks g ms ≡ b
under b g ms e d = ap₂ with_marks e d

module _ (b : Blocked) (g h : Graph) (ms : List Place) (e : g ≡ b.graph) (d : ms ≡ b.marks)
  where
    pub sibling_made : (p q : ℕ) → p < q → CanBeSibling g p q → h ≡ after_sibling g p q
        → IsApplied b (Sibling p q) (Some (with_marks h ms))
    sibling_made p q lt can made = (
      (lt, subst (λ (x : Graph). CanBeSibling x p q) e can),
      ap₂ with_marks (made ∙ ap (λ (x : Graph). after_sibling x p q) e) d,
    )

    pub kid_made : (p k q : ℕ) → CanBeKid g p k q → h ≡ after_kid g p k q
        → IsApplied b (Kid p k q) (Some (with_marks h ms))
    kid_made p k q can made = (
      subst (λ (x : Graph). CanBeKid x p k q) e can,
      ap₂ with_marks (made ∙ ap (λ (x : Graph). after_kid x p k q) e) d,
    )
