-- A sibling and a kid, as graph_rewrites tells them.
use Rattle.std.proofs.Common.{◌≡◌, ℕ, ◌<◌, Bool, true, cond, Option, Some, sym, ap, ap₂, ◌∙◌, arith}
use Rattle.std.proofs.lemmas.Bool.{le-ltb}
use Rattle.exec_graph.specs.Forests.{Forest}
use Rattle.exec_graph.specs.Meaning.{IsSound, has_out, node_at, place}
use Rattle.exec_graph.specs.declared.graph.Graph.{Graph}
use Rattle.exec_graph.specs.declared.graph.Node.{Node}
use Rattle.exec_graph.specs.declared.graph.Node.TheVariants.{Pdo}
use Rattle.exec_graph.specs.declared.graph.Place.{Place}
use Rattle.fuse_chain.specs.Rewrites.{IsKid, IsSibling}
use Rattle.graph_rewrites.specs.of_graph_bounds.of_sink_laws.Chain.{forest_of}
use Rattle.graph_laws.specs.Joining.{beside, grafted}
use Rattle.graph_laws.specs.Kids.{kept_by, number_after, with_kid, with_sibling}
use Rattle.graph_rewrites.specs.Rewrites.{CanBeKid, CanBeSibling, after_kid, after_sibling, input_of, kid_under, kid_under_other}
use Rattle.graph_names.specs.Names.{unnamed}
use Rattle.graph_states.specs.States.{Stands, all_but, still_read, taken_in}
use Rattle.graph_states.proofs.Kids.{kept_is, kid_is}
use Rattle.graph_states.proofs.Siblings.{sibling_is}

-- a Pdo, by what is read off it
told : (o : Option Node) (c : Place) (f : Forest) → o ≡ Some (Pdo c f)
    → o ≡ Some (Pdo (input_of o) (forest_of o))
told o c f e = e ∙ ap (λ (x : Option Node). Some (Pdo (input_of x) (forest_of x))) (sym e)

pub sibling_made : (g h : Graph) (p q : ℕ) → IsSibling g p q h
    → CanBeSibling g p q × (after_sibling g p q ≡ h)
sibling_made g h p q s = (
  record {
    keeper = told (node_at g.nodes p) s.source s.near s.can.keeper;
    other = s.can.other
        ∙ ap₂ (λ (o u : Option Node). Some (Pdo (input_of o) (forest_of u))) (sym s.can.keeper)
        (sym s.can.other);
    differ = s.can.differ;
  },
  ap₂ (λ (o u : Option Node). with_sibling g p q (input_of o) (forest_of o) (forest_of u))
      s.can.keeper s.can.other ∙ s.is,
)

pub kid_made : (g h : Graph) (p k q : ℕ) → IsKid g p k q h
    → CanBeKid g p k q × (kid_under g p k q ≡ h)
kid_made g h p k q s = (
  record {
    keeper = told (node_at g.nodes p) s.source s.near s.can.keeper;
    other = s.can.other
        ∙ ap (λ (u : Option Node). Some (Pdo (place p k) (forest_of u))) (sym s.can.other);
  },
  ap₂ (λ (o u : Option Node). with_kid g p k q (input_of o) (forest_of o) (forest_of u))
      s.can.keeper s.can.other ∙ s.is,
)

-- ---- under names

pub sibling_joined : (h : Graph) (p q : ℕ) (c : Place) (f i : Forest) → Stands h
    → IsSound (unnamed h) → p < q → node_at h.nodes p ≡ Some (Pdo c f)
    → node_at h.nodes q ≡ Some (Pdo c i) → CanBeSibling (unnamed h) p q
    × (after_sibling (unnamed h) p q ≡ unnamed (taken_in h p q c (beside f i)))
sibling_joined h p q c f i s sound less at bt =
    sibling_made (unnamed h) (unnamed (taken_in h p q c (beside f i))) p q
    (sibling_is h p q c f i s less at bt sound)

pub kid_joined : (h : Graph) (p q n : ℕ) (c : Place) (f i : Forest) → Stands h
    → IsSound (unnamed h) → p < q → node_at h.nodes p ≡ Some (Pdo c f)
    → node_at h.nodes q ≡ Some (Pdo (place n 0) i) → has_out n f ≡ true
    → CanBeKid (unnamed h) p (number_after 0 f n) q
    × (after_kid (unnamed h) p (number_after 0 f n) q ≡ unnamed (taken_in h p q c
    (kept_by (all_but n (still_read h p q c n)) (grafted n i f))))
kid_joined h p q n c f i s sound less at bt has =
    let g : Graph = unnamed h in
    let k : ℕ = number_after 0 f n in
    let x : Forest = kept_by (still_read h p q c) (grafted n i f) in
    let m = kid_made g (unnamed (taken_in h p q c x)) p k q (kid_is h p q n c f i s at bt has sound)
    in (
      m.0,
      ap (λ (b : Bool). cond b (kid_under_other g p k q) (kid_under g p k q))
          (le-ltb q p (omega arith)) ∙ m.1
          ∙ ap (λ (y : Forest). unnamed (taken_in h p q c y))
          (kept_is h p q n c f i s at bt has sound),
    )
