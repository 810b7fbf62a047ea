-- Kids and siblings as rewrites.
use Rattle.std.proofs.Common.{◌≡◌, ℕ, List, [], ◌∷◌, Some, map, refl, sym, ap, ◌∙◌, subst}
use Rattle.std.specs.List.{AllByRecursion as Each}
use Rattle.exec_graph.specs.Forests.{Forest}
use Rattle.exec_graph.specs.Meaning.{node_at, place}
use Rattle.exec_graph.specs.declared.graph.Graph.{Graph}
use Rattle.exec_graph.specs.declared.graph.Place.{Place}
use Rattle.exec_graph.specs.declared.graph.Node.TheVariants.{Pdo}
use Rattle.fuse_chain.specs.Rewrites.{IsKid, IsSibling, Fusion}
use Rattle.fuse_chain.specs.Rewrites as fusion
use Rattle.graph_laws.specs.Kids.{CanKid, CanPair, with_kid, with_sibling}
use Rattle.sink_laws.specs.Chain.{forest_of}
use Rattle.graph_rewrites.specs.Replays.{rewrite_group}
use Rattle.graph_rewrites.specs.Rewrites.{forest_at, input_at, input_of, kid_under, rewritten}
use Rattle.pass_rewrites.specs.Passes.{as_rewrite}

-- ---- what a Pdo reads and does, by its number

pub input_is : (g : Graph) (n : ℕ) (c : Place) (f : Forest) → node_at g.nodes n ≡ Some (Pdo c f)
    → c ≡ input_at g n
input_is g n c f at = sym (ap input_of at)

pub forest_is : (g : Graph) (n : ℕ) (c : Place) (f : Forest) → node_at g.nodes n ≡ Some (Pdo c f)
    → f ≡ forest_at g n
forest_is g n c f at = sym (ap forest_of at)

-- ---- kids

pub kid_can : (p k q : ℕ) (g h : Graph) → IsKid g p k q h
    → CanKid g p k q (input_at g p) (forest_at g p) (forest_at g q)
kid_can p k q g h m =
    subst (λ (y : Forest). CanKid g p k q (input_at g p) (forest_at g p) y)
    (forest_is g q (place p k) m.far m.can.other)
    (subst (λ (y : Forest). CanKid g p k q (input_at g p) y m.far)
    (forest_is g p m.source m.near m.can.keeper)
    (subst (λ (y : Place). CanKid g p k q y m.near m.far)
    (input_is g p m.source m.near m.can.keeper) m.can))

pub kid_made : (p k q : ℕ) (g h : Graph) → IsKid g p k q h → kid_under g p k q ≡ h
kid_made p k q g h m =
    sym (ap (λ (y : Place). with_kid g p k q y m.near m.far)
    (input_is g p m.source m.near m.can.keeper)
    ∙ ap (λ (y : Forest). with_kid g p k q (input_at g p) y m.far)
    (forest_is g p m.source m.near m.can.keeper)
    ∙ ap (λ (y : Forest). with_kid g p k q (input_at g p) (forest_at g p) y)
    (forest_is g q (place p k) m.far m.can.other))
    ∙ m.is

-- ---- siblings

pub sibling_can : (p q : ℕ) (g h : Graph) → IsSibling g p q h
    → CanPair g p q (input_at g p) (forest_at g p) (forest_at g q)
sibling_can p q g h m =
    subst (λ (y : Forest). CanPair g p q (input_at g p) (forest_at g p) y)
    (forest_is g q m.source m.far m.can.other)
    (subst (λ (y : Forest). CanPair g p q (input_at g p) y m.far)
    (forest_is g p m.source m.near m.can.keeper)
    (subst (λ (y : Place). CanPair g p q y m.near m.far)
    (input_is g p m.source m.near m.can.keeper) m.can))

pub sibling_same : (p q : ℕ) (g h : Graph) → IsSibling g p q h
    → rewritten g (as_rewrite (fusion.Sibling p q)) ≡ h
sibling_same p q g h m =
    sym (ap (λ (y : Place). with_sibling g p q y m.near m.far)
    (input_is g p m.source m.near m.can.keeper)
    ∙ ap (λ (y : Forest). with_sibling g p q (input_at g p) y m.far)
    (forest_is g p m.source m.near m.can.keeper)
    ∙ ap (λ (y : Forest). with_sibling g p q (input_at g p) (forest_at g p) y)
    (forest_is g q m.source m.far m.can.other))
    ∙ m.is

-- ---- both

pub fusions_all : (rs : List Fusion) → Each (λ r. rewrite_group r ≡ 2) (map as_rewrite rs)
fusions_all [] = tt
fusions_all (fusion.Kid p k q ∷ rs) = (refl, fusions_all rs)
fusions_all (fusion.Sibling p q ∷ rs) = (refl, fusions_all rs)
