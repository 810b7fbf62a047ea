-- What reads by one rule reads the same by another that gives the same.
use Rattle.std.proofs.Common.{◌≡◌, List, [], ◌∷◌, map, refl, ap, ap₂}
use Rattle.graph_laws.specs.of_exec_graph.declared.graph.Node.{Node}
use Rattle.graph_laws.specs.of_exec_graph.declared.graph.Node.TheVariants.{Source, Flatten, Pdo, Gbk, Barrier}
use Rattle.graph_laws.specs.of_exec_graph.declared.graph.Place.{Place}
use Rattle.graph_laws.specs.Joining.{reread}

module _ (r s : Place → Place) (e : (c : Place) → r c ≡ s c) where
  pub places_same : (cs : List Place) → map r cs ≡ map s cs
  places_same [] = refl
  places_same (c ∷ cs) = ap₂ (λ (d : Place) (ds : List Place). d ∷ ds) (e c) (places_same cs)

  pub reread_same : (x : Node) → reread r x ≡ reread s x
  reread_same (Source i) = refl
  reread_same (Flatten ins) = ap (λ (ds : List Place). Flatten ds) (places_same ins)
  reread_same (Pdo c f) = ap (λ (d : Place). Pdo d f) (e c)
  reread_same (Gbk c o l k) = ap (λ (d : Place). Gbk d o l k) (e c)
  reread_same (Barrier ins o l a) = ap (λ (ds : List Place). Barrier ds o l a) (places_same ins)
