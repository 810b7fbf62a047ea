-- Which number each Pdo has where a kid takes the lesser one.
use Rattle.std.specs.Prelude.{◌≡◌, ℕ, ◌==◌, ltb, true, cond, List, [], ◌∷◌, Some}
use Rattle.std.specs.List.{AllByRecursion}
use Rattle.exec_graph.specs.Forests.{Forest}
use Rattle.exec_graph.specs.Meaning.{node_at}
use Rattle.exec_graph.specs.declared.graph.Blocked.{Blocked}
use Rattle.exec_graph.specs.declared.graph.Node.{Node}
use Rattle.exec_graph.specs.declared.graph.Node.TheVariants.{Pdo}
use Rattle.exec_graph.specs.declared.graph.Place.{Place}
use Rattle.pardo_fuse.specs.Fusing.{fused_by_parents, least_of}
use Rattle.pardo_fuse.specs.Parting.{parted}
use Rattle.pardo_fuse.specs.Readers.{cut_of, is_unmarked}
use Rattle.pardo_fuse.specs.SingleFusing.{fused_by}
use Rattle.fuse_chain.specs.Cuts.{siblings_of}
use Rattle.fuse_chain.specs.Rewrites.{ByKids, Kid, Fusion, Sibling, other_of}

-- a in place of b, and b in place of a
abbrev pub other_of_two : ℕ → ℕ → ℕ → ℕ
other_of_two a b n = cond (n == a) b (cond (n == b) a n)

-- p takes the lesser of its number and that of q, and q the other
abbrev pub numbers_after_kid : (ℕ → ℕ) → ℕ → ℕ → ℕ → ℕ
numbers_after_kid l p q n = cond (ltb (l q) (l p)) (other_of_two (l p) (l q) (l n)) (l n)

-- after kids one after another; a sibling is of greater number as it is
abbrev pub after_kids : List Fusion → (ℕ → ℕ) → ℕ → ℕ
after_kids [] l = l
after_kids (Kid p k q ∷ rs) l = after_kids rs (numbers_after_kid l p q)
after_kids (Sibling p q ∷ rs) l = after_kids rs l

-- the Pdo n reads an unmarked output of a Pdo
pub record ReadsInner (b : Blocked) (n : ℕ) : Type 0 where
  pub source : Place
  pub forest : Forest
  pub at : node_at b.graph.nodes n ≡ Some (Pdo source forest)
  pub inner : is_unmarked b source ≡ true

-- where each kid takes the lesser number, each Pdo has at the end the least of those that became
-- one with it
pub record KidsToLeast (b : Blocked) : Type 0 where
  pub kids : ByKids (fused_by (siblings_of (parted b))).graph (fused_by_parents b).graph
  pub numbers : (n : ℕ) (z : Node) → node_at (fused_by_parents b).graph.nodes n ≡ Some z
      → after_kids kids.rewrites (λ m. m) n ≡ least_of (cut_of b) n
  pub inner : AllByRecursion (λ r. ReadsInner (parted b) (other_of r)) kids.rewrites
