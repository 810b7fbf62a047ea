-- Which Gbks share a stage: those that a chain of related ones joins.
use Rattle.std.specs.Prelude.{◌≡◌, ◌↔◌, ◌⊎◌, ℕ, ◌<◌, Bool, true, ◌==◌, ◌&&◌, List, [], ◌∷◌, length, Option, Some, None}
use Rattle.std.specs.List.{AllByRecursion, flat_map, list_any}
use Rattle.exec_graph.specs.Meaning.{node_at}
use Rattle.exec_graph.specs.declared.graph.Node.{Node}
use Rattle.exec_graph.specs.declared.graph.Node.TheVariants.{Source, Flatten, Pdo, Gbk, Barrier}
use Rattle.exec_graph.specs.declared.graph.Blocked.{Blocked}
use Rattle.plan_laws.specs.declared.operations.Key.{Key}
use Rattle.plan_laws.specs.Operations.{times_named}
use Rattle.plan_rules.specs.Fitting.{same_key}
use Rattle.plan_roles.specs.Levels.{level}
use Rattle.plan_roles.specs.Mappers.{keys_in}

-- ---- keys

abbrev pub has_same : List Key → Key → Bool
has_same ks k = list_any (λ j. same_key j k) ks

abbrev pub keys_at : Blocked → ℕ → Option Node → List Key
keys_at b n None = []
keys_at b n (Some (Source r)) = []
keys_at b n (Some (Flatten ins)) = []
keys_at b n (Some (Pdo c f)) = []
keys_at b n (Some (Gbk c o l k)) = keys_in b n c
keys_at b n (Some (Barrier ins o l a)) = []

-- the keys of what the Gbk n takes, in order
abbrev pub keys_taken : Blocked → ℕ → List Key
keys_taken b n = keys_at b n (node_at b.graph.nodes n)

-- ---- chains

-- two Gbks of one level that share a key are related
abbrev pub related : Blocked → ℕ → ℕ → Bool
related b n k =
    (level b.graph.nodes n == level b.graph.nodes k)
    && list_any (has_same (keys_taken b n)) (keys_taken b k)

-- each is related to the next
abbrev pub AreLinked : Blocked → ℕ → List ℕ → ℕ → Type 0
AreLinked b n [] k = related b n k ≡ true
AreLinked b n (i ∷ is) k = (related b n i ≡ true) × AreLinked b i is k

-- one, or joined by a chain
abbrev pub IsLinked : Blocked → ℕ → ℕ → Type 0
IsLinked b n k = (n ≡ k) ⊎ ((between : List ℕ) × AreLinked b n between k)

-- ---- classes

abbrev pub IsGbkAt : Option Node → Type 0
IsGbkAt None = ⊥
IsGbkAt (Some (Source r)) = ⊥
IsGbkAt (Some (Flatten ins)) = ⊥
IsGbkAt (Some (Pdo c f)) = ⊥
IsGbkAt (Some (Gbk c o l k)) = Unit {0}
IsGbkAt (Some (Barrier ins o l a)) = ⊥

-- the node n is a Gbk
abbrev pub IsGbk : Blocked → ℕ → Type 0
IsGbk b n = IsGbkAt (node_at b.graph.nodes n)

-- one of the classes has both
abbrev pub IsShared : ℕ → ℕ → List (List ℕ) → Type 0
IsShared n k [] = ⊥
IsShared n k (c ∷ cs) = ((0 < times_named n c) × (0 < times_named k c)) ⊎ IsShared n k cs

-- the members of all classes
abbrev pub class_members : List (List ℕ) → List ℕ
class_members cs = flat_map (λ c. c) cs

-- each number is less than those after it
abbrev pub Rises : List ℕ → Type 0
Rises [] = Unit {0}
Rises (n ∷ ns) = AllByRecursion (λ k. n < k) ns × Rises ns

-- each Gbk stands in one class, and two share one exactly where they are linked
pub record AreClasses (b : Blocked) (cs : List (List ℕ)) : Type 0 where
  pub gbks : AllByRecursion (AllByRecursion (IsGbk b)) cs
  pub once : (n : ℕ) → IsGbk b n → times_named n (class_members cs) ≡ 1
  pub linked : (n k : ℕ) → IsGbk b n → IsGbk b k → IsShared n k cs ↔ IsLinked b n k
  -- none is empty, and each has the least number first
  pub some : AllByRecursion (λ c. 0 < length c) cs
  pub rise : AllByRecursion Rises cs
