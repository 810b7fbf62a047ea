-- What is known of the chain to a collection, and what is marked so far.
use Rattle.std.specs.Prelude.{◌≡◌, ◌↔◌, ◌⊎◌, ◌<◌, ◌^◌, ℕ, true, cond, nat_lt, List, [], ◌∷◌, Some, nat_eq}
use Rattle.std.specs.HashMap.{HashMap, get}
use Rattle.std.specs.HashSet.{HashSet, contains}
use Rattle.exec_graph.specs.Forests.{Forest}
use Rattle.exec_graph.specs.Meaning.{node_at, place}
use Rattle.exec_graph.specs.Readers.{among}
use Rattle.exec_graph.specs.Places.{code}
use Rattle.exec_graph.specs.declared.graph.Place.{Place}
use Rattle.exec_graph.specs.declared.graph.Node.{Node}
use Rattle.exec_graph.specs.declared.graph.Node.TheVariants.{Flatten, Pdo, Gbk}
use Rattle.exec_graph.specs.declared.graph.Entry.{Entry}
use Rattle.fusion_blocks.specs.Estimates.{AreEstimates}
use Rattle.fusion_blocks.specs.Feeding.{is_grouped}
use Rattle.fusion_blocks.specs.Chains.{IsChain, IsFirstLeast}
use Rattle.fusion_blocks.specs.Blocks.{IsMarkOf}
use Rattle.fusion_blocks.specs.declared.chains.Stretch.{Stretch}
use Rattle.fusion_blocks.specs.declared.chains.Stretch.TheVariants.{Open, Empty, Least}

-- ---- chains

abbrev pub longer : (ℕ → ℕ) → Stretch → Place → Stretch
longer m Open c = Open
longer m Empty c = Least c
longer m (Least d) c = cond (nat_lt (m c.node) (m d.node)) (Least c) (Least d)

-- a chain whose first of least estimate is d
pub record HasLeast (es : List Entry) (m : ℕ → ℕ) (c d : Place) : Type 0 where
  pub chain : List Place
  pub is_chain : IsChain es c chain
  pub least : IsFirstLeast m chain d

abbrev pub IsStretch : List Entry → (ℕ → ℕ) → Place → Stretch → Type 0
IsStretch es m c Open = (cs : List Place) → IsChain es c cs → ⊥
IsStretch es m c Empty = IsChain es c []
IsStretch es m c (Least d) = HasLeast es m c d

-- where it has a first of least estimate, that is what is marked of the chain to c
abbrev pub TellsMark : List Entry → (ℕ → ℕ) → Place → Stretch → Type 0
TellsMark es m c s = (d : Place) → (s ≡ Least d) ↔ IsMarkOf es m c d

pub record IsPdoOf (es : List Entry) (n : ℕ) (c : Place) : Type 0 where
  pub forest : Forest
  pub is : node_at es n ≡ Some (Pdo c forest)

-- what is known of the chain to what a Pdo reads
pub record IsBefore (es : List Entry) (m : ℕ → ℕ) (n : ℕ) (s : Stretch) : Type 0 where
  pub input : Place
  pub pdo : IsPdoOf es n input
  pub is : IsStretch es m input s

abbrev pub AreBefore : {S : Type 0} → List Entry → (ℕ → ℕ) → HashMap ℕ Stretch S → Type 0
AreBefore es m t = (n : ℕ) (s : Stretch) → get nat_eq t n ≡ Some s → IsBefore es m n s

-- ---- what feeds

-- the set has the nodes whose first output is the input of a Gbk
abbrev pub HasGrouped : {S : Type 0} → HashSet ℕ S → List Entry → Type 0
HasGrouped s es = (n : ℕ) → contains nat_eq s n ≡ is_grouped es (place n 0)

-- the collections by which an entry is a Gbk, or a Flatten of a Gbk
abbrev pub fed : List Entry → ℕ → Node → List Place
fed es n (Flatten ins) = cond (is_grouped es (place n 0)) ins []
fed es n (Gbk c o l k) = c ∷ []
fed es n _ = []

-- ---- marks

-- one of the collections is an output of a Pdo, and d is what is marked of the chain to it
abbrev pub MarkedFrom : List Entry → (ℕ → ℕ) → List Place → Place → Type 0
MarkedFrom es m [] d = ⊥
MarkedFrom es m (c ∷ cs) d = IsMarkOf es m c d ⊎ MarkedFrom es m cs d

abbrev pub MarkedBy : List Entry → (ℕ → ℕ) → List Entry → Place → Type 0
MarkedBy es m [] d = ⊥
MarkedBy es m (e ∷ rest) d = MarkedFrom es m (fed es e.number e.node) d ⊎ MarkedBy es m rest d

-- beside what was marked, just that is marked for which P holds
pub record MarksAlso (old new : List Place) (P : Place → Type 0) : Type 0 where
  pub only : (d : Place) → among d new ≡ true → (among d old ≡ true) ⊎ P d
  pub kept : (d : Place) → among d old ≡ true → among d new ≡ true
  pub added : (d : Place) → P d → among d new ≡ true

-- the set has codes of marks alone
abbrev pub HasCodes : {S : Type 0} → HashSet ℕ S → List Place → Type 0
HasCodes codes marks =
    (d : Place) → d.out < 2 ^ 32 → contains nat_eq codes (code d) ≡ true → among d marks ≡ true

-- by some estimates, just these are marked
pub record AreMarks (scales : List ℕ) (es : List Entry) (marks : List Place) : Type 0 where
  pub estimates : ℕ → ℕ
  pub estimated : AreEstimates scales es estimates
  pub marked : MarksAlso [] marks (MarkedBy es estimates es)
