-- The operations that carry out a graph: an MSCR for each class, a trivial one for each Pdo that is
-- neither mapper nor reducer, and each Flatten that is a stage.
use Rattle.std.specs.Prelude.{ℕ, ◌*◌, cond, not, ◌||◌, List, [], ◌∷◌, ◌++◌, map, filter, Option, Some, None}
use Rattle.std.proofs.Common.{suc}
use Rattle.std.specs.List.{flat_map}
use Rattle.exec_graph.specs.Forests.{Forest}
use Rattle.exec_graph.specs.Meaning.{node_at, place}
use Rattle.exec_graph.specs.declared.graph.Act.{Act}
use Rattle.exec_graph.specs.declared.graph.Act.TheVariants.{SideInput, Operate, Singleton}
use Rattle.exec_graph.specs.declared.graph.Place.{Place}
use Rattle.exec_graph.specs.declared.graph.Node.{Node}
use Rattle.exec_graph.specs.declared.graph.Node.TheVariants.{Source, Flatten, Pdo, Gbk, Barrier}
use Rattle.exec_graph.specs.declared.graph.Entry.{Entry}
use Rattle.exec_graph.specs.declared.graph.Blocked.{Blocked}
use Rattle.plan_laws.specs.declared.operations.Key.{Key}
use Rattle.plan_laws.specs.declared.operations.Key.TheVariants.{Mapper, Whole}
use Rattle.plan_laws.specs.declared.operations.Grouped.{Grouped}
use Rattle.plan_laws.specs.declared.operations.Operation.{Operation}
use Rattle.plan_laws.specs.declared.operations.Operation.TheVariants.{Flat, Class}
use Rattle.plan_roles.specs.Levels.{level}
use Rattle.plan_roles.specs.Mappers.{is_mapper, is_reducer, is_stage, places_given, reducer_of}
use Rattle.plan_roles.specs.Roles.{passes_of}
use Rattle.plan_rules.specs.Fitting.{same_key}
use Rattle.form_laws.specs.Classes.{keys_taken}
use Rattle.form_laws.specs.declared.ranked.Ranked.{Ranked}

-- ---- the MSCR of a class

-- each key where it stands first
abbrev pub first_uses : List Key → List Key
first_uses [] = []
first_uses (k ∷ ks) = k ∷ filter (λ j. not (same_key k j)) (first_uses ks)

-- the keys of Gbks and their inputs, in order of first use
abbrev pub class_keys : Blocked → List ℕ → List Key
class_keys b ns = first_uses (flat_map (keys_taken b) ns)

-- a Gbk with its reducer
abbrev pub gbk_with_reducer : Blocked → ℕ → Grouped
gbk_with_reducer b n = record { gbk = n; reducer = reducer_of b n }

abbrev pub passes_at : Blocked → ℕ → Option Node → List Place
passes_at b n None = []
passes_at b n (Some (Source r)) = []
passes_at b n (Some (Flatten ins)) = []
passes_at b n (Some (Pdo c f)) = passes_of b n f
passes_at b n (Some (Gbk c o l k)) = []
passes_at b n (Some (Barrier ins o l a)) = []

-- the outputs of a mapper that pass through
abbrev pub key_passes : Blocked → Key → List Place
key_passes b (Mapper n) = passes_at b n (node_at b.graph.nodes n)
key_passes b (Whole c) = []

-- the input channels are the keys, the grouping channels the Gbks in order of number, and what
-- passes through stands in order of channel and output
abbrev pub class_operation : Blocked → List ℕ → Operation
class_operation b ns =
    Class (class_keys b ns) (map (gbk_with_reducer b) ns)
    (flat_map (key_passes b) (class_keys b ns))

-- the number and the level of the first
abbrev pub number_of_first : List ℕ → ℕ
number_of_first [] = 0
number_of_first (n ∷ ns) = n

abbrev pub class_level : Blocked → List ℕ → ℕ
class_level b ns = level b.graph.nodes (number_of_first ns)

-- an MSCR of Gbks of level L has rank 2L, and the least of their numbers
abbrev pub class_ranked : Blocked → List ℕ → Ranked
class_ranked b ns = record {
  rank = 2 * class_level b ns;
  number = number_of_first ns;
  does = class_operation b ns;
}

-- ---- Pdos and Flattens by themselves

-- one input channel, and one pass-through channel for each output
abbrev pub trivial : ℕ → Forest → Operation
trivial n f = Class (Mapper n ∷ []) [] (places_given n f)

-- a trivial MSCR or a Flatten of level L has rank 2L + 1, and its own number
abbrev pub ranked_alone : Blocked → ℕ → Operation → Ranked
ranked_alone b n does =
    record { rank = suc (2 * level b.graph.nodes n); number = n; does = does }

-- ---- steps beside objects, and what gives an object

-- a step beside an object is a trivial MSCR; what gives an object has rank 2L
abbrev pub barrier_does : ℕ → Act → Operation
barrier_does n (SideInput f) = Class (Mapper n ∷ []) [] (place n 0 ∷ [])
barrier_does n (Operate f) = Flat n
barrier_does n (Singleton k) = Flat n

abbrev pub barrier_rank : ℕ → Act → ℕ
barrier_rank k (SideInput f) = suc (2 * k)
barrier_rank k (Operate f) = 2 * k
barrier_rank k (Singleton c) = 2 * k

abbrev pub barrier_ranked : Blocked → ℕ → Act → Ranked
barrier_ranked b n a =
    record { rank = barrier_rank (level b.graph.nodes n) a; number = n; does = barrier_does n a }

abbrev pub alone_of : Blocked → ℕ → Node → List Ranked
alone_of b n (Source r) = []
alone_of b n (Flatten ins) = cond (is_stage b n) (ranked_alone b n (Flat n) ∷ []) []
alone_of b n (Pdo c f) =
    cond (is_mapper b n || is_reducer b n) [] (ranked_alone b n (trivial n f) ∷ [])
alone_of b n (Gbk c o l k) = []
alone_of b n (Barrier ins o l a) = barrier_ranked b n a ∷ []

abbrev pub all_alone : Blocked → List Entry → List Ranked
all_alone b es = flat_map (λ e. alone_of b e.number e.node) es

-- ---- all operations, in no order that matters

abbrev pub operations : Blocked → List (List ℕ) → List Ranked
operations b cs = map (class_ranked b) cs ++ all_alone b b.graph.nodes
