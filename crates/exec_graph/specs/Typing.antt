-- The types of collections: an assignment of a type to each fits a graph where each step takes what
-- it is given, and each collection has the type of what is put into it.
use Rattle.std.specs.Prelude.{◌≡◌, ℕ, List, [], ◌∷◌, map, Option, Some, None, Ok, Err}
use Rattle.std.specs.List.{AllByRecursion, AllZip, slice_get}
use Rattle.flume_value.specs.declared.value.Value.{Value}
use Rattle.flume_types.specs.declared.types.Ty.{Ty}
use Rattle.flume_types.specs.declared.types.Ty.TheVariants as type
use Rattle.flume_types.specs.declared.types.Field.{Field}
use Rattle.flume_types.specs.Tables.{table_of}
use Rattle.flume_types.specs.Typing.{AllHave, Has, types_of}
use Rattle.bag_steps.specs.Sides.{sides_of}
use Rattle.bag_steps.specs.of_keyed_steps.Types.{TakesType, gives_type}
use Rattle.combine_table.specs.declared.comb.Comb.{Comb}
use Rattle.flume_collection.specs.Calls.{Called}
use Rattle.exec_graph.specs.declared.step.Does.{Does}
use Rattle.exec_graph.specs.declared.step.Does.TheVariants as does
use Rattle.exec_graph.specs.Forests.{Forest, Bare, Grow}
use Rattle.exec_graph.specs.World.{World}
use Rattle.exec_graph.specs.Meaning.{place}
use Rattle.exec_graph.specs.declared.graph.Place.{Place}
use Rattle.exec_graph.specs.declared.graph.Act.{Act}
use Rattle.exec_graph.specs.declared.graph.Act.TheVariants.{SideInput, Operate, Singleton}
use Rattle.exec_graph.specs.declared.graph.Node.{Node}
use Rattle.exec_graph.specs.declared.graph.Node.TheVariants.{Source, Flatten, Pdo, Gbk, Barrier}
use Rattle.exec_graph.specs.declared.graph.Graph.{Graph}

-- the types of sources and of functions: of what a function takes, and of each of its outputs
pub record Signatures : Type 0 where
  pub inputs : ℕ → Ty
  pub takes : ℕ → Ty
  pub gives : ℕ → List Ty

-- ---- steps

-- the pairs of a key and a list, and what the lists combine to
pub record IsCombined (c : Comb) (t u : Ty) : Type 0 where
  pub key : Ty
  pub value : Ty
  pub takes : t ≡ table_of key (type.List value)
  pub suits : TakesType c value
  pub gives : u ≡ table_of key (gives_type c value)

-- the pairs of a key and a value that is one side of an either, and those with the either
pub record IsTagged (side : Ty → Ty → Ty) (t u : Ty) : Type 0 where
  pub key : Ty
  pub left : Ty
  pub right : Ty
  pub takes : t ≡ table_of key (side left right)
  pub gives : u ≡ table_of key (type.Either left right)

pub record IsSplit (t u : Ty) : Type 0 where
  pub key : Ty
  pub left : Ty
  pub right : Ty
  pub takes : t ≡ table_of key (type.List (type.Either left right))
  pub gives : u ≡ table_of key (sides_of left right)

-- the pairs of a key and a list, and the lists' members
pub record IsSpread (t u : Ty) : Type 0 where
  pub key : Ty
  pub takes : t ≡ table_of key (type.List u)

-- a step takes members of t and gives members of u to its output of that place
abbrev pub StepTyped : Signatures → Does → ℕ → Ty → Ty → Type 0
StepTyped s (does.Call f) at t u = (t ≡ s.takes f) × (slice_get (s.gives f) at ≡ Some u)
StepTyped s (does.Combine c) at t u = (at ≡ 0) × IsCombined c t u
StepTyped s does.Pair at t u = (at ≡ 0) × (u ≡ table_of t type.Int)
StepTyped s does.TagLeft at t u = (at ≡ 0) × IsTagged (λ left right. left) t u
StepTyped s does.TagRight at t u = (at ≡ 0) × IsTagged (λ left right. right) t u
StepTyped s does.Split at t u = (at ≡ 0) × IsSplit t u
StepTyped s does.Solo at t u = (at ≡ 0) × (u ≡ table_of type.Int t)
StepTyped s does.Spread at t u = (at ≡ 0) × IsSpread t u

-- ---- graphs

-- where a step keeps an output, the output has the type
abbrev pub OutTyped : (Place → Ty) → ℕ → Option ℕ → Ty → Type 0
OutTyped types n None u = Unit {0}
OutTyped types n (Some j) u = types (place n j) ≡ u

-- each step of a forest of node n over members of t takes what it is given
abbrev pub ForestTyped : Signatures → (Place → Ty) → ℕ → Ty → Forest → Type 0
ForestTyped s types n t Bare = Unit {0}
ForestTyped s types n t (Grow l kids rest) =
    ((u : Ty) × StepTyped s l.does l.at t u × OutTyped types n l.out u
    × ForestTyped s types n u kids)
    × ForestTyped s types n t rest

-- the pairs of a key and a value, and their groups
pub record IsGrouped (t u : Ty) : Type 0 where
  pub key : Ty
  pub value : Ty
  pub takes : t ≡ table_of key value
  pub gives : u ≡ table_of key (type.List value)

-- t is the type of records of these types, in order
pub record IsRecord (ts : List Ty) (t : Ty) : Type 0 where
  pub fields : List (Field Ty)
  pub record_of : t ≡ type.Rec fields
  pub in_order : types_of fields ≡ ts

-- what a function of objects takes: the type of the one object's value, or of the record of several
abbrev pub IsArgument : List Ty → Ty → Type 0
IsArgument [] t = IsRecord [] t
IsArgument (u ∷ []) t = t ≡ u
IsArgument (u ∷ (v ∷ us)) t = IsRecord (u ∷ (v ∷ us)) t

-- the type of pairs of a key and what the combiner gives, and the type of what it gives
pub record IsWhole (c : Comb) (t u : Ty) : Type 0 where
  pub key : Ty
  pub value : Ty
  pub takes : t ≡ table_of key (gives_type c value)
  pub suits : TakesType c value
  pub gives : u ≡ gives_type c value

-- the act takes collections of these types and gives a collection of that type: a side input by a
-- function of one output that takes the record of both types, an operate by a function of one
-- output that takes its argument's type, and a singleton of pairs that its combiner gives
abbrev pub ActTyped : Signatures → Act → List Ty → Ty → Type 0
ActTyped s (SideInput f) [] u = ⊥
ActTyped s (SideInput f) (t ∷ []) u = ⊥
ActTyped s (SideInput f) (t ∷ (object ∷ [])) u =
    IsRecord (t ∷ (object ∷ [])) (s.takes f) × (s.gives f ≡ u ∷ [])
ActTyped s (SideInput f) (t ∷ (object ∷ (v ∷ vs))) u = ⊥
ActTyped s (Operate f) ts u = IsArgument ts (s.takes f) × (s.gives f ≡ u ∷ [])
ActTyped s (Singleton k) [] u = ⊥
ActTyped s (Singleton k) (t ∷ []) u = IsWhole k t u
ActTyped s (Singleton k) (t ∷ (v ∷ vs)) u = ⊥

-- the types of what node n reads and gives fit the node
abbrev pub NodeTyped : Signatures → (Place → Ty) → ℕ → Node → Type 0
NodeTyped s types n (Source r) = types (place n 0) ≡ s.inputs r.number
NodeTyped s types n (Flatten ins) = AllByRecursion (λ c. types c ≡ types (place n 0)) ins
NodeTyped s types n (Pdo c f) = ForestTyped s types n (types c) f
NodeTyped s types n (Gbk c o l k) = IsGrouped (types c) (types (place n 0))
NodeTyped s types n (Barrier ins o l a) = ActTyped s a (map types ins) (types (place n 0))

-- the assignment of types fits the graph
abbrev pub IsTypedBy : Signatures → Graph → (Place → Ty) → Type 0
IsTypedBy s g types = AllByRecursion (λ e. NodeTyped s types e.number e.node) g.nodes

abbrev pub IsTyped : Signatures → Graph → Type 0
IsTyped s g = (types : Place → Ty) × IsTypedBy s g types

-- whatever signatures give types to g give types to h
abbrev pub KeepsTypes : Graph → Graph → Type 0
KeepsTypes g h = (s : Signatures) → IsTyped s g → IsTyped s h

-- ---- worlds

-- a call gives emissions of its outputs' types, or it traps
abbrev pub EmitsTyped : List Ty → Called → Type 0
EmitsTyped gives (Ok outputs) = AllZip AllHave gives outputs
EmitsTyped gives (Err trap) = Unit {0}

-- rows have their input's type, and functions answer by their signatures
pub record IsWorldTyped (s : Signatures) (w : World) : Type 0 where
  pub rows : (r : ℕ) → AllHave (s.inputs r) (w.rows r)
  pub called : (f : ℕ) (x : Value) → Has (s.takes f) x → EmitsTyped (s.gives f) (w.called f x)
