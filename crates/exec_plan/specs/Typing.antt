-- The types of a plan's collections: an assignment of a type to each fits a plan where each step
-- takes what it is given, and each collection has the type of what is put into it.
use Rattle.std.specs.Prelude.{◌≡◌, ℕ, ◌+◌, List, [], ◌∷◌, map, Option, Some, None}
use Rattle.std.proofs.Common.{suc}
use Rattle.std.specs.List.{AllByRecursion}
use Rattle.exec_graph.specs.of_flume_types.declared.types.Ty.{Ty}
use Rattle.exec_graph.specs.declared.graph.Act.TheVariants.{SideInput}
use Rattle.exec_graph.specs.declared.step.Does.TheVariants as does
use Rattle.exec_graph.specs.Forests.{Label, Forest, Bare, Grow}
use Rattle.exec_graph.specs.Meaning.{place}
use Rattle.exec_graph.specs.declared.graph.Place.{Place}
use Rattle.exec_graph.specs.Typing.{ActTyped, Signatures, ForestTyped, IsGrouped}
use Rattle.exec_plan.specs.declared.plan.PlanPlace.{PlanPlace}
use Rattle.exec_plan.specs.declared.plan.PlanPlace.TheVariants as at
use Rattle.exec_plan.specs.declared.plan.Take.{Take}
use Rattle.exec_plan.specs.declared.plan.InChannel.{InChannel}
use Rattle.exec_plan.specs.declared.plan.Grouping.{Grouping}
use Rattle.exec_plan.specs.declared.plan.OutChannel.{OutChannel}
use Rattle.exec_plan.specs.declared.plan.OutChannel.TheVariants.{Group, Pass}
use Rattle.exec_plan.specs.declared.plan.Mscr.{Mscr as Channels}
use Rattle.exec_plan.specs.declared.plan.Stage.{Stage}
use Rattle.exec_plan.specs.declared.plan.Stage.TheVariants.{Mscr, Flatten, Operate}
use Rattle.exec_plan.specs.declared.plan.Plan.{Plan}

-- a forest, or the identity, over members of t: outputs (n, 0), (n, 1), .. have their types
abbrev pub ChannelTyped : Signatures → (Place → Ty) → ℕ → Ty → Option Forest → Type 0
ChannelTyped s outs n t None = outs (place n 0) ≡ t
ChannelTyped s outs n t (Some f) = ForestTyped s outs n t f

-- one step that is kept, which calls a function on records of members of two types
pub record IsSideTyped (s : Signatures) (outs : Place → Ty) (n : ℕ) (t object : Ty) (f : Forest)
    : Type 0 where
  pub label : Label
  pub alone : f ≡ Grow label Bare Bare
  pub function : ℕ
  pub calls : label.does ≡ does.Call function
  pub first : label.at ≡ 0
  pub kept : label.out ≡ Some 0
  pub typed : ActTyped s (SideInput function) (t ∷ (object ∷ [])) (outs (place n 0))

abbrev pub BesideTyped : Signatures → (Place → Ty) → ℕ → Ty → Ty → Option Forest → Type 0
BesideTyped s outs n t object None = ⊥
BesideTyped s outs n t object (Some f) = IsSideTyped s outs n t object f

-- an input channel whose steps are called beside an object, or none
abbrev pub InTyped : Signatures → (PlanPlace → Ty) → (Place → Ty) → ℕ → Ty → Option PlanPlace
    → Option Forest → Type 0
InTyped s types outs n t None f = ChannelTyped s outs n t f
InTyped s types outs n t (Some c) f = BesideTyped s outs n t (types c) f

-- the input channels from number n on
abbrev pub InsTyped : Signatures → (PlanPlace → Ty) → (Place → Ty) → ℕ → List InChannel → Type 0
InsTyped s types outs n [] = Unit {0}
InsTyped s types outs n (c ∷ cs) =
    InTyped s types outs n (types c.reads) c.beside c.does × InsTyped s types outs (suc n) cs

abbrev pub take_type : (Place → Ty) → Take → Ty
take_type outs k = outs (place k.channel k.out)

-- the types of the results of stage k, from a number on
abbrev pub stage_types : (PlanPlace → Ty) → ℕ → ℕ → Place → Ty
stage_types types k first c = types (at.Result k (first + c.out))

-- all that is taken has one type, of pairs, and the reducer runs on their groups
pub record GroupTyped (s : Signatures) (types : PlanPlace → Ty) (outs : Place → Ty) (k : ℕ)
    (g : Grouping) : Type 0 where
  pub pairs : Ty
  pub groups : Ty
  pub takes : AllByRecursion (λ i. take_type outs i ≡ pairs) g.takes
  pub grouped : IsGrouped pairs groups
  pub reduced : ChannelTyped s (stage_types types k g.first) 0 groups g.does

abbrev pub OutChannelTyped : Signatures → (PlanPlace → Ty) → (Place → Ty) → ℕ → OutChannel → Type 0
OutChannelTyped s types outs k (Group g) = GroupTyped s types outs k g
OutChannelTyped s types outs k (Pass i n) = types (at.Result k n) ≡ take_type outs i

pub record MscrTyped (s : Signatures) (types : PlanPlace → Ty) (k : ℕ) (m : Channels) : Type 0 where
  -- the types of the outputs of input channels, by channel and output
  pub outs : Place → Ty
  pub inputs : InsTyped s types outs 0 m.inputs
  pub outputs : AllByRecursion (OutChannelTyped s types outs k) m.outputs

-- the types of what stage k reads and gives fit the stage
abbrev pub StageTyped : Signatures → (PlanPlace → Ty) → ℕ → Stage → Type 0
StageTyped s types k (Mscr m) = MscrTyped s types k m
StageTyped s types k (Flatten takes) =
    AllByRecursion (λ c. types c ≡ types (at.Result k 0)) takes
StageTyped s types k (Operate takes o l a) = ActTyped s a (map types takes) (types (at.Result k 0))

abbrev pub AreStagesTyped : Signatures → (PlanPlace → Ty) → ℕ → List Stage → Type 0
AreStagesTyped s types k [] = Unit {0}
AreStagesTyped s types k (stage ∷ stages) =
    StageTyped s types k stage × AreStagesTyped s types (suc k) stages

-- the assignment of types fits the plan
pub record IsPlanTypedBy (s : Signatures) (p : Plan) (types : PlanPlace → Ty) : Type 0 where
  pub sources : (n : ℕ) → types (at.Source n) ≡ s.inputs n
  pub stages : AreStagesTyped s types 1 p.stages

abbrev pub IsPlanTyped : Signatures → Plan → Type 0
IsPlanTyped s p = (types : PlanPlace → Ty) × IsPlanTypedBy s p types
