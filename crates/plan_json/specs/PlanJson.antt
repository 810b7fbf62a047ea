-- A plan as a JSON value. The members of an object stand in the order of their keys' bytes.
use Rattle.std.specs.Prelude.{ℕ, List, codes, map, Option, Some, None}
use Rattle.std.specs.Str.Lossy.{utf8_lossy}
use Rattle.serde_json.specs.Data.{Data, Members, null, string, array, object, no_items, item, no_members, member}
use Rattle.serde_json.specs.View.{items_of}
use Rattle.combine_table.specs.declared.comb.Comb.{Comb}
use Rattle.exec_graph.specs.declared.graph.Act.{Act}
use Rattle.exec_plan.specs.Channels.{output_numbers_of}
use Rattle.exec_plan.specs.declared.plan.PlanPlace.{PlanPlace}
use Rattle.exec_plan.specs.declared.plan.Take.{Take}
use Rattle.exec_plan.specs.declared.plan.InChannel.{InChannel}
use Rattle.exec_plan.specs.declared.plan.Grouping.{Grouping}
use Rattle.exec_plan.specs.declared.plan.OutChannel.{OutChannel}
use Rattle.exec_plan.specs.declared.plan.OutChannel.TheVariants.{Group, Pass}
use Rattle.exec_plan.specs.declared.plan.Stage.{Stage}
use Rattle.exec_plan.specs.declared.plan.Stage.TheVariants.{Mscr, Flatten, Operate}
use Rattle.exec_plan.specs.declared.plan.Plan.{Plan}
use Rattle.plan_writing.specs.Acts.{act_text}
use Rattle.plan_writing.specs.Lists.{numbered_texts, paired}
use Rattle.plan_writing.specs.Naming.{Naming, Written}
use Rattle.plan_writing.specs.Places.{dotted, given_text, place_text, take_text}
use Rattle.plan_writing.specs.Forests.{forest_text}

-- ---- texts

-- a text. JSON is UTF-8: what is not is U+FFFD there.
abbrev pub text_json : List ℕ → Data
text_json text = string (utf8_lossy text)

abbrev pub texts_json : {X : Type 0} → (X → List ℕ) → List X → Data
texts_json print xs = array (items_of (map (λ x. text_json (print x)) xs))

-- a list of one text
abbrev pub one_json : List ℕ → Data
one_json text = array (item (text_json text) no_items)

-- ---- channels

-- the object that steps are called beside: the last member, where there is one
abbrev pub beside_json : Option PlanPlace → Members
beside_json None = no_members
beside_json (Some place) = member (codes "with") (text_json (place_text place)) no_members

-- what an input channel does and reads
abbrev pub channel_json : Data → Data → Option PlanPlace → Data
channel_json does reads beside =
    object (member (codes "does") does (member (codes "reads") reads (beside_json beside)))

abbrev pub in_json : Naming → InChannel → Data
in_json names channel =
    channel_json (text_json (forest_text names channel.does))
    (text_json (place_text channel.reads)) channel.beside

-- the combiner of a lifted channel
abbrev pub lift_json : Naming → Option Comb → Data
lift_json names None = null
lift_json names (Some combiner) = text_json (names.combiner combiner)

abbrev pub group_json : Naming → ℕ → Grouping → Data
group_json names stage group =
    object (member (codes "does") (text_json (forest_text names group.does))
    (member (codes "gives") (texts_json (given_text stage group) (output_numbers_of group.does))
    (member (codes "kind") (string (codes "group"))
    (member (codes "lift") (lift_json names group.lifted)
    (member (codes "name") (text_json (names.node group.origin))
    (member (codes "takes") (texts_json take_text group.takes) no_members))))))

abbrev pub pass_json : ℕ → Take → ℕ → Data
pass_json stage take result =
    object (member (codes "gives") (one_json (dotted stage result))
    (member (codes "kind") (string (codes "pass"))
    (member (codes "takes") (one_json (take_text take)) no_members)))

abbrev pub out_json : Naming → ℕ → OutChannel → Data
out_json names stage (Group group) = group_json names stage group
out_json names stage (Pass take result) = pass_json stage take result

-- ---- stages

abbrev pub mscr_json : Naming → ℕ → List InChannel → List OutChannel → Data
mscr_json names stage inputs outputs =
    object (member (codes "in") (array (items_of (map (in_json names) inputs)))
    (member (codes "kind") (string (codes "mscr"))
    (member (codes "out") (array (items_of (map (out_json names stage) outputs))) no_members)))

abbrev pub flatten_json : ℕ → List PlanPlace → Data
flatten_json stage takes =
    object (member (codes "gives") (one_json (dotted stage 0))
    (member (codes "kind") (string (codes "flatten"))
    (member (codes "takes") (texts_json place_text takes) no_members)))

abbrev pub operate_json : Naming → ℕ → List PlanPlace → ℕ → Act → Data
operate_json names stage takes origin does =
    object (member (codes "does") (text_json (act_text names origin does))
    (member (codes "gives") (one_json (dotted stage 0))
    (member (codes "kind") (string (codes "operate"))
    (member (codes "takes") (texts_json place_text takes) no_members))))

abbrev pub stage_json : Naming → ℕ → Stage → Data
stage_json names stage (Mscr mscr) = mscr_json names stage mscr.inputs mscr.outputs
stage_json names stage (Flatten takes) = flatten_json stage takes
stage_json names stage (Operate takes origin last does) =
    operate_json names stage takes origin does

-- ---- the whole

-- an output of the script, which is read there
abbrev pub output_json : Written → PlanPlace → Data
output_json output place =
    object (member (codes "file") (text_json output.file)
    (member (codes "name") (text_json output.name)
    (member (codes "reads") (text_json (place_text place)) no_members)))

-- the stages are numbered from 1
abbrev pub plan_json_of : Naming → Plan → Data
plan_json_of names plan =
    object (member (codes "outputs")
    (array (items_of (paired output_json names.outputs plan.outputs)))
    (member (codes "stages")
    (array (items_of (numbered_texts (stage_json names) 1 plan.stages))) no_members))
