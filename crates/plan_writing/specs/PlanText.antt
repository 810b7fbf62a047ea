-- The text of a plan, line by line.
use Rattle.std.specs.Prelude.{ℕ, List, [], ◌++◌, codes, decimal, Option, Some, None}
use Rattle.combine_table.specs.declared.comb.Comb.{Comb}
use Rattle.exec_graph.specs.declared.graph.Act.{Act}
use Rattle.exec_plan.specs.Channels.{output_numbers_of}
use Rattle.exec_plan.specs.declared.plan.PlanPlace.{PlanPlace}
use Rattle.exec_plan.specs.declared.plan.Take.{Take}
use Rattle.exec_plan.specs.declared.plan.InChannel.{InChannel}
use Rattle.exec_plan.specs.declared.plan.Grouping.{Grouping}
use Rattle.exec_plan.specs.declared.plan.OutChannel.{OutChannel}
use Rattle.exec_plan.specs.declared.plan.OutChannel.TheVariants.{Group, Pass}
use Rattle.exec_plan.specs.declared.plan.Stage.{Stage}
use Rattle.exec_plan.specs.declared.plan.Stage.TheVariants.{Mscr, Flatten, Operate}
use Rattle.exec_plan.specs.declared.plan.Plan.{Plan}
use Rattle.printing.specs.Printed.{quoted}
use Rattle.plan_writing.specs.Acts.{act_text}
use Rattle.plan_writing.specs.Lists.{one_text, numbered_texts, paired, spaced}
use Rattle.plan_writing.specs.Naming.{Naming, Written}
use Rattle.plan_writing.specs.Places.{dotted, given_text, place_text, take_text}
use Rattle.plan_writing.specs.Forests.{forest_text}

-- ---- channels

-- the object that steps are called beside
abbrev pub beside_text : Option PlanPlace → List ℕ
beside_text None = []
beside_text (Some object) = codes " with " ++ place_text object

-- what an input channel reads
abbrev pub in_begin : ℕ → InChannel → List ℕ
in_begin number channel =
    codes "in "
    ++ (decimal number
    ++ (codes " reads " ++ (place_text channel.reads ++ beside_text channel.beside)))

-- an input channel
abbrev pub in_line : Naming → ℕ → InChannel → List ℕ
in_line names number channel =
    in_begin number channel
    ++ (codes " does " ++ (forest_text names channel.does ++ codes "\n"))

-- the combiner of a lifted channel
abbrev pub lift_text : Naming → Option Comb → List ℕ
lift_text names None = []
lift_text names (Some combiner) = codes " lift " ++ names.combiner combiner

abbrev pub group_begin : Naming → ℕ → Grouping → List ℕ
group_begin names number group =
    codes "group "
    ++ (decimal number
    ++ (codes " " ++ (names.node group.origin ++ lift_text names group.lifted)))

abbrev pub group_end : ℕ → Grouping → List ℕ
group_end stage group =
    codes " gives" ++ (spaced (given_text stage group) (output_numbers_of group.does) ++ codes "\n")

-- a grouping channel of a stage
abbrev pub group_line : Naming → ℕ → ℕ → Grouping → List ℕ
group_line names stage number group =
    group_begin names number group
    ++ (codes " takes"
    ++ (spaced take_text group.takes
    ++ (codes " does " ++ (forest_text names group.does ++ group_end stage group))))

-- a pass-through channel of a stage
abbrev pub pass_line : ℕ → ℕ → Take → ℕ → List ℕ
pass_line stage number take result =
    codes "pass "
    ++ (decimal number
    ++ (codes " takes "
    ++ (take_text take ++ (codes " gives " ++ (dotted stage result ++ codes "\n")))))

abbrev pub out_line : Naming → ℕ → ℕ → OutChannel → List ℕ
out_line names stage number (Group group) = group_line names stage number group
out_line names stage number (Pass take result) = pass_line stage number take result

-- ---- stages

abbrev pub mscr_line : ℕ → List ℕ
mscr_line stage = codes "stage " ++ (decimal stage ++ codes " mscr\n")

abbrev pub flatten_line : ℕ → List PlanPlace → List ℕ
flatten_line stage takes =
    codes "stage "
    ++ (decimal stage
    ++ (codes " flatten takes"
    ++ (spaced place_text takes ++ (codes " gives " ++ (dotted stage 0 ++ codes "\n")))))

abbrev pub operate_begin : ℕ → List PlanPlace → List ℕ
operate_begin stage takes =
    codes "stage " ++ (decimal stage ++ (codes " operate takes" ++ spaced place_text takes))

abbrev pub operate_line : Naming → ℕ → List PlanPlace → ℕ → Act → List ℕ
operate_line names stage takes origin does =
    operate_begin stage takes
    ++ (codes " does "
    ++ (act_text names origin does ++ (codes " gives " ++ (dotted stage 0 ++ codes "\n"))))

-- the lines of a stage: its channels are numbered from 0
abbrev pub stage_text : Naming → ℕ → Stage → List ℕ
stage_text names stage (Mscr mscr) =
    mscr_line stage
    ++ (one_text (numbered_texts (in_line names) 0 mscr.inputs)
    ++ one_text (numbered_texts (out_line names stage) 0 mscr.outputs))
stage_text names stage (Flatten takes) = flatten_line stage takes
stage_text names stage (Operate takes origin last does) =
    operate_line names stage takes origin does

-- ---- the whole

-- an output of the script, which is read there
abbrev pub output_line : Written → PlanPlace → List ℕ
output_line output place =
    codes "output "
    ++ (output.name
    ++ (codes " reads "
    ++ (place_text place ++ (codes " to " ++ (quoted output.file ++ codes "\n")))))

-- the stages are numbered from 1
abbrev pub plan_text_of : Naming → Plan → List ℕ
plan_text_of names plan =
    codes "plan\n"
    ++ (one_text (numbered_texts (stage_text names) 1 plan.stages)
    ++ one_text (paired output_line names.outputs plan.outputs))
