-- The rules of plans as tests.
use Rattle.std.specs.Prelude.{ℕ, ◌+◌, ◌^◌, Bool, true, false, not, nat_le, nat_lt, ◌==◌, ◌&&◌, ◌||◌, List, [], ◌∷◌, ◌++◌, length, Option, Some, None}
use Rattle.std.specs.List.{list_all, slice_get}
use Rattle.combine_table.specs.declared.comb.Comb.{Comb}
use Rattle.combine_table.specs.contracts.comb.CombPartialEq.TheImpl as combs
use Rattle.exec_graph.specs.Forests.{Forest}
use Rattle.exec_graph.specs.Wellformed.{root_comb}
use Rattle.exec_plan.specs.declared.plan.PlanPlace.{PlanPlace}
use Rattle.exec_plan.specs.declared.plan.PlanPlace.TheVariants as at
use Rattle.exec_plan.specs.declared.plan.Take.{Take}
use Rattle.exec_plan.specs.declared.plan.InChannel.{InChannel}
use Rattle.exec_plan.specs.declared.plan.Grouping.{Grouping}
use Rattle.exec_plan.specs.declared.plan.OutChannel.{OutChannel}
use Rattle.exec_plan.specs.declared.plan.OutChannel.TheVariants.{Group, Pass}
use Rattle.exec_plan.specs.declared.plan.Mscr.{Mscr as Channels}
use Rattle.exec_plan.specs.declared.plan.Stage.{Stage}
use Rattle.exec_plan.specs.declared.plan.Stage.TheVariants.{Mscr, Flatten, Operate}
use Rattle.exec_plan.specs.declared.plan.Plan.{Plan}
use Rattle.exec_plan.specs.Wellformed.{stage_has_objects, is_pass, most_channels, outputs_count_at, results_at, results_given}
use Rattle.exec_plan.specs.Meaning.{in_reads}
use Rattle.plan_checks.specs.inner.Counts.{outs_from}

abbrev pub made_test : ℕ → List Stage → PlanPlace → Bool
made_test sources before (at.Source n) = nat_lt n sources
made_test sources before (at.Result stage number) = nat_lt number (results_at before stage)

abbrev pub exists_test : List InChannel → Take → Bool
exists_test ins k = nat_lt k.out (outputs_count_at (slice_get ins k.channel))

abbrev pub is_there : Option ℕ → Bool
is_there None = false
is_there (Some n) = true

abbrev pub numbered_test : Option Forest → Bool
numbered_test None = true
numbered_test (Some f) = is_there (outs_from 0 f)

abbrev pub combines_by : Comb → Option Comb → Bool
combines_by k None = false
combines_by k (Some root) = (combs.ghosts).eq root k

abbrev pub lift_test : Option Comb → Option Forest → Bool
lift_test None f = true
lift_test (Some k) None = false
lift_test (Some k) (Some f) = combines_by k (root_comb f)

abbrev pub group_test : List InChannel → Bool → ℕ → Grouping → Bool
group_test ins passed n g =
    not passed && ((g.first == n) && (list_all (exists_test ins) g.takes
    && (numbered_test g.does && lift_test g.lifted g.does)))

abbrev pub out_test : List InChannel → Bool → ℕ → OutChannel → Bool
out_test ins passed n (Group g) = group_test ins passed n g
out_test ins passed n (Pass k i) = (i == n) && exists_test ins k

abbrev pub outs_test : List InChannel → Bool → ℕ → List OutChannel → Bool
outs_test ins passed n [] = true
outs_test ins passed n (c ∷ cs) =
    out_test ins passed n c && outs_test ins (passed || is_pass c) (n + results_given c) cs

abbrev pub in_test : ℕ → List Stage → InChannel → Bool
in_test sources before c =
    list_all (made_test sources before) (in_reads c) && numbered_test c.does

abbrev pub mscr_test : ℕ → List Stage → Channels → Bool
mscr_test sources before m =
    nat_lt 0 (length m.inputs) && (nat_le (length m.inputs) most_channels
    && (nat_le (length m.outputs) most_channels
    && (list_all (in_test sources before) m.inputs && outs_test m.inputs false 0 m.outputs)))

abbrev pub stage_test : ℕ → List Stage → Stage → Bool
stage_test sources before (Mscr m) = mscr_test sources before m
stage_test sources before (Flatten takes) = list_all (made_test sources before) takes
stage_test sources before (Operate takes o l a) = list_all (made_test sources before) takes

abbrev pub stages_test : ℕ → List Stage → List Stage → Bool
stages_test sources before [] = true
stages_test sources before (s ∷ ss) =
    stage_test sources before s && stages_test sources (before ++ s ∷ []) ss

abbrev pub plan_test : Plan → Bool
plan_test p =
    stages_test p.sources [] p.stages
    && (list_all (made_test p.sources p.stages) p.outputs && (nat_lt (length p.stages) (2 ^ 32)
    && list_all (stage_has_objects p.objects p.stages) p.stages))

abbrev pub are_all : List Bool → Bool
are_all bs = list_all (λ b. b) bs
