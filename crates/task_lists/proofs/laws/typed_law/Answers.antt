use Rattle.std.proofs.Common.{sym}
use Rattle.flume_value.proofs.EachLemmas.{Each-at}
use Rattle.exec_plan.specs.declared.plan.OutChannel.TheVariants.{Group}
use Rattle.exec_plan.specs.Typing.{OutChannelTyped}
use Rattle.task_lists.specs.Tasks.{given_to, map_task_of}
use Rattle.task_lists.proofs.Typed.{map_typed, given_have, reduce_typed}
use Rattle.task_lists.proofs.TypedResults.{begin_typed, sides_first, table_typed}
use Rattle.task_lists.proofs.Groupable.{groupable}
use Rattle.task_lists.proofs.laws.typed_law.Goals as goal

pub returns-clause-sources : goal.returns-clause-sources
returns-clause-sources c g w p types world fit = begin_typed g w types world fit.sources

pub returns-clause-results : goal.returns-clause-results
returns-clause-results c g w n types t k sources before s world lists fit ok =
    table_typed g w world types n t lists k sources before s fit ok

pub returns-clause-maps : goal.returns-clause-maps
returns-clause-maps c g w n types t k m i s world lists fit =
    map_typed g w world types n t lists s.inputs fit.outs fit.inputs m i

pub returns-clause-reduces : goal.returns-clause-reduces
returns-clause-reduces c g w n types t k r p s channel world lists fit at there =
    reduce_typed g w world types n t lists s.inputs fit.outs fit.inputs k channel p
    (Each-at (OutChannelTyped g types fit.outs k) s.outputs r (Group channel) fit.outputs (sym at))
    there

pub returns-clause-given : goal.returns-clause-given
returns-clause-given c g w n types t k r m i s channel world lists fit at there lift =
    let typed = Each-at (OutChannelTyped g types fit.outs k) s.outputs r (Group channel) fit.outputs
    (sym at) in
    groupable g types fit.outs k channel typed lift
    (given_to w (map_task_of n t s.inputs m i) m channel.takes)
    (given_have g w world types n t lists s.inputs fit.outs fit.inputs typed.pairs m i
    channel.takes there typed.takes)

pub returns-clause-beside : goal.returns-clause-beside
returns-clause-beside c = sides_first
