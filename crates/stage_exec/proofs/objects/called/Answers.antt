use Rattle.std.proofs.Common.{map, sym, ◌∙◌}
use Rattle.std.proofs.lemmas.Result.{IfOk-weaker}
use Rattle.stage_results.specs.of_map_shard.Tables.{table}
use Rattle.task_lists.specs.Lists.{calm_list}
use Rattle.stage_exec.proofs.Acting.{none_calm}
use Rattle.stage_exec.proofs.objects.called.Goals as goal

pub operate-requires : goal.operate-requires
operate-requires g c =
    let ready = c.requires.ready in
    let t = table c.args.sources.now c.args.results.now in
    c.act_law.ensures ready.0 c.args._number c.args.origin c.args.function c.args._last t
    c.args.takes.now c.in-Some.values ready.2
    (sym c.in_ok-values_of.ensures ∙ c.in-Some.is)

pub returns-in-None : goal.returns-in-None
returns-in-None g c w e =
    let t = table c.args.sources.now c.args.results.now in
    rw c.new.ensures
    (c.no_value_law.ensures w c.args.origin c.args.function (map (calm_list t) c.args.takes.now)
    (sym c.in_ok-values_of.ensures ∙ c.in-None.is)
    ∙ none_calm t c.args.takes.now)

pub returns-in_ok-operate-in-Some : goal.returns-in_ok-operate-in-Some
returns-in_ok-operate-in-Some g c w e =
    let t = table c.args.sources.now c.args.results.now in
    IfOk-weaker c.one.result _ _
    (λ made is.
    c.in_ok-operate-in-Some.ensures w (map (calm_list t) c.args.takes.now) e
    (sym c.in_ok-values_of.ensures ∙ c.in-Some.is)
    ∙ sym is)
    c.one.ensures
