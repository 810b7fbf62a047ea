use Rattle.std.proofs.Common.{[], ◌∷◌}
use Rattle.flume_value.specs.declared.value.Value.TheVariants as value
use Rattle.forest_steps.specs.Answers.{lists_of}
use Rattle.map_shard.proofs.Siding.{emits_beside, traps_beside}
use Rattle.map_shard.proofs.beside.BesideFunctions.call.Goals as goal

pub returns-clause-emissions : goal.returns-clause-emissions
returns-clause-emissions g c =
    let self = c.args.self.now in
    emits_beside (g.F.Functions.called self.functions.now c.args.number) c.args.element.now
    (value.Rec (c.args.element.now ∷ (self.object.now ∷ []))) c.in_ok-both.both
    c.in_ok-both.ensures lists_of c.call-answer.result c.call-answer.ensures.emissions

pub returns-clause-trap : goal.returns-clause-trap
returns-clause-trap g c =
    let self = c.args.self.now in
    traps_beside (g.F.Functions.called self.functions.now c.args.number) c.args.element.now
    (value.Rec (c.args.element.now ∷ (self.object.now ∷ []))) c.in_ok-both.both
    c.in_ok-both.ensures c.call-answer.result c.call-answer.ensures.trap
