use Rattle.std.proofs.Common.{is_some, ap, ◌∙◌}
use Rattle.expression_types.proofs.PlaceLemmas.{placed_is_found}
use Rattle.expression_types.proofs.ScopeLemmas.{found-some}
use Rattle.expression_types.proofs.scope.Scope.has.Goals as goal

pub returns : goal.returns
returns c =
    c.is_some.ensures ∙ found-some c.args.self.now.types c.find.result
    ∙ ap is_some c.find.ensures.ok
    ∙ placed_is_found c.args.name.now c.args.self.now.sight.names
