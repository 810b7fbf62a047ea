use Rattle.std.proofs.Common.{ap, ◌∙◌}
use Rattle.expression_types.proofs.ScopeLemmas.{sight-kept}
use Rattle.expression_types.proofs.scope.Scope.intern.Goals as goal

pub returns-clause-sight : goal.returns-clause-sight
returns-clause-sight c =
    sight-kept c.self.inside.known c.intern.new.self c.self.inside.names.entries
    c.intern.ensures.extends
    c.intern.ensures.names c.self.invariant ∙ ap (λ s. s.sight) c.self.view_is
