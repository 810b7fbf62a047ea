use Rattle.std.proofs.Common.{ap, ◌∙◌}
use Rattle.written_types.proofs.NamedLemmas.{names-kept}
use Rattle.written_types.proofs.names.TypeNames.intern.Goals as goal

pub returns-clause-names : goal.returns-clause-names
returns-clause-names c =
    let known = c.self.inside in
    names-kept known.types c.intern.new.self c.intern.ensures.extends known.names.entries
    c.self.invariant
    ∙ ap (λ known. known.names) c.self.view_is
