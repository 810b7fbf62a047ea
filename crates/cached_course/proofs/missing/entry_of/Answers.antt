use Rattle.cached_course.proofs.missing.entry_of.Goals as goal

pub returns-in-Ok-clause-entry : goal.returns-in-Ok-clause-entry
returns-in-Ok-clause-entry c =
    λ i. record { key = c.args.missing.key; value = c.in-Ok.ensures.value i }
