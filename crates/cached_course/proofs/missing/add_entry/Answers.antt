use Rattle.std.proofs.Common.{◌++◌, ◌∙◌, ◌∷◌, [], Option, map, subst, sym, ap}
use Rattle.std.specs.List.{AllByRecursion}
use Rattle.flume_value.specs.Ranges.{IsHeld}
use Rattle.cached_course.specs.declared.missing.Missing.{Missing}
use Rattle.cached_course.specs.inner.Missing.{entry_of, kept_value, one_of}
use Rattle.cached_course.proofs.missing.add_entry.Goals as goal

pub returns-in_ok-push-in-Some-clause-entries : goal.returns-in_ok-push-in-Some-clause-entries
returns-in_ok-push-in-Some-clause-entries c =
    let old = c.args.entries.now.items in
    let entry = entry_of c.args.program.now.script c.args.known.now c.args.written.now in
    c.in_ok-push-in-Some.ensures.items
    ∙ (λ i. old ++ c.in_ok-entry_of-in-Some.ensures.entry i ∷ [])
    ∙ ap (λ (next : Option Missing). old ++ map entry (one_of next)) (sym c.in-Some.is)

pub returns-in_ok-push-in-Some-clause-held : goal.returns-in_ok-push-in-Some-clause-held
returns-in_ok-push-in-Some-clause-held c =
    let value = kept_value c.args.program.now.script c.args.known.now c.args.written.now in
    subst
    (λ (next : Option Missing). AllByRecursion (λ (it : Missing). IsHeld (value it)) (one_of next))
    (sym c.in-Some.is) (c.in_ok-entry_of-in-Some.ensures.held, tt)
