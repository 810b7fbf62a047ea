use Rattle.std.proofs.Common.{◌++◌, ◌∙◌, List, ap, map, subst}
use Rattle.std.specs.List.{AllByRecursion}
use Rattle.std.specs.Vec.Iter.{into_iter_items}
use Rattle.flume_value.specs.Ranges.{IsHeld}
use Rattle.cached_course.specs.declared.missing.Missing.{Missing}
use Rattle.cached_course.specs.inner.Missing.{entry_of, kept_value, one_of}
use Rattle.cached_course.proofs.MissingLemmas.{taken_one}
use Rattle.cached_course.proofs.missing.push_entry.Goals as goal

pub returns-clause-entries : goal.returns-clause-entries
returns-clause-entries c =
    let entry = entry_of c.args.program.now.script c.args.known.now c.args.written.now in
    c.in_ok-add_entry.ensures.entries
    ∙ ap (λ (l : List Missing). c.args.entries.now.items ++ map entry l)
    (ap one_of c.next_missing-next.ensures.next ∙ taken_one (into_iter_items c.args.left.now))

pub returns-clause-held : goal.returns-clause-held
returns-clause-held c =
    let value = kept_value c.args.program.now.script c.args.known.now c.args.written.now in
    subst (λ (l : List Missing). AllByRecursion (λ (it : Missing). IsHeld (value it)) l)
    (ap one_of c.next_missing-next.ensures.next ∙ taken_one (into_iter_items c.args.left.now))
    c.in_ok-add_entry.ensures.held
