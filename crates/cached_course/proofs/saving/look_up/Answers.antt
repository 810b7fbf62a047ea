use Rattle.std.proofs.Common.{◌∙◌, List, refl, subst, sym}
use Rattle.kept_results.specs.Keyed.{keyed_nodes}
use Rattle.cached_course.specs.Looked.{not_found}
use Rattle.cached_course.specs.declared.missing.Missing.{Missing}
use Rattle.cached_course.specs.inner.Missing.{AreMissing}
use Rattle.cached_course.proofs.GivenLemmas.{asked_firsts, inputs_given, was_given}
use Rattle.cached_course.proofs.saving.look_up.Goals as goal

pub taken_for-requires : goal.taken_for-requires
taken_for-requires g c =
    let own = rw c.as_program-held.ensures.is at c.in-Ok.ensures.seen in
    own.goes.inputs

pub returns-in-Ok-clause-given : goal.returns-in-Ok-clause-given
returns-in-Ok-clause-given g c =
    let script = c.args.script.program.script in
    let keyed = keyed_nodes c.args.script.outlines c.args.script.texts c.args.inputs.files script in
    let own = rw c.as_program-held.ensures.is at c.in-Ok.ensures.seen in
    let goes = own.goes in
    let given = c.in_ok-taken_for-in-Ok.ensures in
    was_given script keyed keyed own.looked c.args.inputs.rows (g.C.Cache.seen c.args.cache.now)
    (g.C.Cache.seen c.looked_for.new.cache)
    c.in-Ok.it.found c.in-Ok.it.inputs.items c.in_ok-taken_for-in-Ok.field-0 refl own.was goes.found
    (subst (λ (l : List Missing). AreMissing script (not_found keyed own.looked) l)
    (sym given.missing) goes.missing)
    given.program goes.inputs given.lists given.known (given.needed ∙ goes.needed)

pub returns-in-Ok-clause-inputs : goal.returns-in-Ok-clause-inputs
returns-in-Ok-clause-inputs g c =
    let script = c.args.script.program.script in
    let keyed = keyed_nodes c.args.script.outlines c.args.script.texts c.args.inputs.files script in
    let own = rw c.as_program-held.ensures.is at c.in-Ok.ensures.seen in
    let taken = c.in_ok-taken_for-in-Ok.field-0 in
    let given = c.in_ok-taken_for-in-Ok.ensures in
    let held = c.as_program-held.ensures in
    let well = rw held.is at held.well_formed in
    inputs_given script keyed own.looked c.args.inputs.rows c.in-Ok.it.found
    taken.program.script c.in-Ok.it.inputs.items taken.lists
    own.goes.found given.program own.goes.inputs given.lists
    (c.given_law.ensures.inputs script keyed own.looked c.args.inputs.rows well
    c.requires.written
    (asked_firsts script c.args.script.outlines c.args.script.texts c.args.inputs.files keyed refl)
    own.was.kept c.requires.inputs)
