use Rattle.std.proofs.Common.{inl, inr, None, map, refl, ⊎_elim}
use Rattle.std.proofs.lemmas.Result.{IfErr-weaker, IfOk-weaker, err_from_is_err_and}
use Rattle.kept_results.specs.Keyed.{keyed_nodes}
use Rattle.outside.specs.Saves.{output_file}
use Rattle.run_course.specs.Lent.{lent}
use Rattle.run_course.proofs.AskLemmas.{script_for}
use Rattle.run_course.proofs.HostLemmas.{others_as}
use Rattle.command_words.specs.declared.words.Command.TheVariants.{Run}
use Rattle.cached_course.proofs.CourseLemmas.{are_asked, inputs_asked, inputs_stop, is_loaded, may_come, memory_asked, run_asked, script_stops}
use Rattle.cached_course.proofs.StopLemmas.{asks_here, prepared, stops}
use Rattle.cached_course.proofs.saving.prepare.Goals as goal

-- ---- the script is not there

pub returns-in_err-script-clause-err : goal.returns-in_err-script-clause-err
returns-in_err-script-clause-err g c =
    let end = c.from_residual in
    let p = err_from_is_err_and end.result end.ensures.1 in
    rw (p.1, p.2)
    (λ words asks.
    script_stops words (g.R.Source.seen c.args.source.now) (g.R.Source.seen c.args.source.now)
    (g.R.Source.seen c.keyed_script.new.source) (map g.H.Host.account c.args.hosts.now)
    (map g.H.Host.account c.args.hosts.now) (g.C.Cache.seen c.args.cache.now)
    (g.C.Cache.seen c.args.cache.now)
    c.args.settings.now c.args.name.now asks c.in_err-script.field-0.0
    (rw c.tries-tries.ensures.value at c.in_err-script.ensures.err))

pub returns-in_err-script-clause-asked : goal.returns-in_err-script-clause-asked
returns-in_err-script-clause-asked g c =
    let end = c.from_residual in
    let p = err_from_is_err_and end.result end.ensures.1 in
    rw (p.1, p.2)
    (λ words asks.
    script_for words (Run c.args.settings.now None) c.args.name.now
    (g.R.Source.seen c.args.source.now) (g.R.Source.seen c.keyed_script.new.source) _ asks
    (rw c.tries-tries.ensures.value at c.in_err-script.ensures.err)
    (rw c.tries-tries.ensures.value at c.in_err-script.ensures.asked))

pub returns-in_err-script-clause-asked_hosts : goal.returns-in_err-script-clause-asked_hosts
returns-in_err-script-clause-asked_hosts g c = λ words asks. inl refl

-- ---- its inputs have no rows

pub returns-in-Err-clause-err : goal.returns-in-Err-clause-err
returns-in-Err-clause-err g c =
    let it = c.in_ok-script.script in
    λ words asks.
    inputs_stop words (g.R.Source.seen c.args.source.now)
    (g.R.Source.seen c.keyed_script.new.source) (g.R.Source.seen c.keyed_inputs.new.source)
    (map g.H.Host.account c.args.hosts.now) (map g.H.Host.account c.args.hosts.now)
    (g.C.Cache.seen c.args.cache.now) (g.C.Cache.seen c.args.cache.now)
    c.args.settings.now c.args.name.now asks it.program.script
    (is_loaded (g.R.Source.seen c.args.source.now).files c.args.name.now it.program.script
    it.outlines it.texts c.in_ok-script.ensures.ok)
    c.in_ok-script.ensures.files c.in_ok-script.ensures.later c.in-Err.status
    (rw c.tries-tries.ensures.value at c.in-Err.ensures.err)

pub returns-in-Err-clause-asked : goal.returns-in-Err-clause-asked
returns-in-Err-clause-asked g c =
    let it = c.in_ok-script.script in
    λ words asks.
    inputs_asked words (g.R.Source.seen c.args.source.now)
    (g.R.Source.seen c.keyed_script.new.source) (g.R.Source.seen c.keyed_inputs.new.source)
    c.args.settings.now c.args.name.now asks it.program.script
    (is_loaded (g.R.Source.seen c.args.source.now).files c.args.name.now it.program.script
    it.outlines it.texts c.in_ok-script.ensures.ok)
    (rw c.tries-tries.ensures.value at c.in_ok-script.ensures.asked)
    c.in-Err.status
    (rw c.tries-tries.ensures.value at c.in-Err.ensures.asked_until)

pub returns-in-Err-clause-asked_hosts : goal.returns-in-Err-clause-asked_hosts
returns-in-Err-clause-asked_hosts g c = λ words asks. inl refl

-- ---- no memory is found for what was kept

pub returns-in_err-given-clause-err : goal.returns-in_err-given-clause-err
returns-in_err-given-clause-err g c =
    let end = c.from_residual-in_err-given in
    let p = err_from_is_err_and end.result end.ensures.1 in
    rw (p.1, p.2) (λ words asks. tt)

pub returns-in_err-given-clause-asked : goal.returns-in_err-given-clause-asked
returns-in_err-given-clause-asked g c =
    let end = c.from_residual-in_err-given in
    let p = err_from_is_err_and end.result end.ensures.1 in
    let it = c.in_ok-script.script in
    rw (p.1, p.2)
    (λ words asks.
    memory_asked words (g.R.Source.seen c.args.source.now)
    (g.R.Source.seen c.keyed_script.new.source) (g.R.Source.seen c.keyed_inputs.new.source)
    c.args.settings.now c.args.name.now asks it.program.script
    (is_loaded (g.R.Source.seen c.args.source.now).files c.args.name.now it.program.script
    it.outlines it.texts c.in_ok-script.ensures.ok)
    (rw c.tries-tries.ensures.value at c.in_ok-script.ensures.asked)
    (rw c.tries-tries.ensures.value at c.in-Ok.ensures.asked))

pub returns-in_err-given-clause-asked_hosts : goal.returns-in_err-given-clause-asked_hosts
returns-in_err-given-clause-asked_hosts g c = λ words asks. inl refl

-- ---- what was given is run

pub returns-clause-ok : goal.returns-clause-ok
returns-clause-ok g c =
    let told = (g.R.Source.seen c.args.source.now).files in
    let it = c.in_ok-script.script in
    let inputs = c.in-Ok.inputs in
    let asked = keyed_nodes it.outlines it.texts inputs.files it.program.script in
    IfOk-weaker c.run_given.result _ _
    (λ reused run words asks.
    prepared words (g.R.Source.seen c.args.source.now) (g.R.Source.seen c.keyed_inputs.new.source)
    (map g.H.Host.account c.args.hosts.now) (map g.H.Host.account c.run_given.new.hosts)
    (g.C.Cache.seen c.args.cache.now) (g.C.Cache.seen c.look_up.new.cache)
    c.args.settings.now c.args.name.now it.program.script asked asks
    (are_asked told (g.R.Source.seen c.keyed_script.new.source).files c.args.name.now
    it.program.script it.outlines it.texts c.as_slice-texts.result.now inputs.files
    c.in_ok-script.ensures.files c.as_slice-texts.ensures c.in_ok-script.ensures.ok
    c.in-Ok.ensures.loaded c.texts_short.ensures
    (rw c.as_program-held.ensures.is at c.names_short.ensures))
    inputs.rows
    (rw c.in_ok-script.ensures.files at c.in-Ok.ensures.ok)
    c.in_ok-given.given c.in_ok-given.ensures.given
    (map output_file reused.written.outputs.items) reused.written.screen.items reused.kept.items
    run)
    c.run_given.ensures.ran

pub returns-clause-err : goal.returns-clause-err
returns-clause-err g c =
    let told = (g.R.Source.seen c.args.source.now).files in
    let it = c.in_ok-script.script in
    let inputs = c.in-Ok.inputs in
    let asked = keyed_nodes it.outlines it.texts inputs.files it.program.script in
    IfErr-weaker c.run_given.result _ _
    (λ why stop words asks.
    stops words (g.R.Source.seen c.args.source.now) (g.R.Source.seen c.keyed_inputs.new.source)
    (map g.H.Host.account c.args.hosts.now) (map g.H.Host.account c.run_given.new.hosts)
    (g.C.Cache.seen c.args.cache.now) (g.C.Cache.seen c.look_up.new.cache)
    c.args.settings.now c.args.name.now it.program.script asked asks
    (are_asked told (g.R.Source.seen c.keyed_script.new.source).files c.args.name.now
    it.program.script it.outlines it.texts c.as_slice-texts.result.now inputs.files
    c.in_ok-script.ensures.files c.as_slice-texts.ensures c.in_ok-script.ensures.ok
    c.in-Ok.ensures.loaded c.texts_short.ensures
    (rw c.as_program-held.ensures.is at c.names_short.ensures))
    inputs.rows
    (rw c.in_ok-script.ensures.files at c.in-Ok.ensures.ok)
    c.in_ok-given.given c.in_ok-given.ensures.given why stop)
    c.run_given.ensures.stop

pub returns-clause-asked : goal.returns-clause-asked
returns-clause-asked g c =
    let it = c.in_ok-script.script in
    λ words asks.
    run_asked words (g.R.Source.seen c.args.source.now)
    (g.R.Source.seen c.keyed_script.new.source) (g.R.Source.seen c.keyed_inputs.new.source)
    c.args.settings.now c.args.name.now asks it.program.script
    (is_loaded (g.R.Source.seen c.args.source.now).files c.args.name.now it.program.script
    it.outlines it.texts c.in_ok-script.ensures.ok)
    (rw c.tries-tries.ensures.value at c.in_ok-script.ensures.asked)
    (rw c.tries-tries.ensures.value at c.in-Ok.ensures.asked)
    c.in_ok-given.given (lent c.args.settings.now (map g.H.Host.account c.args.hosts.now))
    (lent c.args.settings.now (map g.H.Host.account c.run_given.new.hosts))
    c.run_given.result c.run_given.ensures.stop

pub returns-clause-asked_hosts : goal.returns-clause-asked_hosts
returns-clause-asked_hosts g c =
    let it = c.in_ok-script.script in
    let inputs = c.in-Ok.inputs in
    let asked = keyed_nodes it.outlines it.texts inputs.files it.program.script in
    λ words asks.
    ⊎_elim (λ none. inl none)
    (λ phases. inr (
      may_come c.args.settings.now c.in_ok-given.given
          (lent c.args.settings.now (map g.H.Host.account c.args.hosts.now))
          (lent c.args.settings.now (map g.H.Host.account c.run_given.new.hosts))
          c.run_given.result c.run_given.ensures.stop,
      asks_here words (g.R.Source.seen c.args.source.now)
          (g.R.Source.seen c.keyed_inputs.new.source) (map g.H.Host.account c.args.hosts.now)
          (map g.H.Host.account c.run_given.new.hosts) (g.C.Cache.seen c.args.cache.now)
          (g.C.Cache.seen c.look_up.new.cache)
          c.args.settings.now c.args.name.now it.program.script asked asks
          (are_asked (g.R.Source.seen c.args.source.now).files
          (g.R.Source.seen c.keyed_script.new.source).files c.args.name.now it.program.script
          it.outlines it.texts c.as_slice-texts.result.now inputs.files
          c.in_ok-script.ensures.files c.as_slice-texts.ensures c.in_ok-script.ensures.ok
          c.in-Ok.ensures.loaded c.texts_short.ensures
          (rw c.as_program-held.ensures.is at c.names_short.ensures))
          inputs.rows
          (rw c.in_ok-script.ensures.files at c.in-Ok.ensures.ok)
          c.in_ok-given.given c.in_ok-given.ensures.given phases
          (others_as g.H.Host.account c.args.settings.now.workers
          c.args.hosts.now c.run_given.new.hosts c.run_given.ensures.hosts),
    ))
    c.run_given.ensures.asked
