use Rattle.std.proofs.Common.{inl, refl, List, Option, map, string_bytes, subst, sym, ap, ◌∙◌}
use Rattle.std.specs.Option.{option_map}
use Rattle.command_words.specs.Held.{asked_in}
use Rattle.std.proofs.lemmas.Result.{IfErr-weaker, IfOk-weaker, err_from_is_err_and}
use Rattle.outside.specs.Saves.{output_file}
use Rattle.outside.specs.declared.file.File.{File}
use Rattle.run_course.specs.Written.{Writes}
use Rattle.outside.proofs.AskLemmas.{asks_none}
use Rattle.run_course.proofs.AskLemmas.{command_for, script_for}
use Rattle.run_course.proofs.CauseLemmas.{command_stop, script_cause, written}
use Rattle.run_course.proofs.HostLemmas.{call_asks}
use Rattle.run_course.proofs.course.prepare.Goals as goal

pub returns-in-Err-clause-err : goal.returns-in-Err-clause-err
returns-in-Err-clause-err g c =
    script_cause (map string_bytes c.args.words.now) (g.R.Source.seen c.args.source.now)
    (g.R.Source.seen c.script_of.new.source) (map g.H.Host.account c.args.hosts.now)
    (map g.H.Host.account c.args.hosts.now) c.in-Some.asked.command c.in-Some.asked.script.now _
    (sym c.in_ok-asked.ensures ∙ ap (option_map asked_in) c.in-Some.is)
    (rw c.tries_of.ensures.value at c.in-Err.ensures.err)

pub returns-clause-ok : goal.returns-clause-ok
returns-clause-ok g c =
    IfOk-weaker c.carried_out-written.result _ _ (λ it writes.
    written (map string_bytes c.args.words.now) (g.R.Source.seen c.args.source.now).files
    (map g.H.Host.account c.args.hosts.now) (map g.H.Host.account c.carried_out-written.new.hosts)
    c.in-Some.asked.command c.in-Some.asked.script.now c.in-Ok.program.script
    (map output_file it.outputs.items) it.screen.items
    (sym c.in_ok-asked.ensures ∙ ap (option_map asked_in) c.in-Some.is, c.in-Ok.ensures.ok)
    (subst (λ (told : Option (List File)).
    Writes c.in-Some.asked.command told (map g.H.Host.account c.args.hosts.now)
    (map g.H.Host.account c.carried_out-written.new.hosts) c.in-Ok.program.script
    (map output_file it.outputs.items) it.screen.items) c.in-Ok.ensures.files writes))
    c.carried_out-written.ensures.written

pub returns-clause-err : goal.returns-clause-err
returns-clause-err g c =
    IfErr-weaker c.carried_out-written.result _ _ (λ why stops.
    command_stop (map string_bytes c.args.words.now) (g.R.Source.seen c.args.source.now)
    (g.R.Source.seen c.script_of.new.source) (g.R.Source.seen c.carried_out-written.new.source)
    (map g.H.Host.account c.args.hosts.now) (map g.H.Host.account c.carried_out-written.new.hosts)
    c.in-Some.asked.command
    c.in-Some.asked.script.now c.in-Ok.program.script
    (sym c.in_ok-asked.ensures ∙ ap (option_map asked_in) c.in-Some.is, c.in-Ok.ensures.ok)
    c.in-Ok.ensures.files c.in-Ok.ensures.later why stops)
    c.carried_out-written.ensures.stop

pub returns-in_err-asked-clause-asked : goal.returns-in_err-asked-clause-asked
returns-in_err-asked-clause-asked g c =
    let p = err_from_is_err_and c.from_residual.result c.from_residual.ensures.1 in
    rw (p.1, p.2) (inl (asks_none 0 (g.R.Source.seen c.args.source.now)))

pub returns-in_default-clause-asked : goal.returns-in_default-clause-asked
returns-in_default-clause-asked g c =
    asks_none 0 (g.R.Source.seen c.args.source.now)

pub returns-in-Err-clause-asked : goal.returns-in-Err-clause-asked
returns-in-Err-clause-asked g c =
    script_for (map string_bytes c.args.words.now) c.in-Some.asked.command
    c.in-Some.asked.script.now (g.R.Source.seen c.args.source.now)
    (g.R.Source.seen c.script_of.new.source) _
    (sym c.in_ok-asked.ensures ∙ ap (option_map asked_in) c.in-Some.is)
    (rw c.tries_of.ensures.value at c.in-Err.ensures.err)
    (rw c.tries_of.ensures.value at c.in-Err.ensures.asked)

pub returns-clause-asked : goal.returns-clause-asked
returns-clause-asked g c =
    command_for (map string_bytes c.args.words.now) c.in-Some.asked.command
    c.in-Some.asked.script.now c.in-Ok.program.script (g.R.Source.seen c.args.source.now)
    (g.R.Source.seen c.script_of.new.source)
    (g.R.Source.seen c.carried_out-written.new.source)
    (sym c.in_ok-asked.ensures ∙ ap (option_map asked_in) c.in-Some.is) c.in-Ok.ensures.ok
    (rw c.tries_of.ensures.value at c.in-Ok.ensures.asked)
    c.carried_out-written.result c.carried_out-written.ensures.asked

pub returns-in_err-asked-clause-asked_hosts : goal.returns-in_err-asked-clause-asked_hosts
returns-in_err-asked-clause-asked_hosts g c = inl refl

pub returns-in_default-clause-asked_hosts : goal.returns-in_default-clause-asked_hosts
returns-in_default-clause-asked_hosts g c = inl refl

pub returns-in-Err-clause-asked_hosts : goal.returns-in-Err-clause-asked_hosts
returns-in-Err-clause-asked_hosts g c = inl refl

pub returns-clause-asked_hosts : goal.returns-clause-asked_hosts
returns-clause-asked_hosts g c =
    call_asks (map string_bytes c.args.words.now) (g.R.Source.seen c.args.source.now).files
    (g.R.Source.seen c.script_of.new.source).files c.in-Some.asked.command
    c.in-Some.asked.script.now
    c.in-Ok.program.script (map g.H.Host.account c.args.hosts.now)
    (map g.H.Host.account c.carried_out-written.new.hosts)
    (sym c.in_ok-asked.ensures ∙ ap (option_map asked_in) c.in-Some.is, c.in-Ok.ensures.ok)
    c.in-Ok.ensures.files c.carried_out-written.result c.carried_out-written.ensures.asked_hosts
