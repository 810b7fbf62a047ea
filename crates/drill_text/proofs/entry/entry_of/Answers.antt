use Rattle.std.proofs.Common.{◌∙◌, lit<, sym}
use Rattle.std.proofs.lemmas.Str.Pattern.{split_once_first}
use Rattle.drill_text.specs.Drills.{dot, letter_of}
use Rattle.drill_text.proofs.EntryLemmas.{letter_small, no_dot}
use Rattle.drill_text.proofs.entry.entry_of.Goals as goal

pub returns-in_err-task : goal.returns-in_err-task
returns-in_err-task c =
    let first = rw c.in_ok-stage.was at
    (split_once_first (letter_of c.args.phase) c.args.text.now c.split_once.result
    (rw c.letter_of.ensures at c.split_once.ensures.cases) (letter_small c.args.phase)) in
    let second = rw c.in_err-task.was at
    (split_once_first dot c.in_ok-stage.behind.now c.split_once-2.result
    c.split_once-2.ensures.cases (lit< tt)) in
    c.from_residual-in_err-task.ensures
    ∙ sym (no_dot c.args.phase c.args.text.now c.in_ok-stage.behind.now first.2 second)
