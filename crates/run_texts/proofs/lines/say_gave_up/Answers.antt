use Rattle.run_texts.proofs.lines.say_gave_up.Goals as goal

pub returns : goal.returns
returns g c =
    rw (← c.phase_text.ensures, ← c.digits_of-stage.ensures, ← c.digits_of-task.ensures)
    c.say_all.ensures
